use Rattle.complete_terms.proofs.Terms.{script_alike}
use Rattle.complete_terms.proofs.reader.all_terms.Goals as goal

pub returns : goal.returns
returns g c = script_alike c.args.bytes.now c.read_terms-first.result c.read_terms-second.result c.read_terms-first.ensures c.read_terms-second.ensures
