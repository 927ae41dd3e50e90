use Rattle.complete_terms.proofs.Terms.{read_alike}
use Rattle.complete_terms.proofs.reader.one_term.Goals as goal

pub returns : goal.returns
returns g c = read_alike c.args.bytes.now c.read_term-first.result c.read_term-second.result c.read_term-first.ensures c.read_term-second.ensures
