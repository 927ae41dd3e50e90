use Rattle.complete_terms.proofs.Listings.{listed_alike}
use Rattle.complete_terms.proofs.reader.all_tokens.Goals as goal

pub returns : goal.returns
returns g c = listed_alike c.args.bytes.now c.tokens.result c.tokens-2.result c.tokens.ensures c.tokens-2.ensures
