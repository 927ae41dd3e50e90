use Rattle.tn_expectation.proofs.FirstLines.{emptiness}
use Rattle.tn_expectation.proofs.listing.has_no_lines.Goals as goal

pub returns : goal.returns
returns c = emptiness c.args.text.now c.is_empty.result c.is_empty.ensures
