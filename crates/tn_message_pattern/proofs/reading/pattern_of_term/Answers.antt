use Rattle.tn_term.specs.Views.{tree_of}
use Rattle.tn_message_pattern.proofs.reading.pattern_of_term.Goals as goal

pub returns-in-Err : goal.returns-in-Err
returns-in-Err g c = c.no_pattern.ensures (tree_of c.args.term) c.in-Err.ensures
