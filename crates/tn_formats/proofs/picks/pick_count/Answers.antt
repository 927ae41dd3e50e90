use Rattle.std.proofs.Common.{rules}
use Rattle.tn_formats.proofs.PickLemmas.{one_more_than_spaces}
use Rattle.tn_formats.proofs.picks.pick_count.Goals as goal

pub returns-else-is_empty : goal.returns-else-is_empty
returns-else-is_empty c = one_more_than_spaces c.args.line.now c.space_count.result (search rules) c.space_count.ensures
