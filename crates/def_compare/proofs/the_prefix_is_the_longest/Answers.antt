use Rattle.def_compare.proofs.Prefixes.{prefix_is_longest}
use Rattle.def_compare.proofs.Matches.{no_run_has_more}
use Rattle.def_compare.proofs.the_prefix_is_the_longest.Goals as goal

pub returns : goal.returns
returns c = record { longest = prefix_is_longest; all_runs = no_run_has_more }
