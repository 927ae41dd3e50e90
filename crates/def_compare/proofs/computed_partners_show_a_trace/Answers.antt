use Rattle.def_compare.proofs.Pairs.{computed_pairs_show, shown_has_pairs}
use Rattle.def_compare.proofs.computed_partners_show_a_trace.Goals as goal

pub returns : goal.returns
returns c = record { sound = computed_pairs_show; complete = shown_has_pairs }
