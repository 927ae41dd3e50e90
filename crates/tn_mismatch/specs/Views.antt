-- What the code's differences stand for.
use Rattle.std.specs.Prelude.{Option}
use Rattle.std.specs.Option.{option_map}
use Rattle.def_explain.specs.Mismatches as mismatches
use Rattle.tn_term.specs.Views.{tree_of}
use Rattle.tn_guard.specs.Views.{value_seen}
use Rattle.tn_mismatch.specs.declared.mismatch.HeadPart.{HeadPart}
use Rattle.tn_mismatch.specs.declared.mismatch.HeadPart.TheVariants as parts
use Rattle.tn_mismatch.specs.declared.mismatch.Mismatch.{Mismatch}

abbrev pub head_part_seen : {A : Type 0} → HeadPart A → mismatches.HeadPart
head_part_seen (parts.Term t) = mismatches.is_term (tree_of t.now)
head_part_seen (parts.Bound n v) = mismatches.is_bound n (value_seen v)
head_part_seen (parts.Tuple n) = mismatches.is_tuple_of n
head_part_seen (parts.List n) = mismatches.is_list_of n

abbrev pub mismatch_seen : {A : Type 0} → Mismatch A → mismatches.Mismatch
mismatch_seen m = mismatches.mismatch m.place.now (head_part_seen m.part) (value_seen m.value)

-- the difference, where there is one
abbrev pub mismatches_seen : {A : Type 0} → Option (Mismatch A) → Option mismatches.Mismatch
mismatches_seen m = option_map mismatch_seen m
