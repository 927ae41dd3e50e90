-- A head that is a list of patterns: whether it is the list of no elements.
use Rattle.std.proofs.Common.{◌≡◌, ◌==◌, suc, List, [], ◌∷◌, length, refl, arith}
use Rattle.def_spec.specs.Matching.{in_list}
use Rattle.def_explain.specs.Differences.{is_list_of_none}
use Rattle.def_explain.proofs.Mismatches.{same_lengths}
use Rattle.tn_spec.specs.Views.{patterns_seen}
use Rattle.tn_spec.specs.declared.pattern.Pattern.{Pattern}

pub without_patterns : {A : Type 0} (ps : List (Pattern A)) → (length ps == 0) ≡ is_list_of_none (in_list (patterns_seen ps))
without_patterns [] = refl
without_patterns (p ∷ ps) = same_lengths (suc (length ps)) 0 (λ e. omega (arith, e))
