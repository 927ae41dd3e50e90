use Rattle.std.proofs.Common.{◌≡◌, map, take, pos}
use Rattle.def_term.specs.Tree.{int}
use Rattle.tn_term.specs.Views.{tree_of}
use Rattle.tn_translation.proofs.atoms.codes_term.Given as goal

abbrev pub invariant-loop-code : goal.invariant-loop-code
invariant-loop-code g l = map tree_of l.items.items ≡ map (λ c. int (pos c)) (take l.code-index l.codes)
