use Rattle.std.proofs.Common.{◌≡◌, ◌∙◌, ap, ◌≤◌, ◌-◌, List, [], ◌∷◌, length, take, drop, Some, arith}
use Rattle.std.proofs.lemmas.List.{take_all}
use Rattle.def_term.specs.Tree.{Tree, list}
use Rattle.def_spec.specs.Functions.{tail_of}
use Rattle.tn_term.proofs.Trees.{seen}
use Rattle.tn_guard.specs.Views.{value_seen}
use Rattle.tn_guard.proofs.Views.{value_seen_list}
use Rattle.tn_guard.proofs.list_view.values_after_first.Goals as goal

after_first : {X : Type 0} (f : X → Tree) (xs : List X) → 1 ≤ length xs → Some (list (seen f (take (length xs - 1) (drop 1 xs)))) ≡ tail_of (list (seen f xs))
after_first f [] h = absurd (omega arith)
after_first f (x ∷ xs) h = ap (λ ys. Some (list (seen f ys))) (take_all _ xs (omega arith))

pub returns-in-len1-up : goal.returns-in-len1-up
returns-in-len1-up g c = ap Some (value_seen_list _) ∙ after_first value_seen c.args.items.now c.in-len1-up.len_at_least
