use Rattle.std.proofs.Common.{◌≡◌, ◌++◌, ℕ, List, drop}
use Rattle.def_fun_words.specs.Notes.{parts_of_each}
use Rattle.tn_fun.specs.Trees.{fun_exprs_seen}
use Rattle.tn_fun_words.specs.Views.{lent_exprs_seen}
use Rattle.tn_fun_words.proofs.parts.+parts.Given as goal

abbrev pub invariant-put_each-loop-item : goal.invariant-put_each-loop-item
invariant-put_each-loop-item g l = (text : List ℕ) → lent_exprs_seen text l.out.items ++ parts_of_each (fun_exprs_seen text (drop l.item-index l.item-items)) ≡ lent_exprs_seen text l.initial.out.items ++ parts_of_each (fun_exprs_seen text l.items.items)
