-- The steps of the loop that tells all partners.
use Rattle.std.proofs.Common.{◌≡◌, ℕ, suc, ◌+◌, ◌<◌, Bool, true, false, List, length, get_or, map, Option, ap, sym, ◌∙◌, arith}
use Rattle.std.proofs.lemmas.List.{length-map}
use Rattle.def_term.specs.Tree.{Tree}
use Rattle.def_node.specs.Process.{Process}
use Rattle.def_node.specs.Node.{with_slot, part}
use Rattle.tn_node.proofs.Slots.{told_from, told_same, told_changed, told_all}

pub skip_more : {X : Type 0} (h : X → Option Process) (n : ℕ) (r : Tree) (bs : List Bool) (xs : List X) (i : ℕ) (done : List (Option Process)) → i < length xs → i < length bs
    → get_or bs i false ≡ false → told_from n r bs i (map h xs) ≡ done → told_from n r bs (i + 1) (map h xs) ≡ done
skip_more h n r bs xs i done below within e so_far =
    let next : i + 1 ≡ suc i = omega arith in
    ap (λ k. told_from n r bs k (map h xs)) next ∙ told_same n r bs (map h xs) i false (omega (arith, length-map xs h)) within e ∙ so_far

pub tell_more : {X : Type 0} (h : X → Option Process) (n : ℕ) (r : Tree) (bs : List Bool) (xs ys : List X) (i : ℕ) (done : List (Option Process)) → i < length xs → i < length bs
    → get_or bs i false ≡ true → map h ys ≡ with_slot (map h xs) i (part n r) → told_from n r bs i (map h xs) ≡ done → told_from n r bs (i + 1) (map h ys) ≡ done
tell_more h n r bs xs ys i done below within e change so_far =
    let next : i + 1 ≡ suc i = omega arith in
    ap (told_from n r bs (i + 1)) change ∙ ap (λ k. told_from n r bs k (with_slot (map h xs) i (part n r))) next
    ∙ told_changed n r bs (map h xs) i false (omega (arith, length-map xs h)) within e ∙ so_far

pub told_done : {X : Type 0} (h : X → Option Process) (n : ℕ) (r : Tree) (bs : List Bool) (xs : List X) (i : ℕ) (done : List (Option Process)) → i ≡ length xs
    → told_from n r bs i (map h xs) ≡ done → map h xs ≡ done
told_done h n r bs xs i done e so_far = sym (told_all n r bs (map h xs) i (e ∙ sym (length-map xs h))) ∙ so_far
