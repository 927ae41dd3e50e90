-- A name that is not among those after it, seen as the end of a list.
use Rattle.std.proofs.Common.{◌≡◌, ℕ, ◌+◌, ◌-◌, ◌<◌, ◌&&◌, Bool, not, List, length, get_or, take, drop, sym, ap, ◌∙◌, length-drop, arith}
use Rattle.std.proofs.lemmas.List.{take_all}
use Rattle.def_term.specs.Names.{Name}
use Rattle.def_term.specs.Text.{is_among}
use Rattle.def_script.specs.Shapes.{are_distinct}
use Rattle.tn_script.proofs.Each.{distinct_more}

pub distinct_rest : (ws : List Name) (i : ℕ) (w s : Name) (r : Bool) → i < length ws → w ≡ get_or ws i w → s ≡ w → r ≡ is_among (take (length ws - (i + 1)) (drop (i + 1) ws)) s
    → are_distinct (drop i ws) ≡ (not r && are_distinct (drop (i + 1) ws))
distinct_rest ws i w s r below is same found =
    let whole : take (length ws - (i + 1)) (drop (i + 1) ws) ≡ drop (i + 1) ws = take_all (length ws - (i + 1)) (drop (i + 1) ws) (omega (arith, length-drop (i + 1) ws)) in
    distinct_more ws i w below is
    ∙ ap (λ v. not (is_among (drop (i + 1) ws) v) && are_distinct (drop (i + 1) ws)) (sym same)
    ∙ ap (λ vs. not (is_among vs s) && are_distinct (drop (i + 1) ws)) (sym whole)
    ∙ ap (λ b. not b && are_distinct (drop (i + 1) ws)) (sym found)
