-- Functions in which initial processes start, written one after another.
use Rattle.std.proofs.Common.{◌≡◌, ◌<◌, ◌+◌, ℕ, suc, List, ◌∷◌, ◌++◌, length, get_or, drop, map, codes, ap, sym, ◌∙◌, append_assoc, arith}
use Rattle.std.proofs.lemmas.List.{drop-map, drop_more}
use Rattle.def_term.specs.Alive.{FIRST_PID}
use Rattle.def_term.specs.Names.{Name}
use Rattle.def_notice.specs.MovesTexts.{one_start_text, starts_after, starts_text}
use Rattle.tn_text.specs.Writes.{Grows}

-- what grew and grows once more
pub grows_more : (a b c : List ℕ) → Grows a b → Grows b c → Grows a c
grows_more a b c p q = record { added = p.added ++ q.added; whole = q.whole ∙ ap (λ t. t ++ q.added) p.whole ∙ append_assoc a p.added q.added }

-- one more start, and what is left of them
pub next_start : {E : Type 0} (name : E → Name) (old out between new : List ℕ) (i : ℕ) (es : List E) (e : E) → i < length es → e ≡ get_or es i e
    → new ≡ out ++ one_start_text between (FIRST_PID + i) (name e)
    → out ++ starts_after between (FIRST_PID + i) (drop i (map name es)) ≡ old ++ starts_text (map name es)
    → new ++ starts_after (codes ", ") (FIRST_PID + (i + 1)) (drop (i + 1) (map name es)) ≡ old ++ starts_text (map name es)
next_start name old out between new i es e below is put rest =
    let one = one_start_text between (FIRST_PID + i) (name e) in
    let left = drop (i + 1) (map name es) in
    let cut : drop i (map name es) ≡ name e ∷ left =
    drop-map name i es ∙ ap (map name) (drop_more es i e below ∙ ap (λ x. x ∷ drop (i + 1) es) (sym is)) ∙ ap (λ xs. name e ∷ xs) (sym (drop-map name (i + 1) es)) in
    let first : starts_after between (FIRST_PID + i) (drop i (map name es)) ≡ one ++ starts_after (codes ", ") (suc (FIRST_PID + i)) left = ap (starts_after between (FIRST_PID + i)) cut in
    let pid : FIRST_PID + (i + 1) ≡ suc (FIRST_PID + i) = omega arith in
    let after = starts_after (codes ", ") (suc (FIRST_PID + i)) left in
    ap (λ n. new ++ starts_after (codes ", ") n left) pid
    ∙ ap (λ t. t ++ after) put
    ∙ append_assoc out one after
    ∙ ap (λ t. out ++ t) (sym first)
    ∙ rest
