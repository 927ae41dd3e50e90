-- Names of sessions, written one after another.
use Rattle.std.proofs.Common.{◌≡◌, ◌∙◌, ℕ, zero, suc, ◌+◌, ◌≤◌, List, [], ◌∷◌, ◌++◌, drop, length, Option, Some, None, codes, sym, ap, ap₂, add-one, append-nil, append_assoc}
use Rattle.std.specs.Prelude.{slice_get}
use Rattle.std.proofs.lemmas.List.{drop_all}
use Rattle.def_term.specs.Names.{Name}
use Rattle.def_term.specs.Text.{atom_text}
use Rattle.tn_command.specs.Notices.{names_after}

left-suc : (ss : List (Name × Name)) (n : ℕ) (s : Name × Name) → slice_get ss n ≡ Some s → drop n ss ≡ s ∷ drop (suc n) ss
left-suc [] n s h = absurd (cc h)
left-suc (c ∷ ss) zero s h = ap (λ (o : Option (Name × Name)). first o ++ ss) h
  where
    first : Option (Name × Name) → List (Name × Name)
    first (Some x) = x ∷ []
    first None = []
left-suc (c ∷ ss) (suc n) s h = left-suc ss n s h

-- one more name, and what is left of them
pub next_name : (ss : List (Name × Name)) (n : ℕ) (s : Name × Name) (out between put new between' all : List ℕ) → slice_get ss n ≡ Some s
    → put ≡ out ++ between → new ≡ put ++ atom_text s.0 → between' ≡ codes ", " → out ++ names_after between (drop n ss) ≡ all → new ++ names_after between' (drop (n + 1) ss) ≡ all
next_name ss n s out between put new between' all there first second other so_far =
    let name = atom_text s.0 in
    let later = names_after (codes ", ") (drop (suc n) ss) in
    let rest : names_after between (drop n ss) ≡ between ++ name ++ later = ap (names_after between) (left-suc ss n s there) in
    ap₂ (λ b k. new ++ names_after b (drop k ss)) other (add-one n)
    ∙ ap (λ x. x ++ later) (second ∙ ap (λ x. x ++ name) first)
    ∙ append_assoc (out ++ between) name later
    ∙ append_assoc out between (name ++ later)
    ∙ ap (λ x. out ++ x) (sym (append_assoc between name later))
    ∙ ap (λ x. out ++ x) (sym rest)
    ∙ so_far

-- no more names
pub last_name : (ss : List (Name × Name)) (n : ℕ) (out between all : List ℕ) → length ss ≤ n → out ++ names_after between (drop n ss) ≡ all → out ≡ all
last_name ss n out between all past so_far = sym (append-nil out) ∙ sym (ap (λ left. out ++ names_after between left) (drop_all n ss past)) ∙ so_far
