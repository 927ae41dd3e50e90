-- A text spells one term at most.
use Rattle.std.proofs.Common.{◌≡◌, ℕ, List, [], ◌∷◌, ◌++◌, true, refl, sym, ◌∙◌, subst, append_assoc, append-nil}
use Rattle.def_term.specs.Tree.{Tree}
use Rattle.def_text.specs.Tokens.{Token}
use Rattle.def_text.specs.Grammar.{Derives}
use Rattle.def_text.specs.Limits.{DEPTH, Fits}
use Rattle.def_text.specs.Faults.{FaultKind, misplaced, too_deep, too_large, FaultAt}
use Rattle.def_text.specs.Spelling.{Spells, IsRefusedAt, tokens_of}
use Rattle.def_text.proofs.Unique.{same_tokens}
use Rattle.def_text.proofs.Faults.{only}

one_term : (ts : List Token) (t u : Tree) → Derives ts t → Fits DEPTH true t → Derives ts u → Fits DEPTH true u → t ≡ u
one_term ts t u d f e g = let a = only DEPTH ts t d f in let b = only DEPTH ts u e g in let both = sym a ∙ b in cc

pub one : (bytes : List ℕ) (t u : Tree) → Spells bytes t → Spells bytes u → t ≡ u
one bytes t u s r =
    let same = same_tokens 0 bytes s.tokens r.tokens s.are r.are in
    one_term (tokens_of s.tokens) t u s.derives s.fits (subst (λ xs. Derives (tokens_of xs) u) (sym same) r.derives) r.fits

fault_refuses : (front : List Token) (kind : FaultKind) (rest : List Token) (t : Tree) → FaultAt DEPTH front kind rest → Derives (front ++ rest) t → Fits DEPTH true t → ⊥
fault_refuses front misplaced [] t h d f = h t (subst (λ xs. Derives xs t) (append-nil front) d)
fault_refuses front too_deep [] t h d f = h
fault_refuses front too_large [] t h d f = h
fault_refuses front misplaced (x ∷ rest) t h d f = h (rest, t, subst (λ xs. Derives xs t) (sym (append_assoc front (x ∷ []) rest)) d)
fault_refuses front too_deep (x ∷ rest) t h d f = h.1 (rest, t, subst (λ xs. Derives xs t) (sym (append_assoc front (x ∷ []) rest)) d, record { nests = f.nests; sizes = refl })
fault_refuses front too_large (x ∷ rest) t h d f = h.1 (rest, t, subst (λ xs. Derives xs t) (sym (append_assoc front (x ∷ []) rest)) d, f)

pub refused : (bytes : List ℕ) (t : Tree) (kind : FaultKind) (at : ℕ) → Spells bytes t → IsRefusedAt bytes kind at → ⊥
refused bytes t kind at s r =
    let same = same_tokens 0 bytes s.tokens (r.front ++ r.rest) s.are r.are in
    let d = subst (λ xs. Derives (tokens_of xs) t) same s.derives in
    let first = r.first in
    fault_refuses first.0 kind (tokens_of r.rest) t first.3 (subst (λ xs. Derives xs t) first.1 d) s.fits
