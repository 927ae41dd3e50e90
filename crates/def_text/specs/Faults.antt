-- What a list of tokens begins, and where and how the text of one term is refused (own).
-- Depends on the grammar and the limits.
use Rattle.std.specs.Prelude.{◌≡◌, ℕ, List, [], ◌∷◌, ◌++◌, Bool, true, false}
use Rattle.def_term.specs.Tree.{Tree}
use Rattle.def_text.specs.Tokens.{Token}
use Rattle.def_text.specs.Grammar.{Derives}
use Rattle.def_text.specs.Limits.{Fits}

-- 2: no term begins so even without limits, or the text ends before its term does; 3: it nests too deep; 4: a number, atom, string, tuple or list is too large
pub data FaultKind : Type 0 where
  misplaced : FaultKind
  too_deep : FaultKind
  too_large : FaultKind

-- some further tokens complete it to a term within the limits
abbrev pub Begins : ℕ → Bool → List Token → Type 0
Begins limit sized front = (further : List Token) × (t : Tree) × Derives (front ++ further) t × Fits limit sized t

-- the same without limits
abbrev pub BeginsAtAll : List Token → Type 0
BeginsAtAll front = (further : List Token) × (t : Tree) × Derives (front ++ further) t

-- a refusal, with the tokens from the refused one on; there are none where the text ends before its term does
abbrev pub Fault : Type 0
Fault = FaultKind × List Token

-- which refusal it is after a front that begins a term within the limits: 2 where with the next token it begins none even without limits; else 3 where it begins none within the depth; else 4
abbrev pub FaultAt : ℕ → List Token → FaultKind → List Token → Type 0
FaultAt limit front misplaced [] = (t : Tree) → Derives front t → ⊥
FaultAt limit front too_deep [] = ⊥
FaultAt limit front too_large [] = ⊥
FaultAt limit front misplaced (x ∷ rest) = BeginsAtAll (front ++ x ∷ []) → ⊥
FaultAt limit front too_deep (x ∷ rest) = BeginsAtAll (front ++ x ∷ []) × (Begins limit false (front ++ x ∷ []) → ⊥)
FaultAt limit front too_large (x ∷ rest) = Begins limit false (front ++ x ∷ []) × (Begins limit true (front ++ x ∷ []) → ⊥)

-- the refused token is the last of the shortest front that begins no term within the limits
abbrev pub IsFirstFault : ℕ → List Token → Fault → Type 0
IsFirstFault limit ts r = (front : List Token) × (ts ≡ front ++ r.1) × Begins limit true front × FaultAt limit front r.0 r.1
