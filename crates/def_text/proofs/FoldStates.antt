-- What the tokens so far have led to: invariants of the fold that reads one term.
use Rattle.std.specs.Prelude.{◌≡◌, ℕ, ◌+◌, ◌<◌, List, [], ◌∷◌, ◌++◌, length, Bool, true}
use Rattle.def_term.specs.Tree.{Tree, of_elements, greatest_depth}
use Rattle.def_text.specs.Tokens.{Token, comma}
use Rattle.def_text.specs.Grammar.{Derives}
use Rattle.def_text.specs.Limits.{Fits, sizes_ok}
use Rattle.def_text.specs.Reading.{Bracket, node, open_token, first, next, behind, OpenFrame, frame, ReadState, inside, done, has_room}

-- the terms, each with a comma after it
abbrev pub CommaEach : List Tree → List Token → Type 0
CommaEach [] ts = ts ≡ []
CommaEach (t ∷ f) ts = (front : List Token) × (rest : List Token) × (ts ≡ front ++ comma ∷ rest) × Derives front t × CommaEach f rest

-- the tokens up to a place where a term may stand
abbrev pub Open : List OpenFrame → List Token → Type 0
Open [] ts = ts ≡ []
Open (frame b f ∷ fs) ts = (outer : List Token) × (inner : List Token) × (ts ≡ outer ++ open_token b ∷ inner) × Open fs outer × CommaEach f inner

abbrev pub LedFirst : List OpenFrame → List Token → Type 0
LedFirst [] ts = ⊥
LedFirst (frame b f ∷ fs) ts = (f ≡ []) × Open (frame b f ∷ fs) ts

abbrev pub LedAfter : List OpenFrame → List Token → Type 0
LedAfter [] ts = ⊥
LedAfter (frame b g ∷ fs) ts = (f : List Tree) × (t : Tree) × (front : List Token) × (last : List Token) × (g ≡ f ++ t ∷ []) × (ts ≡ front ++ last) × Open (frame b f ∷ fs) front × Derives last t

abbrev pub Led : ReadState → List Token → Type 0
Led (done t) ts = Derives ts t
Led (inside first fs) ts = LedFirst fs ts
Led (inside next fs) ts = Open fs ts
Led (inside behind fs) ts = LedAfter fs ts

-- the node fits, closed here
pub record NodeFits (limit : ℕ) (sized : Bool) (b : Bracket) (f : List Tree) (fs : List OpenFrame) : Type 0 where
  pub nests : greatest_depth (of_elements f) + length fs < limit
  pub sizes : sizes_ok sized (node b (of_elements f)) ≡ true

-- each open frame has room for one more
abbrev pub OpenFits : ℕ → Bool → List OpenFrame → Type 0
OpenFits limit sized [] = Unit {0}
OpenFits limit sized (frame b f ∷ fs) = NodeFits limit sized b f fs × (has_room sized b (length f) ≡ true) × OpenFits limit sized fs

abbrev pub AfterFits : ℕ → Bool → List OpenFrame → Type 0
AfterFits limit sized [] = Unit {0}
AfterFits limit sized (frame b f ∷ fs) = NodeFits limit sized b f fs × OpenFits limit sized fs

abbrev pub StateFits : ℕ → Bool → ReadState → Type 0
StateFits limit sized (done t) = Fits limit sized t
StateFits limit sized (inside first fs) = OpenFits limit sized fs
StateFits limit sized (inside next fs) = OpenFits limit sized fs
StateFits limit sized (inside behind fs) = AfterFits limit sized fs
