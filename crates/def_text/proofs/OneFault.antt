-- A list of tokens has one first fault at most, as a term and as a script.
use Rattle.std.proofs.Common.{◌≡◌, ℕ, List, [], ◌∷◌, ◌++◌, refl, ap, sym, ◌∙◌, subst, append_assoc, append-nil, Bool, true, false, ◌⊎◌, inl, inr}
use Rattle.def_term.specs.Tree.{Tree}
use Rattle.def_text.specs.Tokens.{Token}
use Rattle.def_text.specs.Grammar.{Derives, DerivesScript}
use Rattle.def_text.specs.Faults.{FaultKind, misplaced, too_deep, too_large, Fault, Begins, BeginsAtAll, FaultAt, IsFirstFault}
use Rattle.def_text.specs.Scripts.{EachFits, BeginsScript, BeginsAnyScript, ScriptFaultAt, IsFirstScriptFault}

-- what begins something within the limits, within the depth, and at all
record Beginnings (Any : List Token → Type 0) (Within : Bool → List Token → Type 0) : Type 0 where
  shorter : (front more : List Token) → Within true (front ++ more) → Within true front
  looser : (front : List Token) → Within true front → Within false front
  any : (front : List Token) → Within false front → Any front

abbrev FaultOf : (List Token → Type 0) → (Bool → List Token → Type 0) → List Token → FaultKind → List Token → Type 0
FaultOf Any Within front misplaced [] = Unit {0}
FaultOf Any Within front too_deep [] = ⊥
FaultOf Any Within front too_large [] = ⊥
FaultOf Any Within front misplaced (x ∷ rest) = Any (front ++ x ∷ []) → ⊥
FaultOf Any Within front too_deep (x ∷ rest) = Any (front ++ x ∷ []) × (Within false (front ++ x ∷ []) → ⊥)
FaultOf Any Within front too_large (x ∷ rest) = Within false (front ++ x ∷ []) × (Within true (front ++ x ∷ []) → ⊥)

-- where one token goes on, nothing begins within the limits
denied : (Any : List Token → Type 0) (Within : Bool → List Token → Type 0) → Beginnings Any Within → (front : List Token) (k : FaultKind) (x : Token) (rest : List Token) → FaultOf Any Within front k (x ∷ rest) → Within true (front ++ x ∷ []) → ⊥
denied Any Within b front misplaced x rest h w = h (b.any (front ++ x ∷ []) (b.looser (front ++ x ∷ []) w))
denied Any Within b front too_deep x rest h w = h.1 (b.looser (front ++ x ∷ []) w)
denied Any Within b front too_large x rest h w = h.1 w

same_kind : (Any : List Token → Type 0) (Within : Bool → List Token → Type 0) → Beginnings Any Within → (front : List Token) (k j : FaultKind) (rest : List Token) → FaultOf Any Within front k rest → FaultOf Any Within front j rest → k ≡ j
same_kind Any Within b front misplaced misplaced rest h i = refl
same_kind Any Within b front too_deep too_deep rest h i = refl
same_kind Any Within b front too_large too_large rest h i = refl
same_kind Any Within b front misplaced too_deep [] h i = absurd i
same_kind Any Within b front misplaced too_large [] h i = absurd i
same_kind Any Within b front too_deep misplaced [] h i = absurd h
same_kind Any Within b front too_deep too_large [] h i = absurd h
same_kind Any Within b front too_large misplaced [] h i = absurd h
same_kind Any Within b front too_large too_deep [] h i = absurd h
same_kind Any Within b front misplaced too_deep (x ∷ rest) h i = absurd (h i.0)
same_kind Any Within b front misplaced too_large (x ∷ rest) h i = absurd (h (b.any (front ++ x ∷ []) i.0))
same_kind Any Within b front too_deep misplaced (x ∷ rest) h i = absurd (i h.0)
same_kind Any Within b front too_deep too_large (x ∷ rest) h i = absurd (h.1 i.0)
same_kind Any Within b front too_large misplaced (x ∷ rest) h i = absurd (i (b.any (front ++ x ∷ []) h.0))
same_kind Any Within b front too_large too_deep (x ∷ rest) h i = absurd (i.1 h.0)

-- of two ways to part a list, the front of one goes on beyond the other's
abbrev Beyond : List Token → List Token → List Token → Type 0
Beyond f a g = (x : Token) × (more : List Token) × (rest : List Token) × (g ≡ f ++ x ∷ more) × (a ≡ x ∷ rest)

abbrev Parts : List Token → List Token → List Token → List Token → Type 0
Parts f a g b = ((f ≡ g) × (a ≡ b)) ⊎ (Beyond f a g ⊎ Beyond g b f)

parts_more : (x y : Token) (f a g b : List Token) → x ≡ y → Parts f a g b → Parts (x ∷ f) a (y ∷ g) b
parts_more x y f a g b e (inl h) = let same = h.0 in inl (cc, h.1)
parts_more x y f a g b e (inr (inl h)) = inr (inl (h.0, h.1, h.2, ap (λ z. z ∷ g) (sym e) ∙ ap (λ zs. x ∷ zs) h.3, h.4))
parts_more x y f a g b e (inr (inr h)) = inr (inr (h.0, h.1, h.2, ap (λ z. z ∷ f) e ∙ ap (λ zs. y ∷ zs) h.3, h.4))

parts : (f a g b : List Token) → f ++ a ≡ g ++ b → Parts f a g b
parts [] a [] b e = inl (refl, e)
parts [] a (y ∷ g) b e = inr (inl (y, g, g ++ b, refl, e))
parts (x ∷ f) a [] b e = inr (inr (x, f, f ++ a, refl, sym e))
parts (x ∷ f) a (y ∷ g) b e = let first : x ≡ y = cc in let rest : f ++ a ≡ g ++ b = cc in parts_more x y f a g b first (parts f a g b rest)

abbrev First : (List Token → Type 0) → (Bool → List Token → Type 0) → List Token → FaultKind → List Token → Type 0
First Any Within xs k rest = (front : List Token) × (xs ≡ front ++ rest) × Within true front × FaultOf Any Within front k rest

beyond : (Any : List Token → Type 0) (Within : Bool → List Token → Type 0) → Beginnings Any Within → (f a g : List Token) (k : FaultKind) → FaultOf Any Within f k a → Within true g → Beyond f a g → ⊥
beyond Any Within b f a g k h w (x, more, rest, g_is, a_is) =
    denied Any Within b f k x rest (subst (FaultOf Any Within f k) a_is h) (b.shorter (f ++ x ∷ []) more (subst (Within true) (g_is ∙ sym (append_assoc f (x ∷ []) more)) w))

one_first : (Any : List Token → Type 0) (Within : Bool → List Token → Type 0) → Beginnings Any Within → (xs : List Token) (k j : FaultKind) (a c : List Token) → First Any Within xs k a → First Any Within xs j c → (k ≡ j) × (a ≡ c)
one_first Any Within b xs k j a c h i =
    elim (parts h.0 a i.0 c (sym h.1 ∙ i.1)) [
      | inl same ↦ (same_kind Any Within b h.0 k j a h.3 (subst (λ f. FaultOf Any Within f j a) (sym same.0) (subst (FaultOf Any Within i.0 j) (sym same.1) i.3)), same.1)
      | inr (inl on) ↦ absurd (beyond Any Within b h.0 a i.0 k h.3 i.2 on)
      | inr (inr on) ↦ absurd (beyond Any Within b i.0 c h.0 j i.3 h.2 on)
    ]

-- of one term
term_beginnings : (limit : ℕ) → Beginnings BeginsAtAll (Begins limit)
term_beginnings limit = record {
  shorter = λ front more h. (more ++ h.0, h.1, subst (λ xs. Derives xs h.1) (append_assoc front more h.0) h.2, h.3);
  looser = λ front h. (h.0, h.1, h.2, record { nests = h.3.nests; sizes = refl });
  any = λ front h. (h.0, h.1, h.2);
}

term_fault : (limit : ℕ) (front : List Token) (k : FaultKind) (rest : List Token) → FaultAt limit front k rest → FaultOf BeginsAtAll (Begins limit) front k rest
term_fault limit front misplaced [] h = tt
term_fault limit front too_deep [] h = h
term_fault limit front too_large [] h = h
term_fault limit front misplaced (x ∷ rest) h = h
term_fault limit front too_deep (x ∷ rest) h = h
term_fault limit front too_large (x ∷ rest) h = h

pub one_fault : (limit : ℕ) (xs : List Token) (r q : Fault) → IsFirstFault limit xs r → IsFirstFault limit xs q → (r.0 ≡ q.0) × (r.1 ≡ q.1)
one_fault limit xs r q h i = one_first BeginsAtAll (Begins limit) (term_beginnings limit) xs r.0 q.0 r.1 q.1 (h.0, h.1, h.2, term_fault limit h.0 r.0 r.1 h.3) (i.0, i.1, i.2, term_fault limit i.0 q.0 q.1 i.3)

-- of a script
each_looser : (limit : ℕ) (ts : List Tree) → EachFits limit true ts → EachFits limit false ts
each_looser limit [] h = tt
each_looser limit (t ∷ ts) h = (record { nests = h.0.nests; sizes = refl }, each_looser limit ts h.1)

script_beginnings : (limit : ℕ) → Beginnings BeginsAnyScript (BeginsScript limit)
script_beginnings limit = record {
  shorter = λ front more h. (more ++ h.0, h.1, subst (λ xs. DerivesScript xs h.1) (append_assoc front more h.0) h.2, h.3);
  looser = λ front h. (h.0, h.1, h.2, each_looser limit h.1 h.3);
  any = λ front h. (h.0, h.1, h.2);
}

script_fault : (limit : ℕ) (front : List Token) (k : FaultKind) (rest : List Token) → ScriptFaultAt limit front k rest → FaultOf BeginsAnyScript (BeginsScript limit) front k rest
script_fault limit front misplaced [] h = tt
script_fault limit front too_deep [] h = h
script_fault limit front too_large [] h = h
script_fault limit front misplaced (x ∷ rest) h = h
script_fault limit front too_deep (x ∷ rest) h = h
script_fault limit front too_large (x ∷ rest) h = h

pub one_script_fault : (limit : ℕ) (xs : List Token) (r q : Fault) → IsFirstScriptFault limit xs r → IsFirstScriptFault limit xs q → (r.0 ≡ q.0) × (r.1 ≡ q.1)
one_script_fault limit xs r q h i =
    one_first BeginsAnyScript (BeginsScript limit) (script_beginnings limit) xs r.0 q.0 r.1 q.1 (h.0, h.1, h.2, script_fault limit h.0 r.0 r.1 h.3) (i.0, i.1, i.2, script_fault limit i.0 q.0 q.1 i.3)

-- a script within the limits has no fault
whole_denied : (limit : ℕ) (front : List Token) (k : FaultKind) (ts : List Tree) → ScriptFaultAt limit front k [] → DerivesScript (front ++ []) ts → ⊥
whole_denied limit front misplaced ts h d = h ts (subst (λ xs. DerivesScript xs ts) (append-nil front) d)
whole_denied limit front too_deep ts h d = h
whole_denied limit front too_large ts h d = h

pub script_denied : (limit : ℕ) (front : List Token) (k : FaultKind) (rest : List Token) (ts : List Tree) → ScriptFaultAt limit front k rest → DerivesScript (front ++ rest) ts → EachFits limit true ts → ⊥
script_denied limit front k [] ts h d f = whole_denied limit front k ts h d
script_denied limit front k (x ∷ rest) ts h d f =
    denied BeginsAnyScript (BeginsScript limit) (script_beginnings limit) front k x rest (script_fault limit front k (x ∷ rest) h) (rest, ts, subst (λ xs. DerivesScript xs ts) (sym (append_assoc front (x ∷ []) rest)) d, f)
