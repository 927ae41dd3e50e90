-- What derives a term is read.
use Rattle.std.proofs.Common.{◌≡◌, ℕ, ◌+◌, ◌<◌, ◌≤◌, List, [], ◌∷◌, ◌++◌, length, refl, ap, sym, ◌∙◌, subst, append_assoc, append-nil, arith, Ok, Err, cond, nat_le, Bool, true, false, inl, inr, length-append}
use Rattle.std.proofs.lemmas.Bool.{and_parts, and_from, lt-ltb, leb-true, le-leb}
use Rattle.def_term.specs.Tree.{Tree, int, atom, pid, tuple, list, Trees, none, more, count, depth, greatest_depth, elements, of_elements}
use Rattle.def_text.specs.Tokens as text
use Rattle.def_text.specs.Tokens.{Token, comma}
use Rattle.def_text.specs.Grammar.{Derives, DerivesAll, DerivesRest}
use Rattle.def_text.specs.Limits.{sizes_fit, all_sizes_fit, sizes_ok}
use Rattle.def_text.specs.Faults.{too_large}
use Rattle.def_text.specs.Reading.{Bracket, brace, bracket, node, open_token, close_token, most, ReadPosition, first, next, behind, OpenFrame, frame, inside, put, sort, leaf, step_by_sort, step, leaf_at, has_room, after_step, run}
use Rattle.def_text.proofs.Steps.{opens, stands}

-- a place where a term may stand
abbrev pub MayStand : ReadPosition → Type 0
MayStand first = Unit {0}
MayStand next = Unit {0}
MayStand behind = ⊥

pub count_of : (f : List Tree) → count (of_elements f) ≡ length f
count_of [] = refl
count_of (t ∷ f) = let e = count_of f in omega (arith, e)

pub all_push : (f : List Tree) (t : Tree) → all_sizes_fit (of_elements f) ≡ true → sizes_fit t ≡ true → all_sizes_fit (of_elements (f ++ t ∷ [])) ≡ true
all_push [] t h k = and_from (sizes_fit t) true k refl
all_push (s ∷ f) t h k = let parts = and_parts (sizes_fit s) (all_sizes_fit (of_elements f)) h in and_from (sizes_fit s) (all_sizes_fit (of_elements (f ++ t ∷ []))) parts.0 (all_push f t parts.1 k)

pub node_parts : (b : Bracket) (us : Trees) → sizes_fit (node b us) ≡ true → (count us ≤ most b) × (all_sizes_fit us ≡ true)
node_parts brace us h = let p = and_parts (nat_le (count us) 255) (all_sizes_fit us) h in (leb-true (count us) 255 p.0, p.1)
node_parts bracket us h = let p = and_parts (nat_le (count us) 4096) (all_sizes_fit us) h in (leb-true (count us) 4096 p.0, p.1)

pub node_from : (b : Bracket) (us : Trees) → count us ≤ most b → all_sizes_fit us ≡ true → sizes_fit (node b us) ≡ true
node_from brace us h a = and_from (nat_le (count us) 255) (all_sizes_fit us) (le-leb (count us) 255 h) a
node_from bracket us h a = and_from (nat_le (count us) 4096) (all_sizes_fit us) (le-leb (count us) 4096 h) a

-- of a node that fits, whose elements are these and more
room_before : (sized : Bool) (b : Bracket) (f : List Tree) (us : Trees) (t : Tree) → sizes_ok sized (node b (of_elements (f ++ elements (more t us)))) ≡ true → has_room sized b (length f) ≡ true
room_before false b f us t h = refl
room_before true b f us t h =
    let p = node_parts b (of_elements (f ++ t ∷ elements us)) h in
    let few = p.0 in
    lt-ltb (length f) (most b) (omega (arith, few, count_of (f ++ t ∷ elements us), length-append f (t ∷ elements us)))

all_at : (f : List Tree) (t : Tree) (g : List Tree) → all_sizes_fit (of_elements (f ++ t ∷ g)) ≡ true → sizes_fit t ≡ true
all_at [] t g h = (and_parts (sizes_fit t) (all_sizes_fit (of_elements g)) h).0
all_at (s ∷ f) t g h = all_at f t g (and_parts (sizes_fit s) (all_sizes_fit (of_elements (f ++ t ∷ g))) h).1

element_fits : (sized : Bool) (b : Bracket) (f : List Tree) (us : Trees) (t : Tree) → sizes_ok sized (node b (of_elements (f ++ elements (more t us)))) ≡ true → sizes_ok sized t ≡ true
element_fits false b f us t h = refl
element_fits true b f us t h = all_at f t (elements us) (node_parts b (of_elements (f ++ t ∷ elements us)) h).1

pub elements-of : (us : Trees) → of_elements (elements us) ≡ us
elements-of none = refl
elements-of (more u us) = ap (more u) (elements-of us)

-- the token is this leaf
abbrev IsLeaf : Token → Tree → Type 0
IsLeaf x t = sort x ≡ leaf t

leaf_step_first : (limit : ℕ) (sized : Bool) (fs : List OpenFrame) (t : Tree) (x : Token) → IsLeaf x t → step limit sized (inside first fs) x ≡ leaf_at limit sized t fs
leaf_step_first limit sized fs t x is = ap (step_by_sort limit sized (inside first fs)) is

leaf_step_next : (limit : ℕ) (sized : Bool) (fs : List OpenFrame) (t : Tree) (x : Token) → IsLeaf x t → step limit sized (inside next fs) x ≡ leaf_at limit sized t fs
leaf_step_next limit sized fs t x is = ap (step_by_sort limit sized (inside next fs)) is

reads_leaf : (limit : ℕ) (sized : Bool) (p : ReadPosition) (fs : List OpenFrame) (t : Tree) (x : Token) (rest : List Token) → MayStand p → length fs + depth t ≤ limit → sizes_ok sized t ≡ true
    → IsLeaf x t → run limit sized (inside p fs) (x ∷ rest) ≡ run limit sized (put t fs) rest
reads_leaf limit sized first fs t x rest at fits z is = ap (λ r. after_step r (λ s. run limit sized s rest) (x ∷ rest)) (leaf_step_first limit sized fs t x is ∙ stands limit sized t fs fits z)
reads_leaf limit sized next fs t x rest at fits z is = ap (λ r. after_step r (λ s. run limit sized s rest) (x ∷ rest)) (leaf_step_next limit sized fs t x is ∙ stands limit sized t fs fits z)
reads_leaf limit sized behind fs t x rest at fits z is = absurd at

reads_opening : (limit : ℕ) (sized : Bool) (p : ReadPosition) (b : Bracket) (fs : List OpenFrame) (rest : List Token) → MayStand p → length fs < limit → run limit sized (inside p fs) (open_token b ∷ rest) ≡ run limit sized (inside first (frame b [] ∷ fs)) rest
reads_opening limit sized first brace fs rest h below = ap (λ r. after_step r (λ s. run limit sized s rest) (text.open_brace ∷ rest)) (opens limit brace fs below)
reads_opening limit sized first bracket fs rest h below = ap (λ r. after_step r (λ s. run limit sized s rest) (text.open_bracket ∷ rest)) (opens limit bracket fs below)
reads_opening limit sized next brace fs rest h below = ap (λ r. after_step r (λ s. run limit sized s rest) (text.open_brace ∷ rest)) (opens limit brace fs below)
reads_opening limit sized next bracket fs rest h below = ap (λ r. after_step r (λ s. run limit sized s rest) (text.open_bracket ∷ rest)) (opens limit bracket fs below)
reads_opening limit sized behind b fs rest h below = absurd h

pub closes_first : (limit : ℕ) (sized : Bool) (b : Bracket) (f : List Tree) (fs : List OpenFrame) (rest : List Token) → run limit sized (inside first (frame b f ∷ fs)) (close_token b ∷ rest) ≡ run limit sized (put (node b (of_elements f)) fs) rest
closes_first limit sized brace f fs rest = refl
closes_first limit sized bracket f fs rest = refl

pub closes_after : (limit : ℕ) (sized : Bool) (b : Bracket) (f : List Tree) (fs : List OpenFrame) (rest : List Token) → run limit sized (inside behind (frame b f ∷ fs)) (close_token b ∷ rest) ≡ run limit sized (put (node b (of_elements f)) fs) rest
closes_after limit sized brace f fs rest = refl
closes_after limit sized bracket f fs rest = refl

passes_comma : (limit : ℕ) (sized : Bool) (b : Bracket) (f : List Tree) (fs : List OpenFrame) (rest : List Token) → has_room sized b (length f) ≡ true → run limit sized (inside behind (frame b f ∷ fs)) (comma ∷ rest) ≡ run limit sized (inside next (frame b f ∷ fs)) rest
passes_comma limit sized b f fs rest h = ap (λ r. after_step r (λ s. run limit sized s rest) (comma ∷ rest)) (ap (λ c. cond c (Ok (inside next (frame b f ∷ fs))) (Err too_large)) h)

mutual
  pub reads : (limit : ℕ) (sized : Bool) (p : ReadPosition) (fs : List OpenFrame) (t : Tree) (u rest : List Token) → MayStand p → Derives u t → depth t + length fs ≤ limit → sizes_ok sized t ≡ true → run limit sized (inside p fs) (u ++ rest) ≡ run limit sized (put t fs) rest
  reads limit sized p fs (int n) u rest at d fits z = ap (λ ts. run limit sized (inside p fs) (ts ++ rest)) d ∙ reads_leaf limit sized p fs (int n) (text.integer n) rest at (omega arith) z refl
  reads limit sized p fs (atom s) u rest at d fits z = ap (λ ts. run limit sized (inside p fs) (ts ++ rest)) d ∙ reads_leaf limit sized p fs (atom s) (text.atom s) rest at (omega arith) z refl
  reads limit sized p fs (pid n) u rest at d fits z = ap (λ ts. run limit sized (inside p fs) (ts ++ rest)) d ∙ reads_leaf limit sized p fs (pid n) (text.pid n) rest at (omega arith) z refl
  reads limit sized p fs (tuple us) u rest at d fits z =
      ap (λ ts. run limit sized (inside p fs) (ts ++ rest)) d.1
      ∙ reads_opening limit sized p brace fs (d.0 ++ rest) at (omega arith)
      ∙ reads_all limit sized brace fs us d.0 rest d.2 (omega arith) (subst (λ x. sizes_ok sized (tuple x) ≡ true) (sym (elements-of us)) z)
      ∙ ap (λ ts. run limit sized (put (tuple ts) fs) rest) (elements-of us)
  reads limit sized p fs (list us) u rest at (inl d) fits z =
      ap (λ ts. run limit sized (inside p fs) (ts ++ rest)) d.1
      ∙ reads_opening limit sized p bracket fs (d.0 ++ rest) at (omega arith)
      ∙ reads_all limit sized bracket fs us d.0 rest d.2 (omega arith) (subst (λ x. sizes_ok sized (list x) ≡ true) (sym (elements-of us)) z)
      ∙ ap (λ ts. run limit sized (put (list ts) fs) rest) (elements-of us)
  reads limit sized p fs (list us) u rest at (inr d) fits z =
      ap (λ ts. run limit sized (inside p fs) (ts ++ rest)) d.1 ∙ reads_leaf limit sized p fs (list us) (text.characters d.0) rest at (omega arith) z (ap (λ x. leaf (list x)) (sym d.2))

  reads_all : (limit : ℕ) (sized : Bool) (b : Bracket) (fs : List OpenFrame) (us : Trees) (u rest : List Token) → DerivesAll (close_token b) u us → greatest_depth us + length fs + 1 ≤ limit → sizes_ok sized (node b (of_elements (elements us))) ≡ true
      → run limit sized (inside first (frame b [] ∷ fs)) (u ++ rest) ≡ run limit sized (put (node b (of_elements (elements us))) fs) rest
  reads_all limit sized b fs none u rest d fits z = ap (λ ts. run limit sized (inside first (frame b [] ∷ fs)) (ts ++ rest)) d ∙ closes_first limit sized b [] fs rest
  reads_all limit sized b fs (more t us) u rest d fits z =
      ap (λ ts. run limit sized (inside first (frame b [] ∷ fs)) (ts ++ rest)) d.2
      ∙ ap (run limit sized (inside first (frame b [] ∷ fs))) (append_assoc d.0 d.1 rest)
      ∙ reads limit sized first (frame b [] ∷ fs) t d.0 (d.1 ++ rest) tt d.3 (omega arith) (element_fits sized b [] us t z)
      ∙ reads_rest limit sized b fs (t ∷ []) us d.1 rest d.4 (omega arith) z

  reads_rest : (limit : ℕ) (sized : Bool) (b : Bracket) (fs : List OpenFrame) (f : List Tree) (us : Trees) (u rest : List Token) → DerivesRest (close_token b) u us → greatest_depth us + length fs + 1 ≤ limit → sizes_ok sized (node b (of_elements (f ++ elements us))) ≡ true
      → run limit sized (inside behind (frame b f ∷ fs)) (u ++ rest) ≡ run limit sized (put (node b (of_elements (f ++ elements us))) fs) rest
  reads_rest limit sized b fs f none u rest d fits z =
      ap (λ ts. run limit sized (inside behind (frame b f ∷ fs)) (ts ++ rest)) d ∙ closes_after limit sized b f fs rest ∙ ap (λ g. run limit sized (put (node b (of_elements g)) fs) rest) (sym (append-nil f))
  reads_rest limit sized b fs f (more t us) u rest d fits z =
      ap (λ ts. run limit sized (inside behind (frame b f ∷ fs)) (ts ++ rest)) d.2
      ∙ passes_comma limit sized b f fs ((d.0 ++ d.1) ++ rest) (room_before sized b f us t z)
      ∙ ap (run limit sized (inside next (frame b f ∷ fs))) (append_assoc d.0 d.1 rest)
      ∙ reads limit sized next (frame b f ∷ fs) t d.0 (d.1 ++ rest) tt d.3 (omega arith) (element_fits sized b f us t z)
      ∙ reads_rest limit sized b fs (f ++ t ∷ []) us d.1 rest d.4 (omega arith) (subst (λ g. sizes_ok sized (node b (of_elements g)) ≡ true) (sym (append_assoc f (t ∷ []) (elements us))) z)
      ∙ ap (λ g. run limit sized (put (node b (of_elements g)) fs) rest) (append_assoc f (t ∷ []) (elements us))
