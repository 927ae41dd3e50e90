-- What a step that went on says.
use Rattle.std.proofs.Common.{◌≡◌, ℕ, ◌+◌, ◌<◌, ◌≤◌, List, [], ◌∷◌, length, refl, ap, ◌∙◌, Result, Ok, Err, Bool, true, false, cond, nat_lt, nat_le}
use Rattle.std.proofs.lemmas.Bool.{ltb-true, leb-true, lt-ltb, le-leb}
use Rattle.def_term.specs.Tree.{Tree, of_elements, depth}
use Rattle.def_text.specs.Limits.{sizes_ok}
use Rattle.def_text.specs.Faults.{FaultKind, too_deep, too_large}
use Rattle.def_text.specs.Reading.{Bracket, brace, bracket, node, first, next, OpenFrame, frame, ReadState, inside, put, leaf_at, open_at, close_top, comma_at, has_room}

pub cond_then : (b : Bool) (r : Result ReadState FaultKind) (e : FaultKind) (s : ReadState) → cond b r (Err e) ≡ Ok s → (b ≡ true) × (r ≡ Ok s)
cond_then true r e s h = (refl, h)
cond_then false r e s h = absurd (cc)

pub same_ok : (x s : ReadState) → ◌≡◌ {A = Result ReadState FaultKind} (Ok x) (Ok s) → x ≡ s
same_ok x s h = cc

pub leaf_ok : (limit : ℕ) (sized : Bool) (t : Tree) (fs : List OpenFrame) (s : ReadState) → leaf_at limit sized t fs ≡ Ok s → (length fs + depth t ≤ limit) × (sizes_ok sized t ≡ true) × (put t fs ≡ s)
leaf_ok limit sized t fs s h =
    let one = cond_then (nat_le (length fs + depth t) limit) (cond (sizes_ok sized t) (Ok (put t fs)) (Err too_large)) too_deep s h in
    let two = cond_then (sizes_ok sized t) (Ok (put t fs)) too_large s one.1 in
    (leb-true (length fs + depth t) limit one.0, two.0, same_ok (put t fs) s two.1)

pub open_ok : (limit : ℕ) (b : Bracket) (fs : List OpenFrame) (s : ReadState) → open_at limit b fs ≡ Ok s → (length fs < limit) × (inside first (frame b [] ∷ fs) ≡ s)
open_ok limit b fs s h = let one = cond_then (nat_lt (length fs) limit) (Ok (inside first (frame b [] ∷ fs))) too_deep s h in (ltb-true (length fs) limit one.0, same_ok _ s one.1)

pub comma_ok : (sized : Bool) (b : Bracket) (f : List Tree) (fs : List OpenFrame) (s : ReadState) → comma_at sized (frame b f ∷ fs) ≡ Ok s → (has_room sized b (length f) ≡ true) × (inside next (frame b f ∷ fs) ≡ s)
comma_ok sized b f fs s h = let one = cond_then (has_room sized b (length f)) (Ok (inside next (frame b f ∷ fs))) too_large s h in (one.0, same_ok _ s one.1)

pub close_ok : (b : Bracket) (fs : List OpenFrame) (s : ReadState) → close_top b fs ≡ Ok s → (f : List Tree) × (gs : List OpenFrame) × (fs ≡ frame b f ∷ gs) × (put (node b (of_elements f)) gs ≡ s)
close_ok brace [] s h = absurd (cc)
close_ok bracket [] s h = absurd (cc)
close_ok brace (frame brace f ∷ fs) s h = (f, fs, refl, same_ok _ s h)
close_ok brace (frame bracket f ∷ fs) s h = absurd (cc)
close_ok bracket (frame brace f ∷ fs) s h = absurd (cc)
close_ok bracket (frame bracket f ∷ fs) s h = (f, fs, refl, same_ok _ s h)

pub close_is : (b : Bracket) (f : List Tree) (fs : List OpenFrame) → close_top b (frame b f ∷ fs) ≡ Ok (put (node b (of_elements f)) fs)
close_is brace f fs = refl
close_is bracket f fs = refl

pub opens : (limit : ℕ) (b : Bracket) (fs : List OpenFrame) → length fs < limit → open_at limit b fs ≡ Ok (inside first (frame b [] ∷ fs))
opens limit b fs h = ap (λ c. cond c (Ok (inside first (frame b [] ∷ fs))) (Err too_deep)) (lt-ltb (length fs) limit h)

pub stands : (limit : ℕ) (sized : Bool) (t : Tree) (fs : List OpenFrame) → length fs + depth t ≤ limit → sizes_ok sized t ≡ true → leaf_at limit sized t fs ≡ Ok (put t fs)
stands limit sized t fs h z =
    ap (λ c. cond c (cond (sizes_ok sized t) (Ok (put t fs)) (Err too_large)) (Err too_deep)) (le-leb (length fs + depth t) limit h) ∙ ap (λ c. cond c (Ok (put t fs)) (Err too_large)) z
