-- What is read derives the term, and a refusal is the first fault.
use Rattle.std.proofs.Common.{◌≡◌, ℕ, suc, ◌+◌, ◌≤◌, max, List, [], ◌∷◌, ◌++◌, length, refl, ap, sym, ◌∙◌, subst, append_assoc, append-nil, arith, Result, Ok, Err, cond, nat_lt, nat_le, Bool, true, false}
use Rattle.std.proofs.lemmas.Bool.{ltb-false, leb-false, leb-true}
use Rattle.def_term.specs.Tree.{Tree, depth}
use Rattle.def_text.specs.Tokens.{Token}
use Rattle.def_text.specs.Grammar.{Derives}
use Rattle.def_text.specs.Limits.{Fits}
use Rattle.def_text.specs.Faults.{FaultKind, misplaced, too_deep, too_large, Begins, Fault, FaultAt, IsFirstFault}
use Rattle.def_text.specs.Reading.{Bracket, brace, bracket, Sort, leaf, opens, closes, separates, sort, ReadPosition, first, next, behind, OpenFrame, frame, ReadState, inside, done, put, leaf_at, open_at, close_top, step_by_sort, step, after_step, read_start, run, end_reading, read}
use Rattle.def_text.proofs.Steps.{leaf_ok, open_ok, comma_ok, stands, opens as does_open}
use Rattle.def_text.proofs.Complete.{reads}
use Rattle.def_text.proofs.Runs.{went_on, run_led, run_append, run_stops, run_fits, can_end}

finished : (r : Result ReadState Fault) (t : Tree) → end_reading r ≡ Ok t → r ≡ Ok (done t)
finished (Err q) t h = absurd (cc)
finished (Ok (done u)) t h = cc
finished (Ok (inside p fs)) t h = absurd (cc)

pub found : (limit : ℕ) (ts : List Token) (t : Tree) → read limit true ts ≡ Ok t → Derives ts t × Fits limit true t
found limit ts t h =
    let e = finished (run limit true read_start ts) t h in
    (run_led limit true read_start [] ts (done t) refl e, run_fits limit true read_start ts (done t) tt e)

pub whole_read : (limit : ℕ) (sized : Bool) (ts : List Token) (t : Tree) → Derives ts t → Fits limit sized t → run limit sized read_start ts ≡ Ok (done t)
whole_read limit sized ts t d within = let n = within.nests in ap (run limit sized read_start) (sym (append-nil ts)) ∙ reads limit sized next [] t ts [] tt d (omega (arith, n)) within.sizes

pub only : (limit : ℕ) (ts : List Token) (t : Tree) → Derives ts t → Fits limit true t → read limit true ts ≡ Ok t
only limit ts t d within = ap end_reading (whole_read limit true ts t d within)

begins : (limit : ℕ) (sized : Bool) (front : List Token) (s : ReadState) → run limit sized read_start front ≡ Ok s → Begins limit sized front
begins limit sized front s e =
    let led = run_led limit sized read_start [] front s refl e in
    let fits = run_fits limit sized read_start front s tt e in
    let c = can_end limit sized s front led fits in
    (c.0, c.1, run_led limit sized s front c.0 (done c.1) led c.2, run_fits limit sized s c.0 (done c.1) fits c.2)

-- looser limits take the same steps
pub act_higher : (limit m : ℕ) (sized : Bool) (s : ReadState) (k : Sort) (s' : ReadState) → limit ≤ m → step_by_sort limit sized s k ≡ Ok s' → step_by_sort m sized s k ≡ Ok s'
act_higher limit m sized (inside first fs) (leaf t) s' above e = let h = leaf_ok limit sized t fs s' e in let n = h.0 in stands m sized t fs (omega (arith, above, n)) h.1 ∙ ap (λ z. Ok z) h.2
act_higher limit m sized (inside next fs) (leaf t) s' above e = let h = leaf_ok limit sized t fs s' e in let n = h.0 in stands m sized t fs (omega (arith, above, n)) h.1 ∙ ap (λ z. Ok z) h.2
act_higher limit m sized (inside first fs) (opens b) s' above e = let h = open_ok limit b fs s' e in let n = h.0 in does_open m b fs (omega (arith, above, n)) ∙ ap (λ z. Ok z) h.1
act_higher limit m sized (inside next fs) (opens b) s' above e = let h = open_ok limit b fs s' e in let n = h.0 in does_open m b fs (omega (arith, above, n)) ∙ ap (λ z. Ok z) h.1
act_higher limit m sized s k s' above e = e

pub act_unsized : (limit : ℕ) (s : ReadState) (k : Sort) (s' : ReadState) → step_by_sort limit true s k ≡ Ok s' → step_by_sort limit false s k ≡ Ok s'
act_unsized limit (inside first fs) (leaf t) s' e = let h = leaf_ok limit true t fs s' e in stands limit false t fs h.0 refl ∙ ap (λ z. Ok z) h.2
act_unsized limit (inside next fs) (leaf t) s' e = let h = leaf_ok limit true t fs s' e in stands limit false t fs h.0 refl ∙ ap (λ z. Ok z) h.2
act_unsized limit (inside behind []) separates s' e = e
act_unsized limit (inside behind (frame b f ∷ fs)) separates s' e = let h = comma_ok true b f fs s' e in ap (λ z. Ok z) h.1
act_unsized limit s k s' e = e

run_looser : (limit m : ℕ) (a b : Bool) → ((s : ReadState) (k : Sort) (s' : ReadState) → step_by_sort limit a s k ≡ Ok s' → step_by_sort m b s k ≡ Ok s') → (s : ReadState) (xs : List Token) (s' : ReadState) → run limit a s xs ≡ Ok s' → run m b s xs ≡ Ok s'
run_looser limit m a b f s [] s' e = e
run_looser limit m a b f s (x ∷ xs) s' e =
    let w = went_on (step limit a s x) (λ z. run limit a z xs) (x ∷ xs) s' e in
    ap (λ r. after_step r (λ z. run m b z xs) (x ∷ xs)) (f s (sort x) w.0 w.1) ∙ run_looser limit m a b f w.0 xs s' w.2

loosest : (limit m : ℕ) (front : List Token) (z : ReadState) → limit ≤ m → run limit true read_start front ≡ Ok z → run m false read_start front ≡ Ok z
loosest limit m front z above e = run_looser limit m true false (λ s k s' h. act_unsized m s k s' (act_higher limit m true s k s' above h)) read_start front z e

-- tests of a leaf
leaf_never : (b c : Bool) (x : ReadState) → cond b (cond c (Ok x) (Err too_large)) (Err too_deep) ≡ Err misplaced → ⊥
leaf_never true true x e = cc
leaf_never true false x e = cc
leaf_never false c x e = cc

leaf_deep : (b c : Bool) (x : ReadState) → cond b (cond c (Ok x) (Err too_large)) (Err too_deep) ≡ Err too_deep → b ≡ false
leaf_deep true true x e = absurd (cc)
leaf_deep true false x e = absurd (cc)
leaf_deep false c x e = refl

leaf_large : (b c : Bool) (x : ReadState) → cond b (cond c (Ok x) (Err too_large)) (Err too_deep) ≡ Err too_large → b ≡ true
leaf_large true c x e = refl
leaf_large false c x e = absurd (cc)

one_never : (b : Bool) (x : ReadState) (j k : FaultKind) → (j ≡ k → ⊥) → cond b (Ok x) (Err j) ≡ Err k → ⊥
one_never true x j k h e = cc
one_never false x j k h e = h (cc)

one_refused : (b : Bool) (x : ReadState) (k : FaultKind) → cond b (Ok x) (Err k) ≡ Err k → b ≡ false
one_refused true x k e = absurd (cc)
one_refused false x k e = refl

apart_dm : too_deep ≡ misplaced → ⊥
apart_dm e = cc

apart_lm : too_large ≡ misplaced → ⊥
apart_lm e = cc

apart_dl : too_deep ≡ too_large → ⊥
apart_dl e = cc

apart_ld : too_large ≡ too_deep → ⊥
apart_ld e = cc

pub act_misplaced : (limit m : ℕ) (a b : Bool) (s : ReadState) (k : Sort) → step_by_sort limit a s k ≡ Err misplaced → step_by_sort m b s k ≡ Err misplaced
act_misplaced limit m a b (inside first fs) (leaf t) e = absurd (leaf_never _ _ _ e)
act_misplaced limit m a b (inside next fs) (leaf t) e = absurd (leaf_never _ _ _ e)
act_misplaced limit m a b (inside first fs) (opens c) e = absurd (one_never _ _ too_deep misplaced apart_dm e)
act_misplaced limit m a b (inside next fs) (opens c) e = absurd (one_never _ _ too_deep misplaced apart_dm e)
act_misplaced limit m a b (inside behind []) separates e = e
act_misplaced limit m a b (inside behind (frame c f ∷ fs)) separates e = absurd (one_never _ _ too_large misplaced apart_lm e)
act_misplaced limit m a b s k e = e

-- where a step is refused, no further tokens help
stuck : (m : ℕ) (sized : Bool) (front : List Token) (x : Token) (z : ReadState) (k : FaultKind) (further : List Token) (t : Tree)
    → run m sized read_start front ≡ Ok z → step m sized z x ≡ Err k → Derives ((front ++ x ∷ []) ++ further) t → Fits m sized t → ⊥
stuck m sized front x z k further t e refused d within =
    let good : run m sized read_start ((front ++ x ∷ []) ++ further) ≡ Ok (done t) = whole_read m sized ((front ++ x ∷ []) ++ further) t d within in
    let bad : run m sized read_start ((front ++ x ∷ []) ++ further) ≡ Err (k, x ∷ further) =
    ap (run m sized read_start) (append_assoc front (x ∷ []) further) ∙ run_append m sized read_start front (x ∷ further) z e ∙ ap (λ r. after_step r (λ s. run m sized s further) (x ∷ further)) refused in
    cc

-- a close is never too deep nor too large
close_only : (b : Bracket) (fs : List OpenFrame) (k : FaultKind) → close_top b fs ≡ Err k → k ≡ misplaced
close_only brace [] k e = cc
close_only bracket [] k e = cc
close_only brace (frame brace f ∷ fs) k e = absurd (cc)
close_only brace (frame bracket f ∷ fs) k e = cc
close_only bracket (frame brace f ∷ fs) k e = cc
close_only bracket (frame bracket f ∷ fs) k e = absurd (cc)

abbrev pub Deep : ℕ → ReadState → Sort → Type 0
Deep limit s k = (step_by_sort limit false s k ≡ Err too_deep) × (m : ℕ) × (limit ≤ m) × (s' : ReadState) × (step_by_sort m false s k ≡ Ok s')

leaf_is_deep : (limit : ℕ) (t : Tree) (fs : List OpenFrame) → nat_le (length fs + depth t) limit ≡ false → (leaf_at limit false t fs ≡ Err too_deep) × (m : ℕ) × (limit ≤ m) × (s' : ReadState) × (leaf_at m false t fs ≡ Ok s')
leaf_is_deep limit t fs h =
    let above = leb-false (length fs + depth t) limit h in
    (ap (λ c. cond c (Ok (put t fs)) (Err too_deep)) h, length fs + depth t, omega (arith, above), put t fs, stands (length fs + depth t) false t fs (omega arith) refl)

open_is_deep : (limit : ℕ) (b : Bracket) (fs : List OpenFrame) → open_at limit b fs ≡ Err too_deep → (open_at limit b fs ≡ Err too_deep) × (m : ℕ) × (limit ≤ m) × (s' : ReadState) × (open_at m b fs ≡ Ok s')
open_is_deep limit b fs e =
    let above = ltb-false (length fs) limit (one_refused (nat_lt (length fs) limit) _ too_deep e) in
    (e, suc (length fs), omega (arith, above), inside first (frame b [] ∷ fs), does_open (suc (length fs)) b fs (omega arith))

pub deep : (limit : ℕ) (a : Bool) (s : ReadState) (k : Sort) → step_by_sort limit a s k ≡ Err too_deep → Deep limit s k
deep limit a (inside first fs) (leaf t) e = leaf_is_deep limit t fs (leaf_deep _ _ _ e)
deep limit a (inside next fs) (leaf t) e = leaf_is_deep limit t fs (leaf_deep _ _ _ e)
deep limit a (inside first fs) (opens b) e = open_is_deep limit b fs e
deep limit a (inside next fs) (opens b) e = open_is_deep limit b fs e
deep limit a (inside first fs) (closes b) e = let o = close_only b fs too_deep e in absurd (cc)
deep limit a (inside behind fs) (closes b) e = let o = close_only b fs too_deep e in absurd (cc)
deep limit a (inside behind []) separates e = absurd (cc)
deep limit a (inside behind (frame c f ∷ fs)) separates e = absurd (one_never _ _ too_large too_deep apart_ld e)
deep limit a s k e = absurd (cc)

pub large : (limit : ℕ) (a : Bool) (s : ReadState) (k : Sort) → step_by_sort limit a s k ≡ Err too_large → (s' : ReadState) × (step_by_sort limit false s k ≡ Ok s')
large limit a (inside first fs) (leaf t) e = (put t fs, stands limit false t fs (leb-true _ _ (leaf_large _ _ _ e)) refl)
large limit a (inside next fs) (leaf t) e = (put t fs, stands limit false t fs (leb-true _ _ (leaf_large _ _ _ e)) refl)
large limit a (inside first fs) (opens b) e = absurd (one_never _ _ too_deep too_large apart_dl e)
large limit a (inside next fs) (opens b) e = absurd (one_never _ _ too_deep too_large apart_dl e)
large limit a (inside first fs) (closes b) e = let o = close_only b fs too_large e in absurd (cc)
large limit a (inside behind fs) (closes b) e = let o = close_only b fs too_large e in absurd (cc)
large limit a (inside behind []) separates e = absurd (cc)
large limit a (inside behind (frame c f ∷ fs)) separates e = (inside next (frame c f ∷ fs), refl)
large limit a s k e = absurd (cc)

goes_on : (m : ℕ) (sized : Bool) (front : List Token) (x : Token) (z s' : ReadState) → run m sized read_start front ≡ Ok z → step m sized z x ≡ Ok s' → run m sized read_start (front ++ x ∷ []) ≡ Ok s'
goes_on m sized front x z s' e h = run_append m sized read_start front (x ∷ []) z e ∙ ap (λ r. after_step r (λ s. run m sized s []) (x ∷ [])) h

fault_at : (limit : ℕ) (front : List Token) (x : Token) (rest : List Token) (z : ReadState) (k : FaultKind) → run limit true read_start front ≡ Ok z → step limit true z x ≡ Err k → FaultAt limit front k (x ∷ rest)
fault_at limit front x rest z misplaced e refused = λ h.
    let m = max limit (depth h.1) in
    stuck m false front x z misplaced h.0 h.1 (loosest limit m front z (omega arith) e) (act_misplaced limit m true false z (sort x) refused) h.2 (record { nests = omega arith; sizes = refl })
fault_at limit front x rest z too_deep e refused =
    let d = deep limit true z (sort x) refused in
    let b = begins d.1 false (front ++ x ∷ []) d.3 (goes_on d.1 false front x z d.3 (loosest limit d.1 front z d.2 e) d.4) in
    ((b.0, b.1, b.2), λ h. stuck limit false front x z too_deep h.0 h.1 (loosest limit limit front z (omega arith) e) d.0 h.2 h.3)
fault_at limit front x rest z too_large e refused =
    let d = large limit true z (sort x) refused in
    (begins limit false (front ++ x ∷ []) d.0 (goes_on limit false front x z d.0 (loosest limit limit front z (omega arith) e) d.1), λ h. stuck limit true front x z too_large h.0 h.1 e refused h.2 h.3)

unfinished : (limit : ℕ) (ts : List Token) (p : ReadPosition) (fs : List OpenFrame) → run limit true read_start ts ≡ Ok (inside p fs) → IsFirstFault limit ts (misplaced, [])
unfinished limit ts p fs e = (
  ts,
  sym (append-nil ts),
  begins limit true ts (inside p fs) e,
  λ t d.
      let m = max limit (depth t) in
      let good : run m false read_start ts ≡ Ok (done t) = whole_read m false ts t d (record { nests = omega arith; sizes = refl }) in
      let bad : run m false read_start ts ≡ Ok (inside p fs) = loosest limit m ts (inside p fs) (omega arith) e in
      cc,
)

refused_by : (limit : ℕ) (ts : List Token) (r : Fault) (q : Result ReadState Fault) → run limit true read_start ts ≡ q → end_reading q ≡ Err r → IsFirstFault limit ts r
refused_by limit ts r (Ok (done t)) e h = absurd (cc)
refused_by limit ts r (Ok (inside p fs)) e h = let is : (misplaced, []) ≡ r = cc in subst (IsFirstFault limit ts) is (unfinished limit ts p fs e)
refused_by limit ts r (Err q) e h =
    let is : q ≡ r = cc in
    let w = run_stops limit true read_start ts q e in
    subst (IsFirstFault limit ts) is (w.0, w.4 ∙ ap (λ ys. w.0 ++ ys) (sym w.5), begins limit true w.0 w.3 w.6, subst (FaultAt limit w.0 q.0) (sym w.5) (fault_at limit w.0 w.1 w.2 w.3 q.0 w.6 w.7))

pub refused : (limit : ℕ) (ts : List Token) (r : Fault) → read limit true ts ≡ Err r → IsFirstFault limit ts r
refused limit ts r h = refused_by limit ts r (run limit true read_start ts) refl h
