-- What is read derives the script, and a refusal is the first fault.
use Rattle.std.proofs.Common.{◌≡◌, ℕ, ◌≤◌, max, List, [], ◌∷◌, ◌++◌, refl, ap, sym, ◌∙◌, subst, append_assoc, append-nil, arith, Result, Ok, Err, Bool, true, false}
use Rattle.def_term.specs.Tree.{Tree, greatest_depth, of_elements}
use Rattle.def_text.specs.Tokens as text
use Rattle.def_text.specs.Tokens.{Token, stop}
use Rattle.def_text.specs.Grammar.{DerivesScript}
use Rattle.def_text.specs.Faults.{FaultKind, misplaced, too_deep, too_large, Fault}
use Rattle.def_text.specs.Reading.{first, next, behind, ReadState, inside, done, read_start, step, sort}
use Rattle.def_text.specs.Scripts.{EachFits, BeginsScript, ScriptFaultAt, IsFirstScriptFault}
use Rattle.def_text.specs.ScriptReading.{ScriptState, reading, script_start, after_term, with_terms, script_step, after_script_step, script_run, script_end, script_finish, read_script}
use Rattle.def_text.proofs.Faults.{act_higher, act_unsized, act_misplaced, deep, large}
use Rattle.def_text.proofs.ScriptRuns.{ScriptLed, ScriptFits, with_ok, script_went_on, script_run_led, script_run_fits, script_run_append, script_run_stops, script_reads, script_can_end}

start_led : ScriptLed script_start []
start_led = ([], [], refl, refl, refl)

start_fits : (limit : ℕ) (sized : Bool) → ScriptFits limit sized script_start
start_fits limit sized = (tt, tt)

ends_at : (s : ScriptState) (ts : List Tree) → script_end s ≡ Ok ts → s ≡ reading ts read_start
ends_at (reading us (done t)) ts h = absurd (cc)
ends_at (reading us (inside first fs)) ts h = absurd (cc)
ends_at (reading us (inside behind fs)) ts h = absurd (cc)
ends_at (reading us (inside next [])) ts h = let e : us ≡ ts = cc in ap (λ x. reading x read_start) e
ends_at (reading us (inside next (f ∷ fs))) ts h = absurd (cc)

-- a state that cannot end leaves nothing
ends_misplaced : (s : ScriptState) (r : Fault) → script_end s ≡ Err r → (misplaced, []) ≡ r
ends_misplaced (reading us (done t)) r h = cc
ends_misplaced (reading us (inside first fs)) r h = cc
ends_misplaced (reading us (inside behind fs)) r h = cc
ends_misplaced (reading us (inside next [])) r h = absurd (cc)
ends_misplaced (reading us (inside next (f ∷ fs))) r h = cc

finished : (q : Result ScriptState Fault) (ts : List Tree) → script_finish q ≡ Ok ts → q ≡ Ok (reading ts read_start)
finished (Err r) ts h = absurd (cc)
finished (Ok s) ts h = ap (λ x. Ok x) (ends_at s ts h)

-- the tokens of a state between terms derive its terms
between : (ts : List Tree) (xs : List Token) → ScriptLed (reading ts read_start) xs → DerivesScript xs ts
between ts xs h = subst (λ ys. DerivesScript ys ts) (sym (h.2 ∙ ap (λ ys. h.0 ++ ys) h.4 ∙ append-nil h.0)) h.3

pub found : (limit : ℕ) (xs : List Token) (ts : List Tree) → read_script limit true xs ≡ Ok ts → DerivesScript xs ts × EachFits limit true ts
found limit xs ts h =
    let e = finished (script_run limit true script_start xs) ts h in
    (between ts xs (script_run_led limit true script_start [] xs (reading ts read_start) start_led e), (script_run_fits limit true script_start xs (reading ts read_start) (start_fits limit true) e).0)

pub only : (limit : ℕ) (xs : List Token) (ts : List Tree) → DerivesScript xs ts → EachFits limit true ts → read_script limit true xs ≡ Ok ts
only limit xs ts d f = ap script_finish (script_reads limit true [] ts xs d f)

begins : (limit : ℕ) (sized : Bool) (front : List Token) (s : ScriptState) → script_run limit sized script_start front ≡ Ok s → BeginsScript limit sized front
begins limit sized front s e =
    let led = script_run_led limit sized script_start [] front s start_led e in
    let fits = script_run_fits limit sized script_start front s (start_fits limit sized) e in
    let c = script_can_end limit sized s front led fits in
    (c.0, c.1, between c.1 (front ++ c.0) (script_run_led limit sized s front c.0 (reading c.1 read_start) led c.2), (script_run_fits limit sized s c.0 (reading c.1 read_start) fits c.2).0)

-- looser limits take the same steps
step_loosest : (limit m : ℕ) (s : ScriptState) (x : Token) (s' : ScriptState) → limit ≤ m → script_step limit true s x ≡ Ok s' → script_step m false s x ≡ Ok s'
step_loosest limit m (reading ts (done t)) x s' above e = e
step_loosest limit m (reading ts (inside p fs)) x s' above e =
    let w = with_ok ts (step limit true (inside p fs) x) s' e in
    ap (with_terms ts) (act_unsized m (inside p fs) (sort x) w.0 (act_higher limit m true (inside p fs) (sort x) w.0 above w.1)) ∙ ap (λ z. Ok z) w.2

loosest : (limit m : ℕ) (s : ScriptState) (xs : List Token) (s' : ScriptState) → limit ≤ m → script_run limit true s xs ≡ Ok s' → script_run m false s xs ≡ Ok s'
loosest limit m s [] s' above e = e
loosest limit m s (x ∷ xs) s' above e =
    let w = script_went_on (script_step limit true s x) (λ z. script_run limit true z xs) (x ∷ xs) s' e in
    ap (λ r. after_script_step r (λ z. script_run m false z xs) (x ∷ xs)) (step_loosest limit m s x w.0 above w.1) ∙ loosest limit m w.0 xs s' above w.2

-- what a refused step was refused for
with_err : (ts : List Tree) (r : Result ReadState FaultKind) (k : FaultKind) → with_terms ts r ≡ Err k → r ≡ Err k
with_err ts (Ok s) k h = absurd (cc)
with_err ts (Err j) k h = let e : j ≡ k = cc in ap (λ z. Err z) e

after_misplaced : (ts : List Tree) (t : Tree) (x : Token) (k : FaultKind) → after_term ts t x ≡ Err k → k ≡ misplaced
after_misplaced ts t text.stop k h = absurd (cc)
after_misplaced ts t x k h = cc

step_misplaced : (limit m : ℕ) (a b : Bool) (s : ScriptState) (x : Token) → script_step limit a s x ≡ Err misplaced → script_step m b s x ≡ Err misplaced
step_misplaced limit m a b (reading ts (done t)) x e = e
step_misplaced limit m a b (reading ts (inside p fs)) x e = ap (with_terms ts) (act_misplaced limit m a b (inside p fs) (sort x) (with_err ts (step limit a (inside p fs) x) misplaced e))

abbrev DeepStep : ℕ → ScriptState → Token → Type 0
DeepStep limit s x = (script_step limit false s x ≡ Err too_deep) × (m : ℕ) × (limit ≤ m) × (s' : ScriptState) × (script_step m false s x ≡ Ok s')

step_deep : (limit : ℕ) (s : ScriptState) (x : Token) → script_step limit true s x ≡ Err too_deep → DeepStep limit s x
step_deep limit (reading ts (done t)) x e = let k = after_misplaced ts t x too_deep e in absurd (cc)
step_deep limit (reading ts (inside p fs)) x e =
    let d = deep limit true (inside p fs) (sort x) (with_err ts (step limit true (inside p fs) x) too_deep e) in
    (ap (with_terms ts) d.0, d.1, d.2, reading ts d.3, ap (with_terms ts) d.4)

step_large : (limit : ℕ) (s : ScriptState) (x : Token) → script_step limit true s x ≡ Err too_large → (s' : ScriptState) × (script_step limit false s x ≡ Ok s')
step_large limit (reading ts (done t)) x e = let k = after_misplaced ts t x too_large e in absurd (cc)
step_large limit (reading ts (inside p fs)) x e =
    let d = large limit true (inside p fs) (sort x) (with_err ts (step limit true (inside p fs) x) too_large e) in
    (reading ts d.0, ap (with_terms ts) d.1)

-- where a step is refused, no further tokens help
stuck : (m : ℕ) (sized : Bool) (front : List Token) (x : Token) (z : ScriptState) (k : FaultKind) (further : List Token) (ts : List Tree)
    → script_run m sized script_start front ≡ Ok z → script_step m sized z x ≡ Err k → DerivesScript ((front ++ x ∷ []) ++ further) ts → EachFits m sized ts → ⊥
stuck m sized front x z k further ts e refused d within =
    let good : script_run m sized script_start ((front ++ x ∷ []) ++ further) ≡ Ok (reading ts read_start) = script_reads m sized [] ts ((front ++ x ∷ []) ++ further) d within in
    let bad : script_run m sized script_start ((front ++ x ∷ []) ++ further) ≡ Err (k, x ∷ further) =
    ap (script_run m sized script_start) (append_assoc front (x ∷ []) further) ∙ script_run_append m sized script_start front (x ∷ further) z e ∙ ap (λ r. after_script_step r (λ s. script_run m sized s further) (x ∷ further)) refused in
    cc

goes_on : (m : ℕ) (sized : Bool) (front : List Token) (x : Token) (z s' : ScriptState) → script_run m sized script_start front ≡ Ok z → script_step m sized z x ≡ Ok s' → script_run m sized script_start (front ++ x ∷ []) ≡ Ok s'
goes_on m sized front x z s' e h = script_run_append m sized script_start front (x ∷ []) z e ∙ ap (λ r. after_script_step r (λ s. script_run m sized s []) (x ∷ [])) h

-- the terms fit where nothing nests deeper than they do
each_within : (m : ℕ) (ts : List Tree) → greatest_depth (of_elements ts) ≤ m → EachFits m false ts
each_within m [] h = tt
each_within m (t ∷ ts) h = (record { nests = omega (arith, h); sizes = refl }, each_within m ts (omega (arith, h)))

fault_at : (limit : ℕ) (front : List Token) (x : Token) (rest : List Token) (z : ScriptState) (k : FaultKind) → script_run limit true script_start front ≡ Ok z → script_step limit true z x ≡ Err k → ScriptFaultAt limit front k (x ∷ rest)
fault_at limit front x rest z misplaced e refused = λ h.
    let m = max limit (greatest_depth (of_elements h.1)) in
    stuck m false front x z misplaced h.0 h.1 (loosest limit m script_start front z (omega arith) e) (step_misplaced limit m true false z x refused) h.2 (each_within m h.1 (omega arith))
fault_at limit front x rest z too_deep e refused =
    let d = step_deep limit z x refused in
    let b = begins d.1 false (front ++ x ∷ []) d.3 (goes_on d.1 false front x z d.3 (loosest limit d.1 script_start front z d.2 e) d.4) in
    ((b.0, b.1, b.2), λ h. stuck limit false front x z too_deep h.0 h.1 (loosest limit limit script_start front z (omega arith) e) d.0 h.2 h.3)
fault_at limit front x rest z too_large e refused =
    let d = step_large limit z x refused in
    (begins limit false (front ++ x ∷ []) d.0 (goes_on limit false front x z d.0 (loosest limit limit script_start front z (omega arith) e) d.1), λ h. stuck limit true front x z too_large h.0 h.1 e refused h.2 h.3)

unfinished : (limit : ℕ) (xs : List Token) (s : ScriptState) (r : Fault) → script_run limit true script_start xs ≡ Ok s → script_end s ≡ Err r → IsFirstScriptFault limit xs (misplaced, [])
unfinished limit xs s r e h = (
  xs,
  sym (append-nil xs),
  begins limit true xs s e,
  λ ts d.
      let m = max limit (greatest_depth (of_elements ts)) in
      let good : script_run m false script_start xs ≡ Ok (reading ts read_start) = script_reads m false [] ts xs d (each_within m ts (omega arith)) in
      let bad : script_run m false script_start xs ≡ Ok s = loosest limit m script_start xs s (omega arith) e in
      let same : s ≡ reading ts read_start = cc in
      let ended : script_end s ≡ Ok ts = ap script_end same in
      cc,
)

refused_by : (limit : ℕ) (xs : List Token) (r : Fault) (q : Result ScriptState Fault) → script_run limit true script_start xs ≡ q → script_finish q ≡ Err r → IsFirstScriptFault limit xs r
refused_by limit xs r (Ok s) e h = subst (IsFirstScriptFault limit xs) (ends_misplaced s r h) (unfinished limit xs s r e h)
refused_by limit xs r (Err q) e h =
    let is : q ≡ r = cc in
    let w = script_run_stops limit true script_start xs q e in
    subst (IsFirstScriptFault limit xs) is (w.0, w.4 ∙ ap (λ ys. w.0 ++ ys) (sym w.5), begins limit true w.0 w.3 w.6, subst (ScriptFaultAt limit w.0 q.0) (sym w.5) (fault_at limit w.0 w.1 w.2 w.3 q.0 w.6 w.7))

pub refused : (limit : ℕ) (xs : List Token) (r : Fault) → read_script limit true xs ≡ Err r → IsFirstScriptFault limit xs r
refused limit xs r h = refused_by limit xs r (script_run limit true script_start xs) refl h
