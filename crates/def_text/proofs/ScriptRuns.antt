-- Runs over a script: what they lead to, that they keep the limits, and that a state can be ended.
use Rattle.std.proofs.Common.{◌≡◌, ℕ, List, [], ◌∷◌, ◌++◌, refl, ap, sym, ◌∙◌, subst, append_assoc, append-nil, Result, Ok, Err, Bool, ◌⊎◌, inl, inr}
use Rattle.def_term.specs.Tree.{Tree}
use Rattle.def_text.specs.Tokens as text
use Rattle.def_text.specs.Tokens.{Token, stop}
use Rattle.def_text.specs.Grammar.{Derives, DerivesScript}
use Rattle.def_text.specs.Limits.{Fits}
use Rattle.def_text.specs.Faults.{FaultKind, Fault}
use Rattle.def_text.specs.Reading.{ReadState, inside, done, read_start, step, sort, run}
use Rattle.def_text.proofs.FoldStates.{Led, StateFits}
use Rattle.def_text.specs.Scripts.{EachFits}
use Rattle.def_text.specs.ScriptReading.{ScriptState, reading, after_term, with_terms, script_step, after_script_step, script_run}
use Rattle.def_text.proofs.Sound.{step_led}
use Rattle.def_text.proofs.Runs.{went_on, act_fits, can_end}
use Rattle.def_text.proofs.Faults.{whole_read}

-- the terms so far with their full stops, and then the tokens of the next
abbrev pub ScriptLed : ScriptState → List Token → Type 0
ScriptLed (reading ts s) xs = (front : List Token) × (last : List Token) × (xs ≡ front ++ last) × DerivesScript front ts × Led s last

abbrev pub ScriptFits : ℕ → Bool → ScriptState → Type 0
ScriptFits limit sized (reading ts s) = EachFits limit sized ts × StateFits limit sized s

pub with_ok : (ts : List Tree) (r : Result ReadState FaultKind) (s' : ScriptState) → with_terms ts r ≡ Ok s' → (s : ReadState) × (r ≡ Ok s) × (reading ts s ≡ s')
with_ok ts (Ok s) s' h = (s, refl, let e : reading ts s ≡ s' = cc in e)
with_ok ts (Err k) s' h = absurd (cc)

pub after_ok : (ts : List Tree) (t : Tree) (x : Token) (s' : ScriptState) → after_term ts t x ≡ Ok s' → (x ≡ stop) × (reading (ts ++ t ∷ []) read_start ≡ s')
after_ok ts t text.stop s' h = (refl, let e : reading (ts ++ t ∷ []) read_start ≡ s' = cc in e)
after_ok ts t x s' h = absurd (cc)

-- one more term with its full stop
script_more : (ts : List Tree) (front : List Token) (t : Tree) (last : List Token) → DerivesScript front ts → Derives last t → DerivesScript (front ++ (last ++ stop ∷ [])) (ts ++ t ∷ [])
script_more [] front t last h d = (last, [], ap (λ xs. xs ++ (last ++ stop ∷ [])) h, d, refl)
script_more (u ∷ ts) front t last h d =
    (h.0, h.1 ++ (last ++ stop ∷ []), ap (λ xs. xs ++ (last ++ stop ∷ [])) h.2 ∙ append_assoc h.0 (stop ∷ h.1) (last ++ stop ∷ []), h.3, script_more ts h.1 t last h.4 d)

each_more : (limit : ℕ) (sized : Bool) (ts : List Tree) (t : Tree) → EachFits limit sized ts → Fits limit sized t → EachFits limit sized (ts ++ t ∷ [])
each_more limit sized [] t h f = (f, tt)
each_more limit sized (u ∷ ts) t h f = (h.0, each_more limit sized ts t h.1 f)

pub script_step_led : (limit : ℕ) (sized : Bool) (s : ScriptState) (xs : List Token) (x : Token) (s' : ScriptState) → ScriptLed s xs → script_step limit sized s x ≡ Ok s' → ScriptLed s' (xs ++ x ∷ [])
script_step_led limit sized (reading ts (done t)) xs x s' h e =
    let b = after_ok ts t x s' e in
    let split : xs ++ stop ∷ [] ≡ (h.0 ++ (h.1 ++ stop ∷ [])) ++ [] = ap (λ ys. ys ++ stop ∷ []) h.2 ∙ append_assoc h.0 h.1 (stop ∷ []) ∙ sym (append-nil (h.0 ++ (h.1 ++ stop ∷ []))) in
    let there : ScriptLed (reading (ts ++ t ∷ []) read_start) (xs ++ stop ∷ []) = (h.0 ++ (h.1 ++ stop ∷ []), [], split, script_more ts h.0 t h.1 h.3 h.4, refl) in
    subst (λ z. ScriptLed z (xs ++ x ∷ [])) b.1 (subst (λ y. ScriptLed (reading (ts ++ t ∷ []) read_start) (xs ++ y ∷ [])) (sym b.0) there)
script_step_led limit sized (reading ts (inside p fs)) xs x s' h e =
    let w = with_ok ts (step limit sized (inside p fs) x) s' e in
    let there : ScriptLed (reading ts w.0) (xs ++ x ∷ []) = (h.0, h.1 ++ x ∷ [], ap (λ ys. ys ++ x ∷ []) h.2 ∙ append_assoc h.0 h.1 (x ∷ []), h.3, step_led limit sized (inside p fs) h.1 x w.0 h.4 w.1) in
    subst (λ z. ScriptLed z (xs ++ x ∷ [])) w.2 there

start_fits : (limit : ℕ) (sized : Bool) → StateFits limit sized read_start
start_fits limit sized = tt

pub script_step_fits : (limit : ℕ) (sized : Bool) (s : ScriptState) (x : Token) (s' : ScriptState) → ScriptFits limit sized s → script_step limit sized s x ≡ Ok s' → ScriptFits limit sized s'
script_step_fits limit sized (reading ts (done t)) x s' h e =
    let b = after_ok ts t x s' e in
    subst (ScriptFits limit sized) b.1 (each_more limit sized ts t h.0 h.1, start_fits limit sized)
script_step_fits limit sized (reading ts (inside p fs)) x s' h e =
    let w = with_ok ts (step limit sized (inside p fs) x) s' e in
    subst (ScriptFits limit sized) w.2 (h.0, act_fits limit sized (inside p fs) (sort x) w.0 h.1 w.1)

pub script_went_on : (r : Result ScriptState FaultKind) (go : ScriptState → Result ScriptState Fault) (xs : List Token) (s : ScriptState) → after_script_step r go xs ≡ Ok s → (z : ScriptState) × (r ≡ Ok z) × (go z ≡ Ok s)
script_went_on (Ok z) go xs s h = (z, refl, h)
script_went_on (Err k) go xs s h = absurd (cc)

pub script_stopped : (r : Result ScriptState FaultKind) (go : ScriptState → Result ScriptState Fault) (xs : List Token) (q : Fault) → after_script_step r go xs ≡ Err q
    → ((z : ScriptState) × (r ≡ Ok z) × (go z ≡ Err q)) ⊎ ((k : FaultKind) × (r ≡ Err k) × (q ≡ (k, xs)))
script_stopped (Ok z) go xs q h = inl (z, refl, h)
script_stopped (Err k) go xs q h = inr (k, refl, let e : q ≡ (k, xs) = cc in e)

pub script_run_led : (limit : ℕ) (sized : Bool) (s : ScriptState) (front xs : List Token) (s' : ScriptState) → ScriptLed s front → script_run limit sized s xs ≡ Ok s' → ScriptLed s' (front ++ xs)
script_run_led limit sized s front [] s' h e = let is : s ≡ s' = cc in subst (ScriptLed s') (sym (append-nil front)) (subst (λ x. ScriptLed x front) is h)
script_run_led limit sized s front (x ∷ xs) s' h e =
    let w = script_went_on (script_step limit sized s x) (λ z. script_run limit sized z xs) (x ∷ xs) s' e in
    subst (ScriptLed s') (append_assoc front (x ∷ []) xs) (script_run_led limit sized w.0 (front ++ x ∷ []) xs s' (script_step_led limit sized s front x w.0 h w.1) w.2)

pub script_run_fits : (limit : ℕ) (sized : Bool) (s : ScriptState) (xs : List Token) (s' : ScriptState) → ScriptFits limit sized s → script_run limit sized s xs ≡ Ok s' → ScriptFits limit sized s'
script_run_fits limit sized s [] s' h e = let is : s ≡ s' = cc in subst (ScriptFits limit sized) is h
script_run_fits limit sized s (x ∷ xs) s' h e =
    let w = script_went_on (script_step limit sized s x) (λ z. script_run limit sized z xs) (x ∷ xs) s' e in
    script_run_fits limit sized w.0 xs s' (script_step_fits limit sized s x w.0 h w.1) w.2

pub script_run_append : (limit : ℕ) (sized : Bool) (s : ScriptState) (xs ys : List Token) (s' : ScriptState) → script_run limit sized s xs ≡ Ok s' → script_run limit sized s (xs ++ ys) ≡ script_run limit sized s' ys
script_run_append limit sized s [] ys s' e = let is : s ≡ s' = cc in ap (λ z. script_run limit sized z ys) is
script_run_append limit sized s (x ∷ xs) ys s' e =
    let w = script_went_on (script_step limit sized s x) (λ z. script_run limit sized z xs) (x ∷ xs) s' e in
    ap (λ r. after_script_step r (λ z. script_run limit sized z (xs ++ ys)) (x ∷ (xs ++ ys))) w.1 ∙ script_run_append limit sized w.0 xs ys s' w.2

-- where a run stops
pub script_run_stops : (limit : ℕ) (sized : Bool) (s : ScriptState) (xs : List Token) (q : Fault) → script_run limit sized s xs ≡ Err q
    → (front : List Token) × (x : Token) × (rest : List Token) × (z : ScriptState) × (xs ≡ front ++ x ∷ rest) × (q.1 ≡ x ∷ rest) × (script_run limit sized s front ≡ Ok z) × (script_step limit sized z x ≡ Err q.0)
script_run_stops limit sized s [] q e = absurd (cc)
script_run_stops limit sized s (x ∷ xs) q e =
    elim (script_stopped (script_step limit sized s x) (λ z. script_run limit sized z xs) (x ∷ xs) q e) [
      | inl w ↦
          let r = script_run_stops limit sized w.0 xs q w.2 in
          (x ∷ r.0, r.1, r.2, r.3, ap (λ zs. x ∷ zs) r.4, r.5, ap (λ a. after_script_step a (λ z. script_run limit sized z r.0) (x ∷ r.0)) w.1 ∙ r.6, r.7)
      | inr w ↦ ([], x, xs, s, refl, ap (λ (p : Fault). p.1) w.2, refl, w.1 ∙ ap (λ (p : Fault). Err p.0) (sym w.2))
    ]

-- a run within one term is a run of the script
pub within_term : (limit : ℕ) (sized : Bool) (ts : List Tree) (s : ReadState) (front rest : List Token) (s' : ReadState) → run limit sized s front ≡ Ok s' → script_run limit sized (reading ts s) (front ++ rest) ≡ script_run limit sized (reading ts s') rest
within_term limit sized ts s [] rest s' e = let is : s ≡ s' = cc in ap (λ z. script_run limit sized (reading ts z) rest) is
within_term limit sized ts (done t) (x ∷ front) rest s' e = absurd (cc)
within_term limit sized ts (inside p fs) (x ∷ front) rest s' e =
    let w = went_on (step limit sized (inside p fs) x) (λ z. run limit sized z front) (x ∷ front) s' e in
    ap (λ r. after_script_step (with_terms ts r) (λ z. script_run limit sized z (front ++ rest)) (x ∷ (front ++ rest))) w.1 ∙ within_term limit sized ts w.0 front rest s' w.2

-- what derives a script is read
pub script_reads : (limit : ℕ) (sized : Bool) (ts us : List Tree) (xs : List Token) → DerivesScript xs us → EachFits limit sized us → script_run limit sized (reading ts read_start) xs ≡ Ok (reading (ts ++ us) read_start)
script_reads limit sized ts [] xs d f = ap (script_run limit sized (reading ts read_start)) d ∙ ap (λ zs. Ok (reading zs read_start)) (sym (append-nil ts))
script_reads limit sized ts (u ∷ us) xs d f =
    ap (script_run limit sized (reading ts read_start)) d.2
    ∙ within_term limit sized ts read_start d.0 (stop ∷ d.1) (done u) (whole_read limit sized d.0 u d.3 f.0)
    ∙ script_reads limit sized (ts ++ u ∷ []) us d.1 d.4 f.1
    ∙ ap (λ zs. Ok (reading zs read_start)) (append_assoc ts (u ∷ []) us)

-- each state that tokens lead to can be ended
pub script_can_end : (limit : ℕ) (sized : Bool) (s : ScriptState) (xs : List Token) → ScriptLed s xs → ScriptFits limit sized s → (further : List Token) × (us : List Tree) × (script_run limit sized s further ≡ Ok (reading us read_start))
script_can_end limit sized (reading ts s) xs h f =
    let c = can_end limit sized s h.1 h.4 f.1 in
    (c.0 ++ stop ∷ [], ts ++ c.1 ∷ [], within_term limit sized ts s c.0 (stop ∷ []) (done c.1) c.2)
