-- Reading a script: what stands so far, and what is answered in the end.
use Rattle.std.proofs.Common.{◌≡◌, ℕ, ◌<◌, ◌≤◌, arith, List, [], ◌∷◌, ◌++◌, length, drop, map, true, Result, Ok, Err, refl, ap, sym, ◌∙◌, subst, append-nil}
use Rattle.std.specs.declared.vec.Vec.{Vec}
use Rattle.def_term.specs.Tree.{Tree}
use Rattle.tn_term.specs.declared.term.Term.{Term}
use Rattle.tn_term.specs.Views.{tree_of}
use Rattle.def_text.specs.Tokens.{bad, TokenSpan, Tokens}
use Rattle.def_text.specs.Limits.{DEPTH}
use Rattle.def_text.specs.Faults.{FaultKind, misplaced, too_deep, too_large}
use Rattle.def_text.specs.Reading.{first, next, behind, OpenFrame, ReadState, inside, done}
use Rattle.def_text.specs.Spelling.{LENGTH, tokens_of}
use Rattle.def_text.specs.Scripts.{ScriptRefused}
use Rattle.def_text.specs.ScriptReading.{ScriptState, reading, with_terms, script_start, script_step, after_script_step, script_run, script_end, script_finish, read_script}
use Rattle.def_text.proofs.ScriptRuns.{script_run_append, script_run_fits}
use Rattle.def_text.proofs.ScriptFaults.{found, refused}
use Rattle.tn_text.specs.declared.lexer.Token.{Token}
use Rattle.tn_text.specs.declared.stack.Progress.{Progress}
use Rattle.tn_text.specs.declared.fault.TextFault.{TextFault}
use Rattle.tn_text.specs.declared.fault.TextFault.TheVariants.{TooLong, Token as NoToken, TooDeep, TooLarge, OutOfMemory}
use Rattle.tn_text.specs.Lexer.{StandsAt, HasNoTokenAt, IsEnd}
use Rattle.tn_text.specs.Stack.{IsShallow, IsStepFaultOf, StepsAt, ScriptStepsAt, IsBeginning, ScriptFinishes}
use Rattle.tn_text.specs.Answers.{IsScriptRefusal, IsReadScript}
use Rattle.tn_text.proofs.Listing.{SoFar, so_far_more, after_first, whole, last_bad, bad_there}
use Rattle.tn_text.proofs.TokenReads.{all_tokens, joined_tokens, shallow_of}

-- up to there the tokens led to that state
pub record ScriptReadTo (bytes : List ℕ) (at : ℕ) (s : ScriptState) : Type 0 where
  pub tokens : List TokenSpan
  pub so_far : SoFar bytes at tokens
  pub led : script_run DEPTH true script_start (tokens_of tokens) ≡ Ok s

pub script_none : (bytes : List ℕ) (s : ScriptState) → s ≡ script_start → ScriptReadTo bytes 0 s
script_none bytes s is = record { tokens = []; so_far = λ ys h. h; led = ap (λ z. Ok z) (sym is) }

pub script_more : (bytes : List ℕ) (at : ℕ) (v : Token) (s z : ScriptState) → ScriptReadTo bytes at s → (t : StandsAt bytes at v) → script_step DEPTH true s t.spanned.token ≡ Ok z → ScriptReadTo bytes v.to z
script_more bytes at v s z r t e = record {
  tokens = r.tokens ++ t.spanned ∷ [];
  so_far = so_far_more bytes at r.tokens v r.so_far t;
  led = ap (script_run DEPTH true script_start) (joined_tokens r.tokens (t.spanned ∷ [])) ∙ script_run_append DEPTH true script_start (tokens_of r.tokens) (t.spanned.token ∷ []) s r.led
      ∙ ap (λ q. after_script_step q (λ w. script_run DEPTH true w []) (t.spanned.token ∷ [])) e;
}

pub script_shallow : (bytes : List ℕ) (at : ℕ) (ts : List Tree) (s : ReadState) → ScriptReadTo bytes at (reading ts s) → IsShallow s
script_shallow bytes at ts s r = let f = script_run_fits DEPTH true script_start (tokens_of r.tokens) (reading ts s) (tt, tt) r.led in shallow_of s f.1

-- a token is refused
refused_there : (bytes : List ℕ) (xs ys : List TokenSpan) (x : TokenSpan) (s : ScriptState) (k : FaultKind) → length bytes ≤ LENGTH → Tokens bytes (xs ++ x ∷ ys) → script_run DEPTH true script_start (tokens_of xs) ≡ Ok s
    → script_step DEPTH true s x.token ≡ Err k → ScriptRefused bytes k x.from
refused_there bytes xs ys x s k short are led e =
    let stops : read_script DEPTH true (tokens_of (xs ++ x ∷ ys)) ≡ Err (k, tokens_of (x ∷ ys)) =
    ap (read_script DEPTH true) (joined_tokens xs (x ∷ ys))
    ∙ ap script_finish (script_run_append DEPTH true script_start (tokens_of xs) (tokens_of (x ∷ ys)) s led ∙ ap (λ q. after_script_step q (λ w. script_run DEPTH true w (tokens_of ys)) (tokens_of (x ∷ ys))) e) in
    record { short = short; front = xs; rest = x ∷ ys; are = are; first = refused DEPTH (tokens_of (xs ++ x ∷ ys)) (k, tokens_of (x ∷ ys)) stops; offset = refl }

refused_token : (bytes : List ℕ) (at : ℕ) (v : Token) (s : ScriptState) (k : FaultKind) → length bytes ≤ LENGTH → ScriptReadTo bytes at s → (t : StandsAt bytes at v) → script_step DEPTH true s t.spanned.token ≡ Err k → ScriptRefused bytes k v.from
refused_token bytes at v s k short r t e =
    let later = all_tokens v.to (drop v.to bytes) in
    subst (ScriptRefused bytes k) (sym t.from)
    (refused_there bytes r.tokens later.0 t.spanned s k short (r.so_far (t.spanned ∷ later.0) (after_first bytes at v t later.0 later.1)) r.led e)

bad_refused : (s : ScriptState) → script_step DEPTH true s bad ≡ Err misplaced
bad_refused (reading ts (done t)) = refl
bad_refused (reading ts (inside first fs)) = refl
bad_refused (reading ts (inside next fs)) = refl
bad_refused (reading ts (inside behind fs)) = refl

pub script_refused_bytes : (bytes : List ℕ) (at from : ℕ) (s : ScriptState) → length bytes ≤ LENGTH → ScriptReadTo bytes at s → HasNoTokenAt bytes at from → ScriptRefused bytes misplaced from
script_refused_bytes bytes at from s short r b =
    refused_there bytes r.tokens [] (last_bad bytes from) s misplaced short (r.so_far (last_bad bytes from ∷ []) (bad_there bytes at from b)) r.led (bad_refused s)

pub script_answers_refused : (bytes : List ℕ) (at : ℕ) (v : Token) (s : ScriptState) (f : TextFault) → length bytes ≤ LENGTH → ScriptReadTo bytes at s → (t : StandsAt bytes at v) → IsStepFaultOf f v.from (script_step DEPTH true s t.spanned.token)
    → IsScriptRefusal bytes f
script_answers_refused bytes at v s TooLong short r t h = absurd h
script_answers_refused bytes at v s (NoToken from) short r t h = subst (ScriptRefused bytes misplaced) (sym h.0) (refused_token bytes at v s misplaced short r t h.1)
script_answers_refused bytes at v s (TooDeep from) short r t h = subst (ScriptRefused bytes too_deep) (sym h.0) (refused_token bytes at v s too_deep short r t h.1)
script_answers_refused bytes at v s (TooLarge from) short r t h = subst (ScriptRefused bytes too_large) (sym h.0) (refused_token bytes at v s too_large short r t h.1)
script_answers_refused bytes at v s OutOfMemory short r t h = tt

-- the text ends
beginning : (bytes : List ℕ) (at : ℕ) (s : ScriptState) (f : TextFault) → length bytes ≤ LENGTH → ScriptReadTo bytes at s → IsEnd bytes at → IsBeginning f (length bytes) (script_end s) → IsScriptRefusal bytes f
beginning bytes at s TooLong short to e h = absurd h
beginning bytes at s (NoToken end) short to e h =
    let xs = to.tokens in
    let all : Tokens bytes (xs ++ []) = subst (Tokens bytes) (sym (append-nil xs)) (whole bytes at xs to.so_far e) in
    let stops : read_script DEPTH true (tokens_of (xs ++ [])) ≡ Err (misplaced, []) = ap (λ ys. read_script DEPTH true (tokens_of ys)) (append-nil xs) ∙ ap script_finish to.led ∙ h.1 in
    record { short = short; front = xs; rest = []; are = all; first = refused DEPTH (tokens_of (xs ++ [])) (misplaced, []) stops; offset = h.0 }
beginning bytes at s (TooDeep end) short to e h = absurd h
beginning bytes at s (TooLarge end) short to e h = absurd h
beginning bytes at s OutOfMemory short to e h = absurd h

pub script_answers_ended : {A : Type 0} (bytes : List ℕ) (at : ℕ) (s : ScriptState) (r : Result (Vec (Term A) A) TextFault) → length bytes ≤ LENGTH → ScriptReadTo bytes at s → IsEnd bytes at → ScriptFinishes r (length bytes) (script_end s) → IsReadScript bytes r
script_answers_ended bytes at s (Ok v) short to e h =
    let g = found DEPTH (tokens_of to.tokens) (map tree_of v.items) (ap script_finish to.led ∙ h) in
    record { short = short; tokens = to.tokens; are = whole bytes at to.tokens to.so_far e; derives = g.0; fits = g.1 }
script_answers_ended bytes at s (Err f) short to e h = beginning bytes at s f short to e h

-- an error of the step within a term is the script's
fault_inside : (f : TextFault) (from : ℕ) (ts : List Tree) (r : Result ReadState FaultKind) → IsStepFaultOf f from r → IsStepFaultOf f from (with_terms ts r)
fault_inside TooLong from ts r h = h
fault_inside (NoToken at) from ts r h = (h.0, ap (with_terms ts) h.1)
fault_inside (TooDeep at) from ts r h = (h.0, ap (with_terms ts) h.1)
fault_inside (TooLarge at) from ts r h = (h.0, ap (with_terms ts) h.1)
fault_inside OutOfMemory from ts r h = h

pub script_inside : {A : Type 0} (r : Result (Progress A) TextFault) (terms : List (Term A)) (from : ℕ) (q : Result ReadState FaultKind) → StepsAt r from q → ScriptStepsAt r terms from (with_terms (map tree_of terms) q)
script_inside (Ok p) terms from q h = ap (with_terms (map tree_of terms)) h
script_inside (Err f) terms from q h = fault_inside f from (map tree_of terms) q h

-- within a tuple or list no script ends
pub within_none : (ts : List Tree) (fs : List OpenFrame) → 0 < length fs → script_end (reading ts (inside next fs)) ≡ Err (misplaced, [])
within_none ts [] h = absurd (omega (arith, h))
within_none ts (f ∷ fs) h = refl
