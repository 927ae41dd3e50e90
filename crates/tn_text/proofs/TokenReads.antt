-- Reading one term: what stands so far, and what is answered in the end.
use Rattle.std.proofs.Common.{◌≡◌, ℕ, zero, suc, ◌+◌, ◌<◌, ◌≤◌, List, [], ◌∷◌, ◌++◌, length, drop, true, false, Option, Some, None, Result, Ok, Err, refl, ap, sym, ◌∙◌, subst, arith, append-nil, length-append, length-drop}
use Rattle.std.proofs.lemmas.List.{map-append}
use Rattle.tn_term.specs.declared.term.Term.{Term}
use Rattle.tn_term.specs.Views.{tree_of}
use Rattle.def_text.specs.Tokens.{bad, gap_len, TokenSpan, TokensFrom, Tokens}
use Rattle.def_text.specs.Scan.{TokenKind, token_at}
use Rattle.def_text.specs.Limits.{DEPTH}
use Rattle.def_text.specs.Faults.{FaultKind, misplaced, too_deep, too_large}
use Rattle.def_text.specs.Reading.{first, next, behind, OpenFrame, frame, ReadState, inside, done, read_start, step, after_step, run, end_reading, read}
use Rattle.def_text.proofs.FoldStates.{StateFits, AfterFits}
use Rattle.def_text.specs.Spelling.{LENGTH, tokens_of, IsRefusedAt}
use Rattle.def_text.proofs.TokenSound.{SoundAt, sound}
use Rattle.def_text.proofs.TokenComplete.{none_there}
use Rattle.def_text.proofs.TokenSteps.{nonempty, stands_of}
use Rattle.def_text.proofs.Runs.{run_append, run_fits, frames_short}
use Rattle.def_text.proofs.Faults.{found, refused}
use Rattle.tn_text.specs.declared.lexer.Token.{Token}
use Rattle.tn_text.specs.declared.fault.TextFault.{TextFault}
use Rattle.tn_text.specs.declared.fault.TextFault.TheVariants.{TooLong, Token as NoToken, TooDeep, TooLarge, OutOfMemory}
use Rattle.tn_text.specs.Lexer.{StandsAt, HasNoTokenAt, IsEnd}
use Rattle.tn_text.specs.Stack.{IsShallow, IsStepFaultOf, IsBeginning, Finishes}
use Rattle.tn_text.specs.Answers.{IsTextRefusal, IsTermRead}
use Rattle.tn_text.proofs.Listing.{SoFar, so_far_more, after_first, whole, last_bad, bad_there}

-- each text has a list of tokens
abbrev Listing : ℕ → List ℕ → Type 0
Listing at bytes = (ys : List TokenSpan) × TokensFrom at bytes ys

first_of : (at : ℕ) (bytes there : List ℕ) (o : Option (TokenKind × ℕ)) → drop (gap_len false bytes) bytes ≡ there → 0 < length there → o ≡ token_at there → SoundAt there o
    → ((to : ℕ) (rest : List ℕ) → length rest < length bytes → Listing to rest) → Listing at bytes
first_of at bytes there None e some is s go = (
  record { token = bad; from = at + gap_len false bytes; to = at + gap_len false bytes + length there } ∷ [],
  (there, [], record { split = e ∙ sym (append-nil there); from = refl; to = refl; stands = (refl, some, none_there there (sym is)) }, refl),
)
first_of at bytes there (Some p) e some is s go =
    let t = s.found.0 in
    let x : TokenSpan = record { token = t; from = at + gap_len false bytes; to = at + gap_len false bytes + length s.token } in
    let bytes_of = nonempty t s.token s.rest s.found.1 in
    let split = ap length s.split in
    let whole_len = ap length e in
    let later = go x.to s.rest (omega (arith, bytes_of, split, whole_len, length-append s.token s.rest, length-drop (gap_len false bytes) bytes)) in
    (x ∷ later.0, (s.token, s.rest, record { split = e ∙ s.split; from = refl; to = refl; stands = stands_of t s.token s.rest s.found.1 }, later.1))

listing : (n at : ℕ) (bytes there : List ℕ) → drop (gap_len false bytes) bytes ≡ there → length bytes ≤ n → Listing at bytes
listing zero at bytes [] e h = ([], e)
listing zero at bytes (b ∷ bs) e h = let size = ap length e in absurd (omega (arith, size, h, length-drop (gap_len false bytes) bytes))
listing (suc n) at bytes [] e h = ([], e)
listing (suc n) at bytes (b ∷ bs) e h =
    first_of at bytes (b ∷ bs) (token_at (b ∷ bs)) e (omega arith) refl (sound (b ∷ bs)) (λ to rest less. listing n to rest (drop (gap_len false rest) rest) refl (omega (arith, h, less)))

pub all_tokens : (at : ℕ) (bytes : List ℕ) → Listing at bytes
all_tokens at bytes = listing (length bytes) at bytes (drop (gap_len false bytes) bytes) refl (omega arith)

-- up to there the tokens led to that state
pub record ReadTo (bytes : List ℕ) (at : ℕ) (s : ReadState) : Type 0 where
  pub tokens : List TokenSpan
  pub so_far : SoFar bytes at tokens
  pub led : run DEPTH true read_start (tokens_of tokens) ≡ Ok s

pub read_none : (bytes : List ℕ) (s : ReadState) → s ≡ read_start → ReadTo bytes 0 s
read_none bytes s is = record { tokens = []; so_far = λ ys h. h; led = ap (λ z. Ok z) (sym is) }

pub joined_tokens : (xs ys : List TokenSpan) → tokens_of (xs ++ ys) ≡ tokens_of xs ++ tokens_of ys
joined_tokens xs ys = map-append (λ (x : TokenSpan). x.token) xs ys

pub read_more : (bytes : List ℕ) (at : ℕ) (v : Token) (s z : ReadState) → ReadTo bytes at s → (t : StandsAt bytes at v) → step DEPTH true s t.spanned.token ≡ Ok z → ReadTo bytes v.to z
read_more bytes at v s z r t e = record {
  tokens = r.tokens ++ t.spanned ∷ [];
  so_far = so_far_more bytes at r.tokens v r.so_far t;
  led = ap (run DEPTH true read_start) (joined_tokens r.tokens (t.spanned ∷ [])) ∙ run_append DEPTH true read_start (tokens_of r.tokens) (t.spanned.token ∷ []) s r.led
      ∙ ap (λ q. after_step q (λ w. run DEPTH true w []) (t.spanned.token ∷ [])) e;
}

after_short : (f : OpenFrame) (fs : List OpenFrame) → AfterFits DEPTH true (f ∷ fs) → length (f ∷ fs) ≤ DEPTH
after_short (frame b f) fs h = let n = h.0.nests in omega (arith, n)

pub shallow_of : (s : ReadState) → StateFits DEPTH true s → IsShallow s
shallow_of (done t) h = tt
shallow_of (inside first fs) h = frames_short DEPTH true fs h
shallow_of (inside next fs) h = frames_short DEPTH true fs h
shallow_of (inside behind []) h = omega arith
shallow_of (inside behind (f ∷ fs)) h = after_short f fs h

pub shallow : (bytes : List ℕ) (at : ℕ) (s : ReadState) → ReadTo bytes at s → IsShallow s
shallow bytes at s r = shallow_of s (run_fits DEPTH true read_start (tokens_of r.tokens) s tt r.led)

-- a token is refused
refused_there : (bytes : List ℕ) (xs ys : List TokenSpan) (x : TokenSpan) (s : ReadState) (k : FaultKind) → length bytes ≤ LENGTH → Tokens bytes (xs ++ x ∷ ys) → run DEPTH true read_start (tokens_of xs) ≡ Ok s → step DEPTH true s x.token ≡ Err k → IsRefusedAt bytes k x.from
refused_there bytes xs ys x s k short are led e =
    let stops : read DEPTH true (tokens_of (xs ++ x ∷ ys)) ≡ Err (k, tokens_of (x ∷ ys)) =
    ap (read DEPTH true) (joined_tokens xs (x ∷ ys)) ∙ ap end_reading (run_append DEPTH true read_start (tokens_of xs) (tokens_of (x ∷ ys)) s led ∙ ap (λ q. after_step q (λ w. run DEPTH true w (tokens_of ys)) (tokens_of (x ∷ ys))) e) in
    record { short = short; front = xs; rest = x ∷ ys; are = are; first = refused DEPTH (tokens_of (xs ++ x ∷ ys)) (k, tokens_of (x ∷ ys)) stops; offset = refl }

pub refused_token : (bytes : List ℕ) (at : ℕ) (v : Token) (s : ReadState) (k : FaultKind) → length bytes ≤ LENGTH → ReadTo bytes at s → (t : StandsAt bytes at v) → step DEPTH true s t.spanned.token ≡ Err k → IsRefusedAt bytes k v.from
refused_token bytes at v s k short r t e =
    let later = all_tokens v.to (drop v.to bytes) in
    subst (IsRefusedAt bytes k) (sym t.from)
    (refused_there bytes r.tokens later.0 t.spanned s k short (r.so_far (t.spanned ∷ later.0) (after_first bytes at v t later.0 later.1)) r.led e)

bad_refused : (s : ReadState) → step DEPTH true s bad ≡ Err misplaced
bad_refused (done t) = refl
bad_refused (inside first fs) = refl
bad_refused (inside next fs) = refl
bad_refused (inside behind fs) = refl

pub refused_bytes : (bytes : List ℕ) (at from : ℕ) (s : ReadState) → length bytes ≤ LENGTH → ReadTo bytes at s → HasNoTokenAt bytes at from → IsRefusedAt bytes misplaced from
refused_bytes bytes at from s short r b =
    refused_there bytes r.tokens [] (last_bad bytes from) s misplaced short (r.so_far (last_bad bytes from ∷ []) (bad_there bytes at from b)) r.led (bad_refused s)

pub answers_refused : (bytes : List ℕ) (at : ℕ) (v : Token) (s : ReadState) (f : TextFault) → length bytes ≤ LENGTH → ReadTo bytes at s → (t : StandsAt bytes at v) → IsStepFaultOf f v.from (step DEPTH true s t.spanned.token) → IsTextRefusal bytes f
answers_refused bytes at v s TooLong short r t h = absurd h
answers_refused bytes at v s (NoToken from) short r t h = subst (IsRefusedAt bytes misplaced) (sym h.0) (refused_token bytes at v s misplaced short r t h.1)
answers_refused bytes at v s (TooDeep from) short r t h = subst (IsRefusedAt bytes too_deep) (sym h.0) (refused_token bytes at v s too_deep short r t h.1)
answers_refused bytes at v s (TooLarge from) short r t h = subst (IsRefusedAt bytes too_large) (sym h.0) (refused_token bytes at v s too_large short r t h.1)
answers_refused bytes at v s OutOfMemory short r t h = tt

-- the text ends
beginning : (bytes : List ℕ) (at : ℕ) (s : ReadState) (f : TextFault) → length bytes ≤ LENGTH → ReadTo bytes at s → IsEnd bytes at → IsBeginning f (length bytes) (end_reading (Ok s)) → IsTextRefusal bytes f
beginning bytes at s TooLong short to e h = absurd h
beginning bytes at s (NoToken end) short to e h =
    let xs = to.tokens in
    let all : Tokens bytes (xs ++ []) = subst (Tokens bytes) (sym (append-nil xs)) (whole bytes at xs to.so_far e) in
    let stops : read DEPTH true (tokens_of (xs ++ [])) ≡ Err (misplaced, []) = ap (λ ys. read DEPTH true (tokens_of ys)) (append-nil xs) ∙ ap end_reading to.led ∙ h.1 in
    record { short = short; front = xs; rest = []; are = all; first = refused DEPTH (tokens_of (xs ++ [])) (misplaced, []) stops; offset = h.0 }
beginning bytes at s (TooDeep end) short to e h = absurd h
beginning bytes at s (TooLarge end) short to e h = absurd h
beginning bytes at s OutOfMemory short to e h = absurd h

pub answers_ended : {A : Type 0} (bytes : List ℕ) (at : ℕ) (s : ReadState) (r : Result (Term A) TextFault) → length bytes ≤ LENGTH → ReadTo bytes at s → IsEnd bytes at → Finishes r (length bytes) (end_reading (Ok s)) → IsTermRead bytes r
answers_ended bytes at s (Ok t) short to e h =
    let g = found DEPTH (tokens_of to.tokens) (tree_of t) (ap end_reading to.led ∙ h) in
    record { short = short; tokens = to.tokens; are = whole bytes at to.tokens to.so_far e; derives = g.0; fits = g.1 }
answers_ended bytes at s (Err f) short to e h = beginning bytes at s f short to e h
