-- Tokens by their kinds, and where they stand in a text.
use Rattle.std.proofs.Common.{◌≡◌, ◌≢◌, ℕ, ℤ, ◌+◌, ◌-◌, ◌≤◌, List, [], ◌∷◌, length, take, drop, true, false, Result, refl, ap, sym, ◌∙◌, subst, arith}
use Rattle.std.proofs.lemmas.Bool.{and_parts, and_from}
use Rattle.std.proofs.lemmas.Bool.Decides.{nat_tests}
use Rattle.std.proofs.lemmas.List.{drop-drop, take_at}
use Rattle.def_term.specs.Tree as tree
use Rattle.def_term.specs.Tree.{int, atom, list}
use Rattle.def_term.specs.Text.{is_lower, is_name, is_name_byte, are_name_bytes}
use Rattle.def_text.specs.Tokens as text
use Rattle.def_text.specs.Tokens.{open_brace, close_brace, open_bracket, close_bracket, comma, stop, integer, characters, pid, bad, gap_len, all_are, is_printable, IsInteger, IsPid, IsBare, IsQuoted, IsToken, Stands}
use Rattle.def_text.specs.Grammar.{of_codes}
use Rattle.def_text.specs.Scan.{IsTokenOf}
use Rattle.def_text.specs.Reading.{OpenFrame, inside, next, leaf_at, step}
use Rattle.def_text.specs.Faults.{FaultKind}
use Rattle.tn_text.specs.declared.lexer.Token.{Token}
use Rattle.tn_text.specs.declared.stack.Progress.{Progress}
use Rattle.tn_text.specs.declared.stack.StepError.{StepError}
use Rattle.tn_text.specs.declared.stack.StepError.TheVariants.{OutOfMemory, Misplaced, TooDeep, TooLarge}
use Rattle.tn_text.specs.declared.fault.TextFault.{TextFault}
use Rattle.tn_text.specs.Kinds.{kind_of}
use Rattle.tn_text.specs.Lexer.{StandsAt}
use Rattle.tn_text.specs.Stack.{read_state_of, StepsReading, IsErrorOf, IsStepFaultOf, text_fault_of}

lower_printable : (b : ℕ) → is_lower b ≡ true → is_printable b ≡ true
lower_printable b h = grind (arith, nat_tests)

name_byte_printable : (b : ℕ) → is_name_byte b ≡ true → is_printable b ≡ true
name_byte_printable b h = grind (arith, nat_tests)

names_printable : (s : List ℕ) → are_name_bytes s ≡ true → all_are is_printable s ≡ true
names_printable [] h = refl
names_printable (b ∷ s) h = let p = and_parts (is_name_byte b) (are_name_bytes s) h in and_from (is_printable b) (all_are is_printable s) (name_byte_printable b p.0) (names_printable s p.1)

bare_printable : (s : List ℕ) → is_name s ≡ true → all_are is_printable s ≡ true
bare_printable [] h = absurd (cc)
bare_printable (b ∷ s) h = let p = and_parts (is_lower b) (are_name_bytes s) h in and_from (is_printable b) (all_are is_printable s) (lower_printable b p.0) (names_printable s p.1)

pub enters_bare : {A : Type 0} (r : Result (Progress A) StepError) (u rest s : List ℕ) (t : text.Token) (fs : List OpenFrame)
    → (all_are is_printable u ≡ true → StepsReading r (leaf_at 32 true (atom u) fs)) → t ≡ text.atom s → IsBare u rest s → StepsReading r (step 32 true (inside next fs) t)
enters_bare r u rest s t fs h e b =
    subst (λ x. StepsReading r (step 32 true (inside next fs) x)) (sym e)
    (subst (λ x. StepsReading r (leaf_at 32 true (atom x) fs)) b.text (h (subst (λ x. all_are is_printable x ≡ true) (sym b.text) (bare_printable s b.name))))

pub enters_quoted : {A : Type 0} (r : Result (Progress A) StepError) (u s : List ℕ) (t : text.Token) (fs : List OpenFrame)
    → ((s : List ℕ) → IsQuoted 39 u s → StepsReading r (leaf_at 32 true (atom s) fs)) → t ≡ text.atom s → IsQuoted 39 u s → StepsReading r (step 32 true (inside next fs) t)
enters_quoted r u s t fs h e q = subst (λ x. StepsReading r (step 32 true (inside next fs) x)) (sym e) (h s q)

pub enters_as : {A : Type 0} (r : Result (Progress A) StepError) (t x : text.Token) (fs : List OpenFrame) → t ≡ x → StepsReading r (step 32 true (inside next fs) x) → StepsReading r (step 32 true (inside next fs) t)
enters_as r t x fs e h = subst (λ y. StepsReading r (step 32 true (inside next fs) y)) (sym e) h

pub enters_integer : {A : Type 0} (r : Result (Progress A) StepError) (u rest : List ℕ) (n : ℤ) (t : text.Token) (fs : List OpenFrame)
    → ((rest : List ℕ) (n : ℤ) → IsInteger u rest n → StepsReading r (leaf_at 32 true (int n) fs)) → t ≡ integer n → IsToken u rest t → StepsReading r (step 32 true (inside next fs) t)
enters_integer r u rest n t fs h e is = enters_as r t (integer n) fs e (h rest n (subst (λ x. IsToken u rest x) e is))

pub enters_pid : {A : Type 0} (r : Result (Progress A) StepError) (u rest : List ℕ) (n : ℕ) (t : text.Token) (fs : List OpenFrame)
    → ((ds : List ℕ) (n : ℕ) → IsPid u ds n → StepsReading r (leaf_at 32 true (tree.pid n) fs)) → t ≡ pid n → IsToken u rest t → StepsReading r (step 32 true (inside next fs) t)
enters_pid r u rest n t fs h e is = let p = subst (λ x. IsToken u rest x) e is in enters_as r t (pid n) fs e (h p.0 n p.1)

pub enters_string : {A : Type 0} (r : Result (Progress A) StepError) (u rest s : List ℕ) (t : text.Token) (fs : List OpenFrame)
    → ((s : List ℕ) → IsQuoted 34 u s → StepsReading r (leaf_at 32 true (list (of_codes s)) fs)) → t ≡ characters s → IsToken u rest t → StepsReading r (step 32 true (inside next fs) t)
enters_string r u rest s t fs h e is = enters_as r t (characters s) fs e (h s (subst (λ x. IsToken u rest x) e is))

pub goes_as : {A : Type 0} (r : Result (Progress A) StepError) (p q : Progress A) (t x : text.Token) → p ≡ q → t ≡ x → StepsReading r (step 32 true (read_state_of q) x) → StepsReading r (step 32 true (read_state_of p) t)
goes_as r p q t x e f h = subst (λ y. StepsReading r (step 32 true (read_state_of y) t)) (sym e) (subst (λ y. StepsReading r (step 32 true (read_state_of q) y)) (sym f) h)

good_token : (t : text.Token) (u rest : List ℕ) → Stands u rest t → (t ≢ bad) → IsToken u rest t
good_token bad u rest h g = absurd (g refl)
good_token open_brace u rest h g = h
good_token close_brace u rest h g = h
good_token open_bracket u rest h g = h
good_token close_bracket u rest h g = h
good_token comma u rest h g = h
good_token stop u rest h g = h
good_token (integer n) u rest h g = h
good_token (text.atom s) u rest h g = h
good_token (characters s) u rest h g = h
good_token (pid n) u rest h g = h

-- the bytes of the token
pub span_is : (bytes : List ℕ) (at : ℕ) (v : Token) (s : StandsAt bytes at v) → take (v.to - v.from) (drop v.from bytes) ≡ s.token
span_is bytes at v s =
    let gap = gap_len false (drop at bytes) in
    let from : v.from ≡ at + gap = s.from ∙ s.next.from in
    let to : v.to ≡ s.spanned.from + length s.token = s.to ∙ s.next.to in
    let long : length s.token ≡ v.to - v.from = let a = s.from in omega (arith, a, to) in
    ap (λ x. take (v.to - v.from) x) (ap (λ n. drop n bytes) from ∙ sym (drop-drop gap at bytes) ∙ s.next.split) ∙ take_at s.token (drop v.to bytes) (v.to - v.from) long

pub span_token : (bytes : List ℕ) (at : ℕ) (v : Token) (s : StandsAt bytes at v) → IsToken (take (v.to - v.from) (drop v.from bytes)) (drop v.to bytes) s.spanned.token
span_token bytes at v s = subst (λ u. IsToken u (drop v.to bytes) s.spanned.token) (sym (span_is bytes at v s)) (good_token s.spanned.token s.token (drop v.to bytes) s.next.stands s.good)

pub span_kind : (bytes : List ℕ) (at : ℕ) (v : Token) (s : StandsAt bytes at v) → IsTokenOf (kind_of v.kind) (take (v.to - v.from) (drop v.from bytes)) (drop v.to bytes) s.spanned.token
span_kind bytes at v s = subst (λ u. IsTokenOf (kind_of v.kind) u (drop v.to bytes) s.spanned.token) (sym (span_is bytes at v s)) s.kind

pub span_ordered : (bytes : List ℕ) (at : ℕ) (v : Token) (s : StandsAt bytes at v) → v.from ≤ v.to
span_ordered bytes at v s = let a = s.from in let b = s.to in let d = s.next.to in omega (arith, a, b, d)

pub refused_at : {S : Type 0} (e : StepError) (f : TextFault) (from : ℕ) (r : Result S FaultKind) → f ≡ text_fault_of e from → IsErrorOf e r → IsStepFaultOf f from r
refused_at OutOfMemory f from r is h = subst (λ x. IsStepFaultOf x from r) (sym is) tt
refused_at Misplaced f from r is h = subst (λ x. IsStepFaultOf x from r) (sym is) (refl, h)
refused_at TooDeep f from r is h = subst (λ x. IsStepFaultOf x from r) (sym is) (refl, h)
refused_at TooLarge f from r is h = subst (λ x. IsStepFaultOf x from r) (sym is) (refl, h)
