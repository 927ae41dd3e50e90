-- A text spells messages or is refused, in one way.
use Rattle.std.proofs.Common.{◌≡◌, ◌∙◌, ◌⊎◌, inl, inr, ℕ, suc, ◌+◌, ◌<◌, ◌≤◌, Bool, true, false, List, [], ◌∷◌, ◌++◌, length, refl, ap, sym, subst, arith}
use Rattle.std.proofs.lemmas.Bool.{cases_lt}
use Rattle.def_term.specs.Tree.{Tree}
use Rattle.def_text.specs.Faults.{FaultKind}
use Rattle.def_text.specs.Spelling.{LENGTH, Spells, IsRefusedAt}
use Rattle.def_text.proofs.One.{one, refused}
use Rattle.def_text.proofs.Either.{once, either}
use Rattle.def_trace_text.specs.Lines.{is_passed_over}
use Rattle.def_trace_text.specs.DbgLines.{whole_text_lines}
use Rattle.def_trace_text.specs.ErrorMaps.{trace_message_text}
use Rattle.def_trace_text.specs.Messages.{is_trace_message}
use Rattle.def_trace_text.specs.StackTraces.{without_stacks}
use Rattle.def_trace_text.specs.TraceTexts.{IsTraceLine, LinesSpell, SpellsTrace, LineFault, too_long, no_term, no_message, HasFault, TraceRefusal, LinesHaveFault, IsTraceRefusal}
use Rattle.def_trace_text.proofs.MessageLines.{passed, passed_more, read_first, message_more}

-- ---- one line

-- a line that spells a message has no fault
fault_refuses : (line : List ℕ) (t : Tree) (f : LineFault) → IsTraceLine line t → HasFault line f → ⊥
fault_refuses line t too_long s h = let short = s.spelled.short in omega (arith, short, h)
fault_refuses line t (no_term kind at) s h = refused (trace_message_text line) s.term kind at s.spelled h
fault_refuses line t no_message s (u, spelled, is) =
    let same : s.term ≡ u = one (trace_message_text line) s.term u s.spelled spelled in
    let yes : is_trace_message u ≡ true = subst (λ x. is_trace_message x ≡ true) same s.is_message in
    cc

same_kind : (line : List ℕ) (kind other : FaultKind) (at there : ℕ) → HasFault line (no_term kind at) → HasFault line (no_term other there) → no_term kind at ≡ no_term other there
same_kind line kind other at there h g =
    let is = once (trace_message_text line) kind other at there h g in
    ap (λ k. no_term k at) is.0 ∙ ap (λ n. no_term other n) is.1

-- a line has one fault
same_fault : (line : List ℕ) (f g : LineFault) → HasFault line f → HasFault line g → f ≡ g
same_fault line too_long too_long h k = refl
same_fault line too_long (no_term kind at) h k = let short = k.short in absurd (omega (arith, short, h))
same_fault line too_long no_message h (u, spelled, is) = let short = spelled.short in absurd (omega (arith, short, h))
same_fault line (no_term kind at) too_long h k = let short = h.short in absurd (omega (arith, short, k))
same_fault line (no_term kind at) (no_term other there) h k = same_kind line kind other at there h k
same_fault line (no_term kind at) no_message h (u, spelled, is) = absurd (refused (trace_message_text line) u kind at spelled h)
same_fault line no_message too_long (u, spelled, is) k = let short = spelled.short in absurd (omega (arith, short, k))
same_fault line no_message (no_term kind at) (u, spelled, is) k = absurd (refused (trace_message_text line) u kind at spelled k)
same_fault line no_message no_message h k = refl

-- ---- lines

-- what the lines after the first spell
after_first : (b : Bool) (x : List ℕ) (lines : List (List ℕ)) (ts : List Tree) → is_passed_over x ≡ b → LinesSpell (x ∷ lines) ts → (us : List Tree) × LinesSpell lines us
after_first true x lines ts e h = (ts, passed x lines ts e h)
after_first false x lines ts e h = let r = read_first x lines ts e h in (r.others, r.rest)

others_spell : (x : List ℕ) (lines : List (List ℕ)) (ts : List Tree) → LinesSpell (x ∷ lines) ts → (us : List Tree) × LinesSpell lines us
others_spell x lines ts h = after_first (is_passed_over x) x lines ts refl h

-- a line among those that spell messages spells one
among : (before : List (List ℕ)) (line : List ℕ) (after : List (List ℕ)) (ts : List Tree) → LinesSpell (before ++ line ∷ after) ts → is_passed_over line ≡ false → (t : Tree) × IsTraceLine line t
among [] line after ts h e = let r = read_first line after ts e h in (r.message, r.spelled)
among (x ∷ before) line after ts h e = let (us, g) = others_spell x (before ++ line ∷ after) ts h in among before line after us g e

pub not_both : (text : List ℕ) (ts : List Tree) (r : TraceRefusal) → SpellsTrace text ts → IsTraceRefusal text r → ⊥
not_both text ts r s h =
    let (t, spelled) = among h.before h.line h.after ts (subst (λ lines. LinesSpell lines ts) h.split s) h.content in
    fault_refuses h.line t r.fault spelled h.fault

-- ---- one refusal

-- a line that isn't passed over and has a fault is not the first of lines that spell messages
not_first : (line : List ℕ) (f : LineFault) (lines : List (List ℕ)) (ts : List Tree) → is_passed_over line ≡ false → HasFault line f → LinesSpell (line ∷ lines) ts → ⊥
not_first line f lines ts e h s = let r = read_first line lines ts e s in fault_refuses line r.message f r.spelled h

first_of_cons : (x y : List ℕ) (xs ys : List (List ℕ)) → x ∷ xs ≡ y ∷ ys → x ≡ y
first_of_cons x y xs ys e = cc

others_of_cons : (x y : List ℕ) (xs ys : List (List ℕ)) → x ∷ xs ≡ y ∷ ys → xs ≡ ys
others_of_cons x y xs ys e = cc

same_place :
    (before front : List (List ℕ)) (line other : List ℕ) (after rest : List (List ℕ)) (ts us : List Tree) (f g : LineFault) → before ++ line ∷ after ≡ front ++ other ∷ rest → LinesSpell before ts → LinesSpell front us
    → is_passed_over line ≡ false → is_passed_over other ≡ false → HasFault line f → HasFault other g → (length before ≡ length front) × (line ≡ other)
same_place [] [] line other after rest ts us f g is s r p q h k = (refl, first_of_cons line other after rest is)
same_place [] (y ∷ front) line other after rest ts us f g is s r p q h k =
    let first = first_of_cons line y after (front ++ other ∷ rest) is in
    absurd (not_first line f front us p h (subst (λ x. LinesSpell (x ∷ front) us) (sym first) r))
same_place (x ∷ before) [] line other after rest ts us f g is s r p q h k =
    let first = first_of_cons x other (before ++ line ∷ after) rest is in
    absurd (not_first other g before ts q k (subst (λ y. LinesSpell (y ∷ before) ts) first s))
same_place (x ∷ before) (y ∷ front) line other after rest ts us f g is s r p q h k =
    let (ts', s') = others_spell x before ts s in
    let (us', r') = others_spell y front us r in
    let others = others_of_cons x y (before ++ line ∷ after) (front ++ other ∷ rest) is in
    let there = same_place before front line other after rest ts' us' f g others s' r' p q h k in
    (ap (λ n. suc n) there.0, there.1)

abbrev refusal_of : ℕ → LineFault → TraceRefusal
refusal_of n f = record { line = n; fault = f }

pub one_refusal : (text : List ℕ) (r s : TraceRefusal) → IsTraceRefusal text r → IsTraceRefusal text s → r ≡ s
one_refusal text r s h k =
    let (place, line) = same_place h.before k.before h.line k.line h.after k.after h.messages k.messages r.fault s.fault (sym h.split ∙ k.split) h.spelled k.spelled h.content k.content h.fault k.fault in
    let number : r.line ≡ s.line = h.number ∙ ap (λ n. n + 1) place ∙ sym k.number in
    let fault = same_fault k.line r.fault s.fault (subst (λ l. HasFault l r.fault) line h.fault) k.fault in
    ap (λ n. refusal_of n r.fault) number ∙ ap (λ f. refusal_of s.line f) fault

-- ---- messages or a refusal

-- a text of a term spells one or has a fault
term_or_fault : (line : List ℕ) → ((t : Tree) × Spells (trace_message_text line) t) ⊎ ((f : LineFault) × HasFault line f)
term_or_fault line = by_length line (cases_lt LENGTH (length (trace_message_text line)))
  where
    refused_kind : ((t : Tree) × Spells (trace_message_text line) t) ⊎ ((kind : FaultKind) × (at : ℕ) × IsRefusedAt (trace_message_text line) kind at) → ((t : Tree) × Spells (trace_message_text line) t) ⊎ ((f : LineFault) × HasFault line f)
    refused_kind (inl s) = inl s
    refused_kind (inr (kind, at, h)) = inr (no_term kind at, h)

    by_length : (l : List ℕ) → (LENGTH < length (trace_message_text line)) ⊎ (length (trace_message_text line) ≤ LENGTH) → ((t : Tree) × Spells (trace_message_text line) t) ⊎ ((f : LineFault) × HasFault line f)
    by_length l (inl long) = inr (too_long, long)
    by_length l (inr short) = refused_kind (either (trace_message_text line) short)

by_message : (b : Bool) (line : List ℕ) (t : Tree) → is_trace_message t ≡ b → Spells (trace_message_text line) t → ((t : Tree) × IsTraceLine line t) ⊎ ((f : LineFault) × HasFault line f)
by_message true line t e s = inl (without_stacks t, record { term = t; spelled = s; is_message = e; value = refl })
by_message false line t e s = inr (no_message, (t, s, e))

-- a line spells a message or has a fault
message_or_fault : (line : List ℕ) → ((t : Tree) × IsTraceLine line t) ⊎ ((f : LineFault) × HasFault line f)
message_or_fault line = by_term (term_or_fault line)
  where
    by_term : ((t : Tree) × Spells (trace_message_text line) t) ⊎ ((f : LineFault) × HasFault line f) → ((t : Tree) × IsTraceLine line t) ⊎ ((f : LineFault) × HasFault line f)
    by_term (inl (t, s)) = by_message (is_trace_message t) line t refl s
    by_term (inr h) = inr h

abbrev Answer : List (List ℕ) → Type 0
Answer lines = ((ts : List Tree) × LinesSpell lines ts) ⊎ ((r : TraceRefusal) × LinesHaveFault lines r)

-- one line more before those that are refused
later : (line : List ℕ) (lines : List (List ℕ)) (r : TraceRefusal) (h : LinesHaveFault lines r) (ts : List Tree) → LinesSpell (line ∷ h.before) ts → LinesHaveFault (line ∷ lines) (refusal_of (r.line + 1) r.fault)
later line lines r h ts s = let number = h.number in record {
  before = line ∷ h.before;
  line = h.line;
  after = h.after;
  split = ap (λ ls. line ∷ ls) h.split;
  messages = ts;
  spelled = s;
  number = omega (arith, number);
  content = h.content;
  fault = h.fault;
}

over : (line : List ℕ) (lines : List (List ℕ)) → is_passed_over line ≡ true → Answer lines → Answer (line ∷ lines)
over line lines e (inl (ts, s)) = inl (ts, passed_more line lines ts e s)
over line lines e (inr (r, h)) = inr (refusal_of (r.line + 1) r.fault, later line lines r h h.messages (passed_more line h.before h.messages e h.spelled))

with_message : (line : List ℕ) (lines : List (List ℕ)) (t : Tree) → is_passed_over line ≡ false → IsTraceLine line t → Answer lines → Answer (line ∷ lines)
with_message line lines t e m (inl (ts, s)) = inl (t ∷ ts, message_more line lines t ts e m s)
with_message line lines t e m (inr (r, h)) = inr (refusal_of (r.line + 1) r.fault, later line lines r h (t ∷ h.messages) (message_more line h.before t h.messages e m h.spelled))

content : (line : List ℕ) (lines : List (List ℕ)) → is_passed_over line ≡ false → ((t : Tree) × IsTraceLine line t) ⊎ ((f : LineFault) × HasFault line f) → Answer lines → Answer (line ∷ lines)
content line lines e (inl (t, m)) a = with_message line lines t e m a
content line lines e (inr (f, h)) a = inr (refusal_of 1 f, record { before = []; line = line; after = lines; split = refl; messages = []; spelled = tt; number = refl; content = e; fault = h })

one_more : (b : Bool) (line : List ℕ) (lines : List (List ℕ)) → is_passed_over line ≡ b → Answer lines → Answer (line ∷ lines)
one_more true line lines e a = over line lines e a
one_more false line lines e a = content line lines e (message_or_fault line) a

answer : (lines : List (List ℕ)) → Answer lines
answer [] = inl ([], tt)
answer (line ∷ lines) = one_more (is_passed_over line) line lines refl (answer lines)

pub trace_or_refusal : (text : List ℕ) → ((ts : List Tree) × SpellsTrace text ts) ⊎ ((r : TraceRefusal) × IsTraceRefusal text r)
trace_or_refusal text = answer (whole_text_lines text)
