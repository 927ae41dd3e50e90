-- A text that is read up to a line.
use Rattle.std.proofs.Common.{◌≡◌, ◌∙◌, ℕ, ◌+◌, ◌==◌, Bool, true, false, List, [], ◌∷◌, ◌++◌, length, map, Result, Ok, Err, refl, ap, sym, subst, arith, append_assoc, append-nil, length-append}
use Rattle.std.proofs.lemmas.List.{map-append}
use Rattle.std.specs.List.{AllZip}
use Rattle.std.proofs.lemmas.List.Elements.{filter-append}
use Rattle.def_term.specs.Tree.{Tree}
use Rattle.def_text.specs.Spelling.{Spells}
use Rattle.tn_term.specs.declared.term.Term.{Term}
use Rattle.tn_term.specs.Views.{tree_of}
use Rattle.def_trace_text.specs.Lines.{trace_text_lines, is_passed_over}
use Rattle.def_trace_text.specs.DbgLines.{with_further, whole_line, is_inside_after, whole_lines, whole_text_lines}
use Rattle.def_trace_text.proofs.TextLines.{no_bytes}
use Rattle.def_trace_text.proofs.WholeLines.{passed_alike}
use Rattle.def_trace_text.proofs.MessageLines.{passed_more, message_more}
use Rattle.def_trace_text.specs.TraceTexts.{IsTraceLine, lines_with_messages, LinesSpell, SpellsTrace, LineFault, no_message, HasFault, IsTraceRefusal}
use Rattle.tn_text.specs.declared.fault.TextFault.{TextFault}
use Rattle.tn_text.specs.declared.fault.TextFault.TheVariants as faults
use Rattle.tn_text.specs.Answers.{IsTextRefusal}
use Rattle.tn_trace_text.specs.Faults.{term_fault_at}
use Rattle.tn_trace_text.specs.Readings.{IsTextFault, IsMessageOfLine, IsTextRead, AddsLine, IsContentFault, IsTraceFault}
use Rattle.tn_trace_text.specs.declared.fault.TraceFault.{TraceFault}
use Rattle.tn_trace_text.specs.declared.fault.TraceFault.TheVariants.{NoTerm, NoMessage, OutOfMemory}

-- so many lines are read, these are their messages, and this is the rest of the text, where a message may go on or not
pub record ReadTo (text rest : List ℕ) (inside : Bool) (n : ℕ) (ts : List Tree) : Type 0 where
  pub done : List (List ℕ)
  pub split : whole_text_lines text ≡ done ++ whole_lines inside (trace_text_lines rest)
  pub count : length done ≡ n
  pub spelled : LinesSpell done ts

zip_both : (xs ys : List (List ℕ)) (ts us : List Tree) → AllZip IsTraceLine xs ts → AllZip IsTraceLine ys us → AllZip IsTraceLine (xs ++ ys) (ts ++ us)
zip_both [] ys [] us h g = g
zip_both [] ys (t ∷ ts) us h g = absurd h
zip_both (x ∷ xs) ys [] us h g = absurd h
zip_both (x ∷ xs) ys (t ∷ ts) us h g = (h.0, zip_both xs ys ts us h.1 g)

both_spell : (xs ys : List (List ℕ)) (ts us : List Tree) → LinesSpell xs ts → LinesSpell ys us → LinesSpell (xs ++ ys) (ts ++ us)
both_spell xs ys ts us h g = subst (λ lines. AllZip IsTraceLine lines (ts ++ us)) (sym (filter-append _ xs ys)) (zip_both (lines_with_messages xs) (lines_with_messages ys) ts us h g)

pub read_start : (text : List ℕ) → ReadTo text text false 0 []
read_start text = record { done = []; split = refl; count = refl; spelled = tt }

-- the whole line of the first line, and the others
cut_whole : (inside : Bool) (rest line after : List ℕ) → trace_text_lines rest ≡ line ∷ trace_text_lines after
    → whole_lines inside (trace_text_lines rest) ≡ whole_line inside line (trace_text_lines after) ∷ whole_lines (is_inside_after inside line) (trace_text_lines after)
cut_whole inside rest line after cut = ap (whole_lines inside) cut

-- one line more
pub read_more :
    {A : Type 0} (text rest line after : List ℕ) (inside : Bool) (n : ℕ) (old new : List (Term A)) → ReadTo text rest inside n (map tree_of old) → trace_text_lines rest ≡ line ∷ trace_text_lines after
    → AddsLine (whole_line inside line (trace_text_lines after)) old new → ReadTo text after (is_inside_after inside line) (n + 1) (map tree_of new)
read_more text rest line after inside n old new r cut a =
    let whole = whole_line inside line (trace_text_lines after) in
    let others = whole_lines (is_inside_after inside line) (trace_text_lines after) in
    record {
      done = r.done ++ whole ∷ [];
      split = r.split ∙ ap (λ ls. r.done ++ ls) (cut_whole inside rest line after cut) ∙ sym (append_assoc r.done (whole ∷ []) others);
      count = let count = r.count in omega (arith, count, length-append r.done (whole ∷ []));
      spelled = subst (λ ts. LinesSpell (r.done ++ whole ∷ []) ts) (sym a.added) (both_spell r.done (whole ∷ []) (map tree_of old) a.message r.spelled a.spelled);
    }

-- no line is left
pub read_end : (text rest : List ℕ) (inside : Bool) (n : ℕ) (ts : List Tree) → (length rest == 0) ≡ true → ReadTo text rest inside n ts → SpellsTrace text ts
read_end text rest inside n ts e r = subst (λ lines. LinesSpell lines ts) (sym (r.split ∙ ap (λ s. r.done ++ whole_lines inside (trace_text_lines s)) (no_bytes rest e) ∙ append-nil r.done)) r.spelled

-- the fault of a line is that of the text
refused_there :
    (text rest line after : List ℕ) (inside : Bool) (n : ℕ) (ts : List Tree) (f : LineFault) → ReadTo text rest inside n ts → trace_text_lines rest ≡ line ∷ trace_text_lines after
    → is_passed_over (whole_line inside line (trace_text_lines after)) ≡ false → HasFault (whole_line inside line (trace_text_lines after)) f → IsTraceRefusal text (record { line = n + 1; fault = f })
refused_there text rest line after inside n ts f r cut content fault = record {
  before = r.done;
  line = whole_line inside line (trace_text_lines after);
  after = whole_lines (is_inside_after inside line) (trace_text_lines after);
  split = r.split ∙ ap (λ ls. r.done ++ ls) (cut_whole inside rest line after cut);
  messages = ts;
  spelled = r.spelled;
  number = ap (λ m. m + 1) (sym r.count);
  content = content;
  fault = fault;
}

at_number : (text : List ℕ) (m n : ℕ) (f : LineFault) → m ≡ n → IsTraceRefusal text (record { line = n; fault = f }) → IsTraceRefusal text (record { line = m; fault = f })
at_number text m n f e h = subst (λ k. IsTraceRefusal text (record { line = k; fault = f })) (sym e) h

pub read_refused :
    (text rest line after : List ℕ) (inside : Bool) (n : ℕ) (ts : List Tree) (f : TraceFault) → ReadTo text rest inside n ts → trace_text_lines rest ≡ line ∷ trace_text_lines after
    → IsContentFault (whole_line inside line (trace_text_lines after)) (n + 1) f → IsTraceFault text f
read_refused text rest line after inside n ts (NoTerm m faults.TooLong) r cut (content, (is, fault)) = at_number text m (n + 1) _ is (refused_there text rest line after inside n ts _ r cut content fault)
read_refused text rest line after inside n ts (NoTerm m (faults.Token at)) r cut (content, (is, fault)) = at_number text m (n + 1) _ is (refused_there text rest line after inside n ts _ r cut content fault)
read_refused text rest line after inside n ts (NoTerm m (faults.TooDeep at)) r cut (content, (is, fault)) = at_number text m (n + 1) _ is (refused_there text rest line after inside n ts _ r cut content fault)
read_refused text rest line after inside n ts (NoTerm m (faults.TooLarge at)) r cut (content, (is, fault)) = at_number text m (n + 1) _ is (refused_there text rest line after inside n ts _ r cut content fault)
read_refused text rest line after inside n ts (NoTerm m faults.OutOfMemory) r cut (content, (is, fault)) = absurd fault
read_refused text rest line after inside n ts (NoMessage m) r cut (content, (is, fault)) = at_number text m (n + 1) no_message is (refused_there text rest line after inside n ts no_message r cut content fault)
read_refused text rest line after inside n ts OutOfMemory r cut h = tt

-- ---- one line

pub add_none : {A : Type 0} (line : List ℕ) (terms : List (Term A)) → is_passed_over line ≡ true → AddsLine line terms terms
add_none line terms e = record { message = []; spelled = passed_more line [] [] e tt; added = sym (append-nil (map tree_of terms)) }

pub add_one : {A : Type 0} (line : List ℕ) (t : Term A) (old new : List (Term A)) → is_passed_over line ≡ false → IsTraceLine line (tree_of t) → new ≡ old ++ t ∷ [] → AddsLine line old new
add_one line t old new e s is = record { message = tree_of t ∷ []; spelled = message_more line [] (tree_of t) [] e s tt; added = ap (λ ts. map tree_of ts) is ∙ map-append tree_of old (t ∷ []) }

-- of a line with those that go on with it
pub add_further_one :
    {A : Type 0} (line : List ℕ) (next : List (List ℕ)) (t : Term A) (old new : List (Term A)) → is_passed_over line ≡ false → IsTraceLine (with_further line next) (tree_of t) → new ≡ old ++ t ∷ [] → AddsLine (with_further line next) old new
add_further_one line next t old new e s is = add_one (with_further line next) t old new (passed_alike line next ∙ e) s is

-- the refusal of a text is its fault
pub text_fault : (text : List ℕ) (n : ℕ) (fault : TextFault) → IsTextRefusal text fault → IsTextFault text n (term_fault_at n fault)
text_fault text n faults.TooLong h = (refl, h)
text_fault text n (faults.Token at) h = (refl, h)
text_fault text n (faults.TooDeep at) h = (refl, h)
text_fault text n (faults.TooLarge at) h = (refl, h)
text_fault text n faults.OutOfMemory h = tt

-- what the term of a text is, is read of the text
pub message_text_read : {A : Type 0} (text : List ℕ) (u : Tree) (n : ℕ) (r : Result (Term A) TraceFault) → Spells text u → IsMessageOfLine u n r → IsTextRead text n r
message_text_read text u n (Ok t) s h = record { term = u; spelled = s; is_message = h.0; value = h.1 }
message_text_read text u n (Err (NoTerm m fault)) s h = absurd h
message_text_read text u n (Err (NoMessage m)) s h = (h.0, (u, s, h.1))
message_text_read text u n (Err OutOfMemory) s h = tt
