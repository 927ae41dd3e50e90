-- Rows: small texts of trace messages, the lines of a text, which lines are passed over, the text of a line's term, which terms are trace messages, and terms without stack traces.
use Rattle.std.proofs.Common.{◌≡◌, pos, [], ◌∷◌, true, false, codes, refl}
use Rattle.std.proofs.Math.Dec.{lit≤}
use Rattle.def_term.specs.Tree.{Tree, int, pid, tuple, list, none, of_elements}
use Rattle.def_term.specs.Names.{word}
use Rattle.std.specs.Fmt.{digits}
use Rattle.def_term.specs.Text.{is_written_bare}
use Rattle.def_text.proofs.Whole.{spells}
use Rattle.def_trace_text.specs.Lines.{trace_text_lines, is_passed_over, term_text}
use Rattle.def_trace_text.specs.Messages.{is_trace_message}
use Rattle.def_trace_text.specs.StackTraces.{without_stacks}
use Rattle.def_trace_text.specs.TraceTexts.{IsTraceLine, SpellsTrace, no_message, IsTraceRefusal}

-- ---- lines

pub no_line : trace_text_lines [] ≡ []
no_line = refl

-- the last line may lack its line feed
pub two_lines : trace_text_lines (codes "a\nb") ≡ codes "a" ∷ codes "b" ∷ []
two_lines = refl

pub two_ended_lines : trace_text_lines (codes "a\r\n\nb\n") ≡ codes "a" ∷ [] ∷ codes "b" ∷ []
two_ended_lines = refl

-- a carriage return within a line ends nothing
pub return_within : trace_text_lines (codes "a\rb\n") ≡ codes "a\rb" ∷ []
return_within = refl

pub blank_line : is_passed_over (codes " \t ") ≡ true
blank_line = refl

pub empty_line : is_passed_over [] ≡ true
empty_line = refl

pub comment_line : is_passed_over (codes "  % {trace,a}") ≡ true
comment_line = refl

pub line_with_comment : is_passed_over (codes "a % b") ≡ false
line_with_comment = refl

-- ---- the text of a term

pub stop_and_blanks : term_text (codes "{a,b}. \t") ≡ codes "{a,b}"
stop_and_blanks = refl

pub blanks_before_stop : term_text (codes "{a,b} .") ≡ codes "{a,b} "
blanks_before_stop = refl

pub no_stop : term_text (codes " {a,b}") ≡ codes " {a,b}"
no_stop = refl

-- one full stop is taken off
pub two_stops : term_text (codes "a..") ≡ codes "a."
two_stops = refl

pub stop_alone : term_text (codes ".") ≡ []
stop_alone = refl

-- ---- trace messages

-- {trace,<0.100.0>,exit,normal}
abbrev exit_message : Tree
exit_message = tuple (of_elements (word "trace" ∷ pid 100 ∷ word "exit" ∷ word "normal" ∷ []))

-- {trace,<0.100.0>,call,{m,f,[1]}}
abbrev call_message : Tree
call_message = tuple (of_elements (word "trace" ∷ pid 100 ∷ word "call" ∷ tuple (of_elements (word "m" ∷ word "f" ∷ list (of_elements (int (pos 1) ∷ [])) ∷ [])) ∷ []))

-- {trace,<0.100.0>}
abbrev no_third : Tree
no_third = tuple (of_elements (word "trace" ∷ pid 100 ∷ []))

pub exit_is : is_trace_message exit_message ≡ true
exit_is = refl

pub two_elements : is_trace_message no_third ≡ false
two_elements = refl

-- {trace_ts,<0.100.0>,a}
pub other_tag : is_trace_message (tuple (of_elements (word "trace_ts" ∷ pid 100 ∷ word "a" ∷ []))) ≡ false
other_tag = refl

-- {trace,100,a}
pub no_pid : is_trace_message (tuple (of_elements (word "trace" ∷ int (pos 100) ∷ word "a" ∷ []))) ≡ false
no_pid = refl

-- [trace,<0.100.0>,a]
pub no_tuple : is_trace_message (list (of_elements (word "trace" ∷ pid 100 ∷ word "a" ∷ []))) ≡ false
no_tuple = refl

-- ---- stack traces

-- {m,f,1,[{line,7}]}
abbrev entry : Tree → Tree
entry a = tuple (of_elements (word "m" ∷ word "f" ∷ a ∷ list (of_elements (tuple (of_elements (word "line" ∷ int (pos 7) ∷ [])) ∷ [])) ∷ []))

-- {badarg,[{m,f,1,[{line,7}]},{m,f,[a],[{line,7}]}]}
pub reason_with_stack : without_stacks (tuple (of_elements (word "badarg" ∷ list (of_elements (entry (int (pos 1)) ∷ entry (list (of_elements (word "a" ∷ []))) ∷ [])) ∷ []))) ≡ tuple (of_elements (word "badarg" ∷ list none ∷ []))
reason_with_stack = refl

-- [{m,f,1,[{line,7}]},a]: not each element is an entry
pub list_with_entry : without_stacks (list (of_elements (entry (int (pos 1)) ∷ word "a" ∷ []))) ≡ list (of_elements (entry (int (pos 1)) ∷ word "a" ∷ []))
list_with_entry = refl

-- [{m,f,a,[{line,7}]}]: the atom is neither an arity nor arguments
pub no_entry : without_stacks (list (of_elements (entry (word "a") ∷ []))) ≡ list (of_elements (entry (word "a") ∷ []))
no_entry = refl

-- [[{m,f,1,[{line,7}]}]]
pub stack_within : without_stacks (list (of_elements (list (of_elements (entry (int (pos 1)) ∷ [])) ∷ []))) ≡ list (of_elements (list none ∷ []))
stack_within = refl

-- ---- texts

exit_line : IsTraceLine (codes "{trace,<0.100.0>,exit,normal}.") exit_message
unfolding is_written_bare digits
exit_line = record { term = exit_message; spelled = spells exit_message refl (record { nests = lit≤ tt; sizes = refl }) (lit≤ tt); is_message = refl; value = refl }

call_line : IsTraceLine (codes "{trace,<0.100.0>,call,{m,f,[1]}}") call_message
unfolding is_written_bare digits
call_line = record { term = call_message; spelled = spells call_message refl (record { nests = lit≤ tt; sizes = refl }) (lit≤ tt); is_message = refl; value = refl }

pub empty_text : SpellsTrace [] []
empty_text = tt

pub two_messages : SpellsTrace (codes "% of one process\n{trace,<0.100.0>,call,{m,f,[1]}}\r\n\n{trace,<0.100.0>,exit,normal}.\n") (call_message ∷ exit_message ∷ [])
two_messages = (call_line, (exit_line, tt))

dbg_call_line : IsTraceLine (codes "(<0.100.0>) call m:f(1)") call_message
unfolding is_written_bare digits
dbg_call_line = record { term = call_message; spelled = spells call_message refl (record { nests = lit≤ tt; sizes = refl }) (lit≤ tt); is_message = refl; value = refl }

dbg_exit_line : IsTraceLine (codes "(<0.100.0>) exit normal") exit_message
unfolding is_written_bare digits
dbg_exit_line = record { term = exit_message; spelled = spells exit_message refl (record { nests = lit≤ tt; sizes = refl }) (lit≤ tt); is_message = refl; value = refl }

-- lines of either kind
pub both_kinds : SpellsTrace (codes "(<0.100.0>) call m:f(1)\n{trace,<0.100.0>,exit,normal}.\n(<0.100.0>) exit normal") (call_message ∷ exit_message ∷ exit_message ∷ [])
both_kinds = (dbg_call_line, (exit_line, (dbg_exit_line, tt)))

-- the third line has a term that is no trace message
pub third_line : IsTraceRefusal (codes "\n{trace,<0.100.0>,exit,normal}.\n{trace,<0.100.0>}\n{") (record { line = 3; fault = no_message })
unfolding is_written_bare digits
third_line = record {
  before = [] ∷ codes "{trace,<0.100.0>,exit,normal}." ∷ [];
  line = codes "{trace,<0.100.0>}";
  after = codes "{" ∷ [];
  split = refl;
  messages = exit_message ∷ [];
  spelled = (exit_line, tt);
  number = refl;
  content = refl;
  fault = (no_third, spells no_third refl (record { nests = lit≤ tt; sizes = refl }) (lit≤ tt), refl);
}
