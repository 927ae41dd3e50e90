-- What a fault says of a text of trace messages.
-- Depends on the faults of lines, and on those of the texts of terms.
use Rattle.std.specs.Prelude.{ℕ, List, Option, Some, None, codes}
use Rattle.def_text.specs.Faults.{misplaced, too_deep, too_large}
use Rattle.def_trace_text.specs.TraceTexts.{LineFault, too_long, no_term}
use Rattle.tn_text.specs.declared.fault.TextFault.{TextFault}
use Rattle.tn_text.specs.declared.fault.TextFault.TheVariants as faults
use Rattle.tn_trace_text.specs.declared.fault.TraceFault.{TraceFault}
use Rattle.tn_trace_text.specs.declared.fault.TraceFault.TheVariants.{NoTerm, NoMessage, OutOfMemory}

-- why a line spells no term; refused memory says nothing of it
abbrev pub line_fault_seen : TextFault → Option LineFault
line_fault_seen faults.TooLong = Some too_long
line_fault_seen (faults.Token at) = Some (no_term misplaced at)
line_fault_seen (faults.TooDeep at) = Some (no_term too_deep at)
line_fault_seen (faults.TooLarge at) = Some (no_term too_large at)
line_fault_seen faults.OutOfMemory = None

-- the fault of the line of this number, whose term's text is refused
abbrev pub term_fault_at : ℕ → TextFault → TraceFault
term_fault_at n faults.TooLong = NoTerm n faults.TooLong
term_fault_at n (faults.Token at) = NoTerm n (faults.Token at)
term_fault_at n (faults.TooDeep at) = NoTerm n (faults.TooDeep at)
term_fault_at n (faults.TooLarge at) = NoTerm n (faults.TooLarge at)
term_fault_at n faults.OutOfMemory = OutOfMemory

-- ---- words

-- why a line spells no term
abbrev pub term_fault_words : TextFault → List ℕ
term_fault_words faults.TooLong = codes "it has more than 1048576 bytes"
term_fault_words (faults.Token at) = codes "it spells no term"
term_fault_words (faults.TooDeep at) = codes "it nests too deep"
term_fault_words (faults.TooLarge at) = codes "a part of it is past a limit"
term_fault_words faults.OutOfMemory = codes "out of memory"

-- why a text is refused, in words that go on from its line
abbrev pub trace_fault_words : TraceFault → List ℕ
trace_fault_words (NoTerm line fault) = term_fault_words fault
trace_fault_words (NoMessage line) = codes "it is no trace message"
trace_fault_words OutOfMemory = codes "out of memory"
