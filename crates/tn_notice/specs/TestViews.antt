-- What the code's texts of a test stand for.
-- Depends on what is said beside an output.
use Rattle.def_notice.specs.NoticeTexts as texts
use Rattle.tn_text.specs.declared.fault.TextFault.{TextFault}
use Rattle.tn_text.specs.declared.fault.TextFault.TheVariants.{TooLong, Token, TooDeep, TooLarge, OutOfMemory}
use Rattle.tn_notice.specs.declared.test_text.TestText.{TestText}
use Rattle.tn_notice.specs.declared.test_text.TestText.TheVariants as names
use Rattle.tn_notice.specs.declared.test_text.TestTextFault.{TestTextFault}
use Rattle.tn_notice.specs.declared.test_text.TestTextFault.TheVariants as faults

abbrev pub test_text_seen : TestText → texts.TestText
test_text_seen names.List = texts.the_list
test_text_seen names.Caller = texts.the_caller
test_text_seen names.Specification = texts.the_specification

-- a text that is no term
abbrev pub term_fault_seen : TextFault → texts.TestTextFault
term_fault_seen TooLong = texts.is_too_long
term_fault_seen (Token at) = texts.goes_on_otherwise at
term_fault_seen (TooDeep at) = texts.is_too_deep at
term_fault_seen (TooLarge at) = texts.is_too_large at
term_fault_seen OutOfMemory = texts.has_no_memory

abbrev pub test_fault_seen : TestTextFault → texts.TestTextFault
test_fault_seen faults.NoList = texts.is_no_list
test_fault_seen faults.NoFunction = texts.is_no_function
test_fault_seen (faults.NoTerm f) = term_fault_seen f
test_fault_seen (faults.Words words) = texts.fault_in_words words.now
