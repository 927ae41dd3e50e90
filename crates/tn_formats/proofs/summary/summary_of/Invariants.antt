use Rattle.std.proofs.Common.{◌≡◌, ◌++◌, length}
use Rattle.def_formats.specs.Lines.{text_lines}
use Rattle.def_formats.specs.Sections.{by_sections}
use Rattle.def_formats.specs.Summaries.{section_summary, summary_of}
use Rattle.tn_formats.proofs.summary.summary_of.Given as goal

-- what was written and the summary of what is left are the summary
abbrev pub invariant-loop-rest : goal.invariant-loop-rest
invariant-loop-rest g l = l.out.items ++ by_sections section_summary (text_lines l.rest) ≡ summary_of l.output

abbrev pub decreases-loop-rest : goal.decreases-loop-rest
decreases-loop-rest g l = length l.rest
