use Rattle.std.proofs.Common.{◌≡◌, ◌++◌, length}
use Rattle.def_formats.specs.Lines.{text_lines}
use Rattle.def_formats.specs.Sections.{by_sections}
use Rattle.def_formats.specs.LoadRows.{section_loads, summary_json}
use Rattle.tn_formats.proofs.load_rows.summary_json.Given as goal

-- what was written and the rows of what is left are the rows of all
abbrev pub invariant-loop-rest : goal.invariant-loop-rest
invariant-loop-rest g l = l.out.lines.items ++ by_sections section_loads (text_lines l.rest) ≡ summary_json l.output

abbrev pub decreases-loop-rest : goal.decreases-loop-rest
decreases-loop-rest g l = length l.rest
