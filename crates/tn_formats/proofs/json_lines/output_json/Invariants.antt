use Rattle.std.proofs.Common.{◌≡◌, ◌++◌, length}
use Rattle.def_formats.specs.Lines.{text_lines}
use Rattle.def_formats.specs.Sections.{by_sections}
use Rattle.def_formats.specs.JsonRows.{section_json, output_json}
use Rattle.tn_formats.proofs.json_lines.output_json.Given as goal

-- what was written and the rows of what is left are the rows of all
abbrev pub invariant-loop-rest : goal.invariant-loop-rest
invariant-loop-rest g l = l.out.lines.items ++ by_sections section_json (text_lines l.rest) ≡ output_json l.output

abbrev pub decreases-loop-rest : goal.decreases-loop-rest
decreases-loop-rest g l = length l.rest
