use Rattle.std.proofs.Common.{◌∷◌, ◌+◌, ◌∙◌, ap, sym, drop}
use Rattle.std.proofs.lemmas.List.{take_rest}
use Rattle.def_trace_text.specs.Lines.{trace_text_lines}
use Rattle.tn_trace_text.proofs.FirstLines.{line_alone, line_first}
use Rattle.tn_trace_text.proofs.line.first_line.Goals as goal

pub returns-in-None-clause-cut : goal.returns-in-None-clause-cut
returns-in-None-clause-cut c = line_alone c.args.text.now c.requires (sym c.in-None.ensures)

pub returns-in-Some-clause-cut : goal.returns-in-Some-clause-cut
returns-in-Some-clause-cut c =
    line_first c.args.text.now c.in-Some.end (sym c.in-Some.ensures)
    ∙ ap (λ l. l ∷ trace_text_lines (drop (c.in-Some.end + 1) c.args.text.now)) (sym c.without_end.ensures)
    ∙ ap (λ l. c.without_end.result.now ∷ trace_text_lines l) (sym (take_rest c.args.text.now (c.in-Some.end + 1)))
