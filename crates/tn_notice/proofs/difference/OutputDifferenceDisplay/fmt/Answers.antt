use Rattle.std.proofs.Common.{ap, sym, ◌∙◌}
use Rattle.std.proofs.Output.{has_written_of_eq}
use Rattle.def_notice.specs.DifferenceTexts.{output_difference_text}
use Rattle.tn_notice.specs.DifferenceViews.{difference_seen_of}
use Rattle.tn_notice.proofs.Pieces.{pieces_of_two_lines}
use Rattle.tn_notice.proofs.difference.OutputDifferenceDisplay.fmt.Goals as goal

pub returns-in-TwoLines-clause-writes : goal.returns-in-TwoLines-clause-writes
returns-in-TwoLines-clause-writes g c p ok =
    let text = ap (λ x. output_difference_text (difference_seen_of x)) c.in-TwoLines.is ∙ pieces_of_two_lines c.in-TwoLines.number c.in-TwoLines.expected.now c.in-TwoLines.found.now in
    has_written_of_eq _ _ _ _ _ (sym text) (c.write-in-TwoLines.ensures.writes p ok)
