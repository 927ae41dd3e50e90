use Rattle.std.proofs.Common.{ap, sym, ◌∙◌}
use Rattle.std.proofs.Output.{has_written_of_eq}
use Rattle.def_notice.specs.NoticeTexts.{notice_text}
use Rattle.tn_notice.specs.NoticeViews.{command_seen_of, input_text_seen, notice_seen}
use Rattle.tn_notice.proofs.Pieces.{pieces_of_inputs, pieces_of_value, pieces_of_message, pieces_of_pick, pieces_of_moves}
use Rattle.tn_notice.proofs.notice.NoticeDisplay.fmt.Goals as goal

pub returns-in-NoValue-clause-writes : goal.returns-in-NoValue-clause-writes
returns-in-NoValue-clause-writes g c p ok =
    let text = ap (λ x. notice_text (notice_seen x)) c.in-NoValue.is ∙ pieces_of_value c.in-NoValue.text.now c.in-NoValue.option.now c.in-NoValue.reason.now in
    has_written_of_eq _ _ _ _ _ (sym text) (c.write-in-NoValue.ensures.writes p ok)

pub returns-in-PickOfNobody-clause-writes : goal.returns-in-PickOfNobody-clause-writes
returns-in-PickOfNobody-clause-writes g c p ok =
    let text = ap (λ x. notice_text (notice_seen x)) c.in-PickOfNobody.is ∙ pieces_of_pick c.in-PickOfNobody.number c.in-PickOfNobody.pick in
    has_written_of_eq _ _ _ _ _ (sym text) (c.write-in-PickOfNobody.ensures.writes p ok)

pub returns-in-NodeMoves-clause-writes : goal.returns-in-NodeMoves-clause-writes
returns-in-NodeMoves-clause-writes g c p ok =
    let text = ap (λ x. notice_text (notice_seen x)) c.in-NodeMoves.is ∙ pieces_of_moves c.in-NodeMoves.differing c.in-NodeMoves.moves (command_seen_of c.in-NodeMoves.command) in
    has_written_of_eq _ _ _ _ _ (sym text) (c.write-in-NodeMoves.ensures.writes p ok)

pub returns-in-BothFromInput-clause-writes : goal.returns-in-BothFromInput-clause-writes
returns-in-BothFromInput-clause-writes g c p ok =
    let text = ap (λ x. notice_text (notice_seen x)) c.in-BothFromInput.is ∙ pieces_of_inputs (input_text_seen c.in-BothFromInput.one) (input_text_seen c.in-BothFromInput.other) in
    has_written_of_eq _ _ _ _ _ (sym text) (c.write-in-BothFromInput.ensures.writes p ok)

pub returns-in-NoMessage-clause-writes : goal.returns-in-NoMessage-clause-writes
returns-in-NoMessage-clause-writes g c p ok =
    let text = ap (λ x. notice_text (notice_seen x)) c.in-NoMessage.is ∙ pieces_of_message c.in-NoMessage.session.now c.in-NoMessage.number c.in-NoMessage.messages in
    has_written_of_eq _ _ _ _ _ (sym text) (c.write-in-NoMessage.ensures.writes p ok)
