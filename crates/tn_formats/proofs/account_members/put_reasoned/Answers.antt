use Rattle.std.proofs.Common.{codes, subst}
use Rattle.def_formats.specs.Lines.{before_byte, past_byte}
use Rattle.def_formats.specs.JsonRows.{why_after}
use Rattle.tn_formats.specs.Tokens.{GainsTokens, AddsTokens, tokens_of_members, text_member}
use Rattle.tn_formats.proofs.MemberTokens.{adds_after}
use Rattle.tn_formats.proofs.account_members.put_reasoned.Goals as goal

pub returns : goal.returns
returns g c =
    let text = c.args.text.now in
    let old = c.args.writer.now in
    let middle = c.put_text_member.new.writer in
    let new = c.put_reason.new.writer in
    adds_after c.put_reason.result old middle new (text_member (codes "reply") (before_byte 58 text)) (tokens_of_members (why_after (past_byte 58 text)))
    (subst (λ t. GainsTokens old middle (text_member (codes "reply") t)) c.cut_at.ensures.before c.in_ok-put_text_member.ensures)
    (subst (λ t. AddsTokens c.put_reason.result middle new (tokens_of_members (why_after t))) c.cut_at.ensures.after c.put_reason.ensures)
