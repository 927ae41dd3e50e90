use Rattle.std.proofs.Common.{◌∙◌, sym, subst}
use Rattle.tn_formats.specs.Tokens.{AddsTokens}
use Rattle.tn_formats.proofs.MemberTokens.{arrow_alone}
use Rattle.tn_formats.proofs.line_members.put_arrow.Goals as goal

pub returns : goal.returns
returns g c =
    subst (AddsTokens c.put_text_member.result c.args.writer.now c.put_text_member.new.writer) (arrow_alone c.args.text.now (sym c.starts_with.ensures.value ∙ c.if-starts_with.false)) c.put_text_member.ensures
