use Rattle.std.proofs.Common.{◌∙◌, codes, sym, ap, subst}
use Rattle.tn_formats.specs.Tokens.{AddsTokens, text_member}
use Rattle.tn_formats.proofs.MemberTokens.{lacks_alone}
use Rattle.tn_formats.proofs.account_members.put_outside.Goals as goal

pub returns-then-starts_with : goal.returns-then-starts_with
returns-then-starts_with g c =
    subst (AddsTokens c.put_text_member.result c.args.writer.now c.put_text_member.new.writer)
    (ap (text_member (codes "node_lacks")) c.without_front.ensures ∙ lacks_alone c.args.line.now (sym c.starts_with.ensures.value ∙ c.if-starts_with.true)) c.put_text_member.ensures
