use Rattle.std.proofs.Common.{[], ◌∷◌, codes, subst}
use Rattle.json.specs.Token.{key, null}
use Rattle.def_formats.specs.JsonRows.{text_value}
use Rattle.tn_formats.specs.Tokens.{AddsTokens, tokens_of_members}
use Rattle.tn_formats.proofs.MemberTokens.{adds_after, text_alone}
use Rattle.tn_formats.proofs.line_members.put_why.Goals as goal

pub returns : goal.returns
returns g c =
    let text = c.args.text.now in
    let middle = c.put_null_member.new.writer in
    let new = c.put_text_member.new.writer in
    adds_after c.put_text_member.result c.args.writer.now middle new (key (codes "trace_message") ∷ null ∷ []) (tokens_of_members ((codes "why", text_value text) ∷ [])) c.in_ok-put_null_member.ensures
    (subst (AddsTokens c.put_text_member.result middle new) (text_alone (codes "why") text) c.put_text_member.ensures)
