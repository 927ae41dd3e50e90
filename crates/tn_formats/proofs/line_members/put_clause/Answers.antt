use Rattle.std.proofs.Common.{◌∙◌, codes, ap, subst}
use Rattle.def_formats.specs.JsonRows.{fires_members, front_number, past_number, past_place}
use Rattle.tn_formats.specs.Tokens.{GainsTokens, AddsTokens, tokens_of_members, numeral_member}
use Rattle.tn_formats.proofs.MemberTokens.{adds_after}
use Rattle.tn_formats.proofs.line_members.put_clause.Goals as goal

pub returns : goal.returns
returns g c =
    let text = c.args.text.now in
    let old = c.args.writer.now in
    let middle = c.put_numeral_member.new.writer in
    let new = c.put_fires.new.writer in
    adds_after c.put_fires.result old middle new (numeral_member (codes "clause") (front_number text)) (tokens_of_members (fires_members (past_place (past_number text))))
    (subst (λ n. GainsTokens old middle (numeral_member (codes "clause") n)) c.cut_number.ensures.number c.in_ok-put_numeral_member.ensures)
    (subst (λ t. AddsTokens c.put_fires.result middle new (tokens_of_members (fires_members t))) (c.past_place.ensures ∙ ap past_place c.cut_number.ensures.after) c.put_fires.ensures)
