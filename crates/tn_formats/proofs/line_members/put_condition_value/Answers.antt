use Rattle.std.proofs.Common.{codes, subst}
use Rattle.def_formats.specs.JsonRows.{value_members, front_number, past_number}
use Rattle.tn_formats.specs.Tokens.{GainsTokens, AddsTokens, tokens_of_members, numeral_member}
use Rattle.tn_formats.proofs.MemberTokens.{adds_after}
use Rattle.tn_formats.proofs.line_members.put_condition_value.Goals as goal

pub returns : goal.returns
returns g c =
    let text = c.args.text.now in
    let old = c.args.writer.now in
    let middle = c.put_numeral_member.new.writer in
    let new = c.put_value.new.writer in
    adds_after c.put_value.result old middle new (numeral_member (codes "condition") (front_number text)) (tokens_of_members (value_members (past_number text)))
    (subst (λ n. GainsTokens old middle (numeral_member (codes "condition") n)) c.cut_number.ensures.number c.in_ok-put_numeral_member.ensures)
    (subst (λ t. AddsTokens c.put_value.result middle new (tokens_of_members (value_members t))) c.cut_number.ensures.after c.put_value.ensures)
