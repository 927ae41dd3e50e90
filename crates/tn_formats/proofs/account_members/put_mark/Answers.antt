use Rattle.std.proofs.Common.{◌∙◌, sym, ap, subst}
use Rattle.std.specs.Str.{bytes_eq}
use Rattle.tn_formats.specs.Tokens.{AddsTokens}
use Rattle.tn_formats.proofs.MemberTokens.{exceptions_alone, returns_alone}
use Rattle.tn_formats.proofs.account_members.put_mark.Goals as goal

pub returns-then-eq-2 : goal.returns-then-eq-2
returns-then-eq-2 g c =
    let line = c.args.line.now in
    let same = bytes_eq line in
    let first = ap same (sym c.as_slice.ensures) ∙ sym c.eq.ensures ∙ c.if-eq.false in
    let second = ap same (sym c.as_slice-2.ensures) ∙ sym c.eq-2.ensures ∙ c.if-eq-2.true in
    subst (AddsTokens c.put_text_member-then-eq-2.result c.args.writer.now c.put_text_member-then-eq-2.new.writer) (exceptions_alone line first second) c.put_text_member-then-eq-2.ensures

pub returns-then-eq-4 : goal.returns-then-eq-4
returns-then-eq-4 g c =
    let line = c.args.line.now in
    let same = bytes_eq line in
    let first = ap same (sym c.as_slice.ensures) ∙ sym c.eq.ensures ∙ c.if-eq.false in
    let second = ap same (sym c.as_slice-2.ensures) ∙ sym c.eq-2.ensures ∙ c.if-eq-2.false in
    let third = ap same (sym c.as_slice-3.ensures) ∙ sym c.eq-3.ensures ∙ c.if-eq-3.false in
    let fourth = ap same (sym c.as_slice-4.ensures) ∙ sym c.eq-4.ensures ∙ c.if-eq-4.true in
    subst (AddsTokens c.put_text_member-then-eq-4.result c.args.writer.now c.put_text_member-then-eq-4.new.writer) (returns_alone line first second third fourth) c.put_text_member-then-eq-4.ensures
