use Rattle.std.proofs.Common.{◌≡◌, true, sym, subst, ◌∙◌, rules}
use Rattle.def_text.specs.Limits.{in_range}
use mir.Syntax.{w64}
use mir.Val.{SFits}
use Rattle.std.proofs.lemmas.Int.{to_z-of_z}
use Rattle.tn_text.proofs.Numbers.{integer_ok, integer_err, integer_text, in_range_of}
use Rattle.tn_text.proofs.value.integer_value.Goals as goal

pub returns-in-Ok-parse : goal.returns-in-Ok-parse
returns-in-Ok-parse c =
    let fits : SFits w64 c.in-Ok-parse.n = search rules in (
      subst (λ z. in_range z ≡ true) (sym (to_z-of_z w64 c.in-Ok-parse.n fits)) (in_range_of c.in-Ok-parse.n fits),
      λ rest m h. integer_ok c.args.bytes.now c.in-Ok.text.now c.parse.result c.in-Ok-parse.n c.in-Ok.ensures.cases.0 c.parse.ensures.value.0 c.in-Ok-parse.is rest m h ∙ sym (to_z-of_z w64 c.in-Ok-parse.n fits),
    )

pub returns-in-Err-parse : goal.returns-in-Err-parse
returns-in-Err-parse c = λ rest m h. integer_err c.args.bytes.now c.in-Ok.text.now c.parse.result c.in-Err-parse.field-0 c.in-Ok.ensures.cases.0 c.parse.ensures.value.0 c.in-Err-parse.is rest m h

pub returns-in-Err : goal.returns-in-Err
returns-in-Err c = λ rest m h. absurd (c.in-Err.ensures.cases.0 (integer_text c.args.bytes.now rest m h))
