use Rattle.std.proofs.Common.{◌<◌, ◌^◌, rules, arith, sym, ◌∙◌, subst}
use Rattle.std.specs.Str.{IsUtf8}
use Rattle.std.proofs.lemmas.Bool.{lt-ltb}
use Rattle.tn_text.proofs.Numbers.{pid_ok, pid_err, pid_text, pid_digits}
use Rattle.tn_text.proofs.value.pid_value.Goals as goal

pub returns-in-Ok-parse : goal.returns-in-Ok-parse
returns-in-Ok-parse c =
    let fits : c.in-Ok-parse.n < 2 ^ 32 = search rules in (
      lt-ltb c.in-Ok-parse.n 4294967296 fits,
      λ ds m h.
          pid_ok ds c.in-Ok.text.now c.args.bytes.now c.parse.result c.in-Ok-parse.n m (c.in-Ok.ensures.cases.0 ∙ pid_digits c.args.bytes.now ds m _ h (omega arith)) c.parse.ensures.value.0 c.in-Ok-parse.is h,
    )

pub returns-in-Err-parse : goal.returns-in-Err-parse
returns-in-Err-parse c = λ ds m h.
    pid_err ds c.in-Ok.text.now c.args.bytes.now c.parse.result c.in-Err-parse.field-0 m (c.in-Ok.ensures.cases.0 ∙ pid_digits c.args.bytes.now ds m _ h (omega arith)) c.parse.ensures.value.0 c.in-Err-parse.is h

pub returns-in-Err : goal.returns-in-Err
returns-in-Err c = λ ds m h. absurd (c.in-Err.ensures.cases.0 (subst IsUtf8 (sym (pid_digits c.args.bytes.now ds m _ h (omega arith))) (pid_text c.args.bytes.now ds m h)))
