use Rattle.std.proofs.Common.{subst}
use Rattle.std.specs.Str.Parse.{ParsesUnsigned}
use Rattle.std.proofs.lemmas.Str.{IsUtf8-from_ascii}
use Rattle.tn_text.proofs.Numbers.{digits_ascii}
use Rattle.tn_refusal.proofs.RuleReasons.{digits_fit}
use Rattle.tn_refusal.proofs.picks.fits.Goals as goal

pub returns-in-Ok-parse : goal.returns-in-Ok-parse
returns-in-Ok-parse c =
    let parse = subst (λ l. ParsesUnsigned 32 10 l c.parse.result) c.in-Ok.ensures.cases.0 c.parse.ensures.value.0 in
    let fits = digits_fit c.args.digits.now c.parse.result parse c.requires.digits c.requires.some in
    rw c.in-Ok-parse.is at fits

pub returns-in-Err-parse : goal.returns-in-Err-parse
returns-in-Err-parse c =
    let parse = subst (λ l. ParsesUnsigned 32 10 l c.parse.result) c.in-Ok.ensures.cases.0 c.parse.ensures.value.0 in
    let fits = digits_fit c.args.digits.now c.parse.result parse c.requires.digits c.requires.some in
    rw c.in-Err-parse.is at fits

pub returns-in-Err : goal.returns-in-Err
returns-in-Err c = absurd (c.in-Err.ensures.cases.0 (IsUtf8-from_ascii c.args.digits.now (digits_ascii c.args.digits.now c.requires.digits)))
