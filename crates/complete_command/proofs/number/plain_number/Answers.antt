use Rattle.std.proofs.Common.{sym, subst}
use Rattle.std.specs.Prelude.{SomeIff}
use Rattle.std.specs.Str.Parse.{digits_value}
use Rattle.tn_command.specs.Numbers.{IsPlainNumber}
use Rattle.complete_command.proofs.SameWords.{one_value}
use Rattle.complete_command.proofs.number.plain_number.Goals as goal

pub returns : goal.returns
returns c =
    let text = c.args.one.now in
    one_value (IsPlainNumber text) (digits_value 10 text) _ _ c.plain_number-first.ensures (subst (λ t. SomeIff c.plain_number-second.result (IsPlainNumber t) (digits_value 10 t)) (sym c.requires) c.plain_number-second.ensures)
