use Rattle.std.proofs.Common.{sym, subst}
use Rattle.std.specs.Prelude.{SomeIff}
use Rattle.std.specs.Str.Parse.{digits_value}
use Rattle.tn_command.specs.Numbers.{IsLongNumber}
use Rattle.complete_command.proofs.SameWords.{one_value}
use Rattle.complete_command.proofs.number.long_number.Goals as goal

pub returns : goal.returns
returns c =
    let text = c.args.one.now in
    one_value (IsLongNumber text) (digits_value 10 text) _ _ c.long_number-first.ensures (subst (λ t. SomeIff c.long_number-second.result (IsLongNumber t) (digits_value 10 t)) (sym c.requires) c.long_number-second.ensures)
