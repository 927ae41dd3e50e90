use Rattle.std.proofs.Common.{sym, ◌∙◌, ◌^◌}
use Rattle.tn_command.proofs.NumberLemmas.{no_number, plain}
use Rattle.tn_command.proofs.number.long_number.Goals as goal

pub returns-then-has_plus : goal.returns-then-has_plus
returns-then-has_plus c = no_number (2 ^ 64) c.args.text.now (sym c.has_plus.ensures ∙ c.if-has_plus.true)

pub returns : goal.returns
returns c = rw c.ok.ensures.value (plain (2 ^ 64) c.args.text.now c.parse.result (sym c.has_plus.ensures ∙ c.if-has_plus.false) c.parse.ensures.value.0)
