use Rattle.tn_cli.proofs.Values.{no_process_read}
use Rattle.tn_cli.proofs.value.process_number.Goals as goal

pub returns-in-Some-clause-none : goal.returns-in-Some-clause-none
returns-in-Some-clause-none c =
    no_process_read c.args.text.now c.in-Some.digits.now c.plain_number.result c.in-Some.ensures.some c.plain_number.ensures
