use Rattle.tn_command.proofs.FormLemmas.{fails_so}
use Rattle.tn_command.proofs.workers_form.prepare_in_form.Goals as goal

pub returns-in-Err : goal.returns-in-Err
returns-in-Err g c = fails_so c.args.form g.R.Read.remaining c.args.reader.now c.prepare_live.new.reader c.in-Err.fault c.in-Err.ensures
