use Rattle.std.proofs.Common.{map}
use Rattle.def_session.specs.State.{destroyed}
use Rattle.def_session.specs.Settings.{plain}
use Rattle.tn_term.specs.Views.{alive_of}
use Rattle.tn_session.specs.Views.{function_setting_seen, marks_seen}
use Rattle.tn_session.proofs.state.State.destroy.Goals as goal

pub returns-clause-done : goal.returns-clause-done
returns-clause-done g c = λ i. record {
  phase = destroyed;
  alive = alive_of c.args.self.now.alive;
  flags = c.none-self.ensures i;
  new_process_flags = c.none-none.ensures i;
  functions = map function_setting_seen (c.new.ensures i);
  sending = plain;
  receiving = plain;
  marks = marks_seen (c.new-2.ensures.items i);
}
