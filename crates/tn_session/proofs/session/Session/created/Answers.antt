use Rattle.std.proofs.Common.{Some, map}
use Rattle.std.specs.Arc.{arc_value}
use Rattle.def_session.specs.State.{live}
use Rattle.def_session.specs.Settings.{plain}
use Rattle.tn_term.specs.Views.{alive_of}
use Rattle.tn_session.specs.Views.{function_seen, function_setting_seen, marks_seen}
use Rattle.tn_session.proofs.session.Session.created.Goals as goal

pub returns : goal.returns
returns g c = λ i. Some (record {
  functions = map function_seen (arc_value c.args.functions).items;
  state = record {
    phase = live;
    alive = alive_of c.args.alive;
    flags = c.none.ensures i;
    new_process_flags = c.none-none.ensures i;
    functions = map function_setting_seen (c.new.ensures i);
    sending = plain;
    receiving = plain;
    marks = marks_seen (c.new-2.ensures.items i);
  };
})
