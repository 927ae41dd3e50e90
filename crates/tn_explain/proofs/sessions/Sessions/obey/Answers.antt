use Rattle.std.proofs.lemmas.Result.{on_ok_weaker}
use Rattle.def_run.specs.Run.{command_item}
use Rattle.tn_flags.specs.Views.{command_of}
use Rattle.tn_explain.proofs.MoveLines.{shown_and_made, command_shown}
use Rattle.tn_explain.proofs.sessions.Sessions.obey.Goals as goal

pub returns-clause-ok : goal.returns-clause-ok
returns-clause-ok g c = λ o fs ss h.
    let step = c.args.step.now in
    let x = command_item (command_of c.args.command.now) in
    on_ok_weaker c.obey_each.result
    (λ made. (
      made.0,
      command_shown step o ss x c.args.out.now.items c.obey_each.new.out.items (shown_and_made step o ss x c.args.out.now.items c.put_command.new.out.items c.obey_each.new.out.items c.in_ok-put_command.ensures.ok made.1),
    ))
    (c.obey_each.ensures.ok o fs ss h)
