use Rattle.std.proofs.Common.{sym, ap, subst}
use Rattle.std.specs.Option.{option_map}
use Rattle.tn_term.specs.Views.{tree_of}
use Rattle.tn_flags.specs.Views.{command_of}
use Rattle.tn_flags.specs.declared.command.Command.{Command}
use Rattle.tn_running_node.specs.Replies.{function_change_seen, Changes}
use Rattle.tn_running_node.proofs.CommandsThere.{done_processes, done_function, done_others}
use Rattle.tn_running_node.proofs.replies.live_command_there.Goals as goal

pub returns-in_ok-reply-in-Process : goal.returns-in_ok-reply-in-Process
returns-in_ok-reply-in-Process g c =
    let m = c.in-Process in
    done_processes c.args.functions.now (command_of c.args.command.now) c.args.session.now c.model_command.new.session c.process_there.new.session
    (tree_of c.in_ok-reply-in-Process.reply) (tree_of c.process_there.result) m.session (tree_of m.procs) (tree_of m.how) (tree_of m.flags)
    (ap command_of m.is) c.in_ok-reply-in-Process.ensures c.process_there.ensures

pub returns-in_ok-function_reply-in-Function : goal.returns-in_ok-function_reply-in-Function
returns-in_ok-function_reply-in-Function g c =
    let P : Command g.row.A.Denot → Type 0 = λ k. Changes (command_of k) (option_map function_change_seen c.in_ok-change-in-Function.change) in
    let m = c.in-Function in
    done_function c.args.functions.now (command_of c.args.command.now) c.args.session.now c.function_there.new.session
    (tree_of c.in_ok-reply-in-Function.reply) (tree_of c.in_ok-function_reply-in-Function.field-0) m.session (tree_of m.mfa) (tree_of m.specification) (tree_of m.options)
    (ap command_of m.is) (c.in_ok-reply-in-Function.ensures (subst P (sym c.in-Function.is) (sym c.in_ok-change-in-Function.ensures))) c.in_ok-function_reply-in-Function.ensures

pub returns-in_ok-model_command-in_default : goal.returns-in_ok-model_command-in_default
returns-in_ok-model_command-in_default g c =
    done_others c.args.functions.now c.args.command.now c.args.session.now c.model_command-in_default.new.session (tree_of c.in_ok-model_command-in_default.field-0)
    c.in_default.not-Process c.in_default.not-Function c.in_ok-model_command-in_default.ensures
