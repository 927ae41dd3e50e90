use Rattle.std.proofs.Common.{◌∙◌, sym, ap, subst}
use Rattle.tn_flags.specs.Views.{command_of}
use Rattle.tn_session.specs.Sessions.{next_session}
use Rattle.def_running_node.specs.NodeReplies.{node_command_live}
use Rattle.tn_running_node.specs.FunctionArguments.{IsCommandOnce}
use Rattle.tn_running_node.proofs.CommandsThere.{is_live_then, of_live, of_others}
use Rattle.tn_running_node.proofs.replies.command_there.Goals as goal

pub returns-then-not-branch : goal.returns-then-not-branch
returns-then-not-branch g c = λ o v is.
    ap (next_session v) (of_others o v.state (command_of c.args.command.now) (sym c.if-not-branch.true ∙ c.in_ok-is_live.ensures v is.value)) ∙ c.in_ok-model_command.ensures o v is.value is.same

pub returns-in_ok-live_command_there-in-Some : goal.returns-in_ok-live_command_there-in-Some
returns-in_ok-live_command_there-in-Some g c = λ o v is.
    let k = command_of c.args.command.now in
    let once = subst (IsCommandOnce k) c.in-Some.is c.in_ok-once.ensures in
    let alive = is_live_then v.state (sym c.if-not-branch.false ∙ c.in_ok-is_live.ensures v is.value) in
    ap (next_session v) (of_live o v.state k alive ∙ ap (node_command_live o v.state) once) ∙ c.in_ok-live_command_there-in-Some.ensures o v is alive

pub returns-in_ok-live_command_there-in-None : goal.returns-in_ok-live_command_there-in-None
returns-in_ok-live_command_there-in-None g c = λ o v is.
    let k = command_of c.args.command.now in
    let once = subst (IsCommandOnce k) c.in-None.is c.in_ok-once.ensures in
    let alive = is_live_then v.state (sym c.if-not-branch.false ∙ c.in_ok-is_live.ensures v is.value) in
    ap (next_session v) (of_live o v.state k alive ∙ ap (node_command_live o v.state) once) ∙ c.in_ok-live_command_there-in-None.ensures o v is alive
