use Rattle.std.proofs.Common.{Some, None}
use Rattle.tn_term.specs.Views.{tree_of}
use Rattle.tn_flags.specs.Views.{command_of}
use Rattle.tn_running_node.proofs.CommandsThere.{by_change, done_unread, done_false, done_local, done_global}
use Rattle.tn_running_node.proofs.replies.function_there.Goals as goal

pub returns-in_default : goal.returns-in_default
returns-in_default g c =
    let fs = c.args.functions.now in
    let k = command_of c.args.command.now in
    let old = c.args.session.now in
    let new = c.model_command.new.session in
    let t = tree_of c.in_ok-model_command.field-0 in
    by_change fs k old new t c.args.change.now None c.in_default.is (done_unread fs k old new t c.in_ok-model_command.ensures)

pub returns-then-not-change : goal.returns-then-not-change
returns-then-not-change g c =
    let fs = c.args.functions.now in
    let k = command_of c.args.command.now in
    let old = c.args.session.now in
    let new = c.disable_own_kind.new.session in
    let t = tree_of c.count_reply.result in
    let x = c.in-Some.change in
    by_change fs k old new t c.args.change.now (Some x) c.in-Some.is (done_false fs k old new t x c.if-not-change.true c.in_ok-disable_own_kind.ensures c.count_reply.ensures)

pub returns-then-change : goal.returns-then-change
returns-then-change g c =
    let fs = c.args.functions.now in
    let k = command_of c.args.command.now in
    let old = c.args.session.now in
    let new = c.model_command-then-change.new.session in
    let t = tree_of c.in_ok-model_command-2.field-0 in
    let x = c.in-Some.change in
    by_change fs k old new t c.args.change.now (Some x) c.in-Some.is (done_local fs k old new t x c.if-not-change.false c.if-change.true c.in_ok-model_command-2.ensures)

pub returns : goal.returns
returns g c =
    let fs = c.args.functions.now in
    let k = command_of c.args.command.now in
    let old = c.args.session.now in
    let mid = c.disable_internal.new.session in
    let new = c.model_command-2.new.session in
    let t = tree_of c.in_ok-model_command-3.field-0 in
    let x = c.in-Some.change in
    by_change fs k old new t c.args.change.now (Some x) c.in-Some.is
    (done_global fs k old mid new t x c.if-not-change.false c.if-change.false c.in_ok-disable_internal.ensures c.in_ok-model_command-3.ensures)
