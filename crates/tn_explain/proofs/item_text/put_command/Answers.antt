use Rattle.std.proofs.Common.{rules}
use Rattle.std.proofs.lemmas.Result.{on_ok_weaker}
use Rattle.tn_term.specs.Views.{tree_of}
use Rattle.tn_explain.proofs.ItemTexts.{created, destroyed, processes_set, function_set, send_set, receive_set, if_written}
use Rattle.tn_explain.proofs.item_text.put_command.Goals as goal
use Rattle.tn_text.proofs.Growth.{grows_on}

pub returns-in_ok-put_name-in-SessionCreate-2-clause-ok : goal.returns-in_ok-put_name-in-SessionCreate-2-clause-ok
returns-in_ok-put_name-in-SessionCreate-2-clause-ok g c =
    rw c.in-SessionCreate.is
    (on_ok_weaker c.extend_from_slice.result
    (created c.in-SessionCreate.session c.in-SessionCreate.tracer c.args.out.now.items c.put_name.new.out.items c.put_name-in-SessionCreate.new.out.items c.extend_from_slice.new.self.items c.in_ok-put_name-in-SessionCreate.ensures.ok c.in_ok-put_name-in-SessionCreate-2.ensures.ok)
    (if_written c.extend_from_slice.result c.extend_from_slice.new.self.items _ _ c.extend_from_slice.ensures.items))

pub returns-in_ok-put_name-in-SessionCreate-2-clause-grows : goal.returns-in_ok-put_name-in-SessionCreate-2-clause-grows
returns-in_ok-put_name-in-SessionCreate-2-clause-grows g c =
    grows_on
    (grows_on c.put_name.ensures.grows c.put_name-in-SessionCreate.ensures.grows)
    (search rules)

pub returns-in_ok-put_name-in-SessionDestroy-clause-ok : goal.returns-in_ok-put_name-in-SessionDestroy-clause-ok
returns-in_ok-put_name-in-SessionDestroy-clause-ok g c =
    rw c.in-SessionDestroy.is
    (on_ok_weaker c.extend_from_slice-in-SessionDestroy.result
    (destroyed c.in-SessionDestroy.session c.args.out.now.items c.put_name-in-SessionDestroy.new.out.items c.extend_from_slice-in-SessionDestroy.new.self.items c.in_ok-put_name-in-SessionDestroy.ensures.ok)
    (if_written c.extend_from_slice-in-SessionDestroy.result c.extend_from_slice-in-SessionDestroy.new.self.items _ _ c.extend_from_slice-in-SessionDestroy.ensures.items))

pub returns-in_ok-put_name-in-Process-clause-ok : goal.returns-in_ok-put_name-in-Process-clause-ok
returns-in_ok-put_name-in-Process-clause-ok g c =
    rw c.in-Process.is
    (on_ok_weaker c.put_three.result
    (processes_set c.in-Process.session (tree_of c.in-Process.procs) (tree_of c.in-Process.how) (tree_of c.in-Process.flags) c.args.out.now.items c.put_name-in-Process.new.out.items c.put_three.new.out.items c.in_ok-put_name-in-Process.ensures.ok)
    c.put_three.ensures.ok)

pub returns-in_ok-put_name-in-Function-clause-ok : goal.returns-in_ok-put_name-in-Function-clause-ok
returns-in_ok-put_name-in-Function-clause-ok g c =
    rw c.in-Function.is
    (on_ok_weaker c.put_three-in-Function.result
    (function_set c.in-Function.session (tree_of c.in-Function.mfa) (tree_of c.in-Function.specification) (tree_of c.in-Function.options) c.args.out.now.items c.put_name-in-Function.new.out.items c.put_three-in-Function.new.out.items c.in_ok-put_name-in-Function.ensures.ok)
    c.put_three-in-Function.ensures.ok)

pub returns-in_ok-put_name-in-Send-clause-ok : goal.returns-in_ok-put_name-in-Send-clause-ok
returns-in_ok-put_name-in-Send-clause-ok g c =
    rw c.in-Send.is
    (on_ok_weaker c.put_with_no_options.result
    (send_set c.in-Send.session (tree_of c.in-Send.specification) c.args.out.now.items c.put_name-in-Send.new.out.items c.put_with_no_options.new.out.items c.in_ok-put_name-in-Send.ensures.ok)
    c.put_with_no_options.ensures.ok)

pub returns-in_ok-put_name-in-Recv-clause-ok : goal.returns-in_ok-put_name-in-Recv-clause-ok
returns-in_ok-put_name-in-Recv-clause-ok g c =
    rw c.in-Recv.is
    (on_ok_weaker c.put_with_no_options-in-Recv.result
    (receive_set c.in-Recv.session (tree_of c.in-Recv.specification) c.args.out.now.items c.put_name-in-Recv.new.out.items c.put_with_no_options-in-Recv.new.out.items c.in_ok-put_name-in-Recv.ensures.ok)
    c.put_with_no_options-in-Recv.ensures.ok)
