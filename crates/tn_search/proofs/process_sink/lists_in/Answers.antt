use Rattle.std.proofs.Common.{◌≡◌, List}
use Rattle.std.proofs.lemmas.Result.{IfOk-weaker}
use Rattle.def_term.specs.Tree.{Tree}
use Rattle.def_explore.specs.Rests.{each_process, all_pids}
use Rattle.tn_messages.specs.MessageViews.{AreByProcess, lists_seen}
use Rattle.tn_search.specs.Sinks.{AreOfProcesses}
use Rattle.tn_search.proofs.process_sink.lists_in.Goals as goal

pub returns : goal.returns
returns g c =
    IfOk-weaker c.into_lists.result
    (λ v. (ms : List Tree) → AreByProcess c.in_ok-share.field-0 ms → lists_seen v ≡ each_process all_pids ms)
    (λ v. (ms : List Tree) → AreOfProcesses c.args.sink.now ms → lists_seen v ≡ each_process all_pids ms)
    (λ v is ms h. is ms (c.in_ok-share.ensures ms h)) c.into_lists.ensures
