use Rattle.std.specs.Prelude.{◌≡◌, List, IfOk}
use Rattle.std.proofs.Common.{◌∙◌, sym}
use Rattle.std.proofs.lemmas.Result.{IfOk-weaker}
use Rattle.def_term.specs.Tree.{Tree}
use Rattle.def_explore.specs.Rests.{each_process, all_pids}
use Rattle.tn_messages.specs.MessageViews.{lists_seen, AreByProcess}
use Rattle.complete_explore.proofs.messages.into_lists.Goals as goal

pub returns : goal.returns
returns g c =
    IfOk-weaker c.into_lists-first.result (λ v. (ms : List Tree) → AreByProcess c.args.one ms → lists_seen v ≡ each_process all_pids ms) (λ v. IfOk c.into_lists-second.result (λ w. lists_seen v ≡ lists_seen w))
    (λ v h. IfOk-weaker c.into_lists-second.result (λ w. (ms : List Tree) → AreByProcess c.args.other ms → lists_seen w ≡ each_process all_pids ms) (λ w. lists_seen v ≡ lists_seen w)
    (λ w i. h g.at c.requires.1.0 ∙ sym (i g.at c.requires.1.1)) c.into_lists-second.ensures)
    c.into_lists-first.ensures
