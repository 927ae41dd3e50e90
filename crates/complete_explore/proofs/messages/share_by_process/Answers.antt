use Rattle.std.specs.Prelude.{List, IfOk}
use Rattle.std.proofs.lemmas.Result.{IfOk-weaker}
use Rattle.def_term.specs.Tree.{Tree}
use Rattle.tn_messages.specs.MessageViews.{AreByProcess}
use Rattle.complete_explore.specs.Explorations.{AreBothByProcess}
use Rattle.complete_explore.proofs.messages.share_by_process.Goals as goal

pub returns : goal.returns
returns g c =
    IfOk-weaker c.share-first.result (λ k. (ms : List Tree) → AreByProcess c.args.one.now ms → AreByProcess k ms) (λ k. IfOk c.share-second.result (AreBothByProcess g.at k))
    (λ k h. IfOk-weaker c.share-second.result (λ l. (ms : List Tree) → AreByProcess c.args.other.now ms → AreByProcess l ms) (AreBothByProcess g.at k)
    (λ l i. record { first = h g.at c.requires.1.0; second = i g.at c.requires.1.1 }) c.share-second.ensures)
    c.share-first.ensures
