use Rattle.std.specs.Prelude.{List, [], ◌∷◌, ◌++◌}
use Rattle.std.proofs.Common.{subst, sym}
use Rattle.def_term.specs.Tree.{Tree}
use Rattle.tn_messages.specs.MessageViews.{message_tree, AreByProcess}
use Rattle.complete_explore.specs.Explorations.{AreBothByProcess}
use Rattle.complete_explore.proofs.Both.{both_done}
use Rattle.complete_explore.proofs.messages.add.Goals as goal

pub returns : goal.returns
returns g c =
    both_done c.add-first.result c.add-second.result
    ((ms : List Tree) → AreByProcess c.args.one.now ms → AreByProcess c.add-first.new.self (ms ++ message_tree c.args.message ∷ []))
    ((ms : List Tree) → AreByProcess c.args.other.now ms → AreByProcess c.add-second.new.self (ms ++ message_tree c.args.same_message ∷ []))
    (AreBothByProcess (g.at ++ message_tree c.args.message ∷ []) c.add-first.new.self c.add-second.new.self)
    (λ h i. record { first = h g.at c.requires.1.0; second = subst (λ t. AreByProcess c.add-second.new.self (g.at ++ t ∷ [])) (sym c.requires.1.1.1) (i g.at c.requires.1.1.0) })
    c.add-first.ensures c.add-second.ensures
