use Rattle.std.proofs.Common.{ap, sym, ◌∙◌, refl}
use Rattle.std.specs.Option.{option_map}
use Rattle.tn_term.specs.SharedTree.{shared_tree}
use Rattle.tn_process.proofs.Acts.{ended, done, within_none, within_some}
use Rattle.tn_process.proofs.process.Process.give_back.Goals as goal

pub returns-in_default : goal.returns-in_default
returns-in_default g c =
    ended c.args.self.now _ _ _ c.over_limit.ensures
    (within_none c.args.self.now.links _ _ (ap (option_map shared_tree) (sym c.in_default.is) ∙ c.in_ok-value.ensures))

pub returns : goal.returns
returns g c =
    done c.leave.new.self _ _ _ c.leave.ensures
    (within_some c.args.self.now.links _ _ (shared_tree c.in-Some.value) _ (ap (option_map shared_tree) (sym c.in-Some.is) ∙ c.in_ok-value.ensures) refl)
