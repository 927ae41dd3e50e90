use Rattle.std.proofs.Common.{◌≡◌, ◌++◌, ◌∷◌, [], refl, rules}
use Rattle.tn_flags.specs.Views.{event_of}
use Rattle.tn_flags.specs.declared.event.Event.TheVariants.{Exited}
use Rattle.tn_node.proofs.Happenings.{one_between}
use Rattle.tn_node.proofs.events.exit_events.Goals as goal

pub returns : goal.returns
returns g c =
    let items : c.push.new.self.items ≡ c.args.events.items ++ Exited c.args.pid c.args.reason ∷ [] = search rules in
    one_between event_of c.args.events.items c.push.new.self.items (Exited c.args.pid c.args.reason) _ _ _ items refl c.in_ok-push_partings.ensures
