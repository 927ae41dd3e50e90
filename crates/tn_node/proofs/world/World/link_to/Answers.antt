use Rattle.std.proofs.Common.{◌≡◌, ap, ap₂, sym, ◌∙◌, ◌∷◌, [], map, rules}
use Rattle.def_node.specs.Event.{linked}
use Rattle.def_node.specs.Node.{moved, linked_to, change_at, with_signal}
use Rattle.tn_flags.specs.Views.{event_of}
use Rattle.tn_node.specs.Worlds.{world_of}
use Rattle.tn_node.proofs.world.World.link_to.Goals as goal

pub returns-in_ok-put_signal-in-None : goal.returns-in_ok-put_signal-in-None
returns-in_ok-put_signal-in-None g c =
    let w = world_of c.args.self.now in
    let items : map event_of c.push.new.self.items ≡ linked c.args.pid c.args.other ∷ [] = search rules in
    ap₂ moved
    (c.in_ok-put_signal-in-None.ensures ∙ ap (λ t. change_at w c.args.place (with_signal t)) c.in_ok-reason-in-None.ensures)
    items
    ∙ sym (ap (linked_to w c.args.place c.args.pid c.args.other) c.in-None.is)
