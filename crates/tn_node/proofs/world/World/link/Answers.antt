use Rattle.std.proofs.Common.{◌≡◌, ap, sym, ◌∙◌, ◌∷◌, [], map, rules}
use Rattle.def_node.specs.Event.{linked}
use Rattle.def_node.specs.Node.{moved, linked_to}
use Rattle.tn_flags.specs.Views.{event_of}
use Rattle.tn_node.specs.Worlds.{world_of}
use Rattle.tn_node.proofs.Links.{link_self, link_known, link_new}
use Rattle.tn_node.proofs.world.World.link.Goals as goal

pub returns-then-pid-other : goal.returns-then-pid-other
returns-then-pid-other g c =
    let w = world_of c.args.self.now in
    ap (λ es. moved w (map event_of es)) c.new.ensures.items ∙ link_self w c.args.place c.args.pid c.args.other c.if-pid-other.true

pub returns-then-is_linked : goal.returns-then-is_linked
returns-then-is_linked g c =
    let w = world_of c.args.self.now in
    let items : map event_of c.push.new.self.items ≡ linked c.args.pid c.args.other ∷ [] = search rules in
    ap (moved w) items ∙ link_known w c.args.place c.args.pid c.args.other c.if-pid-other.false (sym c.is_linked.ensures.linked ∙ c.if-is_linked.true)

pub returns : goal.returns
returns g c =
    let w = world_of c.args.self.now in
    c.in_ok-link_to.ensures ∙ ap (linked_to w c.args.place c.args.pid c.args.other) c.place_of_pid-partner.ensures.place
    ∙ link_new w c.args.place c.args.pid c.args.other c.if-pid-other.false (sym c.is_linked.ensures.linked ∙ c.if-is_linked.false)
