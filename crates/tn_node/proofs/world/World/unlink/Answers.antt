use Rattle.std.proofs.Common.{◌≡◌, ap, sym, ◌∙◌, ◌∷◌, [], map, rules}
use Rattle.def_node.specs.Event.{unlinked}
use Rattle.def_node.specs.Node.{moved, unlinked_from}
use Rattle.tn_flags.specs.Views.{event_of}
use Rattle.tn_node.specs.Worlds.{world_of}
use Rattle.tn_node.proofs.Links.{unlink_self, unlink_known, unlink_none}
use Rattle.tn_node.proofs.world.World.unlink.Goals as goal

pub returns-then-pid-other : goal.returns-then-pid-other
returns-then-pid-other g c =
    let w = world_of c.args.self.now in
    ap (λ es. moved w (map event_of es)) c.new.ensures.items ∙ unlink_self w c.args.place c.args.pid c.args.other c.if-pid-other.true

pub returns-then-is_linked : goal.returns-then-is_linked
returns-then-is_linked g c =
    let w = world_of c.args.self.now in
    c.in_ok-unlink_from.ensures ∙ ap (unlinked_from w c.args.place c.args.pid c.args.other) c.place_of_pid-partner.ensures.place
    ∙ unlink_known w c.args.place c.args.pid c.args.other c.if-pid-other.false (sym c.is_linked.ensures.linked ∙ c.if-is_linked.true)

pub returns : goal.returns
returns g c =
    let w = world_of c.args.self.now in
    let items : map event_of c.push.new.self.items ≡ unlinked c.args.pid c.args.other ∷ [] = search rules in
    ap (moved w) items ∙ unlink_none w c.args.place c.args.pid c.args.other c.if-pid-other.false (sym c.is_linked.ensures.linked ∙ c.if-is_linked.false)
