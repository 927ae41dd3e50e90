use Rattle.std.proofs.Common.{ap, ◌∙◌, None}
use Rattle.std.proofs.lemmas.List.{map-set}
use Rattle.def_node.specs.Node.{partners_told}
use Rattle.tn_term.specs.Views.{tree_of}
use Rattle.tn_node.specs.Worlds.{slot_of}
use Rattle.tn_node.proofs.world.World.vacate.Goals as goal

pub returns : goal.returns
returns g c =
    c.in_ok-tell_partners.ensures ∙ ap (partners_told c.args.pid (tree_of c.args.reason.now) c.args.partners.now) (map-set slot_of c.args.self.now.slots.items c.args.place None)
