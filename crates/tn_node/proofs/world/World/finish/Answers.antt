use Rattle.std.proofs.Common.{ap, ap₂, List, Option}
use Rattle.def_node.specs.Process.{Process}
use Rattle.def_node.specs.Node.{World, moved}
use Rattle.tn_node.proofs.world.World.finish.Goals as goal

pub returns : goal.returns
returns g c =
    let W : List (Option Process) → World = λ ss. record { slots = ss } in
    ap₂ moved (ap W c.in_ok-vacate.ensures) c.in_ok-exit_events.ensures
