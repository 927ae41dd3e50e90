use Rattle.std.proofs.Common.{◌≡◌, ◌+◌, ◌++◌, map, drop}
use Rattle.def_node.specs.Event.{getting_unlinked}
use Rattle.def_node.specs.Node.{partner_pids}
use Rattle.tn_flags.specs.Views.{event_of}
use Rattle.tn_node.proofs.events.push_partings.Given as goal

abbrev pub invariant-loop-place : goal.invariant-loop-place
invariant-loop-place g l =
    map event_of l.events.items ++ map (λ m. getting_unlinked m l.pid) (partner_pids (100 + l.place) (drop l.place l.partners))
    ≡ map event_of l.initial.events.items ++ map (λ m. getting_unlinked m l.pid) (partner_pids 100 l.partners)
