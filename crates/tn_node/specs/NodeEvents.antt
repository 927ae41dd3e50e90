-- The events of a spawn and of an exit, in their order.
use Rattle.std.specs.Prelude.{ℕ, Bool, List, [], ◌∷◌, ◌++◌, map}
use Rattle.def_script.specs.Program.{Entry, entry_mfa}
use Rattle.def_node.specs.Event.{Event, spawning, spawned, exited, getting_unlinked}
use Rattle.def_node.specs.Node.{partner_pids}
use Rattle.std.specs.declared.vec.Vec.{Vec}
use Rattle.tn_term.specs.Views.{tree_of}
use Rattle.tn_term.specs.declared.term.Term.{Term}
use Rattle.tn_flags.specs.Views.{event_of}
use Rattle.tn_flags.specs.declared.event.Event as code

-- the parent's, and then the child's
abbrev pub events_of_spawn : ℕ → ℕ → Entry → List Event
events_of_spawn pid child e = spawning pid child (entry_mfa e) e.args ∷ spawned child pid (entry_mfa e) e.args ∷ []

-- those of the lost links, by rising pid
abbrev pub partings : ℕ → List Bool → List Event
partings pid partners = map (λ m. getting_unlinked m pid) (partner_pids 100 partners)

-- what the code's events stand for
abbrev pub seen_events : {A : Type 0} → Vec (code.Event A) A → List Event
seen_events es = map event_of es.items

-- those before the exit, the exit, and then those of the lost links
abbrev pub events_of_exit : {A : Type 0} → ℕ → List Bool → Term A → Vec (code.Event A) A → List Event
events_of_exit pid partners reason before = seen_events before ++ exited pid (tree_of reason) ∷ partings pid partners
