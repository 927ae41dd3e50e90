use Rattle.std.proofs.Common.{◌≡◌, take}
use Rattle.std.specs.Option.{option_map}
use Rattle.def_script.specs.Script.{creations}
use Rattle.tn_program.specs.Views.{program_of}
use Rattle.tn_exploration.specs.Requests.{places_from}
use Rattle.tn_exploration.proofs.sessions.places_of.Given as goal

abbrev pub invariant-loop-place : goal.invariant-loop-place
invariant-loop-place g l = l.places.items ≡ places_from (option_map (λ s. s.now) l.fn.asked) 0 (take l.place (creations (program_of l.program).commands))
