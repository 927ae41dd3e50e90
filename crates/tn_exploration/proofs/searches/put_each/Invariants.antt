use Rattle.std.proofs.Common.{◌∷◌, [], map, take}
use Rattle.tn_program.specs.Views.{program_of}
use Rattle.tn_exploration.specs.Requests.{AddsSearches}
use Rattle.tn_exploration.proofs.searches.put_each.Given as goal

abbrev pub invariant-loop-place : goal.invariant-loop-place
invariant-loop-place g l = AddsSearches l.request (program_of l.program) l.before (map (λ n. n ∷ []) (take l.place-index l.places)) l.fn.text.items l.text.items l.all
