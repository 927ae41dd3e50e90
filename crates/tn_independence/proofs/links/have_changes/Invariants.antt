use Rattle.std.proofs.Common.{◌≡◌, drop, map}
use Rattle.std.specs.List.{list_any}
use Rattle.tn_independence.specs.Links.{has_changes}
use Rattle.tn_script.specs.Views.{function_of}
use Rattle.tn_independence.proofs.links.have_changes.Given as goal

abbrev pub invariant-loop-function : goal.invariant-loop-function
invariant-loop-function g l = list_any has_changes (map (function_of {A = g.row.A.Denot}) (drop l.function-index l.functions)) ≡ list_any has_changes (map (function_of {A = g.row.A.Denot}) l.functions)
