use Rattle.std.proofs.Common.{◌≡◌, drop, map}
use Rattle.std.specs.List.{list_any}
use Rattle.tn_independence.specs.Links.{changes_link}
use Rattle.tn_script.specs.Views.{step_of}
use Rattle.tn_independence.proofs.links.one_changes_link.Given as goal

abbrev pub invariant-loop-i : goal.invariant-loop-i
invariant-loop-i g l = list_any changes_link (map (step_of {A = g.row.A.Denot}) (drop l.i l.steps.items)) ≡ list_any changes_link (map (step_of {A = g.row.A.Denot}) l.steps.items)
