use Rattle.std.proofs.Common.{◌≡◌, map, drop}
use Rattle.std.specs.List.{list_any}
use Rattle.def_script.specs.Rules.{declares_one}
use Rattle.tn_script.specs.Views.{form_of}
use Rattle.tn_refusal.specs.RuleViews.{callee_seen, declares_so}
use Rattle.tn_refusal.proofs.callee.is_declared.Given as goal

abbrev pub invariant-loop-form : goal.invariant-loop-form
invariant-loop-form g l =
    list_any (declares_one (declares_so l.fn.how (callee_seen l.fn.callee))) (map (form_of {A = g.row.A.Denot}) l.fn.forms) ≡ list_any (declares_one (declares_so l.fn.how (callee_seen l.fn.callee))) (map (form_of {A = g.row.A.Denot}) (drop l.form-index l.fn.forms))
