use Rattle.std.proofs.Common.{◌≡◌, map, drop}
use Rattle.std.specs.List.{list_any}
use Rattle.tn_script.specs.Views.{form_of}
use Rattle.def_script.specs.Rules.{declares_one}
use Rattle.tn_program.specs.Lookups.{wanted_mfa, passes_as}
use Rattle.tn_program.proofs.lookup.any_declares.Given as goal

abbrev pub invariant-loop-form : goal.invariant-loop-form
invariant-loop-form g l = list_any (declares_one (passes_as l.fn.sought (wanted_mfa l.fn.wanted))) (map (form_of {A = g.row.A.Denot}) l.fn.forms) ≡ list_any (declares_one (passes_as l.fn.sought (wanted_mfa l.fn.wanted))) (map (form_of {A = g.row.A.Denot}) (drop l.form-index l.fn.forms))
