use Rattle.std.proofs.Common.{◌≡◌, drop}
use Rattle.def_term.specs.Text.{is_among}
use Rattle.tn_refusal.proofs.variables.has_param.Given as goal

abbrev pub invariant-loop-param : goal.invariant-loop-param
invariant-loop-param g l = is_among l.fn.params l.fn.name ≡ is_among (drop l.param-index l.fn.params) l.fn.name
