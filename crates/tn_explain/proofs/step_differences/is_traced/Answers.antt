use Rattle.std.proofs.Common.{◌∙◌, ap, not}
use Rattle.def_spec.specs.Flags.{has_all, no_flags}
use Rattle.tn_flags.specs.Views.{flags_of}
use Rattle.tn_explain.proofs.step_differences.is_traced.Goals as goal

pub returns : goal.returns
returns g c = ap not (c.has-none.ensures ∙ ap (λ f. has_all f (flags_of c.flags_at-flags.result)) c.none.ensures ∙ ap (has_all no_flags) c.flags_at-flags.ensures)
