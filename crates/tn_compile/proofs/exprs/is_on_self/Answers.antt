use Rattle.std.proofs.Common.{◌∙◌, sym}
use Rattle.tn_spec.specs.Views.{action_of}
use Rattle.tn_compile.proofs.Steps.{two-of-trace}
use Rattle.tn_compile.proofs.exprs.is_on_self.Goals as goal

pub returns-then-is_trace : goal.returns-then-is_trace
returns-then-is_trace g c = two-of-trace (action_of c.args.action) c.args.exprs.now (sym c.is_trace.ensures ∙ c.if-is_trace.true)
