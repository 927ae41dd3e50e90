use Rattle.std.proofs.Common.{◌∙◌, ap}
use Rattle.def_spec.specs.Expressions as ex
use Rattle.tn_action.specs.Steps.{context_at}
use Rattle.tn_action.proofs.TraceFlags.{two_args, three_args, no_args}
use Rattle.tn_action.proofs.trace.trace_by.Goals as goal

pub returns-then-args-eq2 : goal.returns-then-args-eq2
returns-then-args-eq2 g c =
    c.trace_own.ensures ∙ ap (ex.trace_by (context_at c.args.context.now c.args.past.now)) (two_args c.args.args.now c.index-args-0.result c.index-args-1.result c.if-args-eq2.true c.index-args-0.is c.index-args-1.is)

pub returns-then-args-eq3 : goal.returns-then-args-eq3
returns-then-args-eq3 g c =
    c.trace_on.ensures
    ∙ ap (ex.trace_by (context_at c.args.context.now c.args.past.now))
    (three_args c.args.args.now c.index-args-0-then-args-eq3.result c.index-args-1-then-args-eq3.result c.index-args-2.result c.if-args-eq3.true c.index-args-0-then-args-eq3.is c.index-args-1-then-args-eq3.is c.index-args-2.is)

pub returns-else-args-eq3 : goal.returns-else-args-eq3
returns-else-args-eq3 g c = no_args c.args.args.now (context_at c.args.context.now c.args.past.now) c.if-args-eq2.false c.if-args-eq3.false
