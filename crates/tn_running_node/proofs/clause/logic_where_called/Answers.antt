use Rattle.std.proofs.Common.{◌∙◌, sym}
use Rattle.std.proofs.lemmas.Bool.{or_parts}
use Rattle.def_explain.proofs.Logic.{no_logic_in_clause}
use Rattle.tn_head.specs.Views.{bindings_seen}
use Rattle.tn_spec.specs.Views.{clause_seen, dialect_of}
use Rattle.tn_action.specs.Views.{context_seen}
use Rattle.tn_running_node.proofs.clause.logic_where_called.Goals as goal

pub returns-then-not-calls : goal.returns-then-not-calls
returns-then-not-calls g c =
    let neither = or_parts c.one_calls_logic.result c.one_calls_logic-2.result c.if-not-calls.true in
    sym (no_logic_in_clause (dialect_of c.args.dialect) (clause_seen c.args.clause.now) (bindings_seen c.args.bindings.now) (context_seen c.args.context.now) (sym c.one_calls_logic.ensures ∙ neither.0) (sym c.one_calls_logic-2.ensures ∙ neither.1))
