use Rattle.std.proofs.Common.{sym, ◌∙◌, arith, rules}
use Rattle.def_term.specs.Tree.{Tree}
use Rattle.tn_term.specs.declared.term.Term.{Term}
use Rattle.def_node.specs.Values.{instance_of, fits}
use Rattle.tn_term.specs.Views.{tree_of}
use Rattle.tn_process.specs.Views.{env_of}
use Rattle.tn_process.proofs.Templates.{fit_here, fit_false, fit_true}
use Rattle.tn_process.proofs.env.Env.all_fit.Goals as goal

pub returns-then-not-fits : goal.returns-then-not-fits
returns-then-not-fits g c =
    let f : Term g.row.A.Denot → Tree = λ t. instance_of (env_of c.args.self.now) (tree_of t) in
    let here = fit_here f c.deref-template-items.result.now c.loop-template.template-index c.template-item.result (omega arith) c.template-item.is in
    fit_false (fits (f c.template-item.result)) _ _ (sym c.loop-template.invariant ∙ here) (search rules)

pub loop-template-preserved : goal.loop-template-preserved
loop-template-preserved g c =
    let f : Term g.row.A.Denot → Tree = λ t. instance_of (env_of c.args.self.now) (tree_of t) in
    let here = fit_here f c.deref-template-items.result.now c.loop-template.template-index c.template-item.result (omega arith) c.template-item.is in
    fit_true (fits (f c.template-item.result)) _ _ (sym c.loop-template.invariant ∙ here) (search rules)
