use Rattle.std.proofs.Common.{◌≡◌, ◌++◌, ◌∷◌, [], Some, None, cond, ap, sym, ◌∙◌, map, arith, rules}
use Rattle.std.specs.Option.{option_map}
use Rattle.def_term.specs.Tree.{Tree}
use Rattle.def_node.specs.Values.{instance_of, fits}
use Rattle.tn_term.specs.Views.{tree_of}
use Rattle.tn_term.specs.declared.term.Term.{Term}
use Rattle.tn_term.proofs.Steps.{made_more}
use Rattle.tn_process.specs.Views.{env_of}
use Rattle.tn_process.proofs.Templates.{fit_here, fit_false, fit_true, all_taken, all_past, not_fit, fit_is, fit_some}
use Rattle.tn_process.proofs.env.Env.fit_all.Goals as goal

pub returns-in_default : goal.returns-in_default
returns-in_default g c =
    let f : Term g.row.A.Denot → Tree = λ t. instance_of (env_of c.args.self.now) (tree_of t) in
    let x = c.template-item.result in
    let here = fit_here f c.deref-template-items.result.now c.loop-template.template-index x (omega arith) c.template-item.is in
    let ts = map f c.args.templates.now.items in
    let unfit = not_fit (fits (f x)) (f x) (ap (option_map tree_of) (sym c.in_default.is) ∙ c.in_ok-term.ensures) in
    ap (λ b. cond b (Some ts) None) (fit_false (fits (f x)) _ _ (sym c.loop-template.invariant.rest ∙ here) unfit)

pub loop-template-preserved : goal.loop-template-preserved
loop-template-preserved g c =
    let f : Term g.row.A.Denot → Tree = λ t. instance_of (env_of c.args.self.now) (tree_of t) in
    let xs = c.deref-template-items.result.now in
    let x = c.template-item.result in
    let s = c.loop-template in
    let here = fit_here f xs s.template-index x (omega arith) c.template-item.is in
    let one : Some (tree_of c.in-Some.term) ≡ cond (fits (f x)) (Some (f x)) None = ap (option_map tree_of) (sym c.in-Some.is) ∙ c.in_ok-term.ensures in
    let pushed : c.push.new.self.items ≡ s.terms.items ++ c.in-Some.term ∷ [] = search rules in
    record {
      built = made_more f tree_of xs s.template-index x s.terms.items c.push.new.self.items c.in-Some.term (omega arith) c.template-item.is pushed (fit_is _ _ _ one) s.invariant.built;
      rest = fit_true (fits (f x)) _ _ (sym s.invariant.rest ∙ here) (fit_some _ _ _ one);
    }

pub returns : goal.returns
returns g c =
    let f : Term g.row.A.Denot → Tree = λ t. instance_of (env_of c.args.self.now) (tree_of t) in
    let xs = c.deref-template-items.result.now in
    let s = c.loop-template in
    let ts = map f c.args.templates.now.items in
    let all = s.invariant.built ∙ all_taken f xs s.template-index (omega arith) ∙ ap (map f) c.deref-template-items.ensures.value in
    ap Some all ∙ ap (λ b. cond b (Some ts) None) (sym (all_past f xs s.template-index (omega arith)) ∙ s.invariant.rest)
