use Rattle.std.proofs.Common.{◌∙◌, [], ◌∷◌, ◌++◌, codes, sym, ap}
use Rattle.def_term.specs.Text.{w}
use Rattle.tn_term.specs.Views.{tree_of}
use Rattle.tn_verdict.proofs.Pieces.{behind}
use Rattle.tn_verdict.proofs.ExpressionTexts.{constant_text}
use Rattle.tn_verdict.proofs.expression_text.put_constant.Goals as goal

pub returns-clause-ok : goal.returns-clause-ok
returns-clause-ok g c =
    let t = tree_of c.args.term.now in
    let o = c.args.out.now.items in
    let first = c.extend_from_slice.new.self.items in
    let last = c.push.new.self.items in
    behind o (codes "{const,") (w t ++ 125 ∷ []) first last c.in_ok-extend_from_slice.ensures.items
    (behind first (w t) (125 ∷ []) c.write_term-2.new.out.items last c.in_ok-write_term.ensures.ok c.in_ok-push.ensures.items)
    ∙ ap (λ l. o ++ l) (constant_text t (sym c.is_read_as_itself.ensures ∙ c.if-is_read_as_itself.false))
