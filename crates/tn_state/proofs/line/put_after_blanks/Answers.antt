use Rattle.std.proofs.Common.{◌∙◌, ◌∷◌, [], ◌++◌, ap, append_assoc}
use Rattle.def_term.specs.Text.{w}
use Rattle.def_state.specs.Lines.{after_blank}
use Rattle.tn_term.specs.Views.{tree_of}
use Rattle.tn_state.proofs.Texts.{one_written}
use Rattle.tn_state.proofs.line.put_after_blanks.Goals as goal

pub loop-term-preserved : goal.loop-term-preserved
loop-term-preserved g c =
    let l = c.loop-term in
    let text = w (tree_of c.term-item.result) in
    one_written tree_of after_blank c.args.terms.now l.term-index c.term-item.result l.out.items c.write_term.new.out.items _ c.loop-term-test.true c.term-item.is l.invariant
    (c.in_ok-write_term.ensures.ok ∙ ap (λ x. x ++ text) c.in_ok-push.ensures.items ∙ append_assoc l.out.items (32 ∷ []) text)
