use Rattle.std.proofs.Common.{refl, arith, codes}
use Rattle.tn_term.specs.Views.{tree_of}
use Rattle.tn_fun_text.specs.Texts.{pattern_text, patterns_text}
use Rattle.tn_fun_text.proofs.Loops.{next_written, all_written}
use Rattle.tn_fun_text.proofs.pattern_text.+pattern.Goals as goal

pub put_each_pattern-loop-i-preserved : goal.put_each_pattern-loop-i-preserved
put_each_pattern-loop-i-preserved g t c =
    let stored = c.args.terms.now.ok.0 in
    let x = c.index.result.now in
    next_written (patterns_text c.loop-i.between.now) (patterns_text (codes ", ")) c.args.terms.now.items c.loop-i.i x c.loop-i.between.now (pattern_text (tree_of x)) c.loop-i.out.items c.extend_from_slice.new.self.items c.put_pattern.new.out.items _
    (λ ts. refl) (omega arith) c.index.ensures c.loop-i.invariant c.in_ok-extend_from_slice.ensures.items c.in_ok-put_pattern.ensures

pub put_each_pattern-returns : goal.put_each_pattern-returns
put_each_pattern-returns g t c =
    let stored = c.args.terms.now.ok.0 in
    all_written (patterns_text c.loop-i.between.now) refl c.args.terms.now.items c.loop-i.i c.loop-i.out.items _ (omega arith) c.loop-i.invariant
