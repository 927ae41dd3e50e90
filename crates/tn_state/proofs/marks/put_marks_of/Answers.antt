use Rattle.std.proofs.Common.{◌∙◌, ◌++◌, ap}
use Rattle.def_session.specs.State.{mark_of}
use Rattle.def_state.specs.SessionTexts.{frame_mark_text}
use Rattle.tn_session.specs.Looks.{look_seen}
use Rattle.tn_state.proofs.Texts.{one_more, no_more}
use Rattle.tn_state.proofs.marks.put_marks_of.Goals as goal

pub loop-depth-preserved : goal.loop-depth-preserved
loop-depth-preserved g c =
    let l = c.loop-depth in
    let pid = c.args.pid in
    let s = look_seen c.args.look.now in
    one_more (λ d. frame_mark_text pid d (mark_of s pid d)) 65 l.depth l.out.items c.put_mark.new.out.items _ c.loop-depth-test.true l.invariant
    (c.in_ok-put_mark.ensures ∙ ap (λ k. l.out.items ++ frame_mark_text pid l.depth k) c.mark_of.ensures)

pub returns : goal.returns
returns g c =
    let l = c.loop-depth in
    let pid = c.args.pid in
    let s = look_seen c.args.look.now in
    no_more (λ d. frame_mark_text pid d (mark_of s pid d)) 65 l.depth l.out.items _ c.loop-depth-test.false l.invariant
