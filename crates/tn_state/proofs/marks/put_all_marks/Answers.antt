use Rattle.def_state.specs.SessionTexts.{marks_text_at}
use Rattle.tn_session.specs.Looks.{look_seen}
use Rattle.tn_text.proofs.Growth.{on_failed}
use Rattle.tn_state.proofs.Texts.{one_more, no_more}
use Rattle.tn_state.proofs.marks.put_all_marks.Goals as goal

pub loop-pid-preserved : goal.loop-pid-preserved
loop-pid-preserved g c =
    let l = c.loop-pid in
    one_more (marks_text_at (look_seen c.args.look.now)) 164 l.pid l.out.items c.put_marks_at.new.out.items _ c.loop-pid-test.true l.invariant c.in_ok-put_marks_at.ensures

pub returns-in_err-put_marks_at : goal.returns-in_err-put_marks_at
returns-in_err-put_marks_at g c = on_failed c.from_residual.result _ _ c.from_residual.ensures.1

pub returns : goal.returns
returns g c =
    let l = c.loop-pid in
    no_more (marks_text_at (look_seen c.args.look.now)) 164 l.pid l.out.items _ c.loop-pid-test.false l.invariant
