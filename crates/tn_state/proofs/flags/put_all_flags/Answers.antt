use Rattle.def_state.specs.SessionTexts.{flags_text_at}
use Rattle.tn_session.specs.Looks.{look_seen}
use Rattle.tn_state.proofs.Texts.{one_more, no_more}
use Rattle.tn_state.proofs.flags.put_all_flags.Goals as goal

pub loop-pid-preserved : goal.loop-pid-preserved
loop-pid-preserved g c =
    let l = c.loop-pid in
    one_more (flags_text_at (look_seen c.args.look.now)) 164 l.pid l.out.items c.put_flags_at.new.out.items _ c.loop-pid-test.true l.invariant c.in_ok-put_flags_at.ensures

pub returns : goal.returns
returns g c =
    let l = c.loop-pid in
    no_more (flags_text_at (look_seen c.args.look.now)) 164 l.pid l.out.items _ c.loop-pid-test.false l.invariant
