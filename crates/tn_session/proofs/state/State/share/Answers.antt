use Rattle.std.proofs.Common.{Bool, ap, map}
use Rattle.std.specs.declared.vec.Vec.{Vec}
use Rattle.tn_term.specs.declared.mfa.Mfa.{Mfa}
use Rattle.tn_session.specs.Views.{function_seen}
use Rattle.tn_session.proofs.SamePlaces.{same_marks_seen}
use Rattle.tn_session.proofs.Values.{value_same}
use Rattle.tn_session.proofs.state.State.share.Goals as goal

pub returns : goal.returns
returns g c =
    value_same _ _ _ _ _ _ _ _ _ _ _ _ _ _ (ap (λ (v : Vec (Mfa g.row.A.Denot × Bool) g.row.A.Denot). map function_seen v.items) c.in_ok-try_clone.ensures) c.in_ok-share_settings.ensures c.in_ok-share_setting.ensures c.in_ok-share_setting-2.ensures
    (same_marks_seen c.in_ok-copy_all_marks.field-0.items c.args.self.now.marks.items c.in_ok-copy_all_marks.ensures)
