use Rattle.std.proofs.Common.{◌∙◌, ◌&&◌, not, sym, ap, subst}
use Rattle.std.specs.Option.{option_map}
use Rattle.tn_session.specs.Looks.{look_seen}
use Rattle.tn_search.specs.Sessions.{IsFreeSession}
use Rattle.tn_search.proofs.FreeSessions.{never_free, free_by_look}
use Rattle.tn_search.proofs.session_states.is_free_session.Goals as goal

pub returns-in_default : goal.returns-in_default
returns-in_default g c = never_free c.args.pid c.args.session.now

pub returns-in_default-look : goal.returns-in_default-look
returns-in_default-look g c = never_free c.args.pid c.args.session.now

pub returns-then-session_acts_on_self : goal.returns-then-session_acts_on_self
returns-then-session_acts_on_self g c =
    subst (λ b. IsFreeSession c.args.pid c.args.session.now (b && not c.flags_at-flags.result.receive)) c.if-session_acts_on_self.true
    (free_by_look c.args.pid c.args.session.now c.in-Some.session c.in-Some-look.look c.flags_at-flags.result c.session_acts_on_self.result c.in-Some.is
    (sym (ap (option_map look_seen) c.in-Some-look.is) ∙ c.look.ensures) c.session_acts_on_self.ensures c.flags_at-flags.ensures)

pub returns-else-session_acts_on_self : goal.returns-else-session_acts_on_self
returns-else-session_acts_on_self g c = subst (IsFreeSession c.args.pid c.args.session.now) (sym c.if-session_acts_on_self.false) (never_free c.args.pid c.args.session.now)
