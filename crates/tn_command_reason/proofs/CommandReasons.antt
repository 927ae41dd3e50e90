-- The session that is looked at, and why it refuses a command or has a trap by it.
use Rattle.std.proofs.Common.{◌≡◌, ◌∙◌, Bool, true, List, Option, Some, None, refl, ap, subst}
use Rattle.std.specs.Option.{option_map, option_or}
use Rattle.def_term.specs.Alive.{Alive}
use Rattle.def_term.specs.Names.{Mfa}
use Rattle.def_script.specs.Program.{Command}
use Rattle.def_script.specs.Exports.{Exports}
use Rattle.def_session.specs.State as definition
use Rattle.def_session.specs.State.{Phase, absent, live, destroyed}
use Rattle.def_explain.specs.CommandReasons.{CommandReason, live_failure, live_reason, trap_reason, reason_in, command_reason}
use Rattle.tn_session.specs.Looks.{is_live}
use Rattle.tn_session.specs.Sessions.{SessionValue, value_in}
use Rattle.tn_session.specs.declared.session.Session.{Session}
use Rattle.tn_trace.specs.Slots.{IsSession}

-- what is seen of a session is its state
pub look_is : {A : Type 0} (session : Option (Session A)) (one : Session A) (fs : List (Mfa × Bool)) (living : Alive) (s l : definition.Session)
    → session ≡ Some one → IsSession fs living s session → Some l ≡ option_map (λ (v : SessionValue). v.state) (value_in one) → l ≡ s
look_is session one fs living s l there is seen =
    let at : value_in one ≡ Some (record { functions = fs; state = s }) = subst (IsSession fs living s) there is in
    let same : Some l ≡ Some s = seen ∙ ap (option_map (λ (v : SessionValue). v.state)) at in
    cc

by_phase : (o : Exports) (s : definition.Session) (c : Command) (p : Phase) → is_live p ≡ true → live_reason o s c ≡ reason_in p o s c
by_phase o s c absent e = absurd (cc)
by_phase o s c live e = refl
by_phase o s c destroyed e = absurd (cc)

-- of a live session
pub of_live : (o : Exports) (s l : definition.Session) (c : Command) → l ≡ s → is_live l.phase ≡ true → live_reason o l c ≡ command_reason o s c
of_live o s l c same e = by_phase o l c l.phase e ∙ ap (λ q. command_reason o q c) same

pub none_where : {R : Type 0} (r : Option R) → ((x : R) → r ≡ Some x → ⊥) → None ≡ r
none_where None never = refl
none_where (Some x) never = absurd (never x refl)

module _ (o : Exports) (s : definition.Session) (c : Command) (failure : Option CommandReason) (is : failure ≡ live_failure o s c) where
  -- a failure comes first
  pub failure_first : (why : CommandReason) → Some why ≡ failure → Some why ≡ live_reason o s c
  failure_first why some = ap (λ r. option_or r (trap_reason o c)) (some ∙ is)

  -- and where there is none it is the trap, if there is one
  pub trap_next : (trap : Option CommandReason) → None ≡ failure → trap ≡ trap_reason o c → trap ≡ live_reason o s c
  trap_next trap none traps = traps ∙ ap (λ r. option_or r (trap_reason o c)) (none ∙ is)
