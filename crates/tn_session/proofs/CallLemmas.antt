-- What the calls of a session give, of its state.
use Rattle.std.proofs.Common.{◌≡◌, ◌∙◌, map, Bool, false, Option, Some, sym, ap, subst}
use Rattle.std.specs.Option.{IsSomeAnd}
use Rattle.std.specs.Arc.{arc_value}
use Rattle.def_session.specs.State as definition
use Rattle.tn_session.specs.Views.{state_seen, function_seen}
use Rattle.tn_session.specs.Sessions.{SessionValue, session_seen, value_in, next_session}
use Rattle.tn_session.specs.declared.state.State.{State}

-- what holds of the states before and after a call holds of a session that isn't spent
pub where_there : {A : Type 0} (P : Option SessionValue → SessionValue → Type 0) (is_spent : Bool) (c d : State A) → is_spent ≡ false → P (Some (session_seen d)) (session_seen c)
    → IsSomeAnd (value_in (record { state = c; is_spent = is_spent })) (P (value_in (record { state = d; is_spent = is_spent })))
where_there P is_spent c d is h =
    subst (λ b. IsSomeAnd (value_in (record { state = c; is_spent = b })) (P (value_in (record { state = d; is_spent = b })))) (sym is) h

-- the functions stay, and the state is the one that the definition gives
pub next_there : {A T : Type 0} (c d : State A) (r : definition.Session × T) (x : T)
    → r ≡ (state_seen d, x) → d.functions ≡ c.functions → next_session (session_seen c) r ≡ (Some (session_seen d), x)
next_there c d r x gives same =
    ap (next_session (session_seen c)) gives ∙ ap (λ v. (Some (record { functions = map function_seen (arc_value v).items; state = state_seen d }), x)) (sym same)
