-- A session sees an event with other flags for new processes.
use Rattle.std.proofs.Common.{◌≡◌, ◌∙◌, sym, ap, subst, Option, Some, None}
use Rattle.std.specs.Option.{option_map, IsSomeAnd}
use Rattle.def_term.specs.Tree.{Tree}
use Rattle.def_spec.specs.Flags.{Flags}
use Rattle.def_node.specs.Event.{Event}
use Rattle.def_session.specs.State.{Session}
use Rattle.def_session.specs.Session.{event_reported}
use Rattle.def_running_node.specs.NodeSessions.{new_flags_for, reported_there}
use Rattle.tn_session.specs.Sessions.{SessionValue, next_session, with_new_process_flags}

-- it is in this state afterwards, and this is its message
pub record IsReportedThere (s t : Session) (e : Event) (m : Option Tree) (new : Option SessionValue) (v : SessionValue) : Type 0 where
  pub state : v.state ≡ s
  pub next : new ≡ Some (record v { state = (reported_there v.state e).0 })
  pub message : m ≡ (reported_there v.state e).1
  pub seen : t ≡ (reported_there v.state e).0

module _ (v1 v2 v3 : Option SessionValue) (s t : Session) (e : Event) (m : Option Tree) (f g : Flags) where
  of-one : (v : SessionValue) → v.state ≡ s → v1 ≡ Some (with_new_process_flags f v) → IsSomeAnd v1 (λ u. next_session u (event_reported u.state e) ≡ (v2, m)) → v3 ≡ option_map (with_new_process_flags g) v2 → Some t ≡ option_map (λ u. u.state) v3
      → f ≡ new_flags_for v.state e → g ≡ v.state.new_process_flags → IsReportedThere s t e m v3 v
  of-one v is first told second looked given kept =
      let made : next_session (with_new_process_flags f v) (event_reported (with_new_process_flags f v).state e) ≡ (v2, m) = subst (λ o. IsSomeAnd o (λ u. next_session u (event_reported u.state e) ≡ (v2, m))) first told in
      let after = event_reported (record v.state { new_process_flags = f }) e in
      let two : v2 ≡ Some (record v { state = after.0 }) = sym (ap (λ (p : Option SessionValue × Option Tree). p.0) made) in
      let three : v3 ≡ Some (record v { state = record after.0 { new_process_flags = g } }) = second ∙ ap (option_map (with_new_process_flags g)) two in
      let there : v3 ≡ Some (record v { state = (reported_there v.state e).0 }) =
      three ∙ ap (λ h. Some (record v { state = record (event_reported (record v.state { new_process_flags = f }) e).0 { new_process_flags = h } })) kept
      ∙ ap (λ h. Some (record v { state = record (event_reported (record v.state { new_process_flags = h }) e).0 { new_process_flags = v.state.new_process_flags } })) given in
      record {
        state = is;
        next = there;
        message = sym (ap (λ (p : Option SessionValue × Option Tree). p.1) made) ∙ ap (λ h. (event_reported (record v.state { new_process_flags = h }) e).1) given;
        seen = of-some (looked ∙ ap (option_map (λ (u : SessionValue). u.state)) there);
      }
    where
      of-some : {X : Type 0} {x y : X} → Some x ≡ Some y → x ≡ y
      of-some h = cc h

pub is_reported_there : (v0 v1 v2 v3 : Option SessionValue) (s t : Session) (e : Event) (m : Option Tree) (f g : Flags) → Some s ≡ option_map (λ v. v.state) v0 → v1 ≡ option_map (with_new_process_flags f) v0
    → IsSomeAnd v1 (λ u. next_session u (event_reported u.state e) ≡ (v2, m)) → v3 ≡ option_map (with_new_process_flags g) v2 → Some t ≡ option_map (λ u. u.state) v3 → f ≡ new_flags_for s e → g ≡ s.new_process_flags
    → IsSomeAnd v0 (IsReportedThere s t e m v3)
is_reported_there None v1 v2 v3 s t e m f g is first told second looked given kept = cc is
is_reported_there (Some v) v1 v2 v3 s t e m f g is first told second looked given kept =
    let same : v.state ≡ s = cc is in
    of-one v1 v2 v3 s t e m f g v same first told second looked (given ∙ ap (λ (q : Session). new_flags_for q e) (sym same)) (kept ∙ ap (λ (q : Session). q.new_process_flags) (sym same))
