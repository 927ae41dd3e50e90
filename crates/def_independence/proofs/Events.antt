-- An event of a process, and an event apart from it: whichever comes first, both lead to the same session, and show the same.
use Rattle.std.proofs.Common.{◌≡◌, ℕ, ◌-◌, Bool, true, false, ◌&&◌, if◌then◌else◌, cond, List, slice_get, Option, None, refl, ap, sym, ◌∙◌, subst}
use Rattle.std.specs.Prelude.{nat_le, ◌==◌}
use Rattle.std.specs.Option.{unwrap_or}
use Rattle.std.proofs.Math.ListN.{set}
use Rattle.def_term.specs.Tree.{Tree}
use Rattle.def_term.specs.Names.{Mfa}
use Rattle.def_term.specs.Alive.{Alive, with_alive}
use Rattle.def_spec.specs.Flags.{Flags, no_flags, receive_flag, after_spawn}
use Rattle.def_spec.specs.Expressions.{Effect}
use Rattle.def_node.specs.Event.{Event, sent, received, called, returned, raised, spawning, spawned, exited, linked, unlinked, getting_linked, getting_unlinked}
use Rattle.def_session.specs.State.{Phase, absent, live, destroyed, Mark, Session, flags_at, alive_after}
use Rattle.def_session.specs.Messages.{process_of}
use Rattle.def_session.specs.Session.{with_both, inherit, effects_of, EventResult, reported_for, reported_in, event_reported}
use Rattle.def_independence.specs.OwnEffects.{setting_acts_on_self, functions_act_on_self, session_acts_on_self}
use Rattle.def_independence.proofs.Numbers.{large_if, big_if, same_if, other_if, far_if}
use Rattle.def_independence.proofs.Worlds.{IsElse, IsApart}
use Rattle.def_independence.proofs.Sessions.{set_swap, get_other, touch, Like, like_same, like_then, like_touch, touch_swap, Goes, flags_of, marks_of, life_of, touch_same, touch_by, effects_go}

-- a result
abbrev result : Session → Option Tree → EventResult
result s m = (s, m)

-- ---- an event without inheritance that changes who lives nowhere

plain_goes : (e : Event) → nat_le 100 (process_of e) ≡ true → ((s : Session) → inherit s e ≡ s) → ((al : Alive) → alive_after al e ≡ al) → (s t : Session) → Like (process_of e - 100) s t → session_acts_on_self s ≡ true
    → Goes (process_of e - 100) s t (event_reported s e) (event_reported t e)
plain_goes e big inh alv s t like acts = subst (λ ph. Goes (process_of e - 100) s t (event_reported s e) (reported_in ph t e)) like.phase (go s.phase)
  where
    still : Goes (process_of e - 100) s t (result (record s { alive = alive_after s.alive e }) None) (result (record t { alive = alive_after t.alive e }) None)
    still = record {
      flags = flags_of (process_of e - 100) s;
      marks = marks_of (process_of e - 100) s;
      life = life_of (process_of e - 100) s;
      message = None;
      first = ap (λ (al : Alive). result (record s { alive = al }) None) (alv s.alive) ∙ ap (λ x. result x None) (sym (touch_same (process_of e - 100) s));
      second = ap (λ (al : Alive). result (record t { alive = al }) None) (alv t.alive) ∙ ap (λ x. result x None) (sym (touch_by (process_of e - 100) s t like));
    }

    go : (ph : Phase) → Goes (process_of e - 100) s t (reported_in ph s e) (reported_in ph t e)
    go absent = still
    go destroyed = still
    go live =
        subst (λ x. Goes (process_of e - 100) s t (reported_for x e (effects_of x e)) (reported_for (inherit t e) e (effects_of (inherit t e) e))) (sym (inh s))
        (subst (λ y. Goes (process_of e - 100) s t (reported_for s e (effects_of s e)) (reported_for y e (effects_of y e))) (sym (inh t)) (effects_go e big s t like acts))

-- ---- the own events of a process

-- a call, a return or an exception of the process n
abbrev pub IsOwn : ℕ → Event → Type 0
IsOwn n (called p c) = p ≡ n
IsOwn n (returned p f t depth) = p ≡ n
IsOwn n (raised p f c t depth) = p ≡ n
IsOwn n e = ⊥

pub own_goes : (n : ℕ) → nat_le 100 n ≡ true → (e : Event) → IsOwn n e → (s t : Session) → Like (n - 100) s t → session_acts_on_self s ≡ true → Goes (n - 100) s t (event_reported s e) (event_reported t e)
own_goes n big (called p c) own s t like acts =
    subst (λ x. Goes (x - 100) s t (event_reported s (called p c)) (event_reported t (called p c))) own
    (plain_goes (called p c) (ap (nat_le 100) own ∙ big) (λ _. refl) (λ _. refl) s t (subst (λ x. Like (x - 100) s t) (sym own) like) acts)
own_goes n big (returned p f v depth) own s t like acts =
    subst (λ x. Goes (x - 100) s t (event_reported s (returned p f v depth)) (event_reported t (returned p f v depth))) own
    (plain_goes (returned p f v depth) (ap (nat_le 100) own ∙ big) (λ _. refl) (λ _. refl) s t (subst (λ x. Like (x - 100) s t) (sym own) like) acts)
own_goes n big (raised p f c v depth) own s t like acts =
    subst (λ x. Goes (x - 100) s t (event_reported s (raised p f c v depth)) (event_reported t (raised p f c v depth))) own
    (plain_goes (raised p f c v depth) (ap (nat_le 100) own ∙ big) (λ _. refl) (λ _. refl) s t (subst (λ x. Like (x - 100) s t) (sym own) like) acts)
own_goes n big e own s t like acts = absurd own

-- ---- events apart from it

-- the settings act on the own process, and the process doesn't have the flag `receive`
abbrev pub Holds : ℕ → Session → Type 0
Holds n s = (session_acts_on_self s ≡ true) × (flags_at s n receive_flag ≡ false)

-- the event keeps what the session has of the process, and does the same whatever that is, where the process has the flag `receive` neither before nor after
pub record Away (n : ℕ) (s : Session) (e : Event) : Type 0 where
  pub kept : Like (n - 100) s (event_reported s e).0
  pub goes : (fl : Flags) (ms : List Mark) (b : Bool) → flags_at (touch (n - 100) s fl ms b) n receive_flag ≡ false
      → event_reported (touch (n - 100) s fl ms b) e ≡ (touch (n - 100) (event_reported s e).0 fl ms b, (event_reported s e).1)

alive_if : (al : Alive) (i k : ℕ) (b c : Bool) → (i ≡ k → ⊥) → slice_get (cond c (set al k b) al) i ≡ slice_get al i
alive_if al i k b true far = get_other al k i b (λ e. far (sym e))
alive_if al i k b false far = refl

alive_far : (e : Event) (i : ℕ) → (i ≡ process_of e - 100 → ⊥) → (al : Alive) → slice_get (alive_after al e) i ≡ slice_get al i
alive_far (spawned p parent f args) i far al = alive_if al i (p - 100) true (nat_le 100 p) far
alive_far (exited p r) i far al = alive_if al i (p - 100) false (nat_le 100 p) far
alive_far e i far al = refl

swap_if : (al : Alive) (i k : ℕ) (b d c : Bool) → (i ≡ k → ⊥) → cond c (set (set al i b) k d) (set al i b) ≡ set (cond c (set al k d) al) i b
swap_if al i k b d true far = set_swap al i k b d far
swap_if al i k b d false far = refl

alive_swap : (e : Event) (i : ℕ) → (i ≡ process_of e - 100 → ⊥) → (al : Alive) (b : Bool) → alive_after (set al i b) e ≡ set (alive_after al e) i b
alive_swap (spawned p parent f args) i far al b = swap_if al i (p - 100) b true (nat_le 100 p) far
alive_swap (exited p r) i far al b = swap_if al i (p - 100) b false (nat_le 100 p) far
alive_swap e i far al b = refl

-- what comes before the event does so too
record Inherits (i : ℕ) (s : Session) (e : Event) : Type 0 where
  like : Like i s (inherit s e)
  acts : session_acts_on_self (inherit s e) ≡ session_acts_on_self s
  goes : (fl : Flags) (ms : List Mark) (b : Bool) → inherit (touch i s fl ms b) e ≡ touch i (inherit s e) fl ms b

inherits_none : (i : ℕ) (s : Session) (e : Event) → ((x : Session) → inherit x e ≡ x) → Inherits i s e
inherits_none i s e inh = record {
  like = subst (Like i s) (sym (inh s)) (like_same i s);
  acts = ap session_acts_on_self (inh s);
  goes = λ fl ms b. inh (touch i s fl ms b) ∙ ap (λ x. touch i x fl ms b) (sym (inh s));
}

inherits_spawn : (i : ℕ) (s : Session) (child parent : ℕ) (f : Mfa) (args : List Tree) → (i ≡ child - 100 → ⊥) → (i ≡ parent - 100 → ⊥) → Inherits i s (spawned child parent f args)
inherits_spawn i s child parent f args far_child far_parent = record {
  like = record {
    phase = refl;
    functions = refl;
    sending = refl;
    receiving = refl;
    flags = sym (get_other (set s.flags (parent - 100) pair.0) (child - 100) i pair.1 (λ e. far_child (sym e)) ∙ get_other s.flags (parent - 100) i pair.0 (λ e. far_parent (sym e)));
    marks = refl;
    life = sym (alive_far (spawned child parent f args) i far_child s.alive);
  };
  acts = refl;
  goes = λ fl ms b. first fl ms b ∙ second fl ms b;
}
  where
    pair : Flags × Flags
    pair = after_spawn (flags_at s parent) s.new_process_flags

    first : (fl : Flags) (ms : List Mark) (b : Bool) → inherit (touch i s fl ms b) (spawned child parent f args) ≡ with_both (record (touch i s fl ms b) { alive = with_alive (set s.alive i b) child true }) parent child pair
    first fl ms b =
        ap (λ x. with_both (record (touch i s fl ms b) { alive = with_alive (set s.alive i b) child true }) parent child (after_spawn x s.new_process_flags))
        (ap (λ o. unwrap_or o no_flags) (get_other s.flags i (parent - 100) fl far_parent))

    tables : (fl : Flags) → set (set (set s.flags i fl) (parent - 100) pair.0) (child - 100) pair.1 ≡ set (set (set s.flags (parent - 100) pair.0) (child - 100) pair.1) i fl
    tables fl =
        ap (λ t. set t (child - 100) pair.1) (set_swap s.flags i (parent - 100) fl pair.0 far_parent)
        ∙ set_swap (set s.flags (parent - 100) pair.0) i (child - 100) fl pair.1 far_child

    second : (fl : Flags) (ms : List Mark) (b : Bool) → with_both (record (touch i s fl ms b) { alive = with_alive (set s.alive i b) child true }) parent child pair ≡ touch i (inherit s (spawned child parent f args)) fl ms b
    second fl ms b = λ j. record s { flags = tables fl j; marks = set s.marks i ms; alive = alive_swap (spawned child parent f args) i far_child s.alive b j }

-- whether it is evaluated goes by the phase
module _ (n : ℕ) (big : nat_le 100 n ≡ true) (s : Session) (e : Event) (other : IsElse n (process_of e)) (inherits : Inherits (n - 100) s e) (acts : session_acts_on_self s ≡ true) where
  abbrev At : ℕ
  At = n - 100

  abbrev Place : ℕ
  Place = process_of e - 100

  abbrev reported : Session → EventResult
  reported x = reported_for x e (effects_of x e)

  abbrev AwayIn : Phase → Type 0
  AwayIn ph = Like At s (reported_in ph s e).0
      × ((fl : Flags) (ms : List Mark) (b : Bool) → reported_in ph (touch At s fl ms b) e ≡ result (touch At (reported_in ph s e).0 fl ms b) (reported_in ph s e).1)

  far : At ≡ Place → ⊥
  far = far_if n (process_of e) (big_if n big) other.0 other.1

  still_away : Like At s (record s { alive = alive_after s.alive e })
      × ((fl : Flags) (ms : List Mark) (b : Bool) → result (record (touch At s fl ms b) { alive = alive_after (set s.alive At b) e }) None ≡ result (touch At (record s { alive = alive_after s.alive e }) fl ms b) None)
  still_away = (
    record { phase = refl; functions = refl; sending = refl; receiving = refl; flags = refl; marks = refl; life = sym (alive_far e At far s.alive) },
    λ fl ms b. ap (λ (al : Alive). result (record (touch At s fl ms b) { alive = al }) None) (alive_swap e At far s.alive b),
  )

  live_away : AwayIn live
  live_away =
      let x : Session = inherit s e in
      let large : nat_le 100 (process_of e) ≡ true = large_if (process_of e) other.0 in
      let acts_then : session_acts_on_self x ≡ true = inherits.acts ∙ acts in
      let base : Goes Place x x (reported x) (reported x) = effects_go e large x x (like_same Place x) acts_then in
      let after : Like At x (reported x).0 =
      subst (Like At x) (ap (λ (r : EventResult). r.0) (sym base.first)) (like_touch Place At x base.flags base.marks base.life (λ k. far (sym k))) in
      let both : (fl : Flags) (ms : List Mark) (b : Bool) → Goes Place x (touch At x fl ms b) (reported x) (reported (touch At x fl ms b)) =
      λ fl ms b. effects_go e large x (touch At x fl ms b) (like_touch At Place x fl ms b far) acts_then in (
        like_then At s x (reported x).0 inherits.like after,
        λ fl ms b.
            ap reported (inherits.goes fl ms b)
            ∙ (both fl ms b).second
            ∙ ap (λ z. result z (both fl ms b).message) (touch_swap At Place x fl (both fl ms b).flags ms (both fl ms b).marks b (both fl ms b).life far)
            ∙ sym (ap (λ (r : EventResult). result (touch At r.0 fl ms b) r.1) (both fl ms b).first),
      )

  in_phase : (ph : Phase) → AwayIn ph
  in_phase absent = still_away
  in_phase destroyed = still_away
  in_phase live = live_away

  else_away : Away n s e
  else_away = record { kept = (in_phase s.phase).0; goes = λ fl ms b _. (in_phase s.phase).1 fl ms b }

-- a message to a process without the flag `receive` changes nothing, and shows nothing
heard : (s : Session) (n sender : ℕ) (x : Tree) (b : Bool) (r : Option (List Effect)) → b ≡ false → reported_for s (received n sender x) (if b then r else None) ≡ result s None
heard s n sender x true r h = absurd (let k : true ≡ false = h in cc)
heard s n sender x false r h = refl

pub deaf : (s : Session) (n sender : ℕ) (x : Tree) → flags_at s n receive_flag ≡ false → event_reported s (received n sender x) ≡ (s, None)
deaf s n sender x h = go s.phase
  where
    go : (ph : Phase) → reported_in ph s (received n sender x) ≡ result s None
    go absent = refl
    go destroyed = refl
    go live = heard s n sender x (flags_at s n receive_flag) _ h

deaf_away : (n : ℕ) (s : Session) (sender : ℕ) (x : Tree) → flags_at s n receive_flag ≡ false → Away n s (received n sender x)
deaf_away n s sender x h = record {
  kept = subst (Like (n - 100) s) (ap (λ (r : EventResult). r.0) (sym (deaf s n sender x h))) (like_same (n - 100) s);
  goes = λ fl ms b quiet.
      deaf (touch (n - 100) s fl ms b) n sender x quiet
      ∙ sym (ap (λ (r : EventResult). result (touch (n - 100) r.0 fl ms b) r.1) (deaf s n sender x h));
}

pub apart_away : (n : ℕ) → nat_le 100 n ≡ true → (s : Session) → Holds n s → (e : Event) → IsApart n e → Away n s e
apart_away n big s holds (sent p x to alive) other = else_away n big s (sent p x to alive) other (inherits_none (n - 100) s (sent p x to alive) (λ _. refl)) holds.0
apart_away n big s holds (received p sender x) large = go (p == n) refl
  where
    go : (b : Bool) → p == n ≡ b → Away n s (received p sender x)
    go true e = subst (λ k. Away n s (received k sender x)) (sym (same_if p n e)) (deaf_away n s sender x holds.1)
    go false e = else_away n big s (received p sender x) (large, other_if p n e) (inherits_none (n - 100) s (received p sender x) (λ _. refl)) holds.0
apart_away n big s holds (called p c) other = else_away n big s (called p c) other (inherits_none (n - 100) s (called p c) (λ _. refl)) holds.0
apart_away n big s holds (returned p f t depth) other = else_away n big s (returned p f t depth) other (inherits_none (n - 100) s (returned p f t depth) (λ _. refl)) holds.0
apart_away n big s holds (raised p f c t depth) other = else_away n big s (raised p f c t depth) other (inherits_none (n - 100) s (raised p f c t depth) (λ _. refl)) holds.0
apart_away n big s holds (spawning p child f args) other = else_away n big s (spawning p child f args) other (inherits_none (n - 100) s (spawning p child f args) (λ _. refl)) holds.0
apart_away n big s holds (spawned p parent f args) other =
    else_away n big s (spawned p parent f args) other.0
    (inherits_spawn (n - 100) s p parent f args (far_if n p (big_if n big) other.0.0 other.0.1) (far_if n parent (big_if n big) other.1.0 other.1.1)) holds.0
apart_away n big s holds (exited p r) other = else_away n big s (exited p r) other (inherits_none (n - 100) s (exited p r) (λ _. refl)) holds.0
apart_away n big s holds (linked p q) other = else_away n big s (linked p q) other (inherits_none (n - 100) s (linked p q) (λ _. refl)) holds.0
apart_away n big s holds (unlinked p q) other = else_away n big s (unlinked p q) other (inherits_none (n - 100) s (unlinked p q) (λ _. refl)) holds.0
apart_away n big s holds (getting_linked p q) other = absurd other
apart_away n big s holds (getting_unlinked p q) other = absurd other

-- ---- one of each

-- whichever comes first, both lead to the same session, and show the same
pub record Both (s : Session) (e d : Event) : Type 0 where
  pub state : (event_reported (event_reported s e).0 d).0 ≡ (event_reported (event_reported s d).0 e).0
  pub own : (event_reported s e).1 ≡ (event_reported (event_reported s d).0 e).1
  pub other : (event_reported s d).1 ≡ (event_reported (event_reported s e).0 d).1

module _ (n : ℕ) (big : nat_le 100 n ≡ true) (s : Session) (holds : Holds n s) where
  pub both : (e d : Event) → IsOwn n e → flags_at (event_reported s e).0 n receive_flag ≡ false → IsApart n d → Both s e d
  both e d own quiet apart =
      let away : Away n s d = apart_away n big s holds d apart in
      let t : Session = (event_reported s d).0 in
      let g : Goes (n - 100) s t (event_reported s e) (event_reported t e) = own_goes n big e own s t away.kept holds.0 in
      let still : flags_at (touch (n - 100) s g.flags g.marks g.life) n receive_flag ≡ false = ap (λ (r : EventResult). flags_at r.0 n receive_flag) (sym g.first) ∙ quiet in
      let to : event_reported (event_reported s e).0 d ≡ result (touch (n - 100) t g.flags g.marks g.life) (event_reported s d).1 =
      ap (λ (r : EventResult). event_reported r.0 d) g.first ∙ away.goes g.flags g.marks g.life still in
      record {
        state = ap (λ (r : EventResult). r.0) to ∙ sym (ap (λ (r : EventResult). r.0) g.second);
        own = ap (λ (r : EventResult). r.1) g.first ∙ sym (ap (λ (r : EventResult). r.1) g.second);
        other = sym (ap (λ (r : EventResult). r.1) to);
      }

  -- an event apart keeps the conditions
  pub apart_holds : (d : Event) → IsApart n d → Holds n (event_reported s d).0
  apart_holds d apart =
      let like : Like (n - 100) s (event_reported s d).0 = (apart_away n big s holds d apart).kept in (
        (λ i. functions_act_on_self (sym like.functions i) && (setting_acts_on_self (sym like.sending i) && setting_acts_on_self (sym like.receiving i))) ∙ holds.0,
        (λ i. unwrap_or (sym like.flags i) no_flags receive_flag) ∙ holds.1,
      )

  -- an own event keeps what the settings act on
  pub own_acts : (e : Event) → IsOwn n e → session_acts_on_self (event_reported s e).0 ≡ true
  own_acts e own =
      ap (λ (r : EventResult). session_acts_on_self r.0) (own_goes n big e own s s (like_same (n - 100) s) holds.0).first ∙ holds.0
