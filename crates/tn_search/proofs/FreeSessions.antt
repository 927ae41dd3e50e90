-- Sessions that a move of one process leaves free, by their places.
use Rattle.std.proofs.Common.{◌≡◌, ◌∙◌, ◌<◌, ◌≤◌, ◌&&◌, ℕ, Bool, true, false, not, List, [], ◌∷◌, ◌++◌, length, map, get_or, Option, Some, None, refl, sym, ap, subst}
use Rattle.std.specs.Prelude.{IsTrue, slice_get, option_to_list}
use Rattle.std.specs.Option.{option_map}
use Rattle.def_term.specs.Alive.{Alive}
use Rattle.def_term.specs.Names.{Name}
use Rattle.def_term.specs.Tree.{Tree}
use Rattle.def_spec.specs.Flags.{receive_flag}
use Rattle.def_script.specs.Exports.{exports_of}
use Rattle.def_script.specs.Program.{Program}
use Rattle.def_script.specs.Script.{creations}
use Rattle.def_session.specs.State.{flags_at}
use Rattle.def_run.specs.Run.{events}
use Rattle.def_run.specs.View.{view}
use Rattle.def_run.specs.Listing.{state_of}
use Rattle.def_explore.specs.Lists.{EachOf}
use Rattle.def_independence.specs.OwnEffects.{session_acts_on_self, sessions_act_on_self, sessions_show_no_receive}
use Rattle.tn_term.specs.Views.{alive_of}
use Rattle.tn_flags.specs.Views.{flags_of}
use Rattle.tn_flags.specs.declared.flags.Flags.{Flags}
use Rattle.tn_session.specs.Looks.{look_seen}
use Rattle.tn_session.specs.Sessions.{SessionValue, value_in}
use Rattle.tn_session.specs.declared.look.Look.{Look}
use Rattle.tn_session.specs.declared.session.Session.{Session}
use Rattle.tn_trace.specs.Tracks.{track_after, tracks_of}
use Rattle.tn_trace.specs.Slots.{IsTracked, EachPair}
use Rattle.tn_trace.specs.declared.slot.Slot.{Slot}
use Rattle.tn_program.specs.declared.parts.Program as code
use Rattle.tn_explore.specs.Query.{Query}
use Rattle.tn_search.specs.Sessions.{elements_at, names_at, is_free_for, IsFreeSession, IsFreeAt}
use Rattle.tn_search.specs.FirstPicks.{AreFreeAfter, LeavesSessionsFree}
use Rattle.tn_search.specs.States.{IsStateFor, state_journal}
use Rattle.tn_search.specs.declared.program_state.ProgramState.{ProgramState}
use Rattle.tn_search.proofs.Places.{track_at, beside, element_is, nothing_past, some_is, none_is_some}

both_true : (a b : Bool) → (a && b) ≡ true → (a ≡ true) × (b ≡ true)
both_true true b h = (refl, h)
both_true false b h = cc

-- ---- one session

pub never_free : {A : Type 0} (n : ℕ) (session : Option (Session A)) → IsFreeSession n session false
never_free n session h = absurd (let e : false ≡ true = h in cc)

-- what a look says of it
pub free_by_look : {A : Type 0} (n : ℕ) (one : Option (Session A)) (session : Session A) (look : Look A) (flags : Flags) (acts : Bool) → one ≡ Some session → Some (look_seen look) ≡ option_map (λ (w : SessionValue). w.state) (value_in session)
    → acts ≡ session_acts_on_self (look_seen look) → flags_of flags ≡ flags_at (look_seen look) n → IsFreeSession n one (acts && not flags.receive)
free_by_look n one session look flags acts is seen says has =
    subst (λ o. IsFreeSession n o (acts && not flags.receive)) (sym is) (λ h fs living s there.
    let same : look_seen look ≡ s = some_is (look_seen look) s (seen ∙ ap (option_map (λ (w : SessionValue). w.state)) there) in
    let answer : (acts && not flags.receive) ≡ is_free_for n (look_seen look) = λ i. says i && not (has i receive_flag) in
    ap (is_free_for n) (sym same) ∙ sym answer ∙ h)

-- ---- at a place

pub free_past : {A K : Type 0} (Keeps : K → List Tree → Type 0) (n : ℕ) (slots : List (Slot A K)) (place : ℕ) → length slots ≤ place → IsFreeAt Keeps n slots place
free_past Keeps n slots place past slot e = absurd (none_is_some slot (sym (nothing_past slots place past) ∙ e))

pub free_here : {A K : Type 0} (Keeps : K → List Tree → Type 0) (n : ℕ) (slots : List (Slot A K)) (place : ℕ) (slot : Slot A K) (b : Bool) → place < length slots → slot ≡ get_or slots place slot → IsFreeSession n slot.session b → IsTrue b → IsFreeAt Keeps n slots place
free_here Keeps n slots place slot b below is free h other e =
    subst (λ (x : Slot _ _). (o : _) (living : Alive) (t : _) → IsTracked Keeps o living t x → is_free_for n t.session ≡ true) (some_is slot other (sym (element_is slots place slot below is) ∙ e))
    (λ o living t tracked. free h o.functions living t.session tracked.session)

-- of the slots and places that were lent
pub free_lent : {A K : Type 0} (Keeps : K → List Tree → Type 0) (n : ℕ) (lent slots : List (Slot A K)) (ns places : List ℕ) → lent ≡ slots → ns ≡ places → EachOf (IsFreeAt Keeps n lent) ns → EachOf (IsFreeAt Keeps n slots) places
free_lent Keeps n lent slots ns places same also h = subst (EachOf (IsFreeAt Keeps n slots)) also (subst (λ xs. EachOf (IsFreeAt Keeps n xs) ns) same h)

-- ---- at some places

module _ {A K : Type 0} (Keeps : K → List Tree → Type 0) (p : Program) (picks : List ℕ) (n : ℕ) (living : Alive) (slots : List (Slot A K)) (h : EachPair (IsTracked Keeps (exports_of p) living) (tracks_of p picks) slots) where
  free_at : (place : ℕ) (s : Name × Name) → slice_get (creations p.commands) place ≡ Some s → IsFreeAt Keeps n slots place → is_free_for n (state_of (view s.0 p picks)) ≡ true
  free_at place s e free =
      let t = track_at (exports_of p) (events p picks) 1 place (creations p.commands) s e in
      let x = beside (IsTracked Keeps (exports_of p) living) place (track_after (exports_of p) (events p picks) t.0 s.0) (tracks_of p picks) slots h t.1 in
      free x.other x.at (exports_of p) living (track_after (exports_of p) (events p picks) t.0 s.0) x.so

  abbrev AreFree : List Name → Type 0
  AreFree ss = (sessions_act_on_self ss p picks ≡ true) × (sessions_show_no_receive ss p picks n ≡ true)

  one_more : (s : Name) (ss : List Name) → is_free_for n (state_of (view s p picks)) ≡ true → AreFree ss → AreFree (s ∷ ss)
  one_more s ss is r =
      let both = both_true (session_acts_on_self (state_of (view s p picks))) (not (flags_at (state_of (view s p picks)) n receive_flag)) is in (
        ap (λ b. b && sessions_act_on_self ss p picks) both.0 ∙ r.0,
        ap (λ b. b && sessions_show_no_receive ss p picks n) both.1 ∙ r.1,
      )

  free_all : (places : List ℕ) → EachOf (IsFreeAt Keeps n slots) places → AreFree (names_at p places)
  free_all [] each = (refl, refl)
  free_all (m ∷ ms) each = go (free_all ms each.1) (slice_get (creations p.commands) m) refl
    where
      go : AreFree (names_at p ms) → (o : Option (Name × Name)) → slice_get (creations p.commands) m ≡ o → AreFree (map (λ (s : Name × Name). s.0) (option_to_list o ++ elements_at ms (creations p.commands)))
      go rest None e = rest
      go rest (Some s) e = one_more s.0 (names_at p ms) (free_at m s e each.0) rest

-- ---- before a pick, and after it

module _ {A K F : Type 0} (Keeps : K → List Tree → Type 0) (b : Bool) (x : code.Program A) where
  free_after : (s : ProgramState A K F) (a : Query) (n : ℕ) → IsStateFor Keeps b x s a → EachOf (IsFreeAt Keeps n s.run.observer.slots.items) s.places.items → AreFreeAfter a (state_journal s) n
  free_after s a n is each =
      let r = free_all Keeps a.program (state_journal s) n (alive_of s.run.observer.living) s.run.observer.slots.items is.run.seen.sessions s.places.items each in record {
        effects = subst (λ ss. sessions_act_on_self ss a.program (state_journal s) ≡ true) (sym is.sessions) r.0;
        receives = subst (λ ss. sessions_show_no_receive ss a.program (state_journal s) n ≡ true) (sym is.sessions) r.1;
      }

  pub leaves_free : (s t : ProgramState A K F) (n : ℕ) → EachOf (IsFreeAt Keeps n s.run.observer.slots.items) s.places.items → EachOf (IsFreeAt Keeps n t.run.observer.slots.items) t.places.items
      → ((a : Query) → IsStateFor Keeps b x s a → (state_journal t ≡ state_journal s ++ n ∷ []) × IsStateFor Keeps b x t a) → LeavesSessionsFree Keeps b x s n
  leaves_free s t n before after goes a is = (
    free_after s a n is before,
    subst (λ js. AreFreeAfter a js n) (goes a is).0 (free_after t a n (goes a is).1 after),
  )
