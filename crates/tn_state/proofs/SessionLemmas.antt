-- The sessions of a run beside their slots.
use Rattle.std.proofs.Common.{◌≡◌, ◌∙◌, ℕ, zero, suc, ◌+◌, ◌-◌, ◌<◌, ◌≤◌, Bool, true, false, if◌then◌else◌, List, [], ◌∷◌, ◌++◌, length, drop, take, get_or, map, Option, Some, None, refl, sym, ap, subst, add-one, append-nil, append_assoc, length-append, arith}
use Rattle.std.specs.Prelude.{filter, flat_map, slice_get}
use Rattle.std.specs.Option.{option_map, unwrap_or}
use Rattle.std.specs.Str.{bytes_eq}
use Rattle.std.proofs.lemmas.List.{drop_all}
use Rattle.def_term.specs.Alive.{Alive}
use Rattle.def_term.specs.Names.{Name, word}
use Rattle.def_term.specs.Tree.{Tree}
use Rattle.def_script.specs.Exports.{Exports, exports_of}
use Rattle.def_script.specs.Program.{Command, Function, Program, session_of}
use Rattle.def_script.specs.Script.{creations}
use Rattle.def_node.specs.Node.{Move, moved, idle, next_of}
use Rattle.def_session.specs.State.{Phase, absent, live, destroyed}
use Rattle.def_run.specs.Run.{HistoryItem, event_item, command_item, RunState, PickStep, takes_command, goes_to, pick_step_in, pick_step_with, pick_step, history_from, run_state_after, start, events, run_state_of}
use Rattle.def_run.specs.View.{is_own}
use Rattle.def_run.specs.Listing.{header_line, state_of}
use Rattle.def_state.specs.Lines.{terms_line}
use Rattle.def_state.specs.SettingTerms.{after_creation, commands_among, commands_to}
use Rattle.def_state.specs.SessionTexts.{live_text, text_in_phase}
use Rattle.def_state.specs.States.{session_text, sessions_text, text_after}
use Rattle.def_state.specs.ProcessTexts.{processes_text}
use Rattle.def_node.specs.Process.{Process}
use Rattle.def_run.specs.Laws.{state_at}
use Rattle.tn_node.specs.Nodes.{NodeValue, node_at, slots_in, taken_in}
use Rattle.tn_term.specs.Views.{alive_of}
use Rattle.tn_flags.specs.Views.{command_of}
use Rattle.tn_flags.specs.declared.command.Command.{Command as CodeCommand}
use Rattle.tn_session.specs.Looks.{is_live, look_seen}
use Rattle.tn_session.specs.Sessions.{value_in}
use Rattle.tn_session.specs.Views.{phase_seen}
use Rattle.tn_session.specs.declared.look.Look.{Look}
use Rattle.tn_session.specs.declared.session.Session.{Session}
use Rattle.tn_session.specs.declared.state.Phase as code
use Rattle.tn_session.specs.declared.state.Phase.TheVariants.{Live, Destroyed}
use Rattle.tn_trace.specs.Recorders.{HasRecorded}
use Rattle.tn_trace.specs.Slots.{IsSession, IsTracked, EachPair}
use Rattle.tn_trace.specs.Tracks.{track_after, tracks_from}
use Rattle.tn_trace.specs.declared.discard.Discard.{Discard}
use Rattle.tn_trace.specs.declared.recorder.Recorder.{Recorder}
use Rattle.tn_trace.specs.declared.slot.Slot.{Slot}
use Rattle.tn_state.specs.Commands.{is_command_to, own_commands}
use Rattle.tn_state.specs.Sessions.{AreSlotsAfter, AreTakenOf, IsSlotAfter, view_of}

-- ---- the commands among what was shown

commands_append : (xs ys : List HistoryItem) → commands_among (xs ++ ys) ≡ commands_among xs ++ commands_among ys
commands_append [] ys = refl
commands_append (event_item e ∷ xs) ys = commands_append xs ys
commands_append (command_item c ∷ xs) ys = ap (λ cs. c ∷ cs) (commands_append xs ys)

no_commands : {X : Type 0} (es : List X) (f : X → HistoryItem) → ((e : X) → commands_among (f e ∷ []) ≡ []) → commands_among (map f es) ≡ []
no_commands [] f none = refl
no_commands (e ∷ es) f none = commands_append (f e ∷ []) (map f es) ∙ ap (λ cs. cs ++ commands_among (map f es)) (none e) ∙ no_commands es f none

-- a step shows the commands that it takes
abbrev Takes : RunState → PickStep → Type 0
Takes q t = commands_among t.shown ++ t.after.commands ≡ q.commands

command_takes : (q : RunState) (room : ℕ) (cs : List Command) → q.commands ≡ cs → Takes q (takes_command q room cs)
command_takes q room [] e = refl
command_takes q room (c ∷ cs) e = sym e

move_takes : (q : RunState) (room : ℕ) (m : Move) → Takes q (goes_to q room m)
move_takes q room (idle w) = refl
move_takes q room (moved w es) = ap (λ cs. cs ++ q.commands) (no_commands es event_item (λ e. refl))

in_takes : (ks : List Function) (q : RunState) (room pick : ℕ) → Takes q (pick_step_in ks q room pick)
in_takes ks q room zero = command_takes q room q.commands refl
in_takes ks q room (suc n) = move_takes q room (next_of ks q.world (suc n))

with_takes : (ks : List Function) (q : RunState) (room pick : ℕ) → Takes q (pick_step_with ks q room pick)
with_takes ks q zero pick = refl
with_takes ks q (suc room) pick = in_takes ks q room pick

all_taken : (ks : List Function) (q : RunState) (picks : List ℕ) → commands_among (history_from ks q picks) ++ (run_state_after ks q picks).commands ≡ q.commands
all_taken ks q [] = refl
all_taken ks q (pick ∷ picks) =
    let t : PickStep = pick_step ks q pick in
    ap (λ cs. cs ++ (run_state_after ks t.after picks).commands) (commands_append t.shown (history_from ks t.after picks))
    ∙ append_assoc (commands_among t.shown) (commands_among (history_from ks t.after picks)) (run_state_after ks t.after picks).commands
    ∙ ap (λ cs. commands_among t.shown ++ cs) (all_taken ks t.after picks)
    ∙ with_takes ks q q.room pick

front_of : {X : Type 0} (xs ys : List X) → xs ≡ take (length xs) (xs ++ ys)
front_of [] ys = refl
front_of (x ∷ xs) ys = ap (λ zs. x ∷ zs) (front_of xs ys)

-- those that a run showed are the first of the program
pub commands_shown : (p : Program) (picks : List ℕ) → commands_among (events p picks) ≡ take (length p.commands - length (run_state_of p picks).commands) p.commands
commands_shown p picks =
    let cs : List Command = commands_among (events p picks) in
    let left : List Command = (run_state_of p picks).commands in
    let whole : cs ++ left ≡ p.commands = all_taken p.functions (start p) picks in
    let size : length (cs ++ left) ≡ length cs + length left = length-append cs left in
    let sizes : length (cs ++ left) ≡ length p.commands = ap length whole in
    let n : length cs ≡ length p.commands - length left = omega (arith, size, sizes) in
    front_of cs left ∙ ap (λ k. take k (cs ++ left)) n ∙ ap (take (length p.commands - length left)) whole

-- those of one session are the same, before its view and after it
pub own_shown : (s : Name) (items : List HistoryItem) → commands_among (filter (is_own s) items) ≡ filter (is_command_to s) (commands_among items)
own_shown s [] = refl
own_shown s (event_item e ∷ items) = own_shown s items
own_shown s (command_item c ∷ items) = go (bytes_eq s (session_of c)) (own_shown s items)
  where
    go : (b : Bool) → commands_among (filter (is_own s) items) ≡ filter (is_command_to s) (commands_among items)
        → commands_among (if b then command_item c ∷ filter (is_own s) items else filter (is_own s) items) ≡ (if b then c ∷ filter (is_command_to s) (commands_among items) else filter (is_command_to s) (commands_among items))
    go true h = ap (λ cs. c ∷ cs) h
    go false h = h

-- ---- a slot and its session

module _ {A : Type 0} (o : Exports) (living : Alive) (items : List HistoryItem) where
  abbrev Tracks : ℕ → List (Name × Name) → List (Slot A Discard) → Type 0
  Tracks n ss slots = EachPair (IsTracked (λ (k : Discard) (ts : List Tree). Unit {0}) o living) (tracks_from o items n ss) slots

  pub tracked_at : (n k : ℕ) (ss : List (Name × Name)) (slots : List (Slot A Discard)) (s : Name × Name) (slot : Slot A Discard) → Tracks n ss slots → slice_get ss k ≡ Some s → k < length slots → slot ≡ get_or slots k slot
      → IsTracked (λ (j : Discard) (ts : List Tree). Unit {0}) o living (track_after o items (n + k) s.0) slot
  tracked_at n k [] [] s slot h is below at = absurd (omega (arith, below))
  tracked_at n k [] (x ∷ xs) s slot h is below at = absurd h
  tracked_at n k (t ∷ ts) [] s slot h is below at = absurd h
  tracked_at n zero (t ∷ ts) (x ∷ xs) s slot h is below at =
      let same : t ≡ s = cc in
      let here : slot ≡ x = at in
      let number : n ≡ n + 0 = omega arith in
      subst (λ m. IsTracked (λ (j : Discard) (ts : List Tree). Unit {0}) o living (track_after o items m s.0) slot) number
      (subst (λ v. IsTracked (λ (j : Discard) (ts : List Tree). Unit {0}) o living (track_after o items n v.0) slot) same
      (subst (λ v. IsTracked (λ (j : Discard) (ts : List Tree). Unit {0}) o living (track_after o items n t.0) v) (sym here) h.0))
  tracked_at n (suc k) (t ∷ ts) (x ∷ xs) s slot h is below at =
      let number : suc n + k ≡ n + suc k = omega arith in
      subst (λ m. IsTracked (λ (j : Discard) (ts : List Tree). Unit {0}) o living (track_after o items m s.0) slot) number (tracked_at (suc n) k ts xs s slot h.1 is (omega (arith, below)) at)

  pub as_many : (n : ℕ) (ss : List (Name × Name)) (slots : List (Slot A Discard)) → Tracks n ss slots → length ss ≡ length slots
  as_many n [] [] h = refl
  as_many n [] (x ∷ xs) h = absurd h
  as_many n (t ∷ ts) [] h = absurd h
  as_many n (t ∷ ts) (x ∷ xs) h = ap suc (as_many (suc n) ts xs h.1)

-- ---- a loop over sessions

module _ (f : Name × Name → List ℕ) (ss : List (Name × Name)) (k : ℕ) where
  at_place : (xs : List (Name × Name)) (n : ℕ) (s : Name × Name) → slice_get xs n ≡ Some s → drop n xs ≡ s ∷ drop (suc n) xs
  at_place [] n s h = cc
  at_place (x ∷ xs) zero s h = cc
  at_place (x ∷ xs) (suc n) s h = at_place xs n s h

  pub one_session : (s : Name × Name) (a b z : List ℕ) → slice_get ss k ≡ Some s → a ++ flat_map f (drop k ss) ≡ z → b ≡ a ++ f s → b ++ flat_map f (drop (k + 1) ss) ≡ z
  one_session s a b z is so_far text =
      let rest = flat_map f (drop (k + 1) ss) in
      let front : drop k ss ≡ s ∷ drop (k + 1) ss = at_place ss k s is ∙ ap (λ n. s ∷ drop n ss) (sym (add-one k)) in
      ap (λ x. x ++ rest) text ∙ append_assoc a (f s) rest ∙ ap (λ x. a ++ x) (sym (ap (flat_map f) front)) ∙ so_far

  pub no_session : (a z : List ℕ) → length ss ≤ k → a ++ flat_map f (drop k ss) ≡ z → a ≡ z
  no_session a z past so_far = sym (append-nil a) ∙ ap (λ x. a ++ x) (sym (ap (flat_map f) (drop_all k ss past))) ∙ so_far

-- ---- one session

module _ {A : Type 0} (o : Exports) (l : Look A) (cs : List Command) where
  live_or : (p : Phase) → is_live p ≡ true → text_in_phase p o (look_seen l) cs ≡ live_text o (look_seen l) cs
  live_or absent h = cc
  live_or live h = refl
  live_or destroyed h = cc

  pub live_written : is_live (look_seen l).phase ≡ true → text_in_phase (look_seen l).phase o (look_seen l) cs ≡ live_text o (look_seen l) cs
  live_written h = live_or (look_seen l).phase h

  ended : (p : code.Phase) → is_live (phase_seen p) ≡ false → text_in_phase (phase_seen p) o (look_seen l) cs ≡ terms_line (word "destroyed" ∷ [])
  ended Live h = cc
  ended Destroyed h = refl

  pub destroyed_written : is_live (look_seen l).phase ≡ false → text_in_phase (look_seen l).phase o (look_seen l) cs ≡ terms_line (word "destroyed" ∷ [])
  destroyed_written h = ended l.state.now.phase h

module _ {A : Type 0} (p : Program) (items : List HistoryItem) (s : Name × Name) (taken : ℕ) (shown : AreTakenOf p taken items) where
  -- the commands to the session are those of the program that were taken
  pub commands_taken : (cmds : List (CodeCommand A)) → map command_of cmds ≡ take taken p.commands → commands_to (filter (is_own s.0) items) ≡ after_creation (own_commands s.0 cmds)
  commands_taken cmds e = ap after_creation (own_shown s.0 items ∙ ap (filter (is_command_to s.0)) (shown ∙ sym e))

  pub absent_session_written : (slot : Slot A Discard) (a b d : List ℕ) → slot.session ≡ None → IsSlotAfter p items s.0 slot → b ≡ a ++ header_line s.0 s.1 → d ≡ b ++ terms_line (word "absent" ∷ []) → d ≡ a ++ session_text s (view_of p items s.0)
  absent_session_written slot a b d none h header text =
      let before : IsSession {A = A} (exports_of p).functions h.0 (state_of (view_of p items s.0)) None = subst (IsSession {A = A} (exports_of p).functions h.0 (state_of (view_of p items s.0))) none h.1 in
      text ∙ ap (λ x. x ++ terms_line (word "absent" ∷ [])) header ∙ append_assoc a (header_line s.0 s.1) (terms_line (word "absent" ∷ []))
      ∙ ap (λ v. a ++ (header_line s.0 s.1 ++ text_in_phase v.phase (exports_of p) v (commands_to (filter (is_own s.0) items)))) (sym before)

  pub created_session_written : (slot : Slot A Discard) (session : Session A) (l : Look A) (cmds : List (CodeCommand A)) (a b d : List ℕ) → slot.session ≡ Some session
      → Some (look_seen l) ≡ option_map (λ v. v.state) (value_in session) → IsSlotAfter p items s.0 slot → map command_of cmds ≡ take taken p.commands
      → b ≡ a ++ header_line s.0 s.1 → d ≡ b ++ text_in_phase (look_seen l).phase (exports_of p) (look_seen l) (after_creation (own_commands s.0 cmds))
      → d ≡ a ++ session_text s (view_of p items s.0)
  created_session_written slot session l cmds a b d there seen h e header text =
      let state = state_of (view_of p items s.0) in
      let is : IsSession (exports_of p).functions h.0 state (Some session) = subst (IsSession (exports_of p).functions h.0 state) there h.1 in
      let same : look_seen l ≡ state = some_is (seen ∙ ap (option_map (λ v. v.state)) is) in
      let own = text_in_phase (look_seen l).phase (exports_of p) (look_seen l) (after_creation (own_commands s.0 cmds)) in
      text ∙ ap (λ x. x ++ own) header ∙ append_assoc a (header_line s.0 s.1) own
      ∙ ap (λ v. a ++ (header_line s.0 s.1 ++ text_in_phase v.phase (exports_of p) v (after_creation (own_commands s.0 cmds)))) same
      ∙ ap (λ cs. a ++ (header_line s.0 s.1 ++ text_in_phase state.phase (exports_of p) state cs)) (sym (commands_taken cmds e))
    where
      some_is : {X : Type 0} {x y : X} → Some x ≡ Some y → x ≡ y
      some_is {X} {x} {y} e = ap (λ o. unwrap_or o x) e

-- the slots of a run are those of its sessions
pub slots_after : {A : Type 0} (p : Program) (picks : List ℕ) (r : Recorder A Discard) → HasRecorded (λ (k : Discard) (ts : List Tree). Unit {0}) r p picks → AreSlotsAfter p (events p picks) r.slots.items
slots_after p picks r h = (alive_of r.living, h.sessions)

-- and the slot at a place is that of its session
pub slot_at : {A : Type 0} (p : Program) (items : List HistoryItem) (slots : List (Slot A Discard)) (k : ℕ) (s : Name × Name) (slot : Slot A Discard) → AreSlotsAfter p items slots → slice_get (creations p.commands) k ≡ Some s → k < length slots → slot ≡ get_or slots k slot
    → (slot.name ≡ s.0) × IsSlotAfter p items s.0 slot
slot_at p items slots k s slot h is below at =
    let t = tracked_at (exports_of p) h.0 items 1 k (creations p.commands) slots s slot h.1 is below at in
    (t.name, (h.0, t.session))

-- ---- a run

-- as many commands were taken as the node says
pub taken_of : (p : Program) (picks : List ℕ) (taken : ℕ) (n : Option NodeValue) → n ≡ Some (node_at p (state_at p (run_state_of p picks))) → Some taken ≡ taken_in n → AreTakenOf p taken (events p picks)
taken_of p picks taken n node e =
    let same : taken ≡ length p.commands - length (run_state_of p picks).commands = ap (λ o. unwrap_or o taken) (e ∙ ap taken_in node) in
    commands_shown p picks ∙ ap (λ k. take k p.commands) (sym same)

-- the sessions, and then the processes
pub run_written : (p : Program) (picks : List ℕ) (asked : Option Name) (slots : List (Option Process)) (n : Option NodeValue) (a b d : List ℕ) → n ≡ Some (node_at p (state_at p (run_state_of p picks))) → Some slots ≡ slots_in n
    → b ≡ a ++ sessions_text asked p picks → d ≡ b ++ processes_text p.functions 100 slots → d ≡ a ++ text_after asked p picks
run_written p picks asked slots n a b d node e first last =
    let same : slots ≡ (run_state_of p picks).world.slots = ap (λ o. unwrap_or o slots) (e ∙ ap slots_in node) in
    last ∙ ap (λ x. x ++ processes_text p.functions 100 slots) first ∙ append_assoc a (sessions_text asked p picks) (processes_text p.functions 100 slots)
    ∙ ap (λ ss. a ++ (sessions_text asked p picks ++ processes_text p.functions 100 ss)) same
