-- A move that changes one process alone is independent of all other picks: where the messages of each process are asked for alone, or where the move shows none.
use Rattle.std.proofs.Common.{◌≡◌, ◌<◌, ◌+◌, ◌-◌, inl, inr, ℕ, zero, suc, List, [], ◌∷◌, ◌++◌, length, map, Bool, true, false, not, if◌then◌else◌, cond, slice_get, Option, Some, None, refl, sym, ap, ◌∙◌, subst, append-nil, length-append, arith}
use Rattle.std.specs.Prelude.{nat_le, ◌==◌, filter, option_to_list}
use Rattle.std.specs.Str.{bytes_eq}
use Rattle.std.specs.Option.{unwrap_or}
use Rattle.def_term.specs.Tree.{Tree}
use Rattle.def_term.specs.Names.{Name}
use Rattle.def_script.specs.Program.{Function, Command, session_of, Program}
use Rattle.def_script.specs.Exports.{Exports, exports_of}
use Rattle.def_spec.specs.Flags.{no_flags, FlagTable, receive_flag, call_flag}
use Rattle.def_node.specs.Event.{Event, called, returned, raised}
use Rattle.def_node.specs.Process.{Process, Act, continues, act}
use Rattle.def_node.specs.Node.{World, Move, moved, idle, next_pid, next_of}
use Rattle.def_session.specs.State.{Phase, absent, live, destroyed, Session, flags_at}
use Rattle.def_session.specs.Session.{is_marked, is_marked_for_exceptions, reported_for, reported_in, event_reported}
use Rattle.def_outlook.specs.Outlook.{process_with}
use Rattle.def_run.specs.Run.{HistoryItem, event_item, command_item, RunState, PickStep, takes_command, goes_to, pick_step_with, pick_step, history_from, run_state_of, moves}
use Rattle.def_run.specs.View.{is_own, view}
use Rattle.def_run.specs.Listing.{messages, messages_from, session_after, state_of}
use Rattle.def_run.proofs.Appends.{own-append}
use Rattle.def_explore.specs.Lists.{EachOf}
use Rattle.def_explore.specs.Rests.{RunQuestion, all_messages, by_process, kept_messages, kept_by_process, each_process, all_pids, kept_of}
use Rattle.def_explore.specs.Alike.{SessionsAlike, IsStateAlike, AreIndependent}
use Rattle.def_explore.proofs.Lists.{each_also}
use Rattle.def_explore.proofs.Alike.{messages_on, state_on}
use Rattle.def_independence.specs.Alone.{have_link, is_alone, one_goes_alone, goes_alone_after}
use Rattle.def_independence.specs.OwnEffects.{session_acts_on_self, sessions_act_on_self, sessions_show_no_receive, none_is_to, none_is_to_one, sessions_show_nothing}
use Rattle.def_independence.specs.Laws.{CallsAreIndependentByProcess, MovesWithoutMessagesAreIndependent}
use Rattle.def_independence.proofs.Numbers.{same_if, both_true, not_true}
use Rattle.def_independence.proofs.Acts.{IsLeave, AreOwn}
use Rattle.def_independence.proofs.Worlds.{IsApart, Ready}
use Rattle.def_independence.proofs.Runs.{room_left, Shown, Crossing, own_step}
use Rattle.def_independence.proofs.Picks.{fewer, IsApartFromEach, from_all}
use Rattle.def_independence.proofs.Receives.{present, ready_by, own_by, pick_place, ReadyAfter, ready_moves, ready_crosses, ready_kept, ready_place}
use Rattle.def_independence.proofs.Events.{IsOwn, Holds, own_acts}
use Rattle.def_independence.proofs.Swaps.{ran, told, ran_both, told_both, Calm, calm_first, Crossed, all_apart, turned}

-- ---- the conditions hold after each event of the move

leave_own : (n : ℕ) (e : Event) → IsLeave n e → IsOwn n e
leave_own n (returned p f t depth) h = h
leave_own n (raised p f c t depth) h = h
leave_own n e h = absurd h

-- where a frame is left no flag changes
leave_flags : (n : ℕ) (s : Session) (e : Event) → IsLeave n e → (event_reported s e).0.flags ≡ s.flags
leave_flags n s (returned p f v depth) h = go s.phase
  where
    marked : (m b : Bool) → (reported_for s (returned p f v depth) (if m then (if b then Some [] else None) else None)).0.flags ≡ s.flags
    marked true true = refl
    marked true false = refl
    marked false b = refl

    go : (ph : Phase) → (reported_in ph s (returned p f v depth)).0.flags ≡ s.flags
    go absent = refl
    go destroyed = refl
    go live = marked (is_marked s p depth) (flags_at s p call_flag)
leave_flags n s (raised p f c v depth) h = go s.phase
  where
    marked : (m b : Bool) → (reported_for s (raised p f c v depth) (if m then (if b then Some [] else None) else None)).0.flags ≡ s.flags
    marked true true = refl
    marked true false = refl
    marked false b = refl

    go : (ph : Phase) → (reported_in ph s (raised p f c v depth)).0.flags ≡ s.flags
    go absent = refl
    go destroyed = refl
    go live = marked (is_marked_for_exceptions s p depth) (flags_at s p call_flag)
leave_flags n s e h = absurd h

leaves_calm : (n : ℕ) → nat_le 100 n ≡ true → (es : List Event) → EachOf (IsLeave n) es → (s : Session) → Holds n s → Calm n s es
leaves_calm n big [] leave s holds = holds
leaves_calm n big (e ∷ es) leave s holds = (
  holds,
  leaves_calm n big es leave.1 (event_reported s e).0 (
    own_acts n big s holds e (leave_own n e leave.0),
    ap (λ (t : FlagTable). unwrap_or (slice_get t (n - 100)) no_flags receive_flag) (leave_flags n s e leave.0) ∙ holds.1,
  ),
)

own_events : (n : ℕ) (es : List Event) → AreOwn n es → EachOf (IsOwn n) es
own_events n es (inl h) = subst (EachOf (IsOwn n)) (sym h.1) (refl, tt)
own_events n es (inr h) = each_also (IsLeave n) (IsOwn n) es (leave_own n) h

own_calm : (n : ℕ) → nat_le 100 n ≡ true → (es : List Event) → AreOwn n es → (s : Session) → Holds n s → flags_at (ran s es) n receive_flag ≡ false → Calm n s es
own_calm n big es (inl h) s holds quiet = subst (Calm n s) (sym h.1) (holds, (own_acts n big s holds (called n h.0) refl, subst (λ xs. flags_at (ran s xs) n receive_flag ≡ false) h.1 quiet))
own_calm n big es (inr h) s holds quiet = leaves_calm n big es h s holds

-- ---- what a session makes of events

own_filter : (s : Name) (es : List Event) → filter (is_own s) (map event_item es) ≡ map event_item es
own_filter s [] = refl
own_filter s (e ∷ es) = ap (λ xs. event_item e ∷ xs) (own_filter s es)

after_ran : (o : Exports) (s : Session) (es : List Event) → session_after o s (map event_item es) ≡ ran s es
after_ran o s [] = refl
after_ran o s (e ∷ es) = after_ran o (event_reported s e).0 es

from_told : (o : Exports) (s : Session) (es : List Event) → messages_from o s (map event_item es) ≡ told s es
from_told o s [] = refl
from_told o s (e ∷ es) = ap (λ ms. option_to_list (event_reported s e).1 ++ ms) (from_told o (event_reported s e).0 es)

items_both : (es ds : List Event) → map event_item (es ++ ds) ≡ map event_item es ++ map event_item ds
items_both [] ds = refl
items_both (e ∷ es) ds = ap (λ xs. event_item e ∷ xs) (items_both es ds)

module _ (p : Program) (s : Name) (a more : List ℕ) (es : List Event) (shown : filter (is_own s) (history_from p.functions (run_state_of p a) more) ≡ map event_item es) where
  state_by : state_of (view s p (a ++ more)) ≡ ran (state_of (view s p a)) es
  state_by =
      state_on s p a more
      ∙ ap (session_after (exports_of p) (state_of (view s p a))) shown
      ∙ after_ran (exports_of p) (state_of (view s p a)) es

  messages_by : messages s p (a ++ more) ≡ messages s p a ++ told (state_of (view s p a)) es
  messages_by =
      messages_on s p a more
      ∙ ap (λ xs. messages s p a ++ xs) (ap (messages_from (exports_of p) (state_of (view s p a))) shown ∙ from_told (exports_of p) (state_of (view s p a)) es)

-- ---- no command to the session comes

takes_pass : (s : Name) (q : RunState) (room : ℕ) (cs : List Command) → none_is_to s q.commands ≡ true → none_is_to s cs ≡ true → none_is_to s (takes_command q room cs).after.commands ≡ true
takes_pass s q room [] h k = h
takes_pass s q room (c ∷ cs) h k = (both_true (not (bytes_eq s (session_of c))) (none_is_to s cs) k).1

commands_with : (s : Name) (ks : List Function) (q : RunState) (room o : ℕ) → none_is_to s q.commands ≡ true → none_is_to s (pick_step_with ks q room o).after.commands ≡ true
commands_with s ks q zero o h = h
commands_with s ks q (suc room) zero h = takes_pass s q room q.commands h h
commands_with s ks q (suc room) (suc n) h = go (next_of ks q.world (suc n))
  where
    go : (m : Move) → none_is_to s (goes_to q room m).after.commands ≡ true
    go (moved w es) = h
    go (idle w) = h

-- ---- what suits a question

-- the process shows nothing where the order of all messages is asked for
abbrev Suits : RunQuestion → Session → List Event → Type 0
Suits all_messages s es = told s es ≡ []
Suits by_process s es = Unit {0}

-- what answers the question is the same of both
abbrev SameFor : RunQuestion → List Tree → List Tree → Type 0
SameFor all_messages xs ys = xs ≡ ys
SameFor by_process xs ys = each_process all_pids xs ≡ each_process all_pids ys

each_kept : (ss : List Name) (f g : Name → List Tree) → EachOf (λ s. f s ≡ g s) ss → map f ss ≡ map g ss
each_kept [] f g h = refl
each_kept (s ∷ ss) f g h = λ i. h.0 i ∷ each_kept ss f g h.1 i

split_kept : (ss : List Name) (f g : Name → List Tree) → EachOf (λ s. each_process all_pids (f s) ≡ each_process all_pids (g s)) ss → map (λ s. each_process all_pids (f s)) ss ≡ map (λ s. each_process all_pids (g s)) ss
split_kept [] f g h = refl
split_kept (s ∷ ss) f g h = λ i. h.0 i ∷ split_kept ss f g h.1 i

all_kept : (q : RunQuestion) (ss : List Name) (f g : Name → List Tree) → EachOf (λ s. SameFor q (f s) (g s)) ss → kept_of q ss f ≡ kept_of q ss g
all_kept all_messages ss f g h = ap kept_messages (each_kept ss f g h)
all_kept by_process ss f g h = ap kept_by_process (split_kept ss f g h)

-- the messages of both after others, whichever come first
same_for : (q : RunQuestion) (n : ℕ) → nat_le 100 n ≡ true → (es ds : List Event) → EachOf (IsOwn n) es → EachOf (IsApart n) ds → (s : Session) → Holds n s → Suits q s es → (ms xs ys : List Tree)
    → xs ≡ ms ++ (told s ds ++ told s es) → ys ≡ ms ++ (told s es ++ told s ds) → SameFor q xs ys
same_for all_messages n big es ds own apart s holds none ms xs ys first second =
    first
    ∙ ap (λ zs. ms ++ (told s ds ++ zs)) none ∙ ap (λ zs. ms ++ zs) (append-nil (told s ds)) ∙ sym (ap (λ zs. ms ++ (zs ++ told s ds)) none)
    ∙ sym second
same_for by_process n big es ds own apart s holds none ms xs ys first second =
    ap (each_process all_pids) first ∙ turned n big es ds own apart s holds all_pids ms ∙ sym (ap (each_process all_pids) second)

suits_after : (q : RunQuestion) (s t : Session) (es : List Event) → told s es ≡ told t es → Suits q s es → Suits q t es
suits_after all_messages s t es same none = sym same ∙ none
suits_after by_process s t es same none = tt

suits_none : (q : RunQuestion) (s : Session) (es : List Event) → told s es ≡ [] → Suits q s es
suits_none all_messages s es none = none
suits_none by_process s es none = tt

-- ---- each other pick

-- what a session makes of the items of another pick: it goes through events that are apart from the process
abbrev SeesApart : ℕ → Name → List HistoryItem → Type 0
SeesApart n s xs = (ds : List Event) × (filter (is_own s) xs ≡ map event_item ds) × EachOf (IsApart n) ds

-- an item that is a command to another session is passed over
command_passed : (s : Name) (c : Command) → bytes_eq s (session_of c) ≡ false → filter (is_own s) (command_item c ∷ []) ≡ []
command_passed s c h = ap (λ b. cond b (command_item c ∷ []) []) h

sees_apart : (n : ℕ) (s : Name) (cs : List Command) (xs : List HistoryItem) → none_is_to s cs ≡ true → Shown n cs xs → SeesApart n s xs
sees_apart n s cs xs pass (inl h) = (h.0, ap (filter (is_own s)) h.1 ∙ own_filter s h.0, h.2)
sees_apart n s cs xs pass (inr h) =
    let there : none_is_to s (h.0 ∷ h.1) ≡ true = ap (none_is_to s) (sym h.2) ∙ pass in
    ([], ap (filter (is_own s)) h.3 ∙ command_passed s h.0 (not_true (bytes_eq s (session_of h.0)) (both_true (not (bytes_eq s (session_of h.0))) (none_is_to s h.1) there).0), tt)

module _ (q : RunQuestion) (ss : List Name) (p : Program) (none : have_link p.functions ≡ false) (n : ℕ) (big : nat_le 100 (suc n) ≡ true) (es : List Event) (own : EachOf (IsOwn (suc n)) es) where
  -- in a session the conditions hold at each event of the move, no command to it is left, and the messages suit the question
  abbrev CalmIn : List ℕ → Name → Type 0
  CalmIn j s = Calm (suc n) (state_of (view s p j)) es × (none_is_to s (run_state_of p j).commands ≡ true) × Suits q (state_of (view s p j)) es

  -- the process goes on alone, and that is so in each session
  abbrev Meets : List ℕ → Type 0
  Meets j = ReadyAfter p none n big es j × EachOf (CalmIn j) ss

  module _ (j : List ℕ) (o : ℕ) (x : Crossing p.functions (suc n) es (run_state_of p j) o) (s : Name) (calm : CalmIn j s) where
    abbrev State : Session
    State = state_of (view s p j)

    abbrev Other : List HistoryItem
    Other = (pick_step p.functions (run_state_of p j) o).shown

    sees : SeesApart (suc n) s Other
    sees = sees_apart (suc n) s (run_state_of p j).commands Other calm.1 x.apart

    cross : Crossed (suc n) State es sees.0
    cross = all_apart (suc n) big sees.0 sees.2 es own State calm.0

    alone : filter (is_own s) (history_from p.functions (run_state_of p j) (o ∷ [])) ≡ map event_item sees.0
    alone = ap (filter (is_own s)) (append-nil Other) ∙ sees.1

    first : filter (is_own s) (history_from p.functions (run_state_of p j) (o ∷ suc n ∷ [])) ≡ map event_item (sees.0 ++ es)
    first =
        ap (filter (is_own s)) x.first ∙ own-append s Other (map event_item es)
        ∙ (λ i. sees.1 i ++ own_filter s es i)
        ∙ sym (items_both sees.0 es)

    second : filter (is_own s) (history_from p.functions (run_state_of p j) (suc n ∷ o ∷ [])) ≡ map event_item (es ++ sees.0)
    second =
        ap (filter (is_own s)) x.second ∙ own-append s (map event_item es) Other
        ∙ (λ i. own_filter s es i ++ sees.1 i)
        ∙ sym (items_both es sees.0)

    calm_after : CalmIn (j ++ o ∷ []) s
    calm_after =
        let to : ran State sees.0 ≡ state_of (view s p (j ++ o ∷ [])) = sym (state_by p s j (o ∷ []) sees.0 alone) in (
          subst (λ z. Calm (suc n) z es) to cross.calm,
          ap (λ (y : RunState). none_is_to s y.commands) (pick_place p j o) ∙ commands_with s p.functions (run_state_of p j) (run_state_of p j).room o calm.1,
          subst (λ z. Suits q z es) to (suits_after q State (ran State sees.0) es cross.own calm.2),
        )

    state_alike : state_of (view s p (j ++ o ∷ suc n ∷ [])) ≡ state_of (view s p (j ++ suc n ∷ o ∷ []))
    state_alike =
        state_by p s j (o ∷ suc n ∷ []) (sees.0 ++ es) first
        ∙ ran_both State sees.0 es ∙ sym cross.state ∙ sym (ran_both State es sees.0)
        ∙ sym (state_by p s j (suc n ∷ o ∷ []) (es ++ sees.0) second)

    kept_alike : SameFor q (messages s p (j ++ o ∷ suc n ∷ [])) (messages s p (j ++ suc n ∷ o ∷ []))
    kept_alike =
        let before : List Tree = messages s p j in
        same_for q (suc n) big es sees.0 own sees.2 State (calm_first (suc n) State es calm.0) calm.2 before (messages s p (j ++ o ∷ suc n ∷ [])) (messages s p (j ++ suc n ∷ o ∷ []))
        (messages_by p s j (o ∷ suc n ∷ []) (sees.0 ++ es) first ∙ ap (λ xs. before ++ xs) (told_both State sees.0 es ∙ ap (λ xs. told State sees.0 ++ xs) (sym cross.own)))
        (messages_by p s j (suc n ∷ o ∷ []) (es ++ sees.0) second ∙ ap (λ xs. before ++ xs) (told_both State es sees.0 ∙ ap (λ xs. told State es ++ xs) (sym cross.other)))

  module _ (j : List ℕ) (o : ℕ) (x : Crossing p.functions (suc n) es (run_state_of p j) o) where
    sessions_alike : (ts : List Name) → EachOf (CalmIn j) ts → SessionsAlike ts p (j ++ o ∷ suc n ∷ []) (j ++ suc n ∷ o ∷ [])
    sessions_alike [] calm = tt
    sessions_alike (s ∷ ts) calm = (state_alike j o x s calm.0, sessions_alike ts calm.1)

    alike : EachOf (CalmIn j) ss → IsStateAlike q ss p (j ++ o ∷ suc n ∷ []) (j ++ suc n ∷ o ∷ [])
    alike calm = record {
      place = ready_place p none n big es j o x;
      sessions = sessions_alike ss calm;
      kept =
          all_kept q ss (λ s. messages s p (j ++ o ∷ suc n ∷ [])) (λ s. messages s p (j ++ suc n ∷ o ∷ []))
          (each_also (CalmIn j) (λ s. SameFor q (messages s p (j ++ o ∷ suc n ∷ [])) (messages s p (j ++ suc n ∷ o ∷ []))) ss (λ s c. kept_alike j o x s c) calm);
    }

    all_calm : EachOf (CalmIn j) ss → EachOf (CalmIn (j ++ o ∷ [])) ss
    all_calm calm = each_also (CalmIn j) (CalmIn (j ++ o ∷ [])) ss (λ s c. calm_after j o x s c) calm

  each_apart : IsApartFromEach q ss p (suc n) Meets
  each_apart = record {
    moving = λ j m few. ready_moves p none n big es j m.0 few;
    kept = λ j o m other few. (ready_kept p none n big es j o m.0 other few, all_calm j o (ready_crosses p none n big es j o m.0 other few) m.1);
    alike = λ j o m other few. alike j o (ready_crosses p none n big es j o m.0 other few) m.1;
  }

-- ---- the conditions at first

alone_of : (a : Act) → is_alone a ≡ true → (u : Process) × (es : List Event) × (a ≡ continues u es)
alone_of (continues u es) h = (u, es, refl)
alone_of a h = cc

one_alone_of : (ks : List Function) (w : World) (n : ℕ) (o : Option Process) → one_goes_alone ks w n o ≡ true → (q : Process) × (o ≡ Some q) × (is_alone (act ks n (next_pid w) q) ≡ true)
one_alone_of ks w n None h = cc
one_alone_of ks w n (Some q) h = (q, refl, h)

-- the conditions hold in each session
calm_at : (p : Program) (j : List ℕ) (n : ℕ) → nat_le 100 n ≡ true → (es : List Event) → AreOwn n es → history_from p.functions (run_state_of p j) (n ∷ []) ≡ map event_item es → (ss : List Name)
    → sessions_act_on_self ss p j ≡ true → sessions_show_no_receive ss p j n ≡ true → sessions_show_no_receive ss p (j ++ n ∷ []) n ≡ true → EachOf (λ s. Calm n (state_of (view s p j)) es) ss
calm_at p j n big es own shown [] acts before after = tt
calm_at p j n big es own shown (s ∷ ss) acts before after =
    let a : (session_acts_on_self (state_of (view s p j)) ≡ true) × (sessions_act_on_self ss p j ≡ true) = both_true _ _ acts in
    let b : (not (flags_at (state_of (view s p j)) n receive_flag) ≡ true) × (sessions_show_no_receive ss p j n ≡ true) = both_true _ _ before in
    let c : (not (flags_at (state_of (view s p (j ++ n ∷ []))) n receive_flag) ≡ true) × (sessions_show_no_receive ss p (j ++ n ∷ []) n ≡ true) = both_true _ _ after in
    let quiet : flags_at (ran (state_of (view s p j)) es) n receive_flag ≡ false =
    ap (λ z. flags_at z n receive_flag) (sym (state_by p s j (n ∷ []) es (ap (filter (is_own s)) shown ∙ own_filter s es))) ∙ not_true _ c.0 in
    (own_calm n big es own (state_of (view s p j)) (a.0, not_true _ b.0) quiet, calm_at p j n big es own shown ss a.1 b.1 c.1)

pass_at : (cs : List Command) (ss : List Name) → none_is_to_one ss cs ≡ true → EachOf (λ s. none_is_to s cs ≡ true) ss
pass_at cs [] h = tt
pass_at cs (s ∷ ss) h = ((both_true (none_is_to s cs) (none_is_to_one ss cs) h).0, pass_at cs ss (both_true (none_is_to s cs) (none_is_to_one ss cs) h).1)

three_of : {X : Type 0} (P Q R : X → Type 0) (xs : List X) → EachOf P xs → EachOf Q xs → EachOf R xs → EachOf (λ x. P x × Q x × R x) xs
three_of P Q R [] a b c = tt
three_of P Q R (x ∷ xs) a b c = ((a.0, b.0, c.0), three_of P Q R xs a.1 b.1 c.1)

-- a list that has no more elements with another after it has nothing in that other
nothing_more : (xs ys : List Tree) → length (xs ++ ys) ≡ length xs → ys ≡ []
nothing_more xs [] h = refl
nothing_more xs (y ∷ ys) h = absurd (let k : length (xs ++ y ∷ ys) ≡ length xs + length (y ∷ ys) = length-append xs (y ∷ ys) in omega (arith, h, k))

nothing_at : (p : Program) (j : List ℕ) (n : ℕ) (es : List Event) → history_from p.functions (run_state_of p j) (n ∷ []) ≡ map event_item es → (ss : List Name)
    → sessions_show_nothing ss p j n ≡ true → EachOf (λ s. told (state_of (view s p j)) es ≡ []) ss
nothing_at p j n es shown [] h = tt
nothing_at p j n es shown (s ∷ ss) h =
    let parts : ((length (messages s p (j ++ n ∷ [])) == length (messages s p j)) ≡ true) × (sessions_show_nothing ss p j n ≡ true) = both_true _ _ h in
    let count : length (messages s p j ++ told (state_of (view s p j)) es) ≡ length (messages s p j) =
    ap length (sym (messages_by p s j (n ∷ []) es (ap (filter (is_own s)) shown ∙ own_filter s es))) ∙ same_if (length (messages s p (j ++ n ∷ []))) (length (messages s p j)) parts.0 in
    (nothing_more (messages s p j) (told (state_of (view s p j)) es) count, nothing_at p j n es shown ss parts.1)

suits_process : (p : Program) (j : List ℕ) (es : List Event) (ss : List Name) → EachOf (λ s. Suits by_process (state_of (view s p j)) es) ss
suits_process p j es [] = tt
suits_process p j es (s ∷ ss) = (tt, suits_process p j es ss)

-- what the move is, and that it is independent where the messages suit the question
record Goes (p : Program) (j : List ℕ) (n : ℕ) : Type 0 where
  big : nat_le 100 n ≡ true
  es : List Event
  own : AreOwn n es
  ready : Ready p.functions n es (run_state_of p j).world

goes_of : (p : Program) (j : List ℕ) (n : ℕ) → have_link p.functions ≡ false → goes_alone_after p j n ≡ true → Goes p j n
goes_of p j n none alone =
    let w : World = (run_state_of p j).world in
    let one : (r : Process) × (process_with w n ≡ Some r) × (is_alone (act p.functions n (next_pid w) r) ≡ true) = one_alone_of p.functions w n (process_with w n) alone in
    let there : (nat_le 100 n ≡ true) × (slice_get w.slots (n - 100) ≡ Some (Some one.0)) = present w n one.0 one.1 in
    let goes : (u : Process) × (es : List Event) × (act p.functions n (next_pid w) one.0 ≡ continues u es) = alone_of (act p.functions n (next_pid w) one.0) one.2 in
    record {
      big = there.0;
      es = goes.1;
      own = own_by p.functions none n (next_pid w) one.0 goes.0 goes.1 goes.2;
      ready = ready_by p.functions none w n one.0 goes.0 goes.1 there.1 goes.2;
    }

module _ (q : RunQuestion) (ss : List Name) (p : Program) (j : List ℕ) (n : ℕ) (none : have_link p.functions ≡ false) (g : Goes p j (suc n)) where
  shows : length (moves p j) < 65536 → history_from p.functions (run_state_of p j) (suc n ∷ []) ≡ map event_item g.es
  shows few =
      let left : (rest : ℕ) × ((run_state_of p j).room ≡ suc rest) = room_left p j few in
      ap (λ (s : PickStep). s.shown ++ []) (own_step p.functions none n g.big g.es (run_state_of p j) g.ready left.0 left.1) ∙ append-nil (map event_item g.es)

  alone_independent : none_is_to_one ss (run_state_of p j).commands ≡ true → sessions_act_on_self ss p j ≡ true → sessions_show_no_receive ss p j (suc n) ≡ true → sessions_show_no_receive ss p (j ++ suc n ∷ []) (suc n) ≡ true
      → (length (moves p j) < 65536 → EachOf (λ s. Suits q (state_of (view s p j)) g.es) ss) → AreIndependent q ss p j (suc n ∷ [])
  alone_independent pass acts before after suits others free room =
      let few : length (moves p j) < 65536 = fewer p j others room in
      let own : EachOf (IsOwn (suc n)) g.es = own_events (suc n) g.es g.own in
      from_all q ss p (suc n) (Meets q ss p none n g.big g.es own) (each_apart q ss p none n g.big g.es own) j (
        g.ready,
        three_of (λ s. Calm (suc n) (state_of (view s p j)) g.es) (λ s. none_is_to s (run_state_of p j).commands ≡ true) (λ s. Suits q (state_of (view s p j)) g.es) ss
            (calm_at p j (suc n) g.big g.es g.own (shows few) ss acts before after) (pass_at (run_state_of p j).commands ss pass) (suits few),
      )
      others free room

pub calls_independent : CallsAreIndependentByProcess
calls_independent ss p j zero h = absurd (let x : false ≡ true = h.alone in cc)
calls_independent ss p j (suc n) h =
    let g : Goes p j (suc n) = goes_of p j (suc n) h.links h.alone in
    alone_independent by_process ss p j n h.links g h.commands h.effects h.before h.after (λ few. suits_process p j g.es ss)

pub unseen_independent : MovesWithoutMessagesAreIndependent
unseen_independent q ss p j zero h nothing = absurd (let x : false ≡ true = h.alone in cc)
unseen_independent q ss p j (suc n) h nothing =
    let g : Goes p j (suc n) = goes_of p j (suc n) h.links h.alone in
    alone_independent q ss p j n h.links g h.commands h.effects h.before h.after
    (λ few.
    each_also (λ s. told (state_of (view s p j)) g.es ≡ []) (λ s. Suits q (state_of (view s p j)) g.es) ss (λ s h. suits_none q (state_of (view s p j)) g.es h)
    (nothing_at p j (suc n) g.es (shows q ss p j n h.links g few) ss nothing))
