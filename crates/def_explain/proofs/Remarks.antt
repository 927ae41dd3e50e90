-- What is remarked of a run, pick by pick: by the picks that moved, up to the last command, and nothing where no reply's line begins so and no specification has a trap.
use Rattle.std.proofs.Common.{◌≡◌, ◌≢◌, inl, inr, ◌∙◌, ℕ, zero, suc, ◌==◌, Bool, true, false, ◌||◌, ◌&&◌, List, [], ◌∷◌, ◌++◌, map, Option, Some, None, slice_get, refl, sym, ap, ap₂, subst, append_assoc, if◌then◌else◌, ◌+◌, arith}
use Rattle.std.proofs.lemmas.Grind.{flat_map-append}
use Rattle.std.specs.List.{AllByRecursion}
use Rattle.std.specs.Option.{is_some}
use Rattle.def_term.specs.Tree.{Tree}
use Rattle.std.specs.Fmt.{digits}
use Rattle.def_term.specs.Text.{w, is_written_bare}
use Rattle.def_script.specs.Program.{Function, Command, session_of, Program}
use Rattle.def_script.specs.Exports.{Exports, exports_of}
use Rattle.def_node.specs.Event.{Event}
use Rattle.def_node.specs.Node.{Move, moved, idle, next_of}
use Rattle.def_outlook.specs.Outlook.{outlook}
use Rattle.def_session.specs.State.{Session}
use Rattle.def_session.specs.Commands.{command_done, fault_term}
use Rattle.def_run.specs.Run.{HistoryItem, event_item, command_item, RunState, PickStep, goes_to, pick_step_with, pick_step, moves, moves_from, start}
use Rattle.def_run.specs.History.{NamedSession, Moment, session_in, all_after, all_after_items, named_sessions, moments_from, move_history, move_histories_from, moments_of, history, item_reply, history_replies}
use Rattle.def_run.specs.Listing.{lines_of}
use Rattle.def_run.proofs.Replay.{pick_kept}
use Rattle.def_run.proofs.Histories.{history_has_the_replies}
use Rattle.def_spec.specs.Reading.{SpecFault, badarg, unsupported}
use Rattle.def_explain.specs.SpecReasons.{reason_fault}
use Rattle.def_explain.specs.CommandReasons.{CommandReason, not_created, exists_already, is_destroyed, no_processes, not_alive, no_how, no_flag_list, no_flag, no_pattern, no_options, no_specification, no_match, no_exported_match, has_trap, reply_of, command_reason}
use Rattle.def_explain.specs.Remarks.{item_reasons, reasons_in, run_reasons, Remark, remarks_after, command_has_trap, begins_reason, has_reason_line}
use Rattle.def_explain.specs.RemarkLaws.{IsRemarked, RemarkIsOfReason, RemarkHasItsReply, NoReasonLineNoRemark, TakesNoCommand, NothingAfterCommands, MovesHaveTheRemarks}
use Rattle.def_explain.proofs.CommandReasons.{reply_is_of_reason, trap_is_of_command}
use Rattle.def_explain.proofs.RunCommands.{IsWithout, AreMomentsWithout, history_without}

module _ (o : Exports) (fs : List Function) where
  -- of what is shown, from these sessions on
  abbrev pub reasons_by : List NamedSession → List HistoryItem → List (Option CommandReason)
  reasons_by ss [] = []
  reasons_by ss (x ∷ xs) = item_reasons o ss x ++ reasons_by (all_after o ss x) xs

  -- of each pick, from a state of the run on
  abbrev pub reasons_from : RunState → List NamedSession → List ℕ → List (Option CommandReason)
  reasons_from q ss [] = []
  reasons_from q ss (pick ∷ picks) = let t : PickStep = pick_step fs q pick in reasons_by ss t.shown ++ reasons_from t.after (all_after_items o ss t.shown) picks

  pub of_moments : (k pick : ℕ) (ss : List NamedSession) (xs : List HistoryItem) → reasons_in o (moments_from o k pick ss xs) ≡ reasons_by ss xs
  of_moments k pick ss [] = refl
  of_moments k pick ss (x ∷ xs) = ap (item_reasons o ss x ++◌) (of_moments k pick (all_after o ss x) xs)

  from_history : (q : RunState) (k : ℕ) (ss : List NamedSession) (picks : List ℕ) → reasons_in o (moments_of (move_histories_from o fs q k ss picks)) ≡ reasons_from q ss picks
  from_history q k ss [] = refl
  from_history q k ss (pick ∷ picks) = go (pick_step fs q pick) (pick_step fs q pick).moved refl (λ e. ap (λ (t : PickStep). t.shown) (pick_kept fs q pick e)) (λ r j us. from_history r j us picks)
    where
      go : (t : PickStep) (b : Bool) → t.moved ≡ b → (t.moved ≡ false → t.shown ≡ [])
          → ((r : RunState) (j : ℕ) (us : List NamedSession) → reasons_in o (moments_of (move_histories_from o fs r j us picks)) ≡ reasons_from r us picks)
          → reasons_in o (moments_of (if b then move_history o (suc k) pick (outlook fs q.world pick) ss t.shown ∷ move_histories_from o fs t.after (suc k) (all_after_items o ss t.shown) picks else move_histories_from o fs t.after k ss picks))
          ≡ reasons_by ss t.shown ++ reasons_from t.after (all_after_items o ss t.shown) picks
      go t true e none again =
          flat_map-append (λ (m : Moment). item_reasons o m.before m.item) (moments_from o (suc k) pick ss t.shown) (moments_of (move_histories_from o fs t.after (suc k) (all_after_items o ss t.shown) picks))
          ∙ ap₂ (λ a b. a ++ b) (of_moments (suc k) pick ss t.shown) (again t.after (suc k) (all_after_items o ss t.shown))
      go t false e none again = again t.after k ss ∙ ap (λ xs. reasons_by ss xs ++ reasons_from t.after (all_after_items o ss xs) picks) (sym (none e))

  -- picks that don't move can be left out
  pub from_again : (q : RunState) (ss : List NamedSession) (picks : List ℕ) → reasons_from q ss (moves_from fs q picks) ≡ reasons_from q ss picks
  from_again q ss [] = refl
  from_again q ss (pick ∷ picks) = go (pick_step fs q pick).moved refl (λ r us. from_again r us picks)
    where
      t : PickStep
      t = pick_step fs q pick

      go : (b : Bool) → t.moved ≡ b → ((r : RunState) (us : List NamedSession) → reasons_from r us (moves_from fs r picks) ≡ reasons_from r us picks)
          → reasons_from q ss ((if b then pick ∷ [] else []) ++ moves_from fs t.after picks) ≡ reasons_by ss t.shown ++ reasons_from t.after (all_after_items o ss t.shown) picks
      go true e again = ap (λ rs. reasons_by ss t.shown ++ rs) (again t.after (all_after_items o ss t.shown))
      go false e again =
          let still : t ≡ record { moved = false; shown = []; after = q } = pick_kept fs q pick e in
          ap (λ (u : PickStep). reasons_from q ss (moves_from fs u.after picks)) still
          ∙ again q ss
          ∙ ap (λ (u : PickStep). reasons_by ss u.shown ++ reasons_from u.after (all_after_items o ss u.shown) picks) (sym still)

  -- ---- events

  pub of_events : (ss : List NamedSession) (es : List Event) → reasons_by ss (map event_item es) ≡ []
  of_events ss [] = refl
  of_events ss (e ∷ es) = of_events (all_after o ss (event_item e)) es

  of_move : (q : RunState) (room : ℕ) (ss : List NamedSession) (m : Move) → reasons_by ss (goes_to q room m).shown ≡ []
  of_move q room ss (idle v) = refl
  of_move q room ss (moved v es) = of_events ss es

  of_pick : (q : RunState) (ss : List NamedSession) (pick room : ℕ) → TakesNoCommand pick → reasons_by ss (pick_step_with fs q room pick).shown ≡ []
  of_pick q ss pick zero h = refl
  of_pick q ss zero (suc room) h = absurd (h refl)
  of_pick q ss (suc n) (suc room) h = of_move q room ss (next_of fs q.world (suc n))

  none_from : (q : RunState) (ss : List NamedSession) (rest : List ℕ) → AllByRecursion TakesNoCommand rest → reasons_from q ss rest ≡ []
  none_from q ss [] h = refl
  none_from q ss (pick ∷ rest) h = let t : PickStep = pick_step fs q pick in ap₂ (λ a b. a ++ b) (of_pick q ss pick q.room h.0) (none_from t.after (all_after_items o ss t.shown) rest h.1)

  none_after : (q : RunState) (ss : List NamedSession) (picks rest : List ℕ) → AllByRecursion TakesNoCommand rest → reasons_from q ss (picks ++ rest) ≡ reasons_from q ss picks
  none_after q ss [] rest h = none_from q ss rest h
  none_after q ss (pick ∷ picks) rest h = let t : PickStep = pick_step fs q pick in ap (reasons_by ss t.shown ++◌) (none_after t.after (all_after_items o ss t.shown) picks rest h)

-- the reasons of a run
pub reasons_by_picks : (p : Program) (picks : List ℕ) → run_reasons p picks ≡ reasons_from (exports_of p) p.functions (start p) (named_sessions p) picks
reasons_by_picks p picks = from_history (exports_of p) p.functions (start p) 0 (named_sessions p) picks

pub reasons_again : (p : Program) (picks : List ℕ) → run_reasons p (moves p picks) ≡ run_reasons p picks
reasons_again p picks =
    reasons_by_picks p (moves p picks) ∙ from_again (exports_of p) p.functions (start p) (named_sessions p) picks ∙ sym (reasons_by_picks p picks)

pub moves_have_the_remarks : MovesHaveTheRemarks
moves_have_the_remarks p picks = ap (remarks_after 0) (reasons_again p picks)

pub nothing_after_commands : NothingAfterCommands
nothing_after_commands p picks rest h =
    ap (remarks_after 0) (reasons_by_picks p (picks ++ rest) ∙ none_after (exports_of p) p.functions (start p) (named_sessions p) picks rest h ∙ sym (reasons_by_picks p picks))

-- ---- replies

-- the reply begins its line as one with a reason
begins_by_fault : (f : SpecFault) (rest : List ℕ) → begins_reason (w (fault_term f) ++ 10 ∷ rest) ≡ true
unfolding is_written_bare
begins_by_fault badarg rest = refl
begins_by_fault (unsupported s) rest = refl

-- a reason other than a trap
abbrev IsFailure : CommandReason → Type 0
IsFailure (has_trap count before d t) = ⊥
IsFailure r = Unit {0}

-- where the specification has none
no_trap : (o : Exports) (s : Session) (c : Command) (r : CommandReason) → command_reason o s c ≡ Some r → command_has_trap o c ≡ false → IsFailure r
no_trap o s c (has_trap count before d t) e none =
    let there : command_has_trap o c ≡ true = ap is_some (trap_is_of_command o s c count before d t e) in
    absurd (cc)
no_trap o s c r e none = tt

begins_by : (r : CommandReason) (rest : List ℕ) → IsFailure r → begins_reason (w (reply_of r) ++ 10 ∷ rest) ≡ true
unfolding is_written_bare digits
begins_by not_created rest h = refl
begins_by exists_already rest h = refl
begins_by is_destroyed rest h = refl
begins_by (no_processes t) rest h = refl
begins_by (not_alive n) rest h = refl
begins_by (no_how t) rest h = refl
begins_by (no_flag_list t) rest h = refl
begins_by (no_flag t) rest h = refl
begins_by (no_pattern t) rest h = refl
begins_by (no_options t) rest h = refl
begins_by (no_specification r) rest h = begins_by_fault (reason_fault r) rest
begins_by (no_match near) rest h = refl
begins_by no_exported_match rest h = refl
begins_by (has_trap count before d t) rest h = absurd h

or_second : (a b : Bool) → (a || b) ≡ false → b ≡ false
or_second true b h = absurd (cc)
or_second false b h = h

or_first : (a b : Bool) → (a || b) ≡ false → a ≡ false
or_first true b h = absurd (cc)
or_first false b h = refl

-- neither does one of the lines after one
after_line : (b : Bool) (xs rest : List ℕ) → has_reason_line b (xs ++ 10 ∷ rest) ≡ false → has_reason_line true rest ≡ false
after_line b [] rest h = or_second (b && begins_reason (10 ∷ rest)) (has_reason_line true rest) h
after_line b (x ∷ xs) rest h = after_line (x == 10) xs rest (or_second (b && begins_reason (x ∷ xs ++ 10 ∷ rest)) (has_reason_line (x == 10) (xs ++ 10 ∷ rest)) h)

-- a text whose first line begins so
found_first : (text : List ℕ) → text ≢ [] → begins_reason text ≡ true → has_reason_line true text ≡ true
found_first [] some h = absurd (some refl)
found_first (c ∷ cs) some h = ap (λ b. b || has_reason_line (c == 10) cs) h

no_end : (xs ys : List ℕ) (y : ℕ) → xs ++ y ∷ ys ≢ []
no_end [] ys y h = cc
no_end (x ∷ xs) ys y h = cc

quiet_command : (o : Exports) (ss : List NamedSession) (c : Command) (rest : List ℕ) (n : ℕ) (rs : List (Option CommandReason)) (q : Option CommandReason)
    → command_reason o (session_in o (session_of c) ss) c ≡ q
    → has_reason_line true (w (command_done o (session_in o (session_of c) ss) c).1 ++ 10 ∷ rest) ≡ false → command_has_trap o c ≡ false
    → remarks_after (suc n) rs ≡ [] → remarks_after n (q ∷ rs) ≡ []
quiet_command o ss c rest n rs None e h k later = later
quiet_command o ss c rest n rs (Some r) e h k later =
    let reply = (command_done o (session_in o (session_of c) ss) c).1 in
    let is = reply_is_of_reason o (session_in o (session_of c) ss) c r e in
    let found = found_first (w (reply_of r) ++ 10 ∷ rest) (no_end (w (reply_of r)) rest 10) (begins_by r rest (no_trap o (session_in o (session_of c) ss) c r e k)) in
    let none = subst (λ t. has_reason_line true (w t ++ 10 ∷ rest) ≡ false) is h in
    absurd (cc)

quiet : (o : Exports) (ms : List Moment) (n : ℕ) → has_reason_line true (lines_of (history_replies o ms)) ≡ false → AreMomentsWithout (command_has_trap o) ms → remarks_after n (reasons_in o ms) ≡ []
quiet o [] n h k = refl
quiet o (m ∷ ms) n h k = go (λ j l. quiet o ms j l k.1) m.item h k.0
  where
    go : ((j : ℕ) → has_reason_line true (lines_of (history_replies o ms)) ≡ false → remarks_after j (reasons_in o ms) ≡ []) → (x : HistoryItem) → has_reason_line true (lines_of (item_reply o m.before x ++ history_replies o ms)) ≡ false → IsWithout (command_has_trap o) x
        → remarks_after n (item_reasons o m.before x ++ reasons_in o ms) ≡ []
    go again (event_item e) h i = again n h
    go again (command_item c) h i =
        let reply : Tree = (command_done o (session_in o (session_of c) m.before) c).1 in
        let line = subst (λ l. has_reason_line true l ≡ false) (append_assoc (w reply) (10 ∷ []) (lines_of (history_replies o ms))) h in
        quiet_command o m.before c (lines_of (history_replies o ms)) n (reasons_in o ms) (command_reason o (session_in o (session_of c) m.before) c) refl line i
        (again (suc n) (after_line true (w reply) (lines_of (history_replies o ms)) line))

pub no_reason_line_no_remark : NoReasonLineNoRemark
no_reason_line_no_remark p picks h k =
    quiet (exports_of p) (history p picks) 0 (subst (λ ts. has_reason_line true (lines_of ts) ≡ false) (sym (history_has_the_replies p picks)) h) (history_without (command_has_trap (exports_of p)) p picks k)

-- ---- which commands are remarked of

pub remark_has_its_reply : RemarkHasItsReply
remark_has_its_reply p picks n r h =
    ap (λ ts. slice_get ts n) (sym (history_has_the_replies p picks)) ∙ of_moments_at (exports_of p) (history p picks) n r h
  where
    at_first : (o : Exports) (ms : List Moment) (ss : List NamedSession) (c : Command) (n : ℕ) (r : CommandReason)
        → ((k : ℕ) → slice_get (reasons_in o ms) k ≡ Some (Some r) → slice_get (history_replies o ms) k ≡ Some (reply_of r))
        → slice_get (command_reason o (session_in o (session_of c) ss) c ∷ reasons_in o ms) n ≡ Some (Some r)
        → slice_get ((command_done o (session_in o (session_of c) ss) c).1 ∷ history_replies o ms) n ≡ Some (reply_of r)
    at_first o ms ss c zero r again h = ap Some (reply_is_of_reason o (session_in o (session_of c) ss) c r (cc))
    at_first o ms ss c (suc n) r again h = again n h

    by_item : (o : Exports) (ms : List Moment) (ss : List NamedSession) (x : HistoryItem) (n : ℕ) (r : CommandReason)
        → ((k : ℕ) → slice_get (reasons_in o ms) k ≡ Some (Some r) → slice_get (history_replies o ms) k ≡ Some (reply_of r))
        → slice_get (item_reasons o ss x ++ reasons_in o ms) n ≡ Some (Some r) → slice_get (item_reply o ss x ++ history_replies o ms) n ≡ Some (reply_of r)
    by_item o ms ss (event_item e) n r again h = again n h
    by_item o ms ss (command_item c) n r again h = at_first o ms ss c n r again h

    of_moments_at : (o : Exports) (ms : List Moment) (n : ℕ) (r : CommandReason) → slice_get (reasons_in o ms) n ≡ Some (Some r) → slice_get (history_replies o ms) n ≡ Some (reply_of r)
    of_moments_at o [] n r h = absurd (cc)
    of_moments_at o (m ∷ ms) n r h = by_item o ms m.before m.item n r (λ k. of_moments_at o ms k r) h

to_remark : (rs : List (Option CommandReason)) (n k m : ℕ) (r : CommandReason) → slice_get rs k ≡ Some (Some r) → m ≡ suc (n + k) → IsRemarked (record { command = m; reason = r }) (remarks_after n rs)
to_remark [] n k m r h e = absurd (cc)
to_remark (None ∷ rs) n zero m r h e = absurd (cc)
to_remark (None ∷ rs) n (suc k) m r h e = to_remark rs (suc n) k m r h (omega (arith, e))
to_remark (Some q ∷ rs) n zero m r h e =
    let at : m ≡ suc n = omega (arith, e) in
    let same : r ≡ q = cc in
    inl (ap₂ (λ c d. record { command = c; reason = d }) at same)
to_remark (Some q ∷ rs) n (suc k) m r h e = inr (to_remark rs (suc n) k m r h (omega (arith, e)))

from_remark : (rs : List (Option CommandReason)) (n m : ℕ) (r : CommandReason) → IsRemarked (record { command = m; reason = r }) (remarks_after n rs) → (k : ℕ) × (m ≡ suc (n + k)) × (slice_get rs k ≡ Some (Some r))
from_remark [] n m r h = absurd h
from_remark (None ∷ rs) n m r h = let f = from_remark rs (suc n) m r h in (suc f.0, omega (arith, f.1), f.2)
from_remark (Some q ∷ rs) n m r (inl e) = let at : m ≡ suc n = ap (λ (x : Remark). x.command) e in (0, omega (arith, at), ap Some (ap Some (sym (ap (λ (x : Remark). x.reason) e))))
from_remark (Some q ∷ rs) n m r (inr h) = let f = from_remark rs (suc n) m r h in (suc f.0, omega (arith, f.1), f.2)

pub remark_is_of_reason : RemarkIsOfReason
remark_is_of_reason p picks n r = (
  λ h. to_remark (run_reasons p picks) 0 n (suc n) r h (omega arith),
  λ h. let f = from_remark (run_reasons p picks) 0 (suc n) r h in let at : f.0 ≡ n = omega (arith, f.1) in subst (λ k. slice_get (run_reasons p picks) k ≡ Some (Some r)) at f.2,
)
