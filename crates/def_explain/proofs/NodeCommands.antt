-- Where no command of a program can lead to one, a node does no move of any run otherwise: its sessions have no flag or setting by which a node can differ.
use Rattle.std.proofs.Common.{◌≡◌, ℕ, suc, Bool, true, false, List, [], ◌∷◌, map, option_to_list, refl, ap, if◌then◌else◌}
use Rattle.std.specs.List.{list_any, AllByRecursion}
use Rattle.std.specs.Str.{bytes_eq}
use Rattle.std.proofs.lemmas.Bool.{or_from}
use Rattle.def_term.specs.Names.{Name}
use Rattle.def_script.specs.Program.{Function, Command, session_of}
use Rattle.def_script.specs.Exports.{Exports, exports_of}
use Rattle.def_script.specs.Script.{creations}
use Rattle.def_session.specs.State.{absent, absent_session, alive_at_start}
use Rattle.def_session.specs.Commands.{command_done}
use Rattle.def_outlook.specs.Outlook.{Outlook, outlook}
use Rattle.def_run.specs.Run.{HistoryItem, event_item, command_item, RunState, PickStep, pick_step, start}
use Rattle.def_run.specs.History.{NamedSession, session_state_after, all_after, all_after_items, moments_from, move_history, move_histories_from}
use Rattle.def_explain.specs.Accounts.{command_lines, differences_in_lines}
use Rattle.def_explain.specs.CommandDifferences.{command_difference}
use Rattle.def_explain.proofs.DifferenceLines.{uncounted_none}
use Rattle.def_explain.specs.NodeMoves.{is_some_difference, session_differs, moment_differs, move_differs}
use Rattle.def_explain.specs.NodeCommands.{command_can_differ}
use Rattle.def_explain.specs.RunLaws.{NoCommandNoDifference}
use Rattle.def_explain.proofs.RunCommands.{IsWithout, IsStepWithout, pick_without}
use Rattle.def_explain.proofs.NodeSessions.{IsPlain, new_is_plain, event_leaves_plain, command_leaves_plain, event_without_difference}

-- no session has a flag or a setting by which a node can differ
abbrev SessionsArePlain : List NamedSession → Type 0
SessionsArePlain ss = AllByRecursion (λ s. IsPlain s.1) ss

-- what is shown is an event, or a command that can't lead to such a move
abbrev IsPlainItem : HistoryItem → Type 0
IsPlainItem x = IsWithout command_can_differ x

-- none of the commands can lead to such a move
abbrev CommandsArePlain : List Command → Type 0
CommandsArePlain cs = list_any command_can_differ cs ≡ false

-- ---- the sessions

module _ (o : Exports) where
  one-after : (s : NamedSession) (x : HistoryItem) → IsPlainItem x → IsPlain s.1 → IsPlain (session_state_after o s x)
  one-after s (event_item e) k h = event_leaves_plain s.1 e h
  one-after s (command_item c) k h = go (bytes_eq s.0 (session_of c))
    where
      go : (b : Bool) → IsPlain (if b then (command_done o s.1 c).0 else s.1)
      go true = command_leaves_plain o s.1 c k h
      go false = h

  all-after : (ss : List NamedSession) (x : HistoryItem) → IsPlainItem x → SessionsArePlain ss → SessionsArePlain (all_after o ss x)
  all-after [] x k h = tt
  all-after (s ∷ ss) x k h = (one-after s x k h.0, all-after ss x k h.1)

  items-after : (ss : List NamedSession) (xs : List HistoryItem) → AllByRecursion IsPlainItem xs → SessionsArePlain ss → SessionsArePlain (all_after_items o ss xs)
  items-after ss [] k h = h
  items-after ss (x ∷ xs) k h = items-after (all_after o ss x) xs k.1 (all-after ss x k.0 h)

  plain-at-start : (cs : List (Name × Name)) → SessionsArePlain (map (λ s. (s.0, absent_session o)) cs)
  plain-at-start [] = tt
  plain-at-start (s ∷ cs) = (new_is_plain absent (alive_at_start o.processes), plain-at-start cs)

  -- ---- one move

  session-without-difference : (l : Outlook) (x : HistoryItem) (s : NamedSession) → IsPlain s.1 → session_differs o l x s ≡ false
  session-without-difference l (event_item e) s h = ap is_some_difference (event_without_difference s.1 l e h)
  session-without-difference l (command_item c) s h = go (bytes_eq s.0 (session_of c))
    where
      go : (b : Bool) → is_some_difference (differences_in_lines (if b then command_lines o s.1 c else [])) ≡ false
      go true = ap is_some_difference (uncounted_none (option_to_list (command_difference o s.1 c)))
      go false = refl

  sessions-without-difference : (l : Outlook) (x : HistoryItem) (ss : List NamedSession) → SessionsArePlain ss → list_any (session_differs o l x) ss ≡ false
  sessions-without-difference l x [] h = refl
  sessions-without-difference l x (s ∷ ss) h = or_from (session_differs o l x s) _ (session-without-difference l x s h.0) (sessions-without-difference l x ss h.1)

  moments-without-difference : (l : Outlook) (k pick : ℕ) (ss : List NamedSession) (xs : List HistoryItem) → AllByRecursion IsPlainItem xs → SessionsArePlain ss → list_any (moment_differs o l) (moments_from o k pick ss xs) ≡ false
  moments-without-difference l k pick ss [] i h = refl
  moments-without-difference l k pick ss (x ∷ xs) i h =
      or_from (list_any (session_differs o l x) ss) _ (sessions-without-difference l x ss h) (moments-without-difference l k pick (all_after o ss x) xs i.1 (all-after ss x i.0 h))

-- ---- a run

moves-without-difference : (o : Exports) (fs : List Function) (p : RunState) (k : ℕ) (ss : List NamedSession) (picks : List ℕ) → CommandsArePlain p.commands → SessionsArePlain ss
    → list_any (λ b. b) (map (move_differs o) (move_histories_from o fs p k ss picks)) ≡ false
moves-without-difference o fs p k ss [] h i = refl
moves-without-difference o fs p k ss (pick ∷ picks) h i = go (pick_step fs p pick) (pick_step fs p pick).moved (pick_without command_can_differ fs p pick h) (λ q j ts g l. moves-without-difference o fs q j ts picks g l)
  where
    go : (t : PickStep) (b : Bool) → IsStepWithout command_can_differ t
        → ((q : RunState) (j : ℕ) (ts : List NamedSession) → CommandsArePlain q.commands → SessionsArePlain ts → list_any (λ b. b) (map (move_differs o) (move_histories_from o fs q j ts picks)) ≡ false)
        → list_any (λ b. b) (map (move_differs o) (if b then move_history o (suc k) pick (outlook fs p.world pick) ss t.shown ∷ move_histories_from o fs t.after (suc k) (all_after_items o ss t.shown) picks
        else move_histories_from o fs t.after k ss picks)) ≡ false
    go t true g again =
        or_from (move_differs o (move_history o (suc k) pick (outlook fs p.world pick) ss t.shown)) _ (moments-without-difference o (outlook fs p.world pick) (suc k) pick ss t.shown g.0 i)
        (again t.after (suc k) (all_after_items o ss t.shown) g.1 (items-after o ss t.shown g.0 i))
    go t false g again = again t.after k ss g.1 i

pub no_command_no_difference : NoCommandNoDifference
no_command_no_difference p picks h = moves-without-difference (exports_of p) p.functions (start p) 0 _ picks h (plain-at-start (exports_of p) (creations p.commands))
