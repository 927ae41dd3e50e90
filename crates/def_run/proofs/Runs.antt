-- The laws of runs and of isolation.
use Rattle.std.proofs.Common.{◌≤◌, ℕ, List, [], ◌∷◌, ◌++◌, length, Option, Some, None, ap, ◌∙◌, append-nil, arith}
use Rattle.std.specs.Prelude.{codes, filter, option_to_list}
use Rattle.def_script.specs.Program.{Program}
use Rattle.def_run.specs.Run.{HistoryItem, start, moves_from, run_state_of}
use Rattle.def_script.specs.Exports.{exports_of}
use Rattle.def_run.specs.Listing.{messages_of, messages_from, session_after, replies_from, listing_text, listings_text, lines_of}
use Rattle.def_run.specs.Picks.{picks_text}
use Rattle.def_script.specs.Script.{creations}
use Rattle.def_term.specs.Tree.{Tree}
use Rattle.def_session.specs.State.{absent_session}
use Rattle.def_session.specs.Session.{event_reported}
use Rattle.def_run.specs.View.{is_own}
use Rattle.def_run.specs.Laws.{IdleLeavesThePlace, EventAddsOneAtMost, CommandAddsNone, IdleShowsNothing, IdleIsNotJournaled, IdleChangesNoOutput, JournalGivesTheOutput, RunsGrow, ListingGoesByTheView, SessionsAreIsolated}
use Rattle.def_run.proofs.Appends.{moves-append, place-append, messages-append}
use Rattle.def_run.proofs.Replay.{pick_kept, idle-shown, idle-moves, events_again, journal_again}
use Rattle.def_run.proofs.StruckCommands.{struck_view}

-- the output of what was shown and what moved
abbrev output_of : Program → List HistoryItem → List ℕ → List ℕ
output_of p items journal =
    listings_text (λ s. messages_from (exports_of p) (absent_session (exports_of p)) (filter (is_own s) items)) (creations p.commands)
    ++ codes "== replies\n" ++ lines_of (replies_from (exports_of p) [] items)
    ++ codes "== journal\n" ++ picks_text journal ++ 10 ∷ []

pub idle_place : IdleLeavesThePlace
idle_place p picks pick h =
    place-append p.functions (start p) picks (pick ∷ [])
    ∙ ap (λ t. t.after) (pick_kept p.functions (run_state_of p picks) pick h)

one_at_most : (m : Option Tree) → length (option_to_list m) ≤ 1
one_at_most None = omega arith
one_at_most (Some t) = omega arith

pub event_adds : EventAddsOneAtMost
event_adds o s items e =
    let m : Option Tree = (event_reported (session_after o s items) e).1 in
    (option_to_list m, one_at_most m, messages-append o s items _ ∙ ap (messages_from o s items ++◌) (append-nil (option_to_list m)))

pub command_adds : CommandAddsNone
command_adds o s items c = messages-append o s items _ ∙ append-nil (messages_from o s items)

pub idle_shown : IdleShowsNothing
idle_shown p before pick after h = idle-shown p.functions (start p) before pick after h

pub idle_moved : IdleIsNotJournaled
idle_moved p before pick after h = idle-moves p.functions (start p) before pick after h

pub idle_output : IdleChangesNoOutput
idle_output p before pick after h = λ i. output_of p (idle_shown p before pick after h i) (idle_moved p before pick after h i)

pub journal_output : JournalGivesTheOutput
journal_output p picks = λ i. output_of p (events_again p picks i) (journal_again p picks i)

pub runs_grow : RunsGrow
runs_grow p picks more = (moves_from p.functions (run_state_of p picks) more, moves-append p.functions (start p) picks more)

pub by_the_view : ListingGoesByTheView
by_the_view s tracer p q picks others h = (ap messages_of h, ap (λ v. listing_text s tracer (messages_of v)) h)

pub isolated : SessionsAreIsolated
isolated s r p picks apart h = ap messages_of (struck_view s r p picks apart h)
