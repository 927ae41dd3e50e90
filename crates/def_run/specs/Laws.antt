-- What is promised of runs, views and listings (own).
-- Depends on all definitions of a run.
use Rattle.std.specs.Prelude.{◌≡◌, ℕ, zero, suc, ◌+◌, ◌-◌, min, ◌<◌, ◌≤◌, ◌==◌, Bool, true, false, List, [], ◌∷◌, ◌++◌, length, map, take, filter, slice_get, Some}
use Rattle.std.specs.Str.{bytes_eq}
use Rattle.def_term.specs.Tree.{Tree}
use Rattle.def_term.specs.Names.{Name}
use Rattle.def_script.specs.Program.{Command, Program}
use Rattle.def_session.specs.State.{destroyed, Session}
use Rattle.def_script.specs.Exports.{Exports}
use Rattle.def_node.specs.Event.{Event}
use Rattle.def_node.specs.Node.{Move, moved, idle, next_of, NodeState, PickResult, gives_events, gives_command, gives_nothing, next}
use Rattle.def_run.specs.Run.{JOURNAL, HistoryItem, RunState, PickStep, event_item, command_item, pick_step, events, moves, run_state_of, pick_step_after}
use Rattle.def_run.specs.Round.{pass, round}
use Rattle.def_run.specs.View.{view, strike_program, strike_picks}
use Rattle.def_run.specs.Picks.{SpellsPicks}
use Rattle.def_run.specs.Output.{IsOutput, IsRoundOutput}
use Rattle.def_run.specs.Listing.{messages, messages_from, state_of, Item, answer, for_session, listing_text, program_output}
use Rattle.def_script.specs.Script.{creations}

-- ---- runs

-- after these picks the pick moves nothing
abbrev pub IsIdleAfter : Program → List ℕ → ℕ → Type 0
IsIdleAfter p picks pick = (pick_step_after p picks pick).moved ≡ false

-- an idle pick changes nothing
abbrev pub IdleLeavesThePlace : Type 0
IdleLeavesThePlace =
    (p : Program) (picks : List ℕ) (pick : ℕ) → IsIdleAfter p picks pick →
    run_state_of p (picks ++ pick ∷ []) ≡ run_state_of p picks

-- put anywhere, it leaves no trace: not in what is shown
abbrev pub IdleShowsNothing : Type 0
IdleShowsNothing = (p : Program) (before : List ℕ) (pick : ℕ) (after : List ℕ) → IsIdleAfter p before pick → events p (before ++ pick ∷ after) ≡ events p (before ++ after)

-- not in the journal
abbrev pub IdleIsNotJournaled : Type 0
IdleIsNotJournaled = (p : Program) (before : List ℕ) (pick : ℕ) (after : List ℕ) → IsIdleAfter p before pick → moves p (before ++ pick ∷ after) ≡ moves p (before ++ after)

-- and so not in the output
abbrev pub IdleChangesNoOutput : Type 0
IdleChangesNoOutput = (p : Program) (before : List ℕ) (pick : ℕ) (after : List ℕ) → IsIdleAfter p before pick → program_output p (before ++ pick ∷ after) ≡ program_output p (before ++ after)

-- the picks that moved, taken again, show the same
abbrev pub JournalShowsTheSame : Type 0
JournalShowsTheSame = (p : Program) (picks : List ℕ) → events p (moves p picks) ≡ events p picks

-- they all move
abbrev pub JournalMovesAgain : Type 0
JournalMovesAgain = (p : Program) (picks : List ℕ) → moves p (moves p picks) ≡ moves p picks

-- and give the same output
abbrev pub JournalGivesTheOutput : Type 0
JournalGivesTheOutput = (p : Program) (picks : List ℕ) → program_output p (moves p picks) ≡ program_output p picks

-- at most 65,536 picks move
abbrev pub JournalIsBounded : Type 0
JournalIsBounded = (p : Program) (picks : List ℕ) → length (moves p picks) ≤ JOURNAL

-- more picks add to what is shown and to the journal, and change nothing in them
abbrev pub RunsGrow : Type 0
RunsGrow = (p : Program) (picks more : List ℕ) → (rest : List ℕ) × (moves p (picks ++ more) ≡ moves p picks ++ rest)

-- ---- one message

-- an event adds at most one message to those of a session
abbrev pub EventAddsOneAtMost : Type 0
EventAddsOneAtMost =
    (o : Exports) (s : Session) (items : List HistoryItem) (e : Event) →
    (ms : List Tree) × (length ms ≤ 1) × (messages_from o s (items ++ event_item e ∷ []) ≡ messages_from o s items ++ ms)

-- and a command none
abbrev pub CommandAddsNone : Type 0
CommandAddsNone = (o : Exports) (s : Session) (items : List HistoryItem) (c : Command) → messages_from o s (items ++ command_item c ∷ []) ≡ messages_from o s items

-- ---- isolation

-- a listing is a function of the session's view
abbrev pub ListingGoesByTheView : Type 0
ListingGoesByTheView =
    (s tracer : Name) (p q : Program) (picks others : List ℕ) → view s p picks ≡ view s q others →
    (messages s p picks ≡ messages s q others) × (listing_text s tracer (messages s p picks) ≡ listing_text s tracer (messages s q others))

-- without the commands of another session r, and the picks that took them, the view is the same, where the run did not meet the limit
abbrev pub StrikingLeavesTheView : Type 0
StrikingLeavesTheView =
    (s r : Name) (p : Program) (picks : List ℕ) → bytes_eq r s ≡ false → length (moves p picks) < JOURNAL →
    view s (strike_program r p) (strike_picks r picks p.commands) ≡ view s p picks

-- and so the listing
abbrev pub SessionsAreIsolated : Type 0
SessionsAreIsolated =
    (s r : Name) (p : Program) (picks : List ℕ) → bytes_eq r s ≡ false → length (moves p picks) < JOURNAL →
    messages s (strike_program r p) (strike_picks r picks p.commands) ≡ messages s p picks

-- ---- destruction

-- the session of this name was destroyed in the run
abbrev pub IsDestroyedAfter : Name → Program → List ℕ → Type 0
IsDestroyedAfter s p picks = (state_of (view s p picks)).phase ≡ destroyed

-- its messages stay as they are, whatever follows
abbrev pub DestroyedListingStays : Type 0
DestroyedListingStays = (s : Name) (p : Program) (picks more : List ℕ) → IsDestroyedAfter s p picks → messages s p (picks ++ more) ≡ messages s p picks

-- and it stays destroyed
abbrev pub DestroyedStays : Type 0
DestroyedStays = (s : Name) (p : Program) (picks more : List ℕ) → IsDestroyedAfter s p picks → IsDestroyedAfter s p (picks ++ more)

-- ---- answers

-- the session s has this number, counted from 0, in the control list
abbrev pub IsCreation : Program → ℕ → Name → Name → Type 0
IsCreation p n s tracer = slice_get (creations p.commands) n ≡ Some (s, tracer)

-- reported to the session of this number
abbrev pub is_for : ℕ → Item → Bool
is_for n x = x.session == n

-- these messages of the session of a number, numbered from i
abbrev pub number_items : ℕ → ℕ → List Tree → List Item
number_items n i [] = []
number_items n i (m ∷ ms) = record { session = n; index = i; message = m } ∷ number_items n (suc i) ms

-- the answers of the first k moves
abbrev pub answers : Program → List ℕ → ℕ → List Item
answers p picks zero = []
answers p picks (suc k) = answers p picks k ++ answer p picks k

-- a move adds to each listing exactly its answer for that session
abbrev pub MoveAddsItsAnswer : Type 0
MoveAddsItsAnswer =
    (p : Program) (picks : List ℕ) (n : ℕ) (s tracer : Name) (k : ℕ) → IsCreation p n s tracer →
    messages s p (take (suc k) (moves p picks)) ≡ messages s p (take k (moves p picks)) ++ for_session (suc n) (answer p picks k)

-- and its items are numbered on from what the listing had before
abbrev pub AnswerIsNumbered : Type 0
AnswerIsNumbered =
    (p : Program) (picks : List ℕ) (n : ℕ) (s tracer : Name) (k : ℕ) → IsCreation p n s tracer →
    filter (is_for (suc n)) (answer p picks k) ≡ number_items (suc n) (length (messages s p (take k (moves p picks)))) (for_session (suc n) (answer p picks k))

-- taken together, the answers of all moves are the listings, each message at its index
abbrev pub AnswersAreListings : Type 0
AnswersAreListings =
    (p : Program) (picks : List ℕ) (n : ℕ) (s tracer : Name) → IsCreation p n s tracer →
    filter (is_for (suc n)) (answers p picks (length (moves p picks))) ≡ number_items (suc n) 0 (messages s p picks)

-- ---- what a pick does

-- the pick moves where the process does, and shows the events of its step
abbrev pub IsStep : Move → PickStep → Type 0
IsStep (moved w es) t = (t.moved ≡ true) × (t.shown ≡ map event_item es) × (t.after.world ≡ w)
IsStep (idle w) t = t.moved ≡ false

-- the pick takes the next command, where one is left
abbrev pub TakesCommandOf : List Command → PickStep → Type 0
TakesCommandOf [] t = t.moved ≡ false
TakesCommandOf (c ∷ cs) t = (t.moved ≡ true) × (t.shown ≡ command_item c ∷ []) × (t.after.commands ≡ cs)

-- while fewer than 65,536 picks have moved, a pick of a process moves exactly where the process does, and shows the events of its step
abbrev pub PickIsItsStep : Type 0
PickIsItsStep =
    (p : Program) (picks : List ℕ) (n : ℕ) → length (moves p picks) < JOURNAL →
    IsStep (next_of p.functions (run_state_of p picks).world (suc n)) (pick_step_after p picks (suc n))

-- and a pick 0 takes the next command
abbrev pub PickTakesACommand : Type 0
PickTakesACommand =
    (p : Program) (picks : List ℕ) → length (moves p picks) < JOURNAL →
    TakesCommandOf (run_state_of p picks).commands (pick_step p.functions (run_state_of p picks) 0)

-- with 65,536 moves every pick is passed over
abbrev pub FullJournalStays : Type 0
FullJournalStays = (p : Program) (picks : List ℕ) (pick : ℕ) → length (moves p picks) ≡ JOURNAL → IsIdleAfter p picks pick

-- the node's state at a state of a run
abbrev pub state_at : Program → RunState → NodeState
state_at p q = record { world = q.world; taken = length p.commands - length q.commands }

-- what the node gives for a pick is what its step shows, and both lead to the same state
abbrev pub IsNext : Program → PickResult → PickStep → Type 0
IsNext p (gives_events s es) t = (t.moved ≡ true) × (s ≡ state_at p t.after) × (t.shown ≡ map event_item es)
IsNext p (gives_command s n) t = (t.moved ≡ true) × (s ≡ state_at p t.after) × ((k : ℕ) × (c : Command) × (n ≡ suc k) × (slice_get p.commands k ≡ Some c) × (t.shown ≡ command_item c ∷ []))
IsNext p (gives_nothing s) t = (t.moved ≡ false) × (s ≡ state_at p t.after)

-- while fewer than 65,536 picks have moved, a pick of the run is what the node gives for it
abbrev pub PickIsNext : Type 0
PickIsNext =
    (p : Program) (picks : List ℕ) (pick : ℕ) → length (moves p picks) < JOURNAL →
    IsNext p (next p (state_at p (run_state_of p picks)) pick) (pick_step_after p picks pick)

-- ---- rounds

-- some picks again and again, n times
abbrev pub repeat_picks : List ℕ → ℕ → List ℕ
repeat_picks picks zero = []
repeat_picks picks (suc n) = picks ++ repeat_picks picks n

-- every pick of a round moves
abbrev pub RoundMoves : Type 0
RoundMoves = (p : Program) (limit : ℕ) → moves p (round p limit) ≡ round p limit

-- it has at most the limit's picks
abbrev pub RoundIsShort : Type 0
RoundIsShort = (p : Program) (limit : ℕ) → length (round p limit) ≤ min limit JOURNAL

-- they are the first that move of the picks 0, 100, 101, .., 163 again and again
abbrev pub RoundIsInOrder : Type 0
RoundIsInOrder = (p : Program) (limit : ℕ) → round p limit ≡ take (min limit JOURNAL) (moves p (repeat_picks pass (min limit JOURNAL + 1)))

-- and where it has fewer, one more pass moves nothing
abbrev pub RoundRests : Type 0
RoundRests = (p : Program) (limit : ℕ) → length (round p limit) < min limit JOURNAL → moves p (round p limit ++ pass) ≡ round p limit

-- ---- outputs

-- a text spells one list of picks at most
abbrev pub PicksAreOne : Type 0
PicksAreOne = (text ps qs : List ℕ) → SpellsPicks text ps → SpellsPicks text qs → ps ≡ qs

-- of any bytes and any text of picks there is exactly one output
abbrev pub OutputIsOne : Type 0
OutputIsOne = (bytes text : List ℕ) → (output : List ℕ) × IsOutput bytes text output × ((other : List ℕ) → IsOutput bytes text other → other ≡ output)

-- and of any bytes and any limit of a round
abbrev pub RoundOutputIsOne : Type 0
RoundOutputIsOne = (bytes : List ℕ) (limit : ℕ) → (output : List ℕ) × IsRoundOutput bytes limit output × ((other : List ℕ) → IsRoundOutput bytes limit other → other ≡ output)
