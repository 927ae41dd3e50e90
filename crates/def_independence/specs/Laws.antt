-- What is promised of moves that change one process alone (own).
-- Depends on those moves, on runs, and on what is independent.
use Rattle.std.specs.Prelude.{◌≡◌, ℕ, true, false, List, [], ◌∷◌, ◌++◌, Option}
use Rattle.def_term.specs.Names.{Name}
use Rattle.def_script.specs.Program.{Function, Program}
use Rattle.def_node.specs.Process.{Process, act}
use Rattle.def_node.specs.Limits.{IsEntered}
use Rattle.def_explore.specs.Rests.{RunQuestion, by_process}
use Rattle.def_explore.specs.Alike.{HasStateOf, AreIndependent, HasFirstPicks}
use Rattle.def_independence.specs.Alone.{have_link, have_unlink, takes_message, takes_message_after, is_alone, goes_alone_after, shows_own_steps_after, shows_nothing_after, goes_alone_by}
use Rattle.def_independence.specs.OwnEffects.{sessions_show_nothing}
use Rattle.def_independence.specs.Conditions.{IsMoveAlone}

-- ---- what is independent

-- where no function makes a link, a receive that takes a message is independent of all other picks, whatever is asked
abbrev pub ReceivesAreIndependent : Type 0
ReceivesAreIndependent =
    (q : RunQuestion) (ss : List Name) (p : Program) (j : List ℕ) (t : ℕ) →
    have_link p.functions ≡ false → takes_message_after p j t ≡ true → AreIndependent q ss p j (t ∷ [])

-- a move that has to do with no other pick is independent of all of them for what is kept by process
abbrev pub CallsAreIndependentByProcess : Type 0
CallsAreIndependentByProcess =
    (ss : List Name) (p : Program) (j : List ℕ) (t : ℕ) → IsMoveAlone ss p j t → AreIndependent by_process ss p j (t ∷ [])

-- and whatever is asked, where it adds no message to one of the sessions
abbrev pub MovesWithoutMessagesAreIndependent : Type 0
MovesWithoutMessagesAreIndependent =
    (q : RunQuestion) (ss : List Name) (p : Program) (j : List ℕ) (t : ℕ) →
    IsMoveAlone ss p j t → sessions_show_nothing ss p j t ≡ true → AreIndependent q ss p j (t ∷ [])

-- one pick that is independent of all others, and after which one of the journals leads to the same state, goes first
abbrev pub OnePickGoesFirst : Type 0
OnePickGoesFirst =
    (q : RunQuestion) (ss : List Name) (p : Program) (js : List (List ℕ)) (j : List ℕ) (t : ℕ) →
    AreIndependent q ss p j (t ∷ []) → HasStateOf q ss p js (j ++ t ∷ []) → HasFirstPicks q ss p js j

-- ---- what a move shows

-- where no function makes or removes a link, a move that shows calls, returns and exceptions alone, or nothing, changes its process alone
abbrev pub OwnStepsGoAlone : Type 0
OwnStepsGoAlone =
    (p : Program) (picks : List ℕ) (n : ℕ) → have_link p.functions ≡ false → have_unlink p.functions ≡ false →
    shows_own_steps_after p picks n ≡ true → goes_alone_after p picks n ≡ true

-- and one that shows nothing is independent of all other picks, whatever is asked
abbrev pub SilentMovesAreIndependent : Type 0
SilentMovesAreIndependent =
    (q : RunQuestion) (ss : List Name) (p : Program) (j : List ℕ) (t : ℕ) →
    have_link p.functions ≡ false → have_unlink p.functions ≡ false → shows_nothing_after p j t ≡ true → AreIndependent q ss p j (t ∷ [])

-- ---- what is known of the next step

-- a receive that takes a message changes its process alone
abbrev pub ReceivesGoAlone : Type 0
ReceivesGoAlone =
    (ks : List Function) (n : ℕ) (child : Option ℕ) (q : Process) → takes_message ks q ≡ true → is_alone (act ks n child q) ≡ true

-- where no catch step called the oldest frame, what is known of the next step says whether it changes the process alone
abbrev pub AloneIsOfTheStep : Type 0
AloneIsOfTheStep =
    (ks : List Function) (n : ℕ) (child : Option ℕ) (q : Process) → IsEntered q.frames → is_alone (act ks n child q) ≡ goes_alone_by ks child q
