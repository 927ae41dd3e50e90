-- What is promised of what the sessions make of a run (own).
-- Depends on listings, on the shapes of commands, on the text of an account and on what a running node does otherwise.
use Rattle.std.specs.Prelude.{◌≡◌, ◌≢◌, ◌↔◌, ◌⊎◌, ℕ, true, false, List, [], ◌∷◌, Some}
use Rattle.std.specs.List.{list_any}
use Rattle.def_term.specs.Names.{Name}
use Rattle.def_term.specs.Tree.{atom}
use Rattle.def_script.specs.Program.{Command, create, session_of, Program}
use Rattle.def_script.specs.Script.{creations}
use Rattle.def_script.specs.Shapes.{name_in, command_in}
use Rattle.def_run.specs.Listing.{messages}
use Rattle.def_script.specs.Exports.{Exports}
use Rattle.def_run.specs.History.{MoveHistory}
use Rattle.def_explain.specs.NodeMoves.{MoveDiffers, move_differs, differing_moves}
use Rattle.def_explain.specs.NodeCommands.{can_differ}
use Rattle.def_explain.specs.Runs.{entries, reported_by}
use Rattle.def_explain.specs.RunTexts.{command_term}

-- the name isn't among these
abbrev pub IsNone : Name → List (Name × Name) → Type 0
IsNone n [] = Unit {0}
IsNone n (s ∷ ss) = (n ≢ s.0) × IsNone n ss

-- it is among these once
abbrev pub IsOnce : Name → List (Name × Name) → Type 0
IsOnce n [] = ⊥
IsOnce n (s ∷ ss) = ((n ≡ s.0) × IsNone n ss) ⊎ ((n ≢ s.0) × IsOnce n ss)

-- the messages that a session reports in the account of a run are its listing's, in their order
abbrev pub AccountTellsTheListing : Type 0
AccountTellsTheListing = (p : Program) (picks : List ℕ) (n : Name) → IsOnce n (creations p.commands) → reported_by n (entries p picks) ≡ messages n p picks

-- a name that a script may have there
abbrev pub IsName : Name → Type 0
IsName n = name_in (atom n) ≡ Some n

-- the names of a command
abbrev pub HasNames : Command → Type 0
HasNames (create s t) = IsName s × IsName t
HasNames c = IsName (session_of c)

-- the term of a command is read as that command
abbrev pub CommandTermIsRead : Type 0
CommandTermIsRead = (c : Command) → HasNames c → command_in (command_term c) ≡ Some c

-- what is computed is whether a node does a move otherwise
abbrev pub MoveDifferenceIsComputed : Type 0
MoveDifferenceIsComputed = (o : Exports) (h : MoveHistory) → (move_differs o h ≡ true) ↔ MoveDiffers o h

-- where no command can lead to one, a node does no move of any run otherwise
abbrev pub NoCommandNoDifference : Type 0
NoCommandNoDifference = (p : Program) (picks : List ℕ) → can_differ p ≡ false → list_any (λ b. b) (differing_moves p picks) ≡ false
