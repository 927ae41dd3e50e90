-- What is promised of texts of moves (own).
-- Depends on what they stand for.
use Rattle.std.specs.Prelude.{◌≡◌, ℕ, List}
use Rattle.def_script.specs.Program.{Program}
use Rattle.def_moves.specs.Directives.{Directive}
use Rattle.def_moves.specs.Texts.{StandsFor, HasMoves, IsMovesFault}

-- a text stands for one list of directives at most
abbrev pub MovesAreOne : Type 0
MovesAreOne = (p : Program) (text : List ℕ) (ds es : List Directive) → StandsFor p text ds → StandsFor p text es → ds ≡ es

-- so it has one list of picks at most
abbrev pub PicksOfMovesAreOne : Type 0
PicksOfMovesAreOne = (p : Program) (text picks others : List ℕ) → HasMoves p text picks → HasMoves p text others → picks ≡ others

-- and for none where a piece of it stands for no directive
abbrev pub MovesFaultIsAlone : Type 0
MovesFaultIsAlone = (p : Program) (text : List ℕ) (place : ℕ) (ds : List Directive) → IsMovesFault p text place → StandsFor p text ds → ⊥

-- the first such piece is at one place
abbrev pub MovesFaultIsOne : Type 0
MovesFaultIsOne = (p : Program) (text : List ℕ) (one other : ℕ) → IsMovesFault p text one → IsMovesFault p text other → one ≡ other
