-- What is promised of the picks of directives (own).
-- Depends on the picks that they make, and on which picks are idle.
use Rattle.std.specs.Prelude.{◌≡◌, ℕ, ◌<◌, ◌≤◌, min, List, [], ◌∷◌, ◌++◌, length, take}
use Rattle.def_script.specs.Program.{Program}
use Rattle.def_run.specs.Run.{JOURNAL, moves}
use Rattle.def_run.specs.Round.{pass, round}
use Rattle.def_run.specs.Laws.{IsIdleAfter, repeat_picks}
use Rattle.def_moves.specs.Directives.{Directive, times, until_idle, everybody, picks_of_directives}

-- each of the picks moves
abbrev pub DirectivesMove : Type 0
DirectivesMove = (p : Program) (limit : ℕ) (ds : List Directive) → moves p (picks_of_directives p limit ds) ≡ picks_of_directives p limit ds

-- they are at most the limit's number
abbrev pub DirectivesAreBounded : Type 0
DirectivesAreBounded = (p : Program) (limit : ℕ) (ds : List Directive) → length (picks_of_directives p limit ds) ≤ min limit JOURNAL

-- so many picks of one are those of them that move, up to the limit
abbrev pub TimesTakesSoMany : Type 0
TimesTakesSoMany =
    (p : Program) (limit : ℕ) (ds : List Directive) (count pick : ℕ) → let before : List ℕ = picks_of_directives p limit ds in
    picks_of_directives p limit (ds ++ times count pick ∷ []) ≡ take (min limit JOURNAL) (moves p (before ++ repeat_picks (pick ∷ []) count))

-- until one is idle there are picks of it alone, each of which moves
abbrev pub UntilIdleTakesOne : Type 0
UntilIdleTakesOne =
    (p : Program) (limit : ℕ) (ds : List Directive) (pick : ℕ) → let before : List ℕ = picks_of_directives p limit ds in
    (count : ℕ) × (picks_of_directives p limit (ds ++ until_idle pick ∷ []) ≡ before ++ repeat_picks (pick ∷ []) count)

-- and then it is idle, where they are fewer than the limit
abbrev pub UntilIdleStopsThere : Type 0
UntilIdleStopsThere =
    (p : Program) (limit : ℕ) (ds : List Directive) (pick : ℕ) → let made : List ℕ = picks_of_directives p limit (ds ++ until_idle pick ∷ []) in
    length made < min limit JOURNAL → IsIdleAfter p made pick

-- after everybody no pick of a pass moves, where they are fewer than the limit
abbrev pub EverybodyRests : Type 0
EverybodyRests =
    (p : Program) (limit : ℕ) (ds : List Directive) → let made : List ℕ = picks_of_directives p limit (ds ++ everybody ∷ []) in
    length made < min limit JOURNAL → moves p (made ++ pass) ≡ made

-- everybody alone is a round
abbrev pub EverybodyIsARound : Type 0
EverybodyIsARound = (p : Program) (limit : ℕ) → picks_of_directives p limit (everybody ∷ []) ≡ round p limit

-- the control list until it is idle is one pick 0 for each of its commands, up to the limit
abbrev pub ControlTakesEachCommand : Type 0
ControlTakesEachCommand =
    (p : Program) (limit : ℕ) → picks_of_directives p limit (until_idle 0 ∷ []) ≡ repeat_picks (0 ∷ []) (min (min limit JOURNAL) (length p.commands))

-- later directives add to the picks, and change nothing in them
abbrev pub DirectivesGrow : Type 0
DirectivesGrow =
    (p : Program) (limit : ℕ) (ds more : List Directive) → (rest : List ℕ) × (picks_of_directives p limit (ds ++ more) ≡ picks_of_directives p limit ds ++ rest)
