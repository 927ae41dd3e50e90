-- What the words of the command line ask for (own).
use Rattle.std.specs.Prelude.{◌≡◌, ◌≤◌, ℕ, ◌⊎◌, List, [], ◌∷◌, codes}
use Rattle.std.specs.Str.Parse.{IsNumeral, digits_value}
use Rattle.tn_moves.specs.Schedules.{ScheduleView, by_picks, by_round, by_control_first}

-- the number that a word's decimal digits write
abbrev pub spelled_number : List ℕ → ℕ
spelled_number word = digits_value 10 word

-- the word is decimal digits, and their number is from 1 to 65536
pub record IsLimit (word : List ℕ) : Type 0 where
  pub numeral : IsNumeral 10 word
  pub least : 1 ≤ spelled_number word
  pub most : spelled_number word ≤ 65536

-- `round`: at most 10000 picks move
abbrev pub AsksRound : List (List ℕ) → ScheduleView → Type 0
AsksRound words a = (words ≡ codes "round" ∷ []) × (a ≡ by_round 10000)

-- `run`: at most 10000 picks move, the control list first
abbrev pub AsksControlFirst : List (List ℕ) → ScheduleView → Type 0
AsksControlFirst words a = (words ≡ codes "run" ∷ []) × (a ≡ by_control_first 10000)

-- `replay --picks TEXT`
abbrev pub AsksReplay : List (List ℕ) → ScheduleView → Type 0
AsksReplay words a = (text : List ℕ) × (words ≡ codes "replay" ∷ codes "--picks" ∷ text ∷ []) × (a ≡ by_picks text)

-- `round --limit N`
abbrev pub AsksLimited : List (List ℕ) → ScheduleView → Type 0
AsksLimited words a =
    (limit : List ℕ) × (words ≡ codes "round" ∷ codes "--limit" ∷ limit ∷ [])
    × IsLimit limit × (a ≡ by_round (spelled_number limit))

-- what the words after the program's name ask for
abbrev pub AsksFor : List (List ℕ) → ScheduleView → Type 0
AsksFor words a = AsksControlFirst words a ⊎ (AsksRound words a ⊎ (AsksReplay words a ⊎ AsksLimited words a))

-- they ask for no run
abbrev pub AsksNothing : List (List ℕ) → Type 0
AsksNothing words = (a : ScheduleView) → ¬ (AsksFor words a)
