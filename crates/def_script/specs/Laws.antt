-- What is promised of scripts and their refusals (own).
-- Depends on scripts and on the rules.
use Rattle.std.specs.Prelude.{◌≡◌, ℕ, List, Some, None, ◌⊎◌}
use Rattle.def_script.specs.Program.{Form, Program}
use Rattle.def_script.specs.Rules.{Rule, Breaks, IsFirstBroken, first_broken}
use Rattle.def_script.specs.Script.{IsScript, Refusal, IsRefused, refusal_line}

-- ---- scripts and refusals

-- a text is the script of one program at most
abbrev pub ScriptHasOneProgram : Type 0
ScriptHasOneProgram = (bytes : List ℕ) (p q : Program) → IsScript bytes p → IsScript bytes q → p ≡ q

-- a script is not refused
abbrev pub ScriptIsNotRefused : Type 0
ScriptIsNotRefused = (bytes : List ℕ) (p : Program) (r : Refusal) → IsScript bytes p → IsRefused bytes r → ⊥

-- a text is refused in one way at most
abbrev pub RefusalIsOne : Type 0
RefusalIsOne = (bytes : List ℕ) (r s : Refusal) → IsRefused bytes r → IsRefused bytes s → r ≡ s

-- every text is a script or refused
abbrev pub EachTextIsEither : Type 0
EachTextIsEither = (bytes : List ℕ) → ((p : Program) × IsScript bytes p) ⊎ ((r : Refusal) × IsRefused bytes r)

-- what is made of a text: a program, or the line of a refusal
pub data Answer : Type 0 where
  a_program : Program → Answer
  a_line : List ℕ → Answer

-- the bytes are a script with this program, or are refused with this line
abbrev pub IsAnswered : List ℕ → Answer → Type 0
IsAnswered bytes (a_program p) = IsScript bytes p
IsAnswered bytes (a_line l) = (r : Refusal) × IsRefused bytes r × (l ≡ refusal_line r)

-- of any bytes exactly one of the two holds, with one program or one line
abbrev pub ExactlyOneAnswer : Type 0
ExactlyOneAnswer = (bytes : List ℕ) → (a : Answer) × IsAnswered bytes a × ((b : Answer) → IsAnswered bytes b → b ≡ a)

-- ---- the first broken rule

-- of the lowest-numbered form that breaks a rule, what is computed is the least rule that it breaks
abbrev pub FirstBrokenIsFound : Type 0
FirstBrokenIsFound = (fs : List Form) (n : ℕ) (r : Rule) → first_broken fs ≡ Some (n, r) → IsFirstBroken fs n r

-- and no other is
abbrev pub FirstBrokenIsOnly : Type 0
FirstBrokenIsOnly = (fs : List Form) (n : ℕ) (r : Rule) → IsFirstBroken fs n r → first_broken fs ≡ Some (n, r)

-- where none is computed, no form breaks a rule
abbrev pub NoneIsBroken : Type 0
NoneIsBroken = (fs : List Form) → first_broken fs ≡ None → (n : ℕ) (r : Rule) → Breaks fs n r → ⊥
