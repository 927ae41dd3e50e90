-- The output of a run: what is written for the bytes of a script and a text of picks (own).
-- Depends on scripts and their refusals, on the texts of picks and on the output of an accepted script.
use Rattle.std.specs.Prelude.{◌≡◌, ℕ, List, [], ◌∷◌, ◌++◌}
use Rattle.def_script.specs.Program.{Program}
use Rattle.def_script.specs.Script.{Refusal, bad_picks, IsScript, IsRefused, refusal_line}
use Rattle.def_run.specs.Picks.{SpellsPicks}
use Rattle.def_run.specs.Round.{round}
use Rattle.def_run.specs.Listing.{program_output}

-- the text is no list of picks
abbrev pub HasBadPicks : List ℕ → Type 0
HasBadPicks text = (picks : List ℕ) → SpellsPicks text picks → ⊥

-- a refusal's line alone, with its line feed
abbrev pub refusal_text : Refusal → List ℕ
refusal_text r = refusal_line r ++ 10 ∷ []

-- an accepted script's listings, replies and journal, or the line of the one refusal; a text of picks of another form gives that of refusal 20, whatever the bytes
pub data IsOutput (bytes text output : List ℕ) : Type 0 where
  lists : (p : Program) → (picks : List ℕ) → IsScript bytes p → SpellsPicks text picks → output ≡ program_output p picks → IsOutput bytes text output
  refuses : (r : Refusal) → (picks : List ℕ) → IsRefused bytes r → SpellsPicks text picks → output ≡ refusal_text r → IsOutput bytes text output
  refuses_picks : HasBadPicks text → output ≡ refusal_text bad_picks → IsOutput bytes text output

-- the same by rounds: an accepted script's listings, replies and journal for the picks of a round, or the line of the one refusal
pub data IsRoundOutput (bytes : List ℕ) (limit : ℕ) (output : List ℕ) : Type 0 where
  lists_round : (p : Program) → IsScript bytes p → output ≡ program_output p (round p limit) → IsRoundOutput bytes limit output
  refuses_round : (r : Refusal) → IsRefused bytes r → output ≡ refusal_text r → IsRoundOutput bytes limit output
