-- The line of a refusal (own).
-- Depends on where a refusal is, on the words of its rule, and on what a line says of what breaks it.
use Rattle.std.specs.Prelude.{◌≡◌, ℕ, List, [], ◌++◌, map, ◌&&◌, nat_le, true, if◌then◌else◌}
use Rattle.def_text.specs.Tokens.{all_are, is_printable}
use Rattle.def_script.specs.Script.{Refusal}
use Rattle.tn_refusal.specs.declared.location.Location.{Location}
use Rattle.tn_refusal.specs.Refusals.{refused_part}
use Rattle.def_wording.specs.SyntaxTexts.{TextKind}
use Rattle.tn_refusal.specs.Details.{TellsDetail}
use Rattle.tn_refusal.specs.Words.{words}
use Rattle.tn_refusal.specs.Locations.{mark_text, IsMarkOf}

-- a byte that isn't printable is shown as a question mark
abbrev pub printable_byte : ℕ → ℕ
printable_byte b = if nat_le 32 b && nat_le b 126 then b else 63

-- what breaks the rule, as it is shown, in a script or in a text that should be a term
pub record ShowsDetail (kind : TextKind) (bytes : List ℕ) (r : Refusal) (rest : List ℕ) : Type 0 where
  pub detail : List ℕ
  pub told : TellsDetail r bytes kind [] detail
  pub shown : rest ≡ map printable_byte detail

-- the name and where the refusal is, the words of its rule, and then what breaks it, in printable characters
pub record IsExplained (kind : TextKind) (name bytes : List ℕ) (r : Refusal) (line : List ℕ) : Type 0 where
  pub mark : Location
  pub rest : List ℕ
  pub place : IsMarkOf bytes r (refused_part r) mark
  pub text : line ≡ mark_text name mark ++ words r ++ rest
  pub details : ShowsDetail kind bytes r rest
  pub printable : all_are is_printable rest ≡ true
