-- The lines of what is remarked of a run, and the picks that they need.
use Rattle.std.specs.Prelude.{◌≡◌, ℕ, ◌-◌, List, ◌++◌, flat_map, slice_get}
use Rattle.std.specs.List.{AllByRecursion}
use Rattle.def_explain.specs.CommandPlaces.{before_form, command_starts}
use Rattle.def_explain.specs.Remarks.{Remark, reply_and_reason}
use Rattle.def_explain.specs.RemarkLaws.{TakesNoCommand}
use Rattle.tn_refusal.specs.Starts.{IsListable}
use Rattle.tn_remark.specs.TextLines.{text_line}

-- the line of a remark, where commands begin at these offsets
abbrev pub remark_line : (name bytes : List ℕ) → List ℕ → Remark → List ℕ
remark_line name bytes starts r = text_line name bytes (slice_get starts (r.command - 1)) r.command (reply_and_reason r.reason)

-- the lines of these remarks, in a text of tokens
abbrev pub AreRemarkLines : (name bytes : List ℕ) → List Remark → List ℕ → Type 0
AreRemarkLines name bytes rs lines = (l : IsListable bytes) → lines ≡ flat_map (remark_line name bytes (command_starts before_form l.tokens)) rs

-- the first of some picks, after which none takes a command
abbrev pub IsFrontOfPicks : List ℕ → List ℕ → Type 0
IsFrontOfPicks picks front = (rest : List ℕ) × (picks ≡ front ++ rest) × AllByRecursion TakesNoCommand rest
