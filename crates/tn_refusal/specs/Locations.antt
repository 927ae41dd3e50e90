-- Where a line says that a refusal is (own).
-- Depends on places, on where forms begin, and on the steps and commands that a refusal is of.
use Rattle.std.specs.Prelude.{◌≡◌, ℕ, ◌≤◌, List, ◌++◌, length, Option, Some, None, codes, decimal}
use Rattle.def_text.specs.Spelling.{LENGTH}
use Rattle.def_text.specs.Places.{place_at}
use Rattle.def_text.specs.Forms.{FormBegins}
use Rattle.def_script.specs.Script.{Refusal}
use Rattle.def_refusal.specs.Items.{FormItem, step, command, numbered_command}
use Rattle.def_refusal.specs.ItemStarts.{ItemBegins}
use Rattle.def_refusal.specs.RefusedItems.{IsRefusedItem}
use Rattle.tn_refusal.specs.declared.location.Location.{Location}
use Rattle.tn_refusal.specs.declared.location.Location.TheVariants.{Whole, Spot, InForm, InItem, InCommand}
use Rattle.tn_refusal.specs.declared.refusal.RefusedPart.{RefusedPart}
use Rattle.tn_refusal.specs.declared.refusal.RefusedPart.TheVariants as part
use Rattle.tn_refusal.specs.Starts.{IsListable}

-- the name, and the line and column, or the line with the form's number, or the line and column of a step or a command with that number and a command's own, or nothing more
abbrev pub mark_text : List ℕ → Location → List ℕ
mark_text name Whole = name ++ codes ": "
mark_text name (Spot line column) = name ++ codes ":" ++ decimal line ++ codes ":" ++ decimal column ++ codes ": "
mark_text name (InForm line n) = name ++ codes ":" ++ decimal line ++ codes ": form " ++ decimal n ++ codes ": "
mark_text name (InItem line column n) = name ++ codes ":" ++ decimal line ++ codes ":" ++ decimal column ++ codes ": form " ++ decimal n ++ codes ": "
mark_text name (InCommand line column n k) =
    name ++ codes ":" ++ decimal line ++ codes ":" ++ decimal column ++ codes ": form " ++ decimal n ++ codes ", command " ++ decimal k ++ codes ": "

-- the line and the column of the offset
abbrev pub spot_at : List ℕ → ℕ → Location
spot_at bytes at = Spot (place_at bytes at).line (place_at bytes at).column

-- the line and the column of the offset, and the form's number; of a command that breaks a rule also its number in the control list
abbrev pub location_of_item : List ℕ → ℕ → FormItem → ℕ → Location
location_of_item bytes n (step k) at = InItem (place_at bytes at).line (place_at bytes at).column n
location_of_item bytes n (command k) at = InItem (place_at bytes at).line (place_at bytes at).column n
location_of_item bytes n (numbered_command k m) at = InCommand (place_at bytes at).line (place_at bytes at).column n m

-- where the step or the command of form n begins; or the line of the form's first token, where the refusal is of the form itself
abbrev pub IsItemMark : List ℕ → ℕ → Option FormItem → Location → Type 0
IsItemMark bytes n None m = (at : ℕ) → FormBegins bytes n at → m ≡ InForm (place_at bytes at).line n
IsItemMark bytes n (Some i) m = (at : ℕ) → ItemBegins bytes n i at → m ≡ location_of_item bytes n i at

-- where the refusal for form n is, in a text of tokens
abbrev pub IsFormMark : List ℕ → Refusal → ℕ → Location → Type 0
IsFormMark bytes r n m = IsListable bytes → (o : Option FormItem) → IsRefusedItem bytes r o → IsItemMark bytes n o m

-- the place of the part is known: a token's in a text within the length, a form's in a text of tokens
abbrev pub IsPlaced : List ℕ → RefusedPart → Type 0
IsPlaced bytes part.Whole = Unit {0}
IsPlaced bytes (part.Token at) = length bytes ≤ LENGTH
IsPlaced bytes (part.Form n) = IsListable bytes

-- where the refusal of a part is: at the token's offset, in the form, or in the whole text
abbrev pub IsMarkOf : List ℕ → Refusal → RefusedPart → Location → Type 0
IsMarkOf bytes r part.Whole m = m ≡ Whole
IsMarkOf bytes r (part.Token at) m = length bytes ≤ LENGTH → m ≡ spot_at bytes at
IsMarkOf bytes r (part.Form n) m = IsFormMark bytes r n m
