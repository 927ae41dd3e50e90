-- What is promised of the offsets at which commands begin (own).
-- Depends on the items of forms and where they begin, and on where the commands of a text begin: both say it of a command.
use Rattle.std.specs.Prelude.{◌≡◌, ℕ, suc, ◌+◌, ◌-◌, ◌≤◌, List, ◌∷◌, ◌++◌, length, Some, slice_get}
use Rattle.def_text.specs.Tokens.{TokenSpan, Tokens}
use Rattle.def_script.specs.Program.{Command, Form, controls}
use Rattle.def_script.specs.Rules.{commands_of}
use Rattle.def_script.specs.Script.{SpellsForms}
use Rattle.def_refusal.specs.Items.{FormItem, step, command, numbered_command}
use Rattle.def_refusal.specs.ItemStarts.{ItemBegins}
use Rattle.def_explain.specs.CommandPlaces.{before_form, command_starts}

-- form n of these has a command at this position, which has this number in the control list; all three are counted from 1
pub record IsCommandOfForm (fs : List Form) (n position number : ℕ) : Type 0 where
  pub earlier : List Form
  pub commands : List Command
  pub later : List Form
  pub whole : fs ≡ earlier ++ controls commands ∷ later
  pub form : n ≡ suc (length earlier)
  pub least : 1 ≤ position
  pub most : position ≤ length commands
  pub counted : number ≡ length (commands_of earlier) + position

-- the item is the command at this position of its form, and has this number where it has one
abbrev pub IsItemOfCommand : FormItem → (position number : ℕ) → Type 0
IsItemOfCommand (step k) position number = ⊥
IsItemOfCommand (command k) position number = k ≡ position
IsItemOfCommand (numbered_command k m) position number = (k ≡ position) × (m ≡ number)

-- in a text of forms each command begins, as an item of its form, where the command of its number begins
abbrev pub CommandBeginsAtItem : Type 0
CommandBeginsAtItem = (bytes : List ℕ) (fs : List Form) (xs : List TokenSpan) (i : FormItem) (n position number at : ℕ) → SpellsForms bytes fs → Tokens bytes xs
    → IsCommandOfForm fs n position number → IsItemOfCommand i position number → ItemBegins bytes n i at → slice_get (command_starts before_form xs) (number - 1) ≡ Some at

-- and no more commands begin than there are
abbrev pub CommandStartsAreAll : Type 0
CommandStartsAreAll = (bytes : List ℕ) (fs : List Form) (xs : List TokenSpan) → SpellsForms bytes fs → Tokens bytes xs → length (command_starts before_form xs) ≡ length (commands_of fs)
