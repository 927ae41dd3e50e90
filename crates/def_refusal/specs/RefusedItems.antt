-- The step or the command that the refusal of a text is of (own).
-- Depends on what a text spells, and on the items of forms.
use Rattle.std.specs.Prelude.{◌≡◌, ℕ, ◌≤◌, List, length, Option, None}
use Rattle.def_term.specs.Tree.{Tree}
use Rattle.def_text.specs.Scripts.{SpellsTerms}
use Rattle.def_script.specs.Limits.{FORMS}
use Rattle.def_script.specs.Program.{Form}
use Rattle.def_script.specs.Rules.{Rule}
use Rattle.def_script.specs.Script.{Refusal, too_long, token, too_deep, too_large, form, too_many_forms, broken, bad_picks, SpellsForms}
use Rattle.def_refusal.specs.Items.{FormItem, shapeless_item_in, breaking_item_in}

-- the text spells at most 256 forms, which are these
pub record HasForms (bytes : List ℕ) (fs : List Form) : Type 0 where
  pub spelled : SpellsForms bytes fs
  pub few : length fs ≤ FORMS

-- the item for which term n has no shape, in a text that spells terms
pub record IsShapelessItem (bytes : List ℕ) (n : ℕ) (o : Option FormItem) : Type 0 where
  pub spelled : (ts : List Tree) → SpellsTerms bytes ts → o ≡ shapeless_item_in ts n
  pub unspelled : ((ts : List Tree) → SpellsTerms bytes ts → ⊥) → o ≡ None

-- the item for which form n breaks the rule, in a text that spells forms
pub record IsBreakingItem (bytes : List ℕ) (r : Rule) (n : ℕ) (o : Option FormItem) : Type 0 where
  pub spelled : (fs : List Form) → HasForms bytes fs → o ≡ breaking_item_in fs n r
  pub unspelled : ((fs : List Form) → HasForms bytes fs → ⊥) → o ≡ None

-- the item that the refusal is of; none where it is of the text, of a token or of a form itself
abbrev pub IsRefusedItem : List ℕ → Refusal → Option FormItem → Type 0
IsRefusedItem bytes too_long o = o ≡ None
IsRefusedItem bytes (token at) o = o ≡ None
IsRefusedItem bytes (too_deep at) o = o ≡ None
IsRefusedItem bytes (too_large at) o = o ≡ None
IsRefusedItem bytes (form n) o = IsShapelessItem bytes n o
IsRefusedItem bytes too_many_forms o = o ≡ None
IsRefusedItem bytes (broken r n) o = IsBreakingItem bytes r n o
IsRefusedItem bytes bad_picks o = o ≡ None
