-- What is promised of the items of forms (own).
-- Depends on the items, on where they begin and on the refusals of texts.
use Rattle.std.specs.Prelude.{◌≡◌, ℕ, ◌-◌, Bool, true, false, List, [], take, Option, Some, None}
use Rattle.def_term.specs.Tree.{Tree}
use Rattle.def_text.specs.Tokens.{TokenSpan}
use Rattle.def_script.specs.Program.{Form, declares, starts, controls}
use Rattle.def_script.specs.Shapes.{form_in}
use Rattle.def_script.specs.Rules.{Rule, breaks}
use Rattle.def_script.specs.Script.{Refusal}
use Rattle.def_refusal.specs.Items.{FormItem, breaking_item, shapeless_item}
use Rattle.def_refusal.specs.ItemStarts.{item_position, tokens_past_commas, ItemBegins, IsFromElement}
use Rattle.def_refusal.specs.RefusedItems.{IsRefusedItem}

-- ---- the item is one, and begins at one place

-- a refusal of a text has an item, or none
abbrev pub RefusedItemIsThere : Type 0
RefusedItemIsThere = (bytes : List ℕ) (r : Refusal) → (o : Option FormItem) × IsRefusedItem bytes r o

-- one at most
abbrev pub RefusedItemIsOne : Type 0
RefusedItemIsOne = (bytes : List ℕ) (r : Refusal) (o p : Option FormItem) → IsRefusedItem bytes r o → IsRefusedItem bytes r p → o ≡ p

-- an item begins at one offset
abbrev pub ItemOffsetIsOne : Type 0
ItemOffsetIsOne = (bytes : List ℕ) (n : ℕ) (i : FormItem) (a b : ℕ) → ItemBegins bytes n i a → ItemBegins bytes n i b → a ≡ b

-- after so many elements, each with a comma after it, stand the tokens that are computed
abbrev pub ElementIsAfterCommas : Type 0
ElementIsAfterCommas = (n : ℕ) (xs rest : List TokenSpan) → IsFromElement n xs rest → tokens_past_commas 0 n xs ≡ rest

-- ---- the item is what breaks the rule, or has no shape

-- the form with its first so many steps or commands alone
abbrev pub with_first_items : ℕ → Form → Form
with_first_items n (declares k) = declares (record { module_name = k.module_name; function_name = k.function_name; exported = k.exported; params = k.params; steps = take n k.steps })
with_first_items n (starts e) = starts e
with_first_items n (controls cs) = controls (take n cs)

-- the form with the items before this one keeps the rule, and with this one it breaks it
pub record IsBreak (fs earlier : List Form) (f : Form) (r : Rule) (i : FormItem) : Type 0 where
  pub kept : breaks fs earlier (with_first_items (item_position i - 1) f) r ≡ false
  pub broken : breaks fs earlier (with_first_items (item_position i) f) r ≡ true

-- where the form keeps the rule without its items, the item is the one with which it breaks it
abbrev pub ItemIsTheBreak : Type 0
ItemIsTheBreak = (fs earlier : List Form) (f : Form) (r : Rule) (i : FormItem) → breaks fs earlier (with_first_items 0 f) r ≡ false → breaking_item fs earlier f r ≡ Some i → IsBreak fs earlier f r i

-- where it keeps it without them and there is no such item, it keeps it with all of them
abbrev pub NoItemNoBreak : Type 0
NoItemNoBreak = (fs earlier : List Form) (f : Form) (r : Rule) → breaks fs earlier (with_first_items 0 f) r ≡ false → breaking_item fs earlier f r ≡ None → breaks fs earlier f r ≡ false

-- a term with an item without a shape is no form
abbrev pub ShapelessItemIsNoForm : Type 0
ShapelessItemIsNoForm = (t : Tree) (i : FormItem) → shapeless_item t ≡ Some i → form_in t ≡ None
