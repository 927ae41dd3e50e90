-- A refusal of a text has one item or none, and an item begins at one offset.
use Rattle.std.proofs.Common.{◌≡◌, ℕ, ◌-◌, ◌≤◌, ◌<◌, nat_lt, Bool, true, false, List, [], ◌∷◌, length, Option, Some, None, ◌⊎◌, inl, inr, refl, sym, ap, ◌∙◌, subst, arith}
use Rattle.std.proofs.lemmas.Bool.Decides.{nat_tests}
use Rattle.def_term.specs.Tree.{Tree}
use Rattle.def_text.specs.Scripts.{SpellsTerms, ScriptRefused}
use Rattle.def_text.specs.Faults.{FaultKind}
use Rattle.def_text.specs.Spelling.{LENGTH, offset_of}
use Rattle.def_text.proofs.Either.{script_one, script_refused, script_either}
use Rattle.def_text.proofs.Unique.{same_tokens}
use Rattle.def_script.specs.Limits.{FORMS}
use Rattle.def_script.specs.Program.{Form}
use Rattle.def_script.specs.Shapes.{forms_in}
use Rattle.def_script.specs.Rules.{Rule}
use Rattle.def_script.specs.Script as script
use Rattle.def_refusal.specs.Items.{FormItem, shapeless_item_in, breaking_item_in}
use Rattle.def_refusal.specs.ItemStarts.{from_item, ItemBegins}
use Rattle.def_refusal.specs.RefusedItems.{HasForms, IsShapelessItem, IsBreakingItem, IsRefusedItem}
use Rattle.def_refusal.specs.Laws.{RefusedItemIsThere, RefusedItemIsOne, ItemOffsetIsOne}

by_length : (n m : ℕ) → (n ≤ m) ⊎ (m < n)
by_length n m = elim (nat_lt m n) as (λ b. nat_lt m n ≡ b → (n ≤ m) ⊎ (m < n)) [ true ↦ λ e. inr (grind (arith, nat_tests, e)) | false ↦ λ e. inl (grind (arith, nat_tests, e)) ] refl

-- the text spells terms, or none
abbrev Spelling : List ℕ → Type 0
Spelling bytes = ((ts : List Tree) × SpellsTerms bytes ts) ⊎ ((ts : List Tree) → SpellsTerms bytes ts → ⊥)

spelling_within : (bytes : List ℕ) → (((ts : List Tree) × SpellsTerms bytes ts) ⊎ ((kind : FaultKind) × (at : ℕ) × ScriptRefused bytes kind at)) → Spelling bytes
spelling_within bytes (inl s) = inl s
spelling_within bytes (inr d) = inr (λ ts s. script_refused bytes ts d.0 d.1 s d.2)

spelling_by : (bytes : List ℕ) → (length bytes ≤ LENGTH) ⊎ (LENGTH < length bytes) → Spelling bytes
spelling_by bytes (inl short) = spelling_within bytes (script_either bytes short)
spelling_by bytes (inr long) = inr (λ ts s. let short = s.short in omega arith)

spelling : (bytes : List ℕ) → Spelling bytes
spelling bytes = spelling_by bytes (by_length (length bytes) LENGTH)

-- it spells at most 256 forms, or none
abbrev FormSpelling : List ℕ → Type 0
FormSpelling bytes = ((fs : List Form) × HasForms bytes fs) ⊎ ((fs : List Form) → HasForms bytes fs → ⊥)

some_none : (P : Type 0) (x : List Form) → Some x ≡ None → P
some_none P x e = cc

the_same : {X : Type 0} (x y : X) → Some x ≡ Some y → x ≡ y
the_same x y e = cc

-- the forms of a text whose terms are known
pub forms_shaped : (bytes : List ℕ) (ts : List Tree) (fs : List Form) → SpellsTerms bytes ts → HasForms bytes fs → forms_in ts ≡ Some fs
forms_shaped bytes ts fs s h = ap forms_in (script_one bytes ts h.spelled.terms s h.spelled.spelled) ∙ h.spelled.shaped

by_forms : (bytes : List ℕ) (ts : List Tree) (fs : List Form) → SpellsTerms bytes ts → forms_in ts ≡ Some fs → (length fs ≤ FORMS) ⊎ (FORMS < length fs) → FormSpelling bytes
by_forms bytes ts fs s e (inl few) = inl (fs, record { spelled = record { terms = ts; spelled = s; shaped = e }; few = few })
by_forms bytes ts fs s e (inr many) = inr (λ gs h. let same : length gs ≡ length fs = ap length (the_same gs fs (sym (forms_shaped bytes ts gs s h) ∙ e)) in let few = h.few in omega arith)

by_terms : (bytes : List ℕ) (ts : List Tree) → SpellsTerms bytes ts → (o : Option (List Form)) → forms_in ts ≡ o → FormSpelling bytes
by_terms bytes ts s None e = inr (λ fs h. some_none ⊥ fs (sym (forms_shaped bytes ts fs s h) ∙ e))
by_terms bytes ts s (Some fs) e = by_forms bytes ts fs s e (by_length (length fs) FORMS)

form_spelling_by : (bytes : List ℕ) → Spelling bytes → FormSpelling bytes
form_spelling_by bytes (inl s) = by_terms bytes s.0 s.1 (forms_in s.0) refl
form_spelling_by bytes (inr denied) = inr (λ fs h. denied h.spelled.terms h.spelled.spelled)

form_spelling : (bytes : List ℕ) → FormSpelling bytes
form_spelling bytes = form_spelling_by bytes (spelling bytes)

-- two lists of forms of a text are one
pub one_list : (bytes : List ℕ) (fs gs : List Form) → HasForms bytes fs → HasForms bytes gs → fs ≡ gs
one_list bytes fs gs h i = the_same fs gs (sym h.spelled.shaped ∙ forms_shaped bytes h.spelled.terms gs h.spelled.spelled i)

-- ---- the item of a text whose terms or forms are known

pub shapeless_of_terms : (bytes : List ℕ) (ts : List Tree) (n : ℕ) → SpellsTerms bytes ts → IsShapelessItem bytes n (shapeless_item_in ts n)
shapeless_of_terms bytes ts n s = record {
  spelled = λ us t. ap (λ vs. shapeless_item_in vs n) (script_one bytes ts us s t);
  unspelled = λ denied. absurd (denied ts s);
}

pub shapeless_of_none : (bytes : List ℕ) (n : ℕ) → ((ts : List Tree) → SpellsTerms bytes ts → ⊥) → IsShapelessItem bytes n None
shapeless_of_none bytes n denied = record { spelled = λ ts s. absurd (denied ts s); unspelled = λ none. refl }

pub breaking_of_forms : (bytes : List ℕ) (fs : List Form) (r : Rule) (n : ℕ) → HasForms bytes fs → IsBreakingItem bytes r n (breaking_item_in fs n r)
breaking_of_forms bytes fs r n h = record {
  spelled = λ gs i. ap (λ l. breaking_item_in l n r) (one_list bytes fs gs h i);
  unspelled = λ denied. absurd (denied fs h);
}

pub breaking_of_none : (bytes : List ℕ) (r : Rule) (n : ℕ) → ((fs : List Form) → HasForms bytes fs → ⊥) → IsBreakingItem bytes r n None
breaking_of_none bytes r n denied = record { spelled = λ fs h. absurd (denied fs h); unspelled = λ none. refl }

shapeless_there : (bytes : List ℕ) (n : ℕ) → Spelling bytes → (o : Option FormItem) × IsShapelessItem bytes n o
shapeless_there bytes n (inl s) = (shapeless_item_in s.0 n, shapeless_of_terms bytes s.0 n s.1)
shapeless_there bytes n (inr denied) = (None, shapeless_of_none bytes n denied)

breaking_there : (bytes : List ℕ) (r : Rule) (n : ℕ) → FormSpelling bytes → (o : Option FormItem) × IsBreakingItem bytes r n o
breaking_there bytes r n (inl h) = (breaking_item_in h.0 n r, breaking_of_forms bytes h.0 r n h.1)
breaking_there bytes r n (inr denied) = (None, breaking_of_none bytes r n denied)

pub item_there : RefusedItemIsThere
item_there bytes script.too_long = (None, refl)
item_there bytes (script.token at) = (None, refl)
item_there bytes (script.too_deep at) = (None, refl)
item_there bytes (script.too_large at) = (None, refl)
item_there bytes (script.form n) = shapeless_there bytes n (spelling bytes)
item_there bytes script.too_many_forms = (None, refl)
item_there bytes (script.broken r n) = breaking_there bytes r n (form_spelling bytes)
item_there bytes script.bad_picks = (None, refl)

-- ---- one item

shapeless_one : (bytes : List ℕ) (n : ℕ) (o p : Option FormItem) → Spelling bytes → IsShapelessItem bytes n o → IsShapelessItem bytes n p → o ≡ p
shapeless_one bytes n o p (inl s) h i = h.spelled s.0 s.1 ∙ sym (i.spelled s.0 s.1)
shapeless_one bytes n o p (inr denied) h i = h.unspelled denied ∙ sym (i.unspelled denied)

breaking_one : (bytes : List ℕ) (r : Rule) (n : ℕ) (o p : Option FormItem) → FormSpelling bytes → IsBreakingItem bytes r n o → IsBreakingItem bytes r n p → o ≡ p
breaking_one bytes r n o p (inl s) h i = h.spelled s.0 s.1 ∙ sym (i.spelled s.0 s.1)
breaking_one bytes r n o p (inr denied) h i = h.unspelled denied ∙ sym (i.unspelled denied)

pub item_one : RefusedItemIsOne
item_one bytes script.too_long o p h i = h ∙ sym i
item_one bytes (script.token at) o p h i = h ∙ sym i
item_one bytes (script.too_deep at) o p h i = h ∙ sym i
item_one bytes (script.too_large at) o p h i = h ∙ sym i
item_one bytes (script.form n) o p h i = shapeless_one bytes n o p (spelling bytes) h i
item_one bytes script.too_many_forms o p h i = h ∙ sym i
item_one bytes (script.broken r n) o p h i = breaking_one bytes r n o p (form_spelling bytes) h i
item_one bytes script.bad_picks o p h i = h ∙ sym i

pub offset_one : ItemOffsetIsOne
offset_one bytes n i a b f g =
    f.offset ∙ ap (λ xs. offset_of (length bytes) (from_item n i xs)) (same_tokens 0 bytes f.tokens g.tokens f.are g.are) ∙ sym g.offset
