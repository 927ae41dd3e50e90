-- The item of a text that is read, and of one that isn't.
use Rattle.std.proofs.Common.{◌≡◌, ℕ, ◌-◌, ◌<◌, ◌≤◌, List, length, drop, get_or, map, Option, Some, None, refl, sym, ap, ◌∙◌, subst, arith}
use Rattle.std.proofs.lemmas.List.{length-map, drop_more, drop_all, drop-map}
use Rattle.def_term.specs.Tree.{Tree}
use Rattle.def_text.specs.Faults.{FaultKind}
use Rattle.def_text.specs.Spelling.{LENGTH}
use Rattle.def_text.specs.Scripts.{SpellsTerms, ScriptRefused}
use Rattle.def_text.proofs.Either.{script_refused}
use Rattle.def_script.specs.Limits.{FORMS}
use Rattle.def_script.specs.Program.{Form}
use Rattle.def_script.specs.Rules.{Rule, first_broken}
use Rattle.def_script.specs.Script as script
use Rattle.def_script.specs.Script.{IsRefused, SpellsForms}
use Rattle.def_script.proofs.OneScript.{refused_once, not_both}
use Rattle.def_script.proofs.FirstBroken.{first_is, none_broken}
use Rattle.def_refusal.specs.Items.{shapeless_item, shapeless_item_first, shapeless_item_in}
use Rattle.def_refusal.specs.RefusedItems.{HasForms}
use Rattle.def_refusal.proofs.OneItem.{breaking_of_forms, breaking_of_none}
use Rattle.std.specs.Option.{option_map}
use Rattle.tn_script.specs.declared.items.FormItem.{FormItem}
use Rattle.tn_script.specs.Items.{form_item_of}
use Rattle.tn_program.specs.Items.{item_of_fault}
use Rattle.tn_refusal.specs.Details.{IsFormsOf, HasFormsOfRule}
use Rattle.tn_refusal.specs.RefusedItems.{IsItemOfBroken}
use Rattle.tn_refusal.specs.Refusals.{refused_part}
use Rattle.tn_refusal.specs.declared.refusal.RefusedPart.TheVariants.{Form as InForm}

-- a text that spells forms is a script, or is refused for a rule
refused-by : (bytes : List ℕ) (fs : List Form) (r : script.Refusal) → HasForms bytes fs → IsRefused bytes r → (o : Option (ℕ × Rule)) → first_broken fs ≡ o → (n : ℕ) × (q : Rule) × (r ≡ script.broken q n)
refused-by bytes fs r h d None e =
    absurd (not_both bytes (script.program_from fs) r (record { forms = fs; spelled = h.spelled; few = h.few; kept = none_broken fs e; made = refl }) d)
refused-by bytes fs r h d (Some b) e =
    (b.0, b.1, refused_once bytes r (script.broken b.1 b.0) d (record { forms = fs; spelled = h.spelled; few = h.few; first = first_is fs b.0 b.1 e }))

pub no_forms : (bytes : List ℕ) (r : script.Refusal) → ((n : ℕ) (q : Rule) → r ≡ script.broken q n → ⊥) → IsRefused bytes r → (fs : List Form) → HasForms bytes fs → ⊥
no_forms bytes r other d fs h = let b = refused-by bytes fs r h d (first_broken fs) refl in other b.0 b.1 b.2

pub long_no_forms : (bytes : List ℕ) → IsRefused bytes script.too_long → (fs : List Form) → HasForms bytes fs → ⊥
long_no_forms bytes d = no_forms bytes script.too_long (λ n q e. cc) d

pub token_no_forms : (bytes : List ℕ) (at : ℕ) → IsRefused bytes (script.token at) → (fs : List Form) → HasForms bytes fs → ⊥
token_no_forms bytes at d = no_forms bytes (script.token at) (λ n q e. cc) d

pub deep_no_forms : (bytes : List ℕ) (at : ℕ) → IsRefused bytes (script.too_deep at) → (fs : List Form) → HasForms bytes fs → ⊥
deep_no_forms bytes at d = no_forms bytes (script.too_deep at) (λ n q e. cc) d

pub large_no_forms : (bytes : List ℕ) (at : ℕ) → IsRefused bytes (script.too_large at) → (fs : List Form) → HasForms bytes fs → ⊥
large_no_forms bytes at d = no_forms bytes (script.too_large at) (λ n q e. cc) d

pub shapeless_no_forms : (bytes : List ℕ) (m : ℕ) → IsRefused bytes (script.form m) → (fs : List Form) → HasForms bytes fs → ⊥
shapeless_no_forms bytes m d = no_forms bytes (script.form m) (λ n q e. cc) d

pub many_no_forms : (bytes : List ℕ) → IsRefused bytes script.too_many_forms → (fs : List Form) → HasForms bytes fs → ⊥
many_no_forms bytes d = no_forms bytes script.too_many_forms (λ n q e. cc) d

-- term n of a list, and none past its end
pub of_term : {X : Type 0} (g : X → Tree) (xs : List X) (n i : ℕ) (x : X) → i ≡ n - 1 → i < length xs → x ≡ get_or xs i x → shapeless_item (g x) ≡ shapeless_item_in (map g xs) n
of_term g xs n i x e below is =
    sym (ap (λ m. shapeless_item_first (drop m (map g xs))) (sym e)
    ∙ ap shapeless_item_first (drop-map g i xs)
    ∙ ap (λ ys. shapeless_item_first (map g ys)) (drop_more xs i x below) ∙ ap (λ y. shapeless_item (g y)) (sym is))

pub of_no_term : {X : Type 0} (g : X → Tree) (xs : List X) (n i : ℕ) → i ≡ n - 1 → length xs ≤ i → shapeless_item_in (map g xs) n ≡ None
of_no_term g xs n i e past =
    ap (λ m. shapeless_item_first (drop m (map g xs))) (sym e) ∙ ap shapeless_item_first (drop_all i (map g xs) (let same = length-map xs g in omega arith))

-- ---- the item by what the readers answer

pub long_no_terms : (bytes : List ℕ) → LENGTH < length bytes → (ts : List Tree) → SpellsTerms bytes ts → ⊥
long_no_terms bytes long ts s = let short = s.short in omega arith

pub denied_no_terms : (bytes : List ℕ) (kind : FaultKind) (at : ℕ) → ScriptRefused bytes kind at → (ts : List Tree) → SpellsTerms bytes ts → ⊥
denied_no_terms bytes kind at d ts s = script_refused bytes ts kind at s d

pub item_of_broken : (bytes : List ℕ) (fs : List Form) (b : Option (ℕ × Rule)) → SpellsForms bytes fs → length fs ≤ FORMS → IsItemOfBroken bytes b (item_of_fault fs b)
item_of_broken bytes fs None spelled few = tt
item_of_broken bytes fs (Some b) spelled few = breaking_of_forms bytes fs b.1 b.0 (record { spelled = spelled; few = few })

no_item_of_broken : (bytes : List ℕ) (b : Option (ℕ × Rule)) → ((fs : List Form) → HasForms bytes fs → ⊥) → IsItemOfBroken bytes b None
no_item_of_broken bytes None denied = tt
no_item_of_broken bytes (Some b) denied = breaking_of_none bytes b.1 b.0 denied

pub no_item : (bytes : List ℕ) (b : Option (ℕ × Rule)) (i : Option FormItem) → i ≡ None → ((fs : List Form) → HasForms bytes fs → ⊥) → IsItemOfBroken bytes b (option_map form_item_of i)
no_item bytes b i none denied = subst (λ j. IsItemOfBroken bytes b (option_map form_item_of j)) (sym none) (no_item_of_broken bytes b denied)

pub no_forms_seen : (bytes : List ℕ) (o : Option (List Form)) → o ≡ None → ((fs : List Form) → HasForms bytes fs → ⊥) → IsFormsOf bytes o
no_forms_seen bytes o none denied = subst (IsFormsOf bytes) (sym none) denied

-- a refusal that is of no rule needs no forms
pub no_rule_forms : (bytes : List ℕ) (r : script.Refusal) (o : Option (List Form)) → ((q : Rule) (n : ℕ) → r ≡ script.broken q n → ⊥) → HasFormsOfRule bytes r o
no_rule_forms bytes script.too_long o other = tt
no_rule_forms bytes (script.token at) o other = tt
no_rule_forms bytes (script.too_deep at) o other = tt
no_rule_forms bytes (script.too_large at) o other = tt
no_rule_forms bytes (script.form n) o other = tt
no_rule_forms bytes script.too_many_forms o other = tt
no_rule_forms bytes (script.broken q n) o other = absurd (other q n refl)
no_rule_forms bytes script.bad_picks o other = tt

-- a text that is too long spells no forms
pub long_forms : (bytes : List ℕ) (r : script.Refusal) (o : Option (List Form)) → LENGTH < length bytes → o ≡ None → HasFormsOfRule bytes r o
long_forms bytes script.too_long o long none = tt
long_forms bytes (script.token at) o long none = tt
long_forms bytes (script.too_deep at) o long none = tt
long_forms bytes (script.too_large at) o long none = tt
long_forms bytes (script.form n) o long none = tt
long_forms bytes script.too_many_forms o long none = tt
long_forms bytes (script.broken q n) o long none = no_forms_seen bytes o none (λ fs h. long_no_terms bytes long h.spelled.terms h.spelled.spelled)
long_forms bytes script.bad_picks o long none = tt

-- a refusal of the whole text or of a token is for no rule of a form
pub part_forms : (bytes : List ℕ) (r : script.Refusal) (o : Option (List Form)) → ((n : ℕ) → refused_part r ≡ InForm n → ⊥) → HasFormsOfRule bytes r o
part_forms bytes r o other = no_rule_forms bytes r o (λ q n e. other n (ap refused_part e))
