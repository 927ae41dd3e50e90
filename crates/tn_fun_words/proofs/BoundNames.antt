-- The variables of a condition by their names, one binding after another.
use Rattle.std.proofs.Common.{◌≡◌, ◌∙◌, ℕ, ◌+◌, ◌<◌, true, false, List, [], ◌∷◌, ◌++◌, length, get_or, drop, map, cond, codes, Option, Result, Ok, Err, OnOk, refl, sym, ap, append_assoc, append-nil}
use Rattle.std.proofs.lemmas.List.{drop_more}
use Rattle.def_term.specs.Tree.{Tree}
use Rattle.def_term.specs.Names.{Name}
use Rattle.def_term.specs.Text.{w}
use Rattle.def_spec.specs.Matching.{Bindings}
use Rattle.def_spec.specs.Expressions.{Expr}
use Rattle.def_explain.specs.Reasons.{ConditionReason, has_value, by_condition, stands_in, bound_within}
use Rattle.def_fun_words.specs.Words.{ClauseWords}
use Rattle.def_fun_words.specs.WordTexts.{line_part_text, line_parts_text, condition_after, variable_words, variable_named, name_numbered, bound_parts, condition_parts, reason_parts}
use Rattle.tn_head.specs.Views.{binding_seen}
use Rattle.tn_head.specs.declared.bindings.Binding.{Binding}
use Rattle.tn_fun_words.specs.FrontLines.{named_bound}

pieces : (out text rest : List ℕ) → (out ++ (text ++ [])) ++ rest ≡ out ++ (text ++ rest)
pieces out text rest = simp (append_assoc, append-nil)

module _ {A : Type 0} (ns : List Name) (e : Expr) (xs : List (Binding A)) (i : ℕ) (x : Binding A) (below : i < length xs) (is : x ≡ get_or xs i x) where
  abbrev rest : Bindings
  rest = map binding_seen (drop (i + 1) xs)

  within_here : bound_within e (map binding_seen (drop i xs)) ≡ cond (stands_in x.number e) (binding_seen x ∷ bound_within e rest) (bound_within e rest)
  within_here =
      ap (λ ys. bound_within e (map binding_seen ys)) (drop_more xs i x below)
      ∙ ap (λ y. cond (stands_in y.number e) (binding_seen y ∷ bound_within e rest) (bound_within e rest)) (sym is)

  -- its variable stands in the condition, and its text comes next
  pub name_next : (out between : List ℕ) → stands_in x.number e ≡ true
      → (out ++ named_bound ns between (binding_seen x ∷ [])) ++ named_bound ns (codes ", ") (bound_within e rest) ≡ out ++ named_bound ns between (bound_within e (map binding_seen (drop i xs)))
  name_next out between h =
      pieces out (((between ++ variable_words (name_numbered ns x.number) x.number) ++ codes " is ") ++ w (binding_seen x).1) (named_bound ns (codes ", ") (bound_within e rest))
      ∙ ap (λ ps. out ++ named_bound ns between ps) (sym (within_here ∙ ap (λ t. cond t (binding_seen x ∷ bound_within e rest) (bound_within e rest)) h))

  -- or it doesn't
  pub name_passed : (out between : List ℕ) → stands_in x.number e ≡ false
      → out ++ named_bound ns between (bound_within e rest) ≡ out ++ named_bound ns between (bound_within e (map binding_seen (drop i xs)))
  name_passed out between h =
      ap (λ ps. out ++ named_bound ns between ps) (sym (within_here ∙ ap (λ t. cond t (binding_seen x ∷ bound_within e rest) (bound_within e rest)) h))

bound_pieces : (between name is value rest : List ℕ) → (((between ++ name) ++ is) ++ value) ++ rest ≡ between ++ (name ++ ((is ++ value) ++ rest))
bound_pieces between name is value rest = simp append_assoc

-- the names are those of the words
names_said : (ws : Option ClauseWords) (ns : List Name) → ((k : ℕ) → name_numbered ns k ≡ variable_named ws k) → (between : List ℕ) (b : Bindings) → named_bound ns between b ≡ line_parts_text ws (bound_parts between b)
names_said ws ns h between [] = refl
names_said ws ns h between (p ∷ ps) =
    bound_pieces between (variable_words (name_numbered ns p.0) p.0) (codes " is ") (w p.1) (named_bound ns (codes ", ") ps)
    ∙ ap (λ o. between ++ (variable_words o p.0 ++ ((codes " is " ++ w p.1) ++ named_bound ns (codes ", ") ps))) (h p.0)
    ∙ ap (λ s. between ++ (variable_words (variable_named ws p.0) p.0 ++ ((codes " is " ++ w p.1) ++ s))) (names_said ws ns h (codes ", ") ps)

value_pieces : (o is value rest : List ℕ) → ((o ++ is) ++ value) ++ rest ≡ o ++ ((is ++ value) ++ rest)
value_pieces o is value rest = simp append_assoc

-- a value with its variables, where the last piece is refused or not
pub value_ok : {T E : Type 0} (done : Result T E) (ws : Option ClauseWords) (ns : List Name) (t : Tree) (b : Bindings) (o m l d : List ℕ) → ((k : ℕ) → name_numbered ns k ≡ variable_named ws k)
    → m ≡ o ++ codes " is " → l ≡ m ++ w t → OnOk done (d ≡ l ++ named_bound ns (codes ": ") b) → OnOk done (d ≡ o ++ line_parts_text ws (condition_parts (has_value t b)))
value_ok (Ok v) ws ns t b o m l d h first second last =
    last ∙ ap (λ s. s ++ named_bound ns (codes ": ") b) (second ∙ ap (λ s. s ++ w t) first)
    ∙ value_pieces o (codes " is ") (w t) (named_bound ns (codes ": ") b)
    ∙ ap (λ s. o ++ ((codes " is " ++ w t) ++ s)) (names_said ws ns h (codes ": ") b)
value_ok (Err e) ws ns t b o m l d h first second last = tt

-- a condition and its parts
pub parts_ok : {T E : Type 0} (done : Result T E) (ws : Option ClauseWords) (k : ℕ) (r : ConditionReason) (o m d : List ℕ) → m ≡ o ++ line_part_text ws (condition_after k)
    → OnOk done (d ≡ m ++ line_parts_text ws (condition_parts r)) → OnOk done (d ≡ o ++ line_parts_text ws (reason_parts (by_condition k r)))
parts_ok (Ok v) ws k r o m d first h =
    h ∙ ap (λ s. s ++ line_parts_text ws (condition_parts r)) first ∙ append_assoc o (line_part_text ws (condition_after k)) (line_parts_text ws (condition_parts r))
parts_ok (Err e) ws k r o m d first h = tt
