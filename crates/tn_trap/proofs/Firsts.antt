-- The first of several that is something, one after another.
use Rattle.std.proofs.Common.{◌≡◌, ◌∙◌, sym, ap, refl, ℕ, suc, ◌+◌, ◌<◌, ◌≤◌, add-one, Bool, true, false, List, [], ◌∷◌, length, get_or, drop, map, Option, Some, None}
use Rattle.std.specs.Prelude.{is_some}
use Rattle.std.specs.Option.{option_map, option_or}
use Rattle.std.proofs.lemmas.List.{drop_more, drop_all}
use Rattle.def_term.specs.Tree.{Tree}
use Rattle.def_spec.specs.Expressions.{Dialect, no_exprs, and_expr}
use Rattle.def_spec.specs.Flags.{Flag, Flags, flag_named, flags_named, and_flag}
use Rattle.def_trap.specs.Traps as traps
use Rattle.def_trap.specs.Traps.{is_flag, no_flag, first_no_flag, body_trap, first_in_body, of_body, clause_trap, trap_after, is_action, is_action_row, count_patterns}
use Rattle.tn_term.proofs.Trees.{here}
use Rattle.tn_term.specs.declared.term.Term.{Term}
use Rattle.tn_term.specs.Views.{tree_of, trees_of}
use Rattle.tn_spec.specs.declared.expr.Expr as code
use Rattle.tn_spec.specs.declared.spec.Clause.{Clause}
use Rattle.def_spec.specs.Reading.{Callee, Row}
use Rattle.tn_spec.specs.Names.{row_of}
use Rattle.tn_spec.specs.declared.pattern.Pattern.{Pattern}
use Rattle.tn_spec.specs.Views.{expr_seen, exprs_seen, clause_seen, patterns_seen}

-- ---- lists of flags

flags_without : (f : Option Flag) (fs : Option Flags) → is_some f ≡ false → is_some (and_flag f fs) ≡ false
flags_without None fs e = refl
flags_without (Some f) fs e = let clash : true ≡ false = e in cc

flags_with : (f : Option Flag) (fs : Option Flags) → is_some f ≡ true → is_some (and_flag f fs) ≡ is_some fs
flags_with None fs e = let clash : false ≡ true = e in cc
flags_with (Some f) None e = refl
flags_with (Some f) (Some fs) e = refl

module _ {A : Type 0} (xs : List (Term A)) (i : ℕ) (whole : Bool) where
  pub flag_missing : (x : Term A) → i < length xs → x ≡ get_or xs i x → is_flag (tree_of x) ≡ false → is_some (flags_named (trees_of (drop i xs))) ≡ whole → false ≡ whole
  flag_missing x below is lacks left =
      sym (ap (λ ts. is_some (flags_named ts)) (here tree_of xs i x below is) ∙ flags_without (flag_named (tree_of x)) (flags_named (trees_of (drop (i + 1) xs))) lacks) ∙ left

  pub flag_there : (x : Term A) → i < length xs → x ≡ get_or xs i x → is_flag (tree_of x) ≡ true → is_some (flags_named (trees_of (drop i xs))) ≡ whole
      → is_some (flags_named (trees_of (drop (i + 1) xs))) ≡ whole
  flag_there x below is has left =
      sym (ap (λ ts. is_some (flags_named ts)) (here tree_of xs i x below is) ∙ flags_with (flag_named (tree_of x)) (flags_named (trees_of (drop (i + 1) xs))) has) ∙ left

  pub flags_end : length xs ≤ i → is_some (flags_named (trees_of (drop i xs))) ≡ whole → true ≡ whole
  flags_end past left = sym (ap (λ ys. is_some (flags_named (trees_of ys))) (drop_all i xs past)) ∙ left

-- ---- expressions

exprs_here : {A : Type 0} (es : List (code.Expr A)) (i : ℕ) (e : code.Expr A) → i < length es → e ≡ get_or es i e → exprs_seen (drop i es) ≡ and_expr (expr_seen e) (exprs_seen (drop (i + 1) es))
exprs_here es i e below is = ap exprs_seen (drop_more es i e below) ∙ ap (λ f. and_expr (expr_seen f) (exprs_seen (drop (i + 1) es))) (sym is)

exprs_past : {A : Type 0} (es : List (code.Expr A)) (i : ℕ) → length es ≤ i → exprs_seen (drop i es) ≡ no_exprs
exprs_past es i past = ap exprs_seen (drop_all i es past)

module _ {A : Type 0} (es : List (code.Expr A)) (i : ℕ) (whole : Option Tree) where
  pub constant_here : (e : code.Expr A) (t : Tree) → i < length es → e ≡ get_or es i e → Some t ≡ no_flag (expr_seen e) → first_no_flag (exprs_seen (drop i es)) ≡ whole → Some t ≡ whole
  constant_here e t below is found left =
      sym (ap first_no_flag (exprs_here es i e below is) ∙ ap (λ o. option_or o (first_no_flag (exprs_seen (drop (i + 1) es)))) (sym found)) ∙ left

  pub constant_later : (e : code.Expr A) → i < length es → e ≡ get_or es i e → None ≡ no_flag (expr_seen e) → first_no_flag (exprs_seen (drop i es)) ≡ whole
      → first_no_flag (exprs_seen (drop (i + 1) es)) ≡ whole
  constant_later e below is found left =
      sym (ap first_no_flag (exprs_here es i e below is) ∙ ap (λ o. option_or o (first_no_flag (exprs_seen (drop (i + 1) es)))) (sym found)) ∙ left

  pub constant_nowhere : length es ≤ i → first_no_flag (exprs_seen (drop i es)) ≡ whole → None ≡ whole
  constant_nowhere past left = sym (ap first_no_flag (exprs_past es i past)) ∙ left

module _ {A : Type 0} (d : Dialect) (es : List (code.Expr A)) (i : ℕ) (whole : Option traps.Trap) where
  pub body_here : (e : code.Expr A) (t : traps.BodyTrap) → i < length es → e ≡ get_or es i e → Some t ≡ body_trap d (expr_seen e) → first_in_body d i (exprs_seen (drop i es)) ≡ whole
      → Some (of_body i t) ≡ whole
  body_here e t below is found left =
      sym (ap (first_in_body d i) (exprs_here es i e below is)
      ∙ ap (λ o. option_or (option_map (of_body i) o) (first_in_body d (suc i) (exprs_seen (drop (i + 1) es)))) (sym found)) ∙ left

  pub body_later : (e : code.Expr A) → i < length es → e ≡ get_or es i e → None ≡ body_trap d (expr_seen e) → first_in_body d i (exprs_seen (drop i es)) ≡ whole
      → first_in_body d (i + 1) (exprs_seen (drop (i + 1) es)) ≡ whole
  body_later e below is found left =
      ap (λ m. first_in_body d m (exprs_seen (drop (i + 1) es))) (add-one i)
      ∙ sym (ap (first_in_body d i) (exprs_here es i e below is)
      ∙ ap (λ o. option_or (option_map (of_body i) o) (first_in_body d (suc i) (exprs_seen (drop (i + 1) es)))) (sym found)) ∙ left

  pub body_nowhere : length es ≤ i → first_in_body d i (exprs_seen (drop i es)) ≡ whole → None ≡ whole
  body_nowhere past left = sym (ap (first_in_body d i) (exprs_past es i past)) ∙ left

-- ---- clauses

clauses_here : {A : Type 0} (ks : List (Clause A)) (i : ℕ) (k : Clause A) → i < length ks → k ≡ get_or ks i k → map clause_seen (drop i ks) ≡ clause_seen k ∷ map clause_seen (drop (i + 1) ks)
clauses_here ks i k below is = ap (map clause_seen) (drop_more ks i k below) ∙ ap (λ q. clause_seen q ∷ map clause_seen (drop (i + 1) ks)) (sym is)

module _ {A : Type 0} (d : Dialect) (lengths : List ℕ) (ks : List (Clause A)) (i : ℕ) (whole : Option (ℕ × traps.Trap)) where
  pub clause_here : (k : Clause A) (t : traps.Trap) → i < length ks → k ≡ get_or ks i k → Some t ≡ clause_trap d lengths (clause_seen k) → trap_after d lengths i (map clause_seen (drop i ks)) ≡ whole
      → Some (i, t) ≡ whole
  clause_here k t below is found left =
      sym (ap (trap_after d lengths i) (clauses_here ks i k below is)
      ∙ ap (λ o. option_or (option_map (λ u. (i, u)) o) (trap_after d lengths (suc i) (map clause_seen (drop (i + 1) ks)))) (sym found)) ∙ left

  pub clause_later : (k : Clause A) → i < length ks → k ≡ get_or ks i k → None ≡ clause_trap d lengths (clause_seen k) → trap_after d lengths i (map clause_seen (drop i ks)) ≡ whole
      → trap_after d lengths (i + 1) (map clause_seen (drop (i + 1) ks)) ≡ whole
  clause_later k below is found left =
      ap (λ m. trap_after d lengths m (map clause_seen (drop (i + 1) ks))) (add-one i)
      ∙ sym (ap (trap_after d lengths i) (clauses_here ks i k below is)
      ∙ ap (λ o. option_or (option_map (λ u. (i, u)) o) (trap_after d lengths (suc i) (map clause_seen (drop (i + 1) ks)))) (sym found)) ∙ left

  pub clause_nowhere : length ks ≤ i → trap_after d lengths i (map clause_seen (drop i ks)) ≡ whole → None ≡ whole
  clause_nowhere past left = sym (ap (λ l. trap_after d lengths i (map clause_seen l)) (drop_all i ks past)) ∙ left

-- ---- one, two and three arguments

pub neither_last : {A : Type 0} (es : List (code.Expr A)) → (length es ≡ 1 → ⊥) → (length es ≡ 2 → ⊥) → None ≡ traps.no_flag_last (exprs_seen es)
neither_last [] one two = refl
neither_last (e ∷ []) one two = absurd (one refl)
neither_last (e ∷ f ∷ []) one two = absurd (two refl)
neither_last (e ∷ f ∷ g ∷ es) one two = refl

pub no_two_last : {A : Type 0} (es : List (code.Expr A)) → (length es ≡ 2 → ⊥) → (length es ≡ 3 → ⊥) → None ≡ traps.no_lists_last (exprs_seen es)
no_two_last [] two three = refl
no_two_last (e ∷ []) two three = refl
no_two_last (e ∷ f ∷ []) two three = absurd (two refl)
no_two_last (e ∷ f ∷ g ∷ []) two three = absurd (three refl)
no_two_last (e ∷ f ∷ g ∷ h ∷ es) two three = refl

-- ---- names and heads

pub action_row : (o : Option Row) (r : Callee × ℕ × Option ℕ) → Some r ≡ option_map row_of o → is_action r.0 ≡ is_action_row o
action_row None r e = let clash : Some r ≡ None = e in cc
action_row (Some q) r e = ap is_action (row_called (row_of q) r (sym e))
  where
    row_called : (p r : Callee × ℕ × Option ℕ) → Some p ≡ Some r → r.0 ≡ p.0
    row_called p r e = let same : p ≡ r = cc in ap (λ (x : Callee × ℕ × Option ℕ). x.0) (sym same)

pub no_row : (o : Option Row) → None ≡ option_map row_of o → false ≡ is_action_row o
no_row None e = refl
no_row (Some q) e = let clash : None ≡ Some (row_of q) = e in cc

pub counted : {A : Type 0} (ps : List (Pattern A)) → length ps ≡ count_patterns (patterns_seen ps)
counted [] = refl
counted (p ∷ ps) = ap suc (counted ps)
