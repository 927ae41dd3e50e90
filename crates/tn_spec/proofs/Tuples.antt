-- Expressions that are tuples.
use Rattle.std.proofs.Common.{◌≡◌, ◌∙◌, ℕ, ◌-◌, ◌==◌, ◌<◌, Bool, true, false, ◌&&◌, if◌then◌else◌, List, [], ◌∷◌, length, get_or, drop, codes, refl, sym, ap, ap₂, subst, arith, eqb-true}
use Rattle.std.specs.Prelude.{Ok, Err}
use Rattle.std.specs.Str.{bytes_eq}
use Rattle.std.proofs.lemmas.List.{drop_all, length-drop}
use Rattle.def_term.specs.Tree.{Tree, atom, tuple, Trees, none, more, count}
use Rattle.def_term.specs.Names.{Name}
use Rattle.def_spec.specs.Matching.{Pattern}
use Rattle.def_spec.specs.Expressions.{Dialect, Position, Expr, constant, tuple_of, Exprs}
use Rattle.def_spec.specs.Reading.{Reads, then_read, badarg, Callee, named_call, call_of, is_constant, only_element, expr_of, exprs_of}
use Rattle.tn_term.specs.Views.{tree_of, trees_of}
use Rattle.tn_term.specs.declared.term.Term.{Term}
use Rattle.tn_term.proofs.Trees.{here, count_seen}
use Rattle.tn_spec.specs.declared.fault.SpecFault.{SpecFault}
use Rattle.tn_spec.specs.Answers.{IsFaultOf}
use Rattle.tn_spec.proofs.Each.{fault_then, ok_then}

-- ---- the elements of a vector

pub first_seen : {A : Type 0} (xs : List (Term A)) (x : Term A) → 0 < length xs → x ≡ get_or xs 0 x → trees_of xs ≡ more (tree_of x) (trees_of (drop 1 xs))
first_seen xs x some is = here tree_of xs 0 x some is

pub second_seen : {A : Type 0} (xs : List (Term A)) (x : Term A) → 1 < length xs → x ≡ get_or xs 1 x → only_element (trees_of (drop 1 xs)) ≡ tree_of x
second_seen xs x some is = ap only_element (here tree_of xs 1 x some is)

pub further_counted : {A : Type 0} (xs : List (Term A)) (n : ℕ) → n ≡ length xs - 1 → n ≡ count (trees_of (drop 1 xs))
further_counted xs n e = e ∙ sym (length-drop 1 xs) ∙ sym (count_seen tree_of (drop 1 xs))

-- ---- tuples

-- a tuple of one tuple, or a tuple of a tuple and more
pub alone_seen : {A : Type 0} (xs : List (Term A)) (x : Term A) (t : Tree) → length xs ≡ 1 → x ≡ get_or xs 0 x → tree_of x ≡ t → trees_of xs ≡ more t none
alone_seen xs x t one is e =
    first_seen xs x (omega (arith, one)) is ∙ ap₂ more e (ap trees_of (drop_all 1 xs (omega (arith, one))))

pub first_is : {A : Type 0} (xs : List (Term A)) (x : Term A) (t : Tree) → 0 < length xs → x ≡ get_or xs 0 x → tree_of x ≡ t → trees_of xs ≡ more t (trees_of (drop 1 xs))
first_is xs x t some is e = first_seen xs x some is ∙ ap (λ u. more u (trees_of (drop 1 xs))) e

pub one_further : (a b : Bool) (n : ℕ) → b ≡ (a && n == 1) → b ≡ true → n ≡ 1
one_further true b n e so = eqb-true n 1 (sym e ∙ so)
one_further false b n e so = absurd (cc)

module _ (d : Dialect) (part : Position) (head : Pattern) where
  pub nested_read : {A : Type 0} (xs ys : List (Term A)) (x : Term A) (es : Exprs) (e : Expr) → length xs ≡ 1 → x ≡ get_or xs 0 x → tree_of x ≡ tuple (trees_of ys)
      → exprs_of d part head (trees_of ys) ≡ Ok es → e ≡ tuple_of es → expr_of d part head (tuple (trees_of xs)) ≡ Ok e
  nested_read xs ys x es e one is same read whole =
      ap (λ ts. expr_of d part head (tuple ts)) (alone_seen xs x (tuple (trees_of ys)) one is same) ∙ ok_then _ _ es read ∙ ap Ok (sym whole)

  pub nested_fails : {A B : Type 0} (xs ys : List (Term A)) (x : Term A) (e : SpecFault B) → length xs ≡ 1 → x ≡ get_or xs 0 x → tree_of x ≡ tuple (trees_of ys)
      → IsFaultOf (exprs_of d part head (trees_of ys)) e → IsFaultOf (expr_of d part head (tuple (trees_of xs))) e
  nested_fails xs ys x e one is same fault =
      subst (λ ts. IsFaultOf (expr_of d part head (tuple ts)) e) (sym (alone_seen xs x (tuple (trees_of ys)) one is same)) (fault_then _ _ e fault)

  crowd : {A : Type 0} (ys : List (Term A)) (ts : Trees) → 0 < length ys → expr_of d part head (tuple (more (tuple ts) (trees_of ys))) ≡ Err badarg
  crowd [] ts some = absurd (omega (arith, some))
  crowd (y ∷ ys) ts some = refl

  pub crowded : {A : Type 0} (xs ys : List (Term A)) (x : Term A) → 1 < length xs → x ≡ get_or xs 0 x → tree_of x ≡ tuple (trees_of ys) → expr_of d part head (tuple (trees_of xs)) ≡ Err badarg
  crowded xs ys x several is e =
      ap (λ ts. expr_of d part head (tuple ts)) (first_is xs x (tuple (trees_of ys)) (omega (arith, several)) is e)
      ∙ crowd (drop 1 xs) (trees_of ys) (omega (arith, several, length-drop 1 xs))

  -- ---- calls

  abbrev call_in : Name → Trees → Reads Expr
  call_in s ts = then_read (named_call d part s (count ts)) (λ f. then_read (exprs_of d part head ts) (λ es. Ok (call_of f es)))

  call_is : (s : Name) (ts : Trees) → is_constant s ts ≡ false → expr_of d part head (tuple (more (atom s) ts)) ≡ call_in s ts
  call_is s ts not_so = ap (λ b. if b then Ok (constant (only_element ts)) else call_in s ts) not_so

  pub constant_read : (s : Name) (ts : Trees) (e : Expr) → is_constant s ts ≡ true → e ≡ constant (only_element ts) → expr_of d part head (tuple (more (atom s) ts)) ≡ Ok e
  constant_read s ts e so is = ap (λ b. if b then Ok (constant (only_element ts)) else call_in s ts) so ∙ ap Ok (sym is)

  pub unnamed : {A : Type 0} (s : Name) (ts : Trees) (n : ℕ) (e : SpecFault A) → is_constant s ts ≡ false → n ≡ count ts → IsFaultOf (named_call d part s n) e → IsFaultOf (expr_of d part head (tuple (more (atom s) ts))) e
  unnamed s ts n e not_so counted fault =
      subst (λ r. IsFaultOf r e) (sym (call_is s ts not_so)) (fault_then _ _ e (subst (λ m. IsFaultOf (named_call d part s m) e) counted fault))

  named : (s : Name) (ts : Trees) (n : ℕ) (f : Callee) → is_constant s ts ≡ false → n ≡ count ts → named_call d part s n ≡ Ok f → expr_of d part head (tuple (more (atom s) ts)) ≡ then_read (exprs_of d part head ts) (λ es. Ok (call_of f es))
  named s ts n f not_so counted found = call_is s ts not_so ∙ ok_then _ _ f (ap (named_call d part s) (sym counted) ∙ found)

  pub call_fails : {A : Type 0} (s : Name) (ts : Trees) (n : ℕ) (f : Callee) (e : SpecFault A) → is_constant s ts ≡ false → n ≡ count ts → named_call d part s n ≡ Ok f → IsFaultOf (exprs_of d part head ts) e
      → IsFaultOf (expr_of d part head (tuple (more (atom s) ts))) e
  call_fails s ts n f e not_so counted found fault = subst (λ r. IsFaultOf r e) (sym (named s ts n f not_so counted found)) (fault_then _ _ e fault)

  pub call_read : (s : Name) (ts : Trees) (n : ℕ) (f : Callee) (es : Exprs) (e : Expr) → is_constant s ts ≡ false → n ≡ count ts → named_call d part s n ≡ Ok f → exprs_of d part head ts ≡ Ok es → e ≡ call_of f es
      → expr_of d part head (tuple (more (atom s) ts)) ≡ Ok e
  call_read s ts n f es e not_so counted found read is = named s ts n f not_so counted found ∙ ok_then _ _ es read ∙ ap Ok (sym is)

pub const_is : (s u : Name) (n : ℕ) (ts : Trees) (b c : Bool) → b ≡ (bytes_eq u (codes "const") && n == 1) → u ≡ s → n ≡ count ts → b ≡ c → is_constant s ts ≡ c
const_is s u n ts b c e same counted so = ap₂ (λ v m. bytes_eq v (codes "const") && m == 1) (sym same) (sym counted) ∙ sym e ∙ so
