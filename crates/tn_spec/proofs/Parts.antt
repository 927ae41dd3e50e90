-- Clauses that are tuples of three, and specifications that are nonempty lists.
use Rattle.std.proofs.Common.{◌≡◌, ◌≢◌, ◌∙◌, sym, subst, List, [], ◌∷◌, length, get_or, Some, None, refl, ap, arith}
use Rattle.std.specs.Prelude.{Ok, Err}
use Rattle.def_term.specs.Tree.{Tree, int, atom, pid, tuple, list, Trees, none, more}
use Rattle.def_spec.specs.Matching.{Pattern}
use Rattle.def_spec.specs.Expressions.{Dialect, Exprs, in_condition, in_body}
use Rattle.def_spec.specs.Outcome.{Clause}
use Rattle.def_spec.specs.Reading.{badarg, head_of, exprs_of, clause_of_parts, clause_of, clauses_of, spec_of}
use Rattle.tn_term.specs.Views.{tree_of, trees_of}
use Rattle.tn_term.specs.declared.term.Term.{Term}
use Rattle.tn_spec.specs.declared.fault.SpecFault.{SpecFault}
use Rattle.tn_spec.specs.Answers.{IsFaultOf, list_elements}
use Rattle.tn_spec.proofs.Each.{fault_then, ok_then}

module _ (d : Dialect) where
  -- ---- tuples of another size

  two_are_none : (h t : Tree) → clause_of d (tuple (more h (more t none))) ≡ Err badarg
  two_are_none h (int n) = refl
  two_are_none h (atom s) = refl
  two_are_none h (pid n) = refl
  two_are_none h (tuple ts) = refl
  two_are_none h (list ts) = refl

  four_with_list : (h u v : Tree) (cs ts : Trees) → clause_of d (tuple (more h (more (list cs) (more u (more v ts))))) ≡ Err badarg
  four_with_list h (int n) v cs ts = refl
  four_with_list h (atom s) v cs ts = refl
  four_with_list h (pid n) v cs ts = refl
  four_with_list h (tuple us) v cs ts = refl
  four_with_list h (list us) v cs ts = refl

  four_are_none : (h t u v : Tree) (ts : Trees) → clause_of d (tuple (more h (more t (more u (more v ts))))) ≡ Err badarg
  four_are_none h (int n) u v ts = refl
  four_are_none h (atom s) u v ts = refl
  four_are_none h (pid n) u v ts = refl
  four_are_none h (tuple us) u v ts = refl
  four_are_none h (list cs) u v ts = four_with_list h u v cs ts

  pub not_three : {A : Type 0} (xs : List (Term A)) → length xs ≢ 3 → clause_of d (tuple (trees_of xs)) ≡ Err badarg
  not_three [] other = refl
  not_three (x ∷ []) other = refl
  not_three (x ∷ y ∷ []) other = two_are_none (tree_of x) (tree_of y)
  not_three (x ∷ y ∷ z ∷ []) other = absurd (other refl)
  not_three (x ∷ y ∷ z ∷ w ∷ ws) other = four_are_none (tree_of x) (tree_of y) (tree_of z) (tree_of w) (trees_of ws)

  -- ---- fields that are no lists

  conditions_none : (h t u : Tree) → None ≡ list_elements t → clause_of d (tuple (more h (more t (more u none)))) ≡ Err badarg
  conditions_none h (int n) u e = refl
  conditions_none h (atom s) u e = refl
  conditions_none h (pid n) u e = refl
  conditions_none h (tuple ts) u e = refl
  conditions_none h (list cs) u e = absurd (cc)

  body_none_after : (h u : Tree) (cs : Trees) → None ≡ list_elements u → clause_of d (tuple (more h (more (list cs) (more u none)))) ≡ Err badarg
  body_none_after h (int n) cs e = refl
  body_none_after h (atom s) cs e = refl
  body_none_after h (pid n) cs e = refl
  body_none_after h (tuple ts) cs e = refl
  body_none_after h (list bs) cs e = absurd (cc)

  body_none : (h t u : Tree) → None ≡ list_elements u → clause_of d (tuple (more h (more t (more u none)))) ≡ Err badarg
  body_none h (int n) u e = refl
  body_none h (atom s) u e = refl
  body_none h (pid n) u e = refl
  body_none h (tuple ts) u e = refl
  body_none h (list cs) u e = body_none_after h u cs e

  pub no_conditions : {A : Type 0} (xs : List (Term A)) (y : Term A) → length xs ≡ 3 → y ≡ get_or xs 1 y → None ≡ list_elements (tree_of y) → clause_of d (tuple (trees_of xs)) ≡ Err badarg
  no_conditions [] y three second other = absurd (omega (arith, three))
  no_conditions (a ∷ []) y three second other = absurd (omega (arith, three))
  no_conditions (a ∷ b ∷ []) y three second other = absurd (omega (arith, three))
  no_conditions (a ∷ b ∷ e ∷ []) y three second other = conditions_none (tree_of a) (tree_of b) (tree_of e) (other ∙ ap (λ t. list_elements (tree_of t)) second)
  no_conditions (a ∷ b ∷ e ∷ f ∷ fs) y three second other = absurd (omega (arith, three))

  pub no_body : {A : Type 0} (xs : List (Term A)) (z : Term A) → length xs ≡ 3 → z ≡ get_or xs 2 z → None ≡ list_elements (tree_of z) → clause_of d (tuple (trees_of xs)) ≡ Err badarg
  no_body [] z three third other = absurd (omega (arith, three))
  no_body (a ∷ []) z three third other = absurd (omega (arith, three))
  no_body (a ∷ b ∷ []) z three third other = absurd (omega (arith, three))
  no_body (a ∷ b ∷ e ∷ []) z three third other = body_none (tree_of a) (tree_of b) (tree_of e) (other ∙ ap (λ t. list_elements (tree_of t)) third)
  no_body (a ∷ b ∷ e ∷ f ∷ fs) z three third other = absurd (omega (arith, three))

  -- ---- the three parts of a clause, read in order

  pub parts_read : (h : Tree) (cs bs : Trees) (p : Pattern) (es fs : Exprs) → head_of h ≡ Ok p → exprs_of d in_condition p cs ≡ Ok es → exprs_of d in_body p bs ≡ Ok fs
      → clause_of_parts d h cs bs ≡ Ok (record { head = p; conditions = es; body = fs })
  parts_read h cs bs p es fs first second third = ok_then _ _ p first ∙ ok_then _ _ es second ∙ ok_then _ _ fs third

  pub head_fails : {A : Type 0} (h : Tree) (cs bs : Trees) (e : SpecFault A) → IsFaultOf (head_of h) e → IsFaultOf (clause_of_parts d h cs bs) e
  head_fails h cs bs e fault = fault_then _ _ e fault

  pub conditions_fail : {A : Type 0} (h : Tree) (cs bs : Trees) (p : Pattern) (e : SpecFault A) → head_of h ≡ Ok p → IsFaultOf (exprs_of d in_condition p cs) e
      → IsFaultOf (clause_of_parts d h cs bs) e
  conditions_fail h cs bs p e first fault = subst (λ r. IsFaultOf r e) (sym (ok_then (head_of h) _ p first)) (fault_then _ _ e fault)

  pub body_fails : {A : Type 0} (h : Tree) (cs bs : Trees) (p : Pattern) (es : Exprs) (e : SpecFault A) → head_of h ≡ Ok p → exprs_of d in_condition p cs ≡ Ok es
      → IsFaultOf (exprs_of d in_body p bs) e → IsFaultOf (clause_of_parts d h cs bs) e
  body_fails h cs bs p es e first second fault =
      subst (λ r. IsFaultOf r e) (sym (ok_then (head_of h) _ p first ∙ ok_then (exprs_of d in_condition p cs) _ es second)) (fault_then _ _ e fault)

  -- ---- specifications

  list_is : (t : Tree) (ts : Trees) → Some ts ≡ list_elements t → t ≡ list ts
  list_is (int n) ts e = cc
  list_is (atom s) ts e = cc
  list_is (pid n) ts e = cc
  list_is (tuple us) ts e = cc
  list_is (list us) ts e = cc

  pub spec_read : {A : Type 0} (t : Tree) (xs : List (Term A)) (ks : List Clause) → length xs ≢ 0 → Some (trees_of xs) ≡ list_elements t → clauses_of d (trees_of xs) ≡ Ok ks
      → spec_of d t ≡ Ok (record { dialect = d; clauses = ks })
  spec_read t [] ks some e read = absurd (some refl)
  spec_read t (x ∷ xs) ks some e read = ap (spec_of d) (list_is t (trees_of (x ∷ xs)) e) ∙ ok_then _ _ ks read
