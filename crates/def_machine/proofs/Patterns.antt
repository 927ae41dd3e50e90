-- A pattern's code binds as the walk does, or goes where the pattern doesn't match.
use Rattle.std.proofs.Common.{◌≡◌, ℕ, zero, suc, ◌+◌, ◌-◌, ◌<◌, List, length, Option, Some, None, refl, sym, ap, ◌∙◌, subst, arith, Bool, true, false, ◌==◌, if◌then◌else◌, eqb-true, eq-eqb, option_map, nat_cmp, option_and_then}
use Rattle.std.specs.FinMap.{find, put}
use Rattle.def_term.specs.Tree.{Tree, tuple, list, int, atom, pid, Trees, none, more, count}
use Rattle.def_term.specs.Order.{same}
use Rattle.def_spec.specs.Matching.{Pattern, Patterns, variable, anything, only_term, in_tuple, in_list, no_patterns, and_pattern, Bindings, value_bound, bind, bind_on, bind_each}
use Rattle.def_spec.specs.Functions.{nth}
use Rattle.def_spec.specs.Expressions.{Context, Effect}
use Rattle.def_spec.specs.Outcome.{Outcome}
use Rattle.def_machine.specs.Instructions.{ShapeKind, kind_tuple, kind_list, Instruction, take_element, test_kind, test_length, test_equal}
use Rattle.def_machine.specs.Machine.{Registers, with_register, going_to, set_register, test_move, parts, has_kind, set_term, equal_terms, does}
use Rattle.def_machine.specs.Compilation.{VariableRegisters, jump_by, registers_taken, registers_taken_each, variable_met, variables_after, variables_after_each, variable_code, number_of_patterns, shape_code, pattern_code, each_pattern_code}
use Rattle.def_machine.proofs.Runs.{Ends, by_move, Before, jump_to, before-cons, before-trans}
use Rattle.def_machine.proofs.KnownRegisters.{Known, terms_of, where_of, Holds, Agree, holds-on, agree-self, agree-both, agree-with, with-same, put-terms, put-where, put-holds, found, FoundAs}
use Rattle.def_machine.proofs.Fronts.{each_front}

abbrev past : ℕ → Trees → Trees
past zero us = us
past (suc i) none = none
past (suc i) (more u us) = past i us

nth_cons : (i : ℕ) (us : Trees) (t : Tree) (ts : Trees) → past i us ≡ more t ts → nth us i ≡ Some t
nth_cons zero none t ts e = cc
nth_cons zero (more u us) t ts e = cc
nth_cons (suc i) none t ts e = cc
nth_cons (suc i) (more u us) t ts e = nth_cons i us t ts e

past_cons : (i : ℕ) (us : Trees) (t : Tree) (ts : Trees) → past i us ≡ more t ts → past (suc i) us ≡ ts
past_cons zero none t ts e = cc
past_cons zero (more u us) t ts e = cc
past_cons (suc i) none t ts e = cc
past_cons (suc i) (more u us) t ts e = past_cons i us t ts e

then_none : (f : Bindings → Option Bindings) (x : Option Bindings) → ((b : Bindings) → f b ≡ None) → option_and_then f x ≡ None
then_none f None h = refl
then_none f (Some b) h = h b

-- patterns match no other number of terms
other_number : (ps : Patterns) (ts : Trees) (b : Bindings) → (count ts ≡ number_of_patterns ps → ⊥) → bind_each ps ts b ≡ None
other_number no_patterns none b other = absurd (other refl)
other_number no_patterns (more t ts) b other = refl
other_number (and_pattern p ps) none b other = refl
other_number (and_pattern p ps) (more t ts) b other = then_none (bind_each ps ts) (bind_on p t b) (λ x. other_number ps ts x (λ e. other (omega (arith, e))))

module _ (c : Context) (o : Outcome) (F : List Instruction) (e : List Effect) where
  pub jump_ends : (i : ℕ → Instruction) (rest : List Instruction) (g h : Registers) → Before rest F → does c (i (length rest - length F)) g e ≡ Some (going_to (length rest - length F) h e) → Ends c o F h e → Ends c o (jump_by i (length F) rest) g e
  jump_ends i rest g h b is r = by_move c o _ rest g e _ is (subst (λ l. Ends c o l h e) (sym (jump_to rest F b)) r)

  -- what is left to show of a pattern that takes the registers from d to f
  abbrev pub AfterPattern : List Instruction → VariableRegisters → Registers → (d f : ℕ) → Option Bindings → Type 0
  AfterPattern k env g d f None = (h : Registers) → Ends c o F h e
  AfterPattern k env g d f (Some b) = (h : Registers) (m : Known) → Agree d g h → Holds h f m → terms_of m ≡ b → where_of m ≡ env → Ends c o k h e

  later : (k : List Instruction) (env env' : VariableRegisters) (g g' : Registers) (d d' f f' : ℕ) (x : Option Bindings) → ((h : Registers) → Agree d' g' h → Agree d g h) → f' ≡ f → env' ≡ env → AfterPattern k env g d f x → AfterPattern k env' g' d' f' x
  later k env env' g g' d d' f f' None a n w r = r
  later k env env' g g' d d' f f' (Some b) a n w r = λ h m x y t v. r h m (a h x) (subst (λ z. Holds h z m) n y) t (v ∙ w)

  -- a test of one register that passes or jumps
  pub test_ends : (i : ℕ → Instruction) (b : Bool) (rest : List Instruction) (g : Registers) → Before rest F → ((n : ℕ) → does c (i n) g e ≡ Some (test_move b n g e)) → (b ≡ true → Ends c o rest g e) → (b ≡ false → Ends c o F g e) → Ends c o (jump_by i (length F) rest) g e
  test_ends i true rest g b is y n = by_move c o _ rest g e _ (is _) (y refl)
  test_ends i false rest g b is y n = jump_ends i rest g g b (is _) (n refl)

  pub same_known : (g : Registers) (r q : ℕ) (t u : Tree) → g r ≡ Some t → g q ≡ Some u → equal_terms (g r) (g q) ≡ Some (same t u)
  same_known g r q t u x y = ap (λ z. equal_terms z (g q)) x ∙ ap (equal_terms (Some t)) y

  chosen : (s : Bool) (b : Bindings) → s ≡ true → (if s then Some b else None) ≡ Some b
  chosen s b is = ap (λ z. if z then Some b else None) is

  refused : (s : Bool) (b : Bindings) → s ≡ false → (if s then Some b else None) ≡ None
  refused s b is = ap (λ z. if z then Some b else None) is

  var_ends : (n : ℕ) (t : Tree) (m : Known) (r d : ℕ) (k : List Instruction) (g : Registers) (x : Option ℕ) (y : Option Tree) → FoundAs g d x y → r < d → Holds g d m → g r ≡ Some t → Before k F → AfterPattern k (variable_met n r (where_of m) x) g d (d + 0) (bind n t (terms_of m) y) → Ends c o (variable_code x r (length F) k) g e
  var_ends n t m r d k g None None at l holds is b after =
      let z : d ≡ d + 0 = omega arith in
      after g (put nat_cmp n (r, t) m) (agree-self d g) (subst (λ w. Holds g w (put nat_cmp n (r, t) m)) z (put-holds g d n r t m l is holds)) (put-terms n r t m) (put-where n r t m)
  var_ends n t m r d k g None (Some u) at l holds is b after = absurd at
  var_ends n t m r d k g (Some q) None at l holds is b after = absurd at
  var_ends n t m r d k g (Some q) (Some u) at l holds is b after =
      let z : d ≡ d + 0 = omega arith in
      test_ends (test_equal q r) (same u t) k g b (λ j. ap (option_map (λ s. test_move s j g e)) (same_known g q r u t at.1 is))
      (λ yes. subst (AfterPattern k (where_of m) g d (d + 0)) (chosen (same u t) (terms_of m) yes) after g m (agree-self d g) (subst (λ w. Holds g w m) z holds) refl refl)
      (λ no. subst (AfterPattern k (where_of m) g d (d + 0)) (refused (same u t) (terms_of m) no) after g)

  -- the kind is tested, and then the number of parts
  shape_ends : (kind : ShapeKind) (n r : ℕ) (t : Tree) (rest : List Instruction) (g : Registers) → g r ≡ Some t → Before rest F → (has_kind kind t ≡ true → count (parts t) ≡ n → Ends c o rest g e) → (has_kind kind t ≡ false → Ends c o F g e) → (has_kind kind t ≡ true → (count (parts t) ≡ n → ⊥) → Ends c o F g e) → Ends c o (shape_code kind n r (length F) rest) g e
  shape_ends kind n r t rest g is b same_number other_kind other_length =
      test_ends (test_kind r kind) (has_kind kind t) _ g (before-cons _ rest F b) (λ j. ap (option_map (λ s. test_move (has_kind kind s) j g e)) is)
      (λ y. test_ends (test_length r n) (count (parts t) == n) rest g b (λ j. ap (option_map (λ s. test_move (count (parts s) == n) j g e)) is)
      (λ z. same_number y (eqb-true (count (parts t)) n z))
      (λ z. other_length y (λ q. absurd (cc (sym (eq-eqb (count (parts t)) n q) ∙ z)))))
      other_kind

  -- once the first was held against its element, the others
  rest_ends : (p : Pattern) (ps : Patterns) (ts : Trees) (u : Tree) (i : ℕ) (m : Known) (r d : ℕ) (k : List Instruction) (g h : Registers) (x : Option Bindings) → ((m1 : Known) (d1 : ℕ) (j : Registers) → r < d1 → Holds j d1 m1 → j r ≡ Some u → AfterPattern k (variables_after_each ps (where_of m1) d1) j d1 (d1 + registers_taken_each ps) (bind_each ps ts (terms_of m1)) → Ends c o (each_pattern_code ps (where_of m1) r (suc i) d1 (length F) k) j e) → r < d → Agree d g h → g r ≡ Some u → AfterPattern k (variables_after_each (and_pattern p ps) (where_of m) d) g d (d + registers_taken_each (and_pattern p ps)) (option_and_then (bind_each ps ts) x) → AfterPattern (each_pattern_code ps (variables_after p (where_of m) d (suc d)) r (suc i) (suc d + registers_taken p) (length F) k) (variables_after p (where_of m) d (suc d)) h (suc d) (suc d + registers_taken p) x
  rest_ends p ps ts u i m r d k g h None go l a is after = after
  rest_ends p ps ts u i m r d k g h (Some b1) go l a is after = λ j m1 a1 holds terms places.
      let d1 : ℕ = suc d + registers_taken p in
      let num : d1 + registers_taken_each ps ≡ d + registers_taken_each (and_pattern p ps) = omega arith in
      let all : Agree d g j = agree-both d (suc d) g h j (omega arith) a a1 in
      subst (λ w. Ends c o (each_pattern_code ps w r (suc i) d1 (length F) k) j e) places
      (go m1 d1 j (omega (arith, l)) holds (all r l ∙ is)
      (later k (variables_after_each ps (variables_after p (where_of m) d (suc d)) d1) (variables_after_each ps (where_of m1) d1) g j d d1 (d + registers_taken_each (and_pattern p ps)) (d1 + registers_taken_each ps) (bind_each ps ts (terms_of m1)) (λ q x. agree-both d d1 g j q (omega arith) all x) num (ap (λ w. variables_after_each ps w d1) places)
      (subst (λ y. AfterPattern k (variables_after_each (and_pattern p ps) (where_of m) d) g d (d + registers_taken_each (and_pattern p ps)) (bind_each ps ts y)) (sym terms) after)))

  takes : (d r i n : ℕ) (u : Tree) (x : Option Tree) (g : Registers) → g r ≡ Some u → nth (parts u) i ≡ x → does c (take_element d r i n) g e ≡ Some (set_term d n x g e)
  takes d r i n u x g is at = ap (option_map (λ s. set_term d n (nth (parts s) i) g e)) is ∙ ap (λ s. Some (set_term d n s g e)) at

  some_ends : (d r i : ℕ) (u t : Tree) (rest : List Instruction) (g : Registers) → g r ≡ Some u → nth (parts u) i ≡ Some t → Ends c o rest (with_register d t g) e → Ends c o (jump_by (take_element d r i) (length F) rest) g e
  some_ends d r i u t rest g is at after = by_move c o (take_element d r i (length rest - length F)) rest g e (set_register d t g e) (takes d r i (length rest - length F) u (Some t) g is at) after

  mutual
    pub pattern_ends : (p : Pattern) (t : Tree) (m : Known) (r d : ℕ) (k : List Instruction) (g : Registers) → r < d → Holds g d m → g r ≡ Some t → Before k F → AfterPattern k (variables_after p (where_of m) r d) g d (d + registers_taken p) (bind_on p t (terms_of m)) → Ends c o (pattern_code p (where_of m) r d (length F) k) g e
    pattern_ends (variable n) t m r d k g l holds is b after = var_ends n t m r d k g (find nat_cmp n (where_of m)) (value_bound (terms_of m) n) (found g d n m holds) l holds is b after
    pattern_ends anything t m r d k g l holds is b after = let z : d ≡ d + 0 = omega arith in after g m (agree-self d g) (subst (λ w. Holds g w m) z holds) refl refl
    pattern_ends (only_term u) t m r d k g l holds is b after =
        let h : Registers = with_register d u g in
        let a : Agree d g h = agree-with d d u g (omega arith) in
        by_move c o _ _ g e (set_register d u g e) refl
        (test_ends (test_equal d r) (same u t) k h b (λ j. ap (option_map (λ s. test_move s j h e)) (same_known h d r u t (with-same d u g) (a r l ∙ is)))
        (λ yes. subst (AfterPattern k (where_of m) g d (d + 1)) (chosen (same u t) (terms_of m) yes) after h m a (holds-on g h d (d + 1) m (omega arith) a holds) refl refl)
        (λ no. subst (AfterPattern k (where_of m) g d (d + 1)) (refused (same u t) (terms_of m) no) after h))
    pattern_ends (in_tuple ps) (tuple ts) m r d k g l holds is b after =
        shape_ends kind_tuple (number_of_patterns ps) r (tuple ts) _ g is (before-trans _ k F (each_front ps (where_of m) r 0 d (length F) k) b) (λ _ n. each_ends ps ts (tuple ts) 0 m r d k g l holds is refl n b after) (λ no. cc)
        (λ _ no. subst (AfterPattern k (variables_after_each ps (where_of m) d) g d (d + registers_taken_each ps)) (other_number ps ts (terms_of m) no) after g)
    pattern_ends (in_tuple ps) (list ts) m r d k g l holds is b after = shape_ends kind_tuple (number_of_patterns ps) r (list ts) _ g is (before-trans _ k F (each_front ps (where_of m) r 0 d (length F) k) b) (λ yes _. cc) (λ no. after g) (λ yes _. cc)
    pattern_ends (in_tuple ps) (int z) m r d k g l holds is b after = shape_ends kind_tuple (number_of_patterns ps) r (int z) _ g is (before-trans _ k F (each_front ps (where_of m) r 0 d (length F) k) b) (λ yes _. cc) (λ no. after g) (λ yes _. cc)
    pattern_ends (in_tuple ps) (atom z) m r d k g l holds is b after = shape_ends kind_tuple (number_of_patterns ps) r (atom z) _ g is (before-trans _ k F (each_front ps (where_of m) r 0 d (length F) k) b) (λ yes _. cc) (λ no. after g) (λ yes _. cc)
    pattern_ends (in_tuple ps) (pid z) m r d k g l holds is b after = shape_ends kind_tuple (number_of_patterns ps) r (pid z) _ g is (before-trans _ k F (each_front ps (where_of m) r 0 d (length F) k) b) (λ yes _. cc) (λ no. after g) (λ yes _. cc)
    pattern_ends (in_list ps) (list ts) m r d k g l holds is b after =
        shape_ends kind_list (number_of_patterns ps) r (list ts) _ g is (before-trans _ k F (each_front ps (where_of m) r 0 d (length F) k) b) (λ _ n. each_ends ps ts (list ts) 0 m r d k g l holds is refl n b after) (λ no. cc)
        (λ _ no. subst (AfterPattern k (variables_after_each ps (where_of m) d) g d (d + registers_taken_each ps)) (other_number ps ts (terms_of m) no) after g)
    pattern_ends (in_list ps) (tuple ts) m r d k g l holds is b after = shape_ends kind_list (number_of_patterns ps) r (tuple ts) _ g is (before-trans _ k F (each_front ps (where_of m) r 0 d (length F) k) b) (λ yes _. cc) (λ no. after g) (λ yes _. cc)
    pattern_ends (in_list ps) (int z) m r d k g l holds is b after = shape_ends kind_list (number_of_patterns ps) r (int z) _ g is (before-trans _ k F (each_front ps (where_of m) r 0 d (length F) k) b) (λ yes _. cc) (λ no. after g) (λ yes _. cc)
    pattern_ends (in_list ps) (atom z) m r d k g l holds is b after = shape_ends kind_list (number_of_patterns ps) r (atom z) _ g is (before-trans _ k F (each_front ps (where_of m) r 0 d (length F) k) b) (λ yes _. cc) (λ no. after g) (λ yes _. cc)
    pattern_ends (in_list ps) (pid z) m r d k g l holds is b after = shape_ends kind_list (number_of_patterns ps) r (pid z) _ g is (before-trans _ k F (each_front ps (where_of m) r 0 d (length F) k) b) (λ yes _. cc) (λ no. after g) (λ yes _. cc)

    -- the parts of u from the i-th on
    pub each_ends : (ps : Patterns) (ts : Trees) (u : Tree) (i : ℕ) (m : Known) (r d : ℕ) (k : List Instruction) (g : Registers) → r < d → Holds g d m → g r ≡ Some u → past i (parts u) ≡ ts → count ts ≡ number_of_patterns ps → Before k F → AfterPattern k (variables_after_each ps (where_of m) d) g d (d + registers_taken_each ps) (bind_each ps ts (terms_of m)) → Ends c o (each_pattern_code ps (where_of m) r i d (length F) k) g e
    each_ends no_patterns none u i m r d k g l holds is at n b after = let z : d ≡ d + 0 = omega arith in after g m (agree-self d g) (subst (λ w. Holds g w m) z holds) refl refl
    each_ends no_patterns (more t ts) u i m r d k g l holds is at n b after = absurd (omega (arith, n))
    each_ends (and_pattern p ps) none u i m r d k g l holds is at n b after = absurd (omega (arith, n))
    each_ends (and_pattern p ps) (more t ts) u i m r d k g l holds is at n b after =
        let h : Registers = with_register d t g in
        let a : Agree d g h = agree-with d d t g (omega arith) in
        let d1 : ℕ = suc d + registers_taken p in
        let env1 : VariableRegisters = variables_after p (where_of m) d (suc d) in
        some_ends d r i u t _ g is (nth_cons i (parts u) t ts at)
        (pattern_ends p t m d (suc d) _ h (omega arith) (holds-on g h d (suc d) m (omega arith) a holds) (with-same d t g) (before-trans _ k F (each_front ps env1 r (suc i) d1 (length F) k) b)
        (rest_ends p ps ts u i m r d k g h (bind_on p t (terms_of m)) (λ m1 d2 j l1 h1 is1 after1. each_ends ps ts u (suc i) m1 r d2 k j l1 h1 is1 (past_cons i (parts u) t ts at) (omega (arith, n)) b after1) l a is after))
