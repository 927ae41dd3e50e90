-- Why no fun has a clause, and clauses that are none.
use Rattle.std.proofs.Common.{◌≡◌, ◌≢◌, ◌∙◌, ℕ, ◌+◌, ◌<◌, List, [], ◌∷◌, ◌++◌, codes, length, get_or, drop, Option, Some, None, Result, Ok, Err, refl, sym, ap, subst, arith}
use Rattle.std.specs.Option.{option_or}
use Rattle.def_term.specs.Tree.{Tree, int, atom, pid, tuple, list, Trees, none, more}
use Rattle.def_spec.specs.Expressions.{Dialect, Position, in_condition, in_body}
use Rattle.def_fun.specs.FunTexts.{OrReason, NoFunReason, no_such_call, empty_body, ClausePart, the_head, the_body, the_condition, the_expression, NoFun, then_clause, reason_at, head_of_term, expr_of_term, expr_text, when_text, joined_with, parts_printed, body_printed, clause_of_parts_printed, clause_printed, clauses_printed, fun_text, fun_printed}
use Rattle.tn_term.specs.declared.term.Term.{Term}
use Rattle.tn_term.specs.Views.{tree_of, trees_of}
use Rattle.tn_spec.specs.Answers.{list_elements}
use Rattle.tn_fun_text.specs.declared.clause_check.FunTextFault.{FunTextFault}
use Rattle.tn_fun_text.specs.declared.clause_check.FunTextFault.TheVariants as faults
use Rattle.tn_fun_text.specs.Patterns.{greatest_in}
use Rattle.tn_fun_text.specs.Reasons.{no_fun_reason, no_fun_reason_seen, clause_part_seen}
use Rattle.tn_fun_text.specs.Clauses.{no_fun_in, SaysNoFun, fault_in_part}
use Rattle.tn_fun_text.specs.declared.no_fun.ClausePart.{ClausePart as CodePart}
use Rattle.tn_fun_text.specs.declared.no_fun.ClausePart.TheVariants as parts
use Rattle.tn_fun_text.specs.declared.reason.Reason.{Reason}
use Rattle.tn_fun_text.specs.Texts.{parts_text, fun_clause_text}
use Rattle.tn_fun_text.proofs.Heads.{list_is}
use Rattle.tn_fun_text.proofs.Loops.{of_next}
use Rattle.tn_fun_text.proofs.Places.{three_are}

-- ---- what is said of a result

pub says_fun_first : {A : Type 0} (U V : Type 0) (o p : Option NoFun) (e : FunTextFault A) → SaysNoFun {A = A} {U = U} o (Err e) → SaysNoFun {A = A} {U = V} (option_or o p) (Err e)
says_fun_first U V o p (faults.NoFun n) said = ap (λ q. option_or q p) said
says_fun_first U V o p faults.OutOfMemory said = tt

pub says_fun_second : {A U : Type 0} (o p : Option NoFun) (result : Result U (FunTextFault A)) → o ≡ None → SaysNoFun p result → SaysNoFun (option_or o p) result
says_fun_second o p result without said = subst (λ q. SaysNoFun (option_or q p) result) (sym without) said

-- ---- parts

pub part_none : {X : Type 0} (n : ℕ) (p : ClausePart) (r : OrReason X) → no_fun_reason r ≡ None → no_fun_in (reason_at n p r) ≡ None
part_none n p (Ok x) e = refl
part_none n p (Err r) e = absurd (cc)

pub part_some : {X : Type 0} (n : ℕ) (p : ClausePart) (r : OrReason X) (s : NoFunReason) → no_fun_reason r ≡ Some s → no_fun_in (reason_at n p r) ≡ Some (record { clause = n; part = p; reason = s })
part_some n p (Ok x) s e = absurd (cc)
part_some n p (Err r) s e = let same : r ≡ s = cc in ap (λ q. Some (record { clause = n; part = p; reason = q })) same

-- the fault of a part that was looked at
pub part_says : {A X : Type 0} (U : Type 0) (n : ℕ) (q : CodePart) (p : ClausePart) (r : OrReason X) (e : Reason A) (fault : FunTextFault A) → fault ≡ fault_in_part n q e → clause_part_seen q ≡ p → no_fun_reason r ≡ Some (no_fun_reason_seen e)
    → SaysNoFun {A = A} {U = U} (no_fun_in (reason_at n p r)) (Err fault)
part_says {A} {X} U n q p r e fault is seen said =
    subst (λ f. SaysNoFun {A = A} {U = U} (no_fun_in (reason_at n p r)) (Err f)) (sym is)
    (part_some n p r (no_fun_reason_seen e) said ∙ ap (λ s. Some (record { clause = n; part = s; reason = no_fun_reason_seen e })) (sym seen))

pub head_none : {X : Type 0} (n : ℕ) (r : OrReason (X × ℕ)) (g : ℕ) → greatest_in r ≡ Ok g → no_fun_in (reason_at n the_head r) ≡ None
head_none n (Ok x) g e = refl
head_none n (Err r) g e = absurd (cc)

pub head_some : {X : Type 0} (n : ℕ) (r : OrReason (X × ℕ)) (s : NoFunReason) → greatest_in r ≡ Err s → no_fun_in (reason_at n the_head r) ≡ Some (record { clause = n; part = the_head; reason = s })
head_some n (Ok x) s e = absurd (cc)
head_some n (Err r) s e = let same : r ≡ s = cc in ap (λ q. Some (record { clause = n; part = the_head; reason = q })) same

both_parts : {X Y Z : Type 0} (r : Result X NoFun) (q : Result Y NoFun) (f : X → Y → Z) → no_fun_in (then_clause r (λ x. then_clause q (λ y. Ok (f x y)))) ≡ option_or (no_fun_in r) (no_fun_in q)
both_parts (Ok x) (Ok y) f = refl
both_parts (Ok x) (Err s) f = refl
both_parts (Err s) q f = refl

three_parts : {X Y Z W : Type 0} (r : Result X NoFun) (q : Result Y NoFun) (p : Result Z NoFun) (f : X → Y → Z → W)
    → no_fun_in (then_clause r (λ x. then_clause q (λ y. then_clause p (λ z. Ok (f x y z))))) ≡ option_or (no_fun_in r) (option_or (no_fun_in q) (no_fun_in p))
three_parts (Ok x) q p f = both_parts q p (f x)
three_parts (Err s) q p f = refl

whole_part : {X Y : Type 0} (r : Result X NoFun) (f : X → Y) → no_fun_in (then_clause r (λ x. Ok (f x))) ≡ no_fun_in r
whole_part (Ok x) f = refl
whole_part (Err s) f = refl

module _ (d : Dialect) where
  pub each_part : (part : Position) (n : ℕ) (p : ℕ → ClausePart) (k : ℕ) (t : Tree) (ts : Trees)
      → no_fun_in (parts_printed d part n p k (more t ts)) ≡ option_or (no_fun_in (reason_at n (p k) (expr_of_term d part t))) (no_fun_in (parts_printed d part n p (k + 1) ts))
  each_part part n p k t ts = both_parts (reason_at n (p k) (expr_of_term d part t)) (parts_printed d part n p (k + 1) ts) (λ x xs. expr_text x ∷ xs)

  pub part_fails : {A : Type 0} (U V : Type 0) (part : Position) (n : ℕ) (p : ℕ → ClausePart) (k : ℕ) (xs : List (Term A)) (i : ℕ) (x : Term A) (e : FunTextFault A) (whole : Option NoFun) → i < length xs → x ≡ get_or xs i x
      → SaysNoFun {A = A} {U = U} (no_fun_in (reason_at n (p k) (expr_of_term d part (tree_of x)))) (Err e) → no_fun_in (parts_printed d part n p k (trees_of (drop i xs))) ≡ whole → SaysNoFun {A = A} {U = V} whole (Err e)
  part_fails {A} U V part n p k xs i x e whole below is said so_far =
      subst (λ o. SaysNoFun {A = A} {U = V} o (Err e))
      (sym (of_next option_or (λ ts. no_fun_in (parts_printed d part n p k ts)) (λ ts. no_fun_in (parts_printed d part n p (k + 1) ts)) (λ t. no_fun_in (reason_at n (p k) (expr_of_term d part t))) (each_part part n p k) xs i x below is) ∙ so_far)
      (says_fun_first {A = A} U V _ (no_fun_in (parts_printed d part n p (k + 1) (trees_of (drop (i + 1) xs)))) e said)

  pub each_clause : (n : ℕ) (t : Tree) (ts : Trees) → no_fun_in (clauses_printed d n (more t ts)) ≡ option_or (no_fun_in (clause_printed d n t)) (no_fun_in (clauses_printed d (n + 1) ts))
  each_clause n t ts = both_parts (clause_printed d n t) (clauses_printed d (n + 1) ts) (λ x xs. x ∷ xs)

  pub clause_fails : {A : Type 0} (U V : Type 0) (n : ℕ) (xs : List (Term A)) (i : ℕ) (x : Term A) (e : FunTextFault A) (whole : Option NoFun) → i < length xs → x ≡ get_or xs i x
      → SaysNoFun {A = A} {U = U} (no_fun_in (clause_printed d n (tree_of x))) (Err e) → no_fun_in (clauses_printed d n (trees_of (drop i xs))) ≡ whole → SaysNoFun {A = A} {U = V} whole (Err e)
  clause_fails {A} U V n xs i x e whole below is said so_far =
      subst (λ o. SaysNoFun {A = A} {U = V} o (Err e))
      (sym (of_next option_or (λ ts. no_fun_in (clauses_printed d n ts)) (λ ts. no_fun_in (clauses_printed d (n + 1) ts)) (λ t. no_fun_in (clause_printed d n t)) (each_clause n) xs i x below is) ∙ so_far)
      (says_fun_first {A = A} U V _ (no_fun_in (clauses_printed d (n + 1) (trees_of (drop (i + 1) xs)))) e said)

  pub clause_parts : (n : ℕ) (h : Tree) (cs bs : Trees)
      → no_fun_in (clause_of_parts_printed d n h cs bs) ≡ option_or (no_fun_in (reason_at n the_head (head_of_term h))) (option_or (no_fun_in (parts_printed d in_condition n the_condition 1 cs)) (no_fun_in (body_printed d n bs)))
  clause_parts n h cs bs =
      three_parts (reason_at n the_head (head_of_term h)) (parts_printed d in_condition n the_condition 1 cs) (body_printed d n bs)
      (λ p gs es. codes "(" ++ expr_text p.0 ++ codes ")" ++ when_text gs ++ codes " -> " ++ joined_with (codes ", ") es)

  -- where the head and the conditions have no fault, that of the body is
  pub three_says : {A U : Type 0} (n : ℕ) (h : Tree) (cs bs : Trees) (g : ℕ) (result : Result U (FunTextFault A)) → greatest_in (head_of_term h) ≡ Ok g → no_fun_in (parts_printed d in_condition n the_condition 1 cs) ≡ None
      → SaysNoFun (no_fun_in (body_printed d n bs)) result → SaysNoFun (no_fun_in (clause_of_parts_printed d n h cs bs)) result
  three_says n h cs bs g result head conditions said =
      let after = says_fun_second (no_fun_in (parts_printed d in_condition n the_condition 1 cs)) (no_fun_in (body_printed d n bs)) result conditions said in
      subst (λ o. SaysNoFun o result) (sym (clause_parts n h cs bs))
      (says_fun_second (no_fun_in (reason_at n the_head (head_of_term h))) (option_or (no_fun_in (parts_printed d in_condition n the_condition 1 cs)) (no_fun_in (body_printed d n bs))) result (head_none n (head_of_term h) g head) after)

  some_body : (n : ℕ) (t : Tree) (ts : Trees) → body_printed d n (more t ts) ≡ parts_printed d in_body n the_expression 1 (more t ts)
  some_body n t ts = refl

  pub body_of : {A : Type 0} (n : ℕ) (xs : List (Term A)) → length xs ≢ 0 → body_printed d n (trees_of xs) ≡ parts_printed d in_body n the_expression 1 (trees_of xs)
  body_of n [] some = absurd (some refl)
  body_of n (x ∷ xs) some = some_body n (tree_of x) (trees_of xs)

  pub empty_body_has : {A : Type 0} (n : ℕ) (xs : List (Term A)) → length xs ≡ 0 → no_fun_in (body_printed d n (trees_of xs)) ≡ Some (record { clause = n; part = the_body; reason = empty_body })
  empty_body_has n [] empty = refl
  empty_body_has n (x ∷ xs) empty = absurd (omega (arith, empty))

  -- ---- tuples that are no clauses

  abbrev pub no_clause : ℕ → Result (List ℕ) NoFun
  no_clause n = Err (record { clause = n; part = the_head; reason = no_such_call [] 0 })

  two_are_none : (n : ℕ) (h t : Tree) → clause_printed d n (tuple (more h (more t none))) ≡ no_clause n
  two_are_none n h (int z) = refl
  two_are_none n h (atom s) = refl
  two_are_none n h (pid p) = refl
  two_are_none n h (tuple ts) = refl
  two_are_none n h (list ts) = refl

  four_with_list : (n : ℕ) (h u v : Tree) (cs ts : Trees) → clause_printed d n (tuple (more h (more (list cs) (more u (more v ts))))) ≡ no_clause n
  four_with_list n h (int z) v cs ts = refl
  four_with_list n h (atom s) v cs ts = refl
  four_with_list n h (pid p) v cs ts = refl
  four_with_list n h (tuple us) v cs ts = refl
  four_with_list n h (list us) v cs ts = refl

  four_are_none : (n : ℕ) (h t u v : Tree) (ts : Trees) → clause_printed d n (tuple (more h (more t (more u (more v ts))))) ≡ no_clause n
  four_are_none n h (int z) u v ts = refl
  four_are_none n h (atom s) u v ts = refl
  four_are_none n h (pid p) u v ts = refl
  four_are_none n h (tuple us) u v ts = refl
  four_are_none n h (list cs) u v ts = four_with_list n h u v cs ts

  pub not_three : {A : Type 0} (n : ℕ) (xs : List (Term A)) → length xs ≢ 3 → clause_printed d n (tuple (trees_of xs)) ≡ no_clause n
  not_three n [] other = refl
  not_three n (x ∷ []) other = refl
  not_three n (x ∷ y ∷ []) other = two_are_none n (tree_of x) (tree_of y)
  not_three n (x ∷ y ∷ z ∷ []) other = absurd (other refl)
  not_three n (x ∷ y ∷ z ∷ w ∷ ws) other = four_are_none n (tree_of x) (tree_of y) (tree_of z) (tree_of w) (trees_of ws)

  conditions_none : (n : ℕ) (h t u : Tree) → None ≡ list_elements t → clause_printed d n (tuple (more h (more t (more u none)))) ≡ no_clause n
  conditions_none n h (int z) u e = refl
  conditions_none n h (atom s) u e = refl
  conditions_none n h (pid p) u e = refl
  conditions_none n h (tuple ts) u e = refl
  conditions_none n h (list cs) u e = absurd (cc)

  body_none_after : (n : ℕ) (h u : Tree) (cs : Trees) → None ≡ list_elements u → clause_printed d n (tuple (more h (more (list cs) (more u none)))) ≡ no_clause n
  body_none_after n h (int z) cs e = refl
  body_none_after n h (atom s) cs e = refl
  body_none_after n h (pid p) cs e = refl
  body_none_after n h (tuple ts) cs e = refl
  body_none_after n h (list bs) cs e = absurd (cc)

  body_none : (n : ℕ) (h t u : Tree) → None ≡ list_elements u → clause_printed d n (tuple (more h (more t (more u none)))) ≡ no_clause n
  body_none n h (int z) u e = refl
  body_none n h (atom s) u e = refl
  body_none n h (pid p) u e = refl
  body_none n h (tuple ts) u e = refl
  body_none n h (list cs) u e = body_none_after n h u cs e

  pub no_conditions : {A : Type 0} (n : ℕ) (xs : List (Term A)) (y : Term A) → length xs ≡ 3 → y ≡ get_or xs 1 y → None ≡ list_elements (tree_of y) → clause_printed d n (tuple (trees_of xs)) ≡ no_clause n
  no_conditions n [] y three second other = absurd (omega (arith, three))
  no_conditions n (a ∷ []) y three second other = absurd (omega (arith, three))
  no_conditions n (a ∷ b ∷ []) y three second other = absurd (omega (arith, three))
  no_conditions n (a ∷ b ∷ e ∷ []) y three second other = conditions_none n (tree_of a) (tree_of b) (tree_of e) (other ∙ ap (λ t. list_elements (tree_of t)) second)
  no_conditions n (a ∷ b ∷ e ∷ f ∷ fs) y three second other = absurd (omega (arith, three))

  pub no_body : {A : Type 0} (n : ℕ) (xs : List (Term A)) (z : Term A) → length xs ≡ 3 → z ≡ get_or xs 2 z → None ≡ list_elements (tree_of z) → clause_printed d n (tuple (trees_of xs)) ≡ no_clause n
  no_body n [] z three third other = absurd (omega (arith, three))
  no_body n (a ∷ []) z three third other = absurd (omega (arith, three))
  no_body n (a ∷ b ∷ []) z three third other = absurd (omega (arith, three))
  no_body n (a ∷ b ∷ e ∷ []) z three third other = body_none n (tree_of a) (tree_of b) (tree_of e) (other ∙ ap (λ t. list_elements (tree_of t)) third)
  no_body n (a ∷ b ∷ e ∷ f ∷ fs) z three third other = absurd (omega (arith, three))

  -- ---- clauses

  -- the three fields
  fields_are : {A : Type 0} (xs : List (Term A)) (x y z : Term A) (cs bs : Trees) → length xs ≡ 3 → x ≡ get_or xs 0 x → y ≡ get_or xs 1 y → z ≡ get_or xs 2 z → Some cs ≡ list_elements (tree_of y) → Some bs ≡ list_elements (tree_of z)
      → trees_of xs ≡ more (tree_of x) (more (list cs) (more (list bs) none))
  fields_are xs x y z cs bs three is js ks first second = three_are xs x y z (list cs) (list bs) three is js ks (list_is (tree_of y) cs first) (list_is (tree_of z) bs second)

  pub three_printed : {A : Type 0} (n : ℕ) (xs : List (Term A)) (x y z : Term A) (cs bs : Trees) → length xs ≡ 3 → x ≡ get_or xs 0 x → y ≡ get_or xs 1 y → z ≡ get_or xs 2 z → Some cs ≡ list_elements (tree_of y) → Some bs ≡ list_elements (tree_of z)
      → clause_of_parts_printed d n (tree_of x) cs bs ≡ clause_printed d n (tuple (trees_of xs))
  three_printed n xs x y z cs bs three is js ks first second = sym (ap (λ ts. clause_printed d n (tuple ts)) (fields_are xs x y z cs bs three is js ks first second))

  pub three_text : {A : Type 0} (xs : List (Term A)) (x y z : Term A) (cs bs : Trees) → length xs ≡ 3 → x ≡ get_or xs 0 x → y ≡ get_or xs 1 y → z ≡ get_or xs 2 z → Some cs ≡ list_elements (tree_of y) → Some bs ≡ list_elements (tree_of z)
      → parts_text d (tree_of x) cs bs ≡ fun_clause_text d (tuple (trees_of xs))
  three_text xs x y z cs bs three is js ks first second = sym (ap (λ ts. fun_clause_text d (tuple ts)) (fields_are xs x y z cs bs three is js ks first second))

  -- one that is no clause has no text
  empty_two : (h t : Tree) → fun_clause_text d (tuple (more h (more t none))) ≡ []
  empty_two h (int z) = refl
  empty_two h (atom s) = refl
  empty_two h (pid p) = refl
  empty_two h (tuple ts) = refl
  empty_two h (list ts) = refl

  empty_four_after : (h u v : Tree) (cs ts : Trees) → fun_clause_text d (tuple (more h (more (list cs) (more u (more v ts))))) ≡ []
  empty_four_after h (int z) v cs ts = refl
  empty_four_after h (atom s) v cs ts = refl
  empty_four_after h (pid p) v cs ts = refl
  empty_four_after h (tuple us) v cs ts = refl
  empty_four_after h (list us) v cs ts = refl

  empty_four : (h t u v : Tree) (ts : Trees) → fun_clause_text d (tuple (more h (more t (more u (more v ts))))) ≡ []
  empty_four h (int z) u v ts = refl
  empty_four h (atom s) u v ts = refl
  empty_four h (pid p) u v ts = refl
  empty_four h (tuple us) u v ts = refl
  empty_four h (list cs) u v ts = empty_four_after h u v cs ts

  pub no_three_text : {A : Type 0} (xs : List (Term A)) → length xs ≢ 3 → fun_clause_text d (tuple (trees_of xs)) ≡ []
  no_three_text [] other = refl
  no_three_text (x ∷ []) other = refl
  no_three_text (x ∷ y ∷ []) other = empty_two (tree_of x) (tree_of y)
  no_three_text (x ∷ y ∷ z ∷ []) other = absurd (other refl)
  no_three_text (x ∷ y ∷ z ∷ w ∷ ws) other = empty_four (tree_of x) (tree_of y) (tree_of z) (tree_of w) (trees_of ws)

  empty_conditions : (h t u : Tree) → None ≡ list_elements t → fun_clause_text d (tuple (more h (more t (more u none)))) ≡ []
  empty_conditions h (int z) u e = refl
  empty_conditions h (atom s) u e = refl
  empty_conditions h (pid p) u e = refl
  empty_conditions h (tuple ts) u e = refl
  empty_conditions h (list cs) u e = absurd (cc)

  empty_after : (h u : Tree) (cs : Trees) → None ≡ list_elements u → fun_clause_text d (tuple (more h (more (list cs) (more u none)))) ≡ []
  empty_after h (int z) cs e = refl
  empty_after h (atom s) cs e = refl
  empty_after h (pid p) cs e = refl
  empty_after h (tuple ts) cs e = refl
  empty_after h (list bs) cs e = absurd (cc)

  empty_bodies : (h t u : Tree) → None ≡ list_elements u → fun_clause_text d (tuple (more h (more t (more u none)))) ≡ []
  empty_bodies h (int z) u e = refl
  empty_bodies h (atom s) u e = refl
  empty_bodies h (pid p) u e = refl
  empty_bodies h (tuple ts) u e = refl
  empty_bodies h (list cs) u e = empty_after h u cs e

  pub no_conditions_text : {A : Type 0} (xs : List (Term A)) (y : Term A) → length xs ≡ 3 → y ≡ get_or xs 1 y → None ≡ list_elements (tree_of y) → fun_clause_text d (tuple (trees_of xs)) ≡ []
  no_conditions_text [] y three second other = absurd (omega (arith, three))
  no_conditions_text (a ∷ []) y three second other = absurd (omega (arith, three))
  no_conditions_text (a ∷ b ∷ []) y three second other = absurd (omega (arith, three))
  no_conditions_text (a ∷ b ∷ e ∷ []) y three second other = empty_conditions (tree_of a) (tree_of b) (tree_of e) (other ∙ ap (λ t. list_elements (tree_of t)) second)
  no_conditions_text (a ∷ b ∷ e ∷ f ∷ fs) y three second other = absurd (omega (arith, three))

  pub no_body_text : {A : Type 0} (xs : List (Term A)) (z : Term A) → length xs ≡ 3 → z ≡ get_or xs 2 z → None ≡ list_elements (tree_of z) → fun_clause_text d (tuple (trees_of xs)) ≡ []
  no_body_text [] z three third other = absurd (omega (arith, three))
  no_body_text (a ∷ []) z three third other = absurd (omega (arith, three))
  no_body_text (a ∷ b ∷ []) z three third other = absurd (omega (arith, three))
  no_body_text (a ∷ b ∷ e ∷ []) z three third other = empty_bodies (tree_of a) (tree_of b) (tree_of e) (other ∙ ap (λ t. list_elements (tree_of t)) third)
  no_body_text (a ∷ b ∷ e ∷ f ∷ fs) z three third other = absurd (omega (arith, three))

  -- ---- specifications

  pub list_printed : (t : Tree) (ts : Trees) → Some ts ≡ list_elements t → no_fun_in (fun_printed d t) ≡ no_fun_in (clauses_printed d 1 ts)
  list_printed t ts e = ap (λ u. no_fun_in (fun_printed d u)) (list_is t ts e) ∙ whole_part (clauses_printed d 1 ts) fun_text

  pub no_list_printed : (t : Tree) → None ≡ list_elements t → no_fun_in (fun_printed d t) ≡ Some (record { clause = 1; part = the_head; reason = no_such_call [] 0 })
  no_list_printed (int z) e = refl
  no_list_printed (atom s) e = refl
  no_list_printed (pid p) e = refl
  no_list_printed (tuple ts) e = refl
  no_list_printed (list ts) e = absurd (cc)

-- what is printed
pub printed_text : (r : Result (List ℕ) NoFun) → no_fun_in r ≡ None → (u : List ℕ) × (r ≡ Ok u)
printed_text (Ok u) e = (u, refl)
printed_text (Err n) e = absurd (cc)

pub not_printed : (r : Result (List ℕ) NoFun) (n : NoFun) → no_fun_in r ≡ Some n → r ≡ Err n
not_printed (Ok u) n e = absurd (cc)
not_printed (Err m) n e = let same : m ≡ n = cc in ap Err same

-- the fault of a clause that is none
pub in_clause_head : {A : Type 0} (U : Type 0) (fault : FunTextFault A) (r : Result (List ℕ) NoFun) (n : ℕ) (q : Reason A) → fault ≡ fault_in_part n parts.Head q → no_fun_reason_seen q ≡ no_such_call [] 0
    → r ≡ Err (record { clause = n; part = the_head; reason = no_such_call [] 0 }) → SaysNoFun {A = A} {U = U} (no_fun_in r) (Err fault)
in_clause_head {A} U fault r n q is seen none_of =
    subst (λ f. SaysNoFun {A = A} {U = U} (no_fun_in r) (Err f)) (sym is) (ap no_fun_in none_of ∙ ap (λ x. Some (record { clause = n; part = the_head; reason = x })) (sym seen))
