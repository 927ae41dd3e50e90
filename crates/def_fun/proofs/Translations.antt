-- Translations: how many clauses there are, what they share, and that a dialect with more actions changes nothing.
use Rattle.std.proofs.Common.{◌≡◌, ℕ, ◌+◌, max, nat_le, List, [], ◌∷◌, ◌++◌, length, Bool, true, false, ◌&&◌, ◌||◌, cond, Option, Some, None, Result, Ok, Err, refl, ap, sym, ◌∙◌, subst, arith, length-append, ◌⊎◌, inl, inr}
use Rattle.std.proofs.lemmas.Bool.{and_parts, and_from, or_cases}
use Rattle.std.specs.Str.{bytes_eq}
use Rattle.def_term.specs.Tree.{Tree, Trees, list, of_elements, count, triple, depth}
use Rattle.def_term.specs.Names.{Name}
use Rattle.def_term.specs.Text.{is_among, w}
use Rattle.def_text.specs.Spelling.{LENGTH}
use Rattle.def_text.proofs.Complete.{count_of}
use Rattle.def_spec.specs.Expressions.{Dialect, for_calls, for_sends, for_receives, Action, message, return_trace, exception_trace, silent, enable_trace, disable_trace, trace, caller, Position, in_condition, in_body}
use Rattle.def_spec.specs.Reading.{has_action, unsupported_names}
use Rattle.def_fun.specs.Trees as tree
use Rattle.def_fun.specs.Trees.{FunExpr, FunExprs, FunClause, each_expr, first_byte}
use Rattle.def_fun.specs.Limits.{clause_count, spec_clauses}
use Rattle.def_fun.specs.Refusals.{FunRefusal, too_deep_at, too_large_at, unsupported, no_function, list_with_tail, OrRefusal, then_fun}
use Rattle.def_fun.specs.Variables.{ClauseNames, names_of, variable_kind}
use Rattle.def_fun.specs.Calls.{FunFunction, fun_functions, FunAction, fun_actions, is_function_of, is_action_of, may_call, is_object, is_bindings, FunCall, the_object, the_bindings, a_call, named_fun_call}
use Rattle.def_fun.specs.Translation.{is_proper_tail, onto_tail, TranslatedExpr, all_terms, all_constants, constants_onto, expr_translated, exprs_translated, within_depth, PART_DEPTH, part_term, part_terms, head_term, list_term, alternative_term, alternatives_of, within_length, with_alternatives, with_fun_clauses, tree_of_fun}

-- what goes on with a value
pub then_ok : {X Y : Type 0} (r : OrRefusal X) (f : X → OrRefusal Y) (y : Y) → then_fun r f ≡ Ok y → (x : X) × (r ≡ Ok x) × (f x ≡ Ok y)
then_ok (Ok x) f y h = (x, refl, h)
then_ok (Err e) f y h = absurd (cc)

pub then_is : {X Y : Type 0} (r : OrRefusal X) (f : X → OrRefusal Y) (x : X) → r ≡ Ok x → then_fun r f ≡ f x
then_is r f x h = ap (λ z. then_fun z f) h

same_list : (ts us : List Tree) → ◌≡◌ {A = OrRefusal (List Tree)} (Ok ts) (Ok us) → ts ≡ us
same_list ts us h = cc

-- ---- how many clauses

length_by : (b : Bool) (at : ℕ) (ts us : List Tree) → ◌≡◌ {A = OrRefusal (List Tree)} (cond b (Ok ts) (Err (too_large_at at))) (Ok us) → ts ≡ us
length_by true at ts us h = same_list ts us h
length_by false at ts us h = absurd (cc)

alternatives_count : (d : Dialect) (k : FunClause) (ts us : List Tree) (gs : List (List FunExpr)) → with_alternatives d k ts gs ≡ Ok us → length us ≡ length ts + length gs
alternatives_count d k ts us [] h = let e = ap length (same_list ts us h) in omega (arith, e)
alternatives_count d k ts us (g ∷ gs) h =
    let a = then_ok (alternative_term d k g) (λ t. then_fun (within_length k.at (ts ++ t ∷ [])) (λ vs. with_alternatives d k vs gs)) us h in
    let b = then_ok (within_length k.at (ts ++ a.0 ∷ [])) (λ vs. with_alternatives d k vs gs) us a.2 in
    let same = length_by (nat_le (length (w (list_term (ts ++ a.0 ∷ [])))) LENGTH) k.at (ts ++ a.0 ∷ []) b.0 b.1 in
    let size = ap length same in
    let later = alternatives_count d k b.0 us gs b.2 in
    omega (arith, size, later, length-append ts (a.0 ∷ []))

alternatives_are : (gs : List (List FunExpr)) → length (alternatives_of gs) ≡ max 1 (length gs)
alternatives_are [] = refl
alternatives_are (g ∷ gs) = omega arith

clauses_count : (d : Dialect) (ts us : List Tree) (ks : List FunClause) → with_fun_clauses d ts ks ≡ Ok us → length us ≡ length ts + spec_clauses ks
clauses_count d ts us [] h = let e = ap length (same_list ts us h) in omega (arith, e)
clauses_count d ts us (k ∷ ks) h =
    let a = then_ok (with_alternatives d k ts (alternatives_of k.guards)) (λ vs. with_fun_clauses d vs ks) us h in
    let here = alternatives_count d k ts a.0 (alternatives_of k.guards) a.1 in
    let later = clauses_count d a.0 us ks a.2 in
    omega (arith, here, later, alternatives_are k.guards)

same_tree : (t u : Tree) → ◌≡◌ {A = OrRefusal Tree} (Ok t) (Ok u) → t ≡ u
same_tree t u h = cc

pub clauses_counted : (d : Dialect) (ks : List FunClause) (t : Tree) → tree_of_fun d ks ≡ Ok t → (ts : Trees) × (t ≡ list ts) × (count ts ≡ spec_clauses ks)
clauses_counted d ks t h =
    let a = then_ok (with_fun_clauses d [] ks) (λ ts. Ok (list_term ts)) t h in
    let n = clauses_count d [] a.0 ks a.1 in
    (of_elements a.0, sym (same_tree (list_term a.0) t a.2), omega (arith, n, count_of a.0))

-- ---- what alternatives share

-- a clause of the specification, with its parts
record Parts (d : Dialect) (k : FunClause) (g : List FunExpr) (t : Tree) : Type 0 where
  pub head : Tree
  pub conditions : List Tree
  pub body : List Tree
  pub head_is : head_term k.head ≡ Ok head
  pub body_is : part_terms d in_body (names_of k.head) k.body ≡ Ok body
  pub is : t ≡ triple head (list_term conditions) (list_term body)

parts_of : (d : Dialect) (k : FunClause) (g : List FunExpr) (t : Tree) → alternative_term d k g ≡ Ok t → Parts d k g t
parts_of d k g t h =
    let ns = names_of k.head in
    let a = then_ok (head_term k.head) (λ x. then_fun (part_terms d in_condition ns g) (λ cs. then_fun (part_terms d in_body ns k.body) (λ bs. Ok (triple x (list_term cs) (list_term bs))))) t h in
    let b = then_ok (part_terms d in_condition ns g) (λ cs. then_fun (part_terms d in_body ns k.body) (λ bs. Ok (triple a.0 (list_term cs) (list_term bs)))) t a.2 in
    let c = then_ok (part_terms d in_body ns k.body) (λ bs. Ok (triple a.0 (list_term b.0) (list_term bs))) t b.2 in
    record { head = a.0; conditions = b.0; body = c.0; head_is = a.1; body_is = c.1; is = sym (same_tree (triple a.0 (list_term b.0) (list_term c.0)) t c.2) }

pub shared : (d : Dialect) (k : FunClause) (g f : List FunExpr) (t u : Tree) → alternative_term d k g ≡ Ok t → alternative_term d k f ≡ Ok u → (h : Tree) × (cs : Tree) × (ds : Tree) × (b : Tree) × (t ≡ triple h cs b) × (u ≡ triple h ds b)
shared d k g f t u p q =
    let a = parts_of d k g t p in
    let c = parts_of d k f u q in
    let heads : a.head ≡ c.head = same_tree a.head c.head (sym a.head_is ∙ c.head_is) in
    let bodies : a.body ≡ c.body = same_list a.body c.body (sym a.body_is ∙ c.body_is) in
    (a.head, list_term a.conditions, list_term c.conditions, list_term a.body, a.is, c.is ∙ ap (λ x. triple x (list_term c.conditions) (list_term c.body)) (sym heads) ∙ ap (λ x. triple a.head (list_term c.conditions) (list_term x)) (sym bodies))

-- ---- dialects

-- the second dialect has each action of the first
abbrev pub HasMore : Dialect → Dialect → Type 0
HasMore d e = (a : Action) → has_action d a ≡ true → has_action e a ≡ true

or_left : (a b : Bool) → a ≡ true → (a || b) ≡ true
or_left true b h = refl
or_left false b h = absurd (cc)

or_right : (a b : Bool) → b ≡ true → (a || b) ≡ true
or_right true b h = refl
or_right false b h = h

cond_ok : {X : Type 0} (b : Bool) (r : OrRefusal X) (e : FunRefusal) (x : X) → cond b r (Err e) ≡ Ok x → (b ≡ true) × (r ≡ Ok x)
cond_ok true r e x h = (refl, h)
cond_ok false r e x h = absurd (cc)

cond_goes : {X : Type 0} (b : Bool) (r : OrRefusal X) (e : FunRefusal) (x : X) → b ≡ true → r ≡ Ok x → cond b r (Err e) ≡ Ok x
cond_goes true r e x b h = h
cond_goes false r e x b h = absurd (cc)

module _ (d e : Dialect) (more : HasMore d e) where
  actions_more : (fs : List FunAction) (s : Name) (n : ℕ) → is_action_of d fs s n ≡ true → is_action_of e fs s n ≡ true
  actions_more [] s n h = h
  actions_more (f ∷ fs) s n h =
      let p = bytes_eq f.name s && nat_le n f.arguments && nat_le f.arguments n in
      elim (or_cases (p && has_action d f.action) (is_action_of d fs s n) h) [
        | inl a ↦ (let b = and_parts p (has_action d f.action) a in or_left (p && has_action e f.action) (is_action_of e fs s n) (and_from p (has_action e f.action) b.0 (more f.action b.1)))
        | inr a ↦ or_right (p && has_action e f.action) (is_action_of e fs s n) (actions_more fs s n a)
      ]

  may_more : (part : Position) (s : Name) (n : ℕ) → may_call d part s n ≡ true → may_call e part s n ≡ true
  may_more in_condition s n h = h
  may_more in_body s n h =
      elim (or_cases (is_function_of fun_functions s n) (is_action_of d fun_actions s n) h) [
        | inl a ↦ or_left (is_function_of fun_functions s n) (is_action_of e fun_actions s n) a
        | inr a ↦ or_right (is_function_of fun_functions s n) (is_action_of e fun_actions s n) (actions_more fun_actions s n a)
      ]

  call_by : (part : Position) (s : Name) (n at : ℕ) (a b c : Bool) (k : FunCall) → cond a (Err (unsupported s at)) (cond b (Ok the_object) (cond c (Ok the_bindings) (cond (may_call d part s n) (Ok a_call) (Err (no_function s n at))))) ≡ Ok k
      → cond a (Err (unsupported s at)) (cond b (Ok the_object) (cond c (Ok the_bindings) (cond (may_call e part s n) (Ok a_call) (Err (no_function s n at))))) ≡ Ok k
  call_by part s n at true b c k h = h
  call_by part s n at false true c k h = h
  call_by part s n at false false true k h = h
  call_by part s n at false false false k h = let p = cond_ok (may_call d part s n) (Ok a_call) (no_function s n at) k h in cond_goes (may_call e part s n) (Ok a_call) (no_function s n at) k (may_more part s n p.0) p.1

  call_more : (part : Position) (s : Name) (n at : ℕ) (k : FunCall) → named_fun_call d part s n at ≡ Ok k → named_fun_call e part s n at ≡ Ok k
  call_more part s n at k h = call_by part s n at (is_among unsupported_names s) (is_object s && nat_le n 0) (is_bindings s && nat_le n 0) k h

  -- what goes on alike
  then_more : {X Y : Type 0} (r s : OrRefusal X) (f g : X → OrRefusal Y) (y : Y) → ((x : X) → r ≡ Ok x → s ≡ Ok x) → ((x : X) → f x ≡ Ok y → g x ≡ Ok y) → then_fun r f ≡ Ok y → then_fun s g ≡ Ok y
  then_more r s f g y first later h = let a = then_ok r f y h in then_is s g a.0 (first a.0 a.1) ∙ later a.0 a.2

  module _ (part : Position) (ns : ClauseNames) where
    mutual
      expr_more : (x : FunExpr) (y : TranslatedExpr) → expr_translated d part ns x ≡ Ok y → expr_translated e part ns x ≡ Ok y
      expr_more (tree.variable at s) y h = h
      expr_more (tree.whole at n) y h = h
      expr_more (tree.atom at s) y h = h
      expr_more (tree.strings at s ss) y h = h
      expr_more (tree.in_parens at x) y h = expr_more x y h
      expr_more (tree.call at s xs) y h = then_more _ _ _ _ y (λ c k. call_more part s (length (each_expr xs)) at c k) (λ c k. then_more _ _ _ _ y (λ ys l. exprs_more xs ys l) (λ ys l. l) k) h
      expr_more (tree.list at xs) y h = then_more _ _ _ _ y (λ ys l. exprs_more xs ys l) (λ ys l. l) h
      expr_more (tree.list_onto at xs x) y h =
          then_more _ _ _ _ y (λ ys l. exprs_more xs ys l) (λ ys k. let p = cond_ok (is_proper_tail x) _ (list_with_tail (first_byte x)) y k in cond_goes (is_proper_tail x) _ (list_with_tail (first_byte x)) y p.0 (then_more _ _ _ _ y (λ z l. expr_more x z l) (λ z l. l) p.1)) h
      expr_more (tree.tuple at xs) y h = then_more _ _ _ _ y (λ ys l. exprs_more xs ys l) (λ ys l. l) h
      expr_more (tree.before at o x) y h = then_more _ _ _ _ y (λ z l. expr_more x z l) (λ z l. l) h
      expr_more (tree.between at o l r) y h = then_more _ _ _ _ y (λ z k. expr_more l z k) (λ z k. then_more _ _ _ _ y (λ v j. expr_more r v j) (λ v j. j) k) h

      exprs_more : (xs : FunExprs) (ys : List TranslatedExpr) → exprs_translated d part ns xs ≡ Ok ys → exprs_translated e part ns xs ≡ Ok ys
      exprs_more tree.none ys h = h
      exprs_more (tree.more x xs) ys h = then_more _ _ _ _ ys (λ z k. expr_more x z k) (λ z k. then_more _ _ _ _ ys (λ zs j. exprs_more xs zs j) (λ zs j. j) k) h

    term_more : (x : FunExpr) (t : Tree) → part_term d part ns x ≡ Ok t → part_term e part ns x ≡ Ok t
    term_more x t h = then_more (expr_translated d part ns x) (expr_translated e part ns x) (λ y. within_depth PART_DEPTH (first_byte x) y.becomes) (λ y. within_depth PART_DEPTH (first_byte x) y.becomes) t (λ y j. expr_more x y j) (λ y j. j) h

    terms_more : (xs : List FunExpr) (ts : List Tree) → part_terms d part ns xs ≡ Ok ts → part_terms e part ns xs ≡ Ok ts
    terms_more [] ts h = h
    terms_more (x ∷ xs) ts h =
        then_more (part_term d part ns x) (part_term e part ns x) (λ t. then_fun (part_terms d part ns xs) (λ us. Ok (t ∷ us))) (λ t. then_fun (part_terms e part ns xs) (λ us. Ok (t ∷ us))) ts (λ t k. term_more x t k)
        (λ t k. then_more (part_terms d part ns xs) (part_terms e part ns xs) (λ us. Ok (t ∷ us)) (λ us. Ok (t ∷ us)) ts (λ us j. terms_more xs us j) (λ us j. j) k) h

  alternative_more : (k : FunClause) (g : List FunExpr) (t : Tree) → alternative_term d k g ≡ Ok t → alternative_term e k g ≡ Ok t
  alternative_more k g t h =
      let ns = names_of k.head in
      let a = then_ok (head_term k.head) (λ x. then_fun (part_terms d in_condition ns g) (λ cs. then_fun (part_terms d in_body ns k.body) (λ bs. Ok (triple x (list_term cs) (list_term bs))))) t h in
      let b = then_ok (part_terms d in_condition ns g) (λ cs. then_fun (part_terms d in_body ns k.body) (λ bs. Ok (triple a.0 (list_term cs) (list_term bs)))) t a.2 in
      let c = then_ok (part_terms d in_body ns k.body) (λ bs. Ok (triple a.0 (list_term b.0) (list_term bs))) t b.2 in
      then_is (head_term k.head) (λ x. then_fun (part_terms e in_condition ns g) (λ cs. then_fun (part_terms e in_body ns k.body) (λ bs. Ok (triple x (list_term cs) (list_term bs))))) a.0 a.1
      ∙ then_is (part_terms e in_condition ns g) (λ cs. then_fun (part_terms e in_body ns k.body) (λ bs. Ok (triple a.0 (list_term cs) (list_term bs)))) b.0 (terms_more in_condition ns g b.0 b.1)
      ∙ then_is (part_terms e in_body ns k.body) (λ bs. Ok (triple a.0 (list_term b.0) (list_term bs))) c.0 (terms_more in_body ns k.body c.0 c.1)
      ∙ c.2

  alternatives_more : (k : FunClause) (ts us : List Tree) (gs : List (List FunExpr)) → with_alternatives d k ts gs ≡ Ok us → with_alternatives e k ts gs ≡ Ok us
  alternatives_more k ts us [] h = h
  alternatives_more k ts us (g ∷ gs) h =
      let a = then_ok (alternative_term d k g) (λ t. then_fun (within_length k.at (ts ++ t ∷ [])) (λ vs. with_alternatives d k vs gs)) us h in
      let b = then_ok (within_length k.at (ts ++ a.0 ∷ [])) (λ vs. with_alternatives d k vs gs) us a.2 in
      then_is (alternative_term e k g) (λ t. then_fun (within_length k.at (ts ++ t ∷ [])) (λ vs. with_alternatives e k vs gs)) a.0 (alternative_more k g a.0 a.1)
      ∙ then_is (within_length k.at (ts ++ a.0 ∷ [])) (λ vs. with_alternatives e k vs gs) b.0 b.1
      ∙ alternatives_more k b.0 us gs b.2

  fun_clauses_more : (ts us : List Tree) (ks : List FunClause) → with_fun_clauses d ts ks ≡ Ok us → with_fun_clauses e ts ks ≡ Ok us
  fun_clauses_more ts us [] h = h
  fun_clauses_more ts us (k ∷ ks) h =
      let a = then_ok (with_alternatives d k ts (alternatives_of k.guards)) (λ vs. with_fun_clauses d vs ks) us h in
      then_is (with_alternatives e k ts (alternatives_of k.guards)) (λ vs. with_fun_clauses e vs ks) a.0 (alternatives_more k ts a.0 (alternatives_of k.guards) a.1) ∙ fun_clauses_more a.0 us ks a.2

  pub tree_more : (ks : List FunClause) (t : Tree) → tree_of_fun d ks ≡ Ok t → tree_of_fun e ks ≡ Ok t
  tree_more ks t h =
      let a = then_ok (with_fun_clauses d [] ks) (λ ts. Ok (list_term ts)) t h in
      then_is (with_fun_clauses e [] ks) (λ ts. Ok (list_term ts)) a.0 (fun_clauses_more [] a.0 ks a.1) ∙ a.2

sends_have_more : HasMore for_receives for_sends
sends_have_more message h = refl
sends_have_more return_trace h = refl
sends_have_more exception_trace h = refl
sends_have_more silent h = refl
sends_have_more enable_trace h = refl
sends_have_more disable_trace h = refl
sends_have_more trace h = refl
sends_have_more caller h = h

calls_have_more : HasMore for_sends for_calls
calls_have_more message h = refl
calls_have_more return_trace h = refl
calls_have_more exception_trace h = refl
calls_have_more silent h = refl
calls_have_more enable_trace h = refl
calls_have_more disable_trace h = refl
calls_have_more trace h = refl
calls_have_more caller h = refl

pub as_for_sends : (ks : List FunClause) (t : Tree) → tree_of_fun for_receives ks ≡ Ok t → tree_of_fun for_sends ks ≡ Ok t
as_for_sends ks t h = tree_more for_receives for_sends sends_have_more ks t h

pub as_for_calls : (ks : List FunClause) (t : Tree) → tree_of_fun for_sends ks ≡ Ok t → tree_of_fun for_calls ks ≡ Ok t
as_for_calls ks t h = tree_more for_sends for_calls calls_have_more ks t h
