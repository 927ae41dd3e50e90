-- Why a term is no specification is what is computed, and is of the fault that is answered.
use Rattle.std.proofs.Common.{◌≡◌, ◌≢◌, ◌↔◌, ◌⊎◌, inl, inr, ℕ, zero, suc, ◌+◌, add-zero, zero-add, ◌&&◌, Bool, true, false, List, [], ◌∷◌, ◌++◌, Option, Some, None, refl, sym, ap, ◌∙◌, subst, if◌then◌else◌, arith}
use Rattle.std.specs.Prelude.{Ok, Err}
use Rattle.std.specs.Option.{option_map, option_or}
use Rattle.def_term.specs.Tree.{Tree, int, atom, pid, tuple, list, Trees, none, more, count, triple}
use Rattle.def_term.specs.Names.{Name}
use Rattle.def_term.specs.Text.{is_among}
use Rattle.def_spec.specs.Matching.{Pattern, anything, in_tuple, in_list, and_pattern, occurs}
use Rattle.def_spec.specs.Functions.{Func}
use Rattle.def_spec.specs.Expressions.{Dialect, Exprs, bound_to, constant, tuple_of, list_of, and_expr, Position, in_condition, in_body}
use Rattle.def_spec.specs.Outcome.{Clause, Spec}
use Rattle.def_spec.specs.Reading.{SpecFault, badarg, unsupported, Reads, then_read, AtomKind, a_variable, a_wrong_variable, a_plain_atom, atom_kind, is_wildcard, pattern_of_kind, pattern_of, patterns_of, head_of_kind, head_of, Callee, a_function, an_and_also, an_or_else, an_action, Row, table, unsupported_names, found_in, is_allowed, takes, called_of, named_call, call_of, atom_expr_of_kind, is_constant, only_element, expr_of, exprs_of, clause_of_parts, clause_of, clauses_of, spec_of}
use Rattle.def_explain.specs.SpecReasons.{ExpressionReason, not_in_head, no_variable, no_call, no_function, wrong_count, wrong_place, not_supported, HeadTermReason, no_head, no_head_variable, no_tuple, element_count, no_conditions, no_body, ClauseReason, of_shape, of_head, of_condition, of_body, SpecReason, no_clauses, at_clause, expression_fault, clause_fault, reason_fault, IsFirstReason, HasReasonAt, atoms_in, atoms_in_each, IsWrongVariable, IsOtherAtom, IsNoHead, IsHeadTermReason, expressions_in, expressions_in_each, IsNoCall, IsCallOf, IsNamedCall, IsOwnReason, IsExpressionReason, IsExpression, HasExpressionReason, IsClauseReason, IsClause, IsSpecReason, first_reason, reason_after, wrong_of_kind, wrong_variable, head_atom_reason, head_term_reason, atom_reason, place_reason, row_reason, call_reason, own_reason, expression_reason, reason_after_head, parts_reason, three_reason, clause_reason, spec_reason}
use Rattle.def_explain.specs.ReasonLaws.{SpecFaultHasReason, SpecReasonIsComputed}

-- ---- faults that are read

-- the fault, where there is one
abbrev fault_read : {X : Type 0} → Reads X → Option SpecFault
fault_read (Ok x) = None
fault_read (Err e) = Some e

err_of : {X : Type 0} (r : Reads X) (e : SpecFault) → fault_read r ≡ Some e → r ≡ Err e
err_of (Ok x) e h = absurd (cc h)
err_of (Err f) e h = let same : f ≡ e = cc h in ap Err same

ok_of : {X : Type 0} (r : Reads X) → fault_read r ≡ None → (x : X) × (r ≡ Ok x)
ok_of (Ok x) h = (x, refl)
ok_of (Err e) h = absurd (cc h)

then-map : {X Y : Type 0} (g : X → Y) (r : Reads X) → fault_read (then_read r (λ x. Ok (g x))) ≡ fault_read r
then-map g (Ok x) = refl
then-map g (Err e) = refl

then-or : {X Y : Type 0} (r : Reads X) (f : X → Reads Y) (q : Option SpecFault) → ((x : X) → fault_read (f x) ≡ q) → fault_read (then_read r f) ≡ option_or (fault_read r) q
then-or (Ok x) f q h = h x
then-or (Err e) f q h = refl

-- ---- the first of two

or-assoc : {R : Type 0} (o p q : Option R) → option_or (option_or o p) q ≡ option_or o (option_or p q)
or-assoc None p q = refl
or-assoc (Some x) p q = refl

map-or : {R S : Type 0} (g : R → S) (o p : Option R) → option_map g (option_or o p) ≡ option_or (option_map g o) (option_map g p)
map-or g None p = refl
map-or g (Some x) p = refl

or-none : {R : Type 0} (o : Option R) → option_or o None ≡ o
or-none None = refl
or-none (Some x) = refl

pub first-append : {X R : Type 0} (f : X → Option R) (xs ys : List X) → first_reason f (xs ++ ys) ≡ option_or (first_reason f xs) (first_reason f ys)
first-append f [] ys = refl
first-append f (x ∷ xs) ys = ap (option_or (f x)) (first-append f xs ys) ∙ sym (or-assoc (f x) (first_reason f xs) (first_reason f ys))

-- ---- heads

-- any wrong variable is the same fault
abbrev as_badarg : {X : Type 0} → X → SpecFault
as_badarg x = badarg

wrong-fault : (s : Name) (k : AtomKind) → option_map as_badarg (wrong_of_kind s k) ≡ fault_read (pattern_of_kind s k)
wrong-fault s (a_variable n) = refl
wrong-fault s a_wrong_variable = refl
wrong-fault s a_plain_atom = refl

mutual
  pattern-fault : (t : Tree) → option_map as_badarg (first_reason wrong_variable (atoms_in t)) ≡ fault_read (pattern_of t)
  pattern-fault (int z) = refl
  pattern-fault (atom s) = ap (option_map as_badarg) (or-none (wrong_variable s)) ∙ wrong-fault s (atom_kind s)
  pattern-fault (pid n) = refl
  pattern-fault (tuple ts) = patterns-fault ts ∙ sym (then-map in_tuple (patterns_of ts))
  pattern-fault (list ts) = patterns-fault ts ∙ sym (then-map in_list (patterns_of ts))

  patterns-fault : (ts : Trees) → option_map as_badarg (first_reason wrong_variable (atoms_in_each ts)) ≡ fault_read (patterns_of ts)
  patterns-fault none = refl
  patterns-fault (more t ts) =
      ap (option_map as_badarg) (first-append wrong_variable (atoms_in t) (atoms_in_each ts))
      ∙ map-or as_badarg (first_reason wrong_variable (atoms_in t)) (first_reason wrong_variable (atoms_in_each ts))
      ∙ ap (λ o. option_or o (option_map as_badarg (first_reason wrong_variable (atoms_in_each ts)))) (pattern-fault t)
      ∙ ap (option_or (fault_read (pattern_of t))) (patterns-fault ts)
      ∙ sym (then-or (pattern_of t) (λ p. then_read (patterns_of ts) (λ ps. Ok (and_pattern p ps))) (fault_read (patterns_of ts)) (λ p. then-map (and_pattern p) (patterns_of ts)))

map-map : {R S U : Type 0} (g : S → U) (f : R → S) (o : Option R) → option_map g (option_map f o) ≡ option_map (λ x. g (f x)) o
map-map g f None = refl
map-map g f (Some x) = refl

head-fault : (h : Tree) → option_map as_badarg (head_term_reason h) ≡ fault_read (head_of h)
head-fault (int z) = refl
head-fault (atom s) = go (atom_kind s)
  where
    plain : (b : Bool) → option_map as_badarg (if b then None else Some (no_head (atom s))) ≡ fault_read (if b then Ok anything else Err badarg)
    plain true = refl
    plain false = refl

    go : (k : AtomKind) → option_map as_badarg (head_atom_reason s k) ≡ fault_read (head_of_kind s k)
    go (a_variable n) = refl
    go a_wrong_variable = refl
    go a_plain_atom = plain (is_wildcard s)
head-fault (pid n) = refl
head-fault (tuple ts) = refl
head-fault (list ts) = map-map as_badarg no_head_variable (first_reason wrong_variable (atoms_in_each ts)) ∙ patterns-fault ts ∙ sym (then-map in_list (patterns_of ts))

-- ---- expressions

module _ (d : Dialect) (part : Position) (head : Pattern) where
  atom-fault : (s : Name) (k : AtomKind) → option_map expression_fault (atom_reason head s k) ≡ fault_read (atom_expr_of_kind head s k)
  atom-fault s (a_variable n) = go (occurs n head)
    where
      go : (b : Bool) → option_map expression_fault (if b then None else Some (not_in_head s)) ≡ fault_read (if b then Ok (bound_to n) else Err badarg)
      go true = refl
      go false = refl
  atom-fault s a_wrong_variable = refl
  atom-fault s a_plain_atom = refl

  function-allowed : (p : Position) (f : Func) → is_allowed d p (a_function f) ≡ true
  function-allowed in_condition f = refl
  function-allowed in_body f = refl

  and-also-allowed : (p : Position) → is_allowed d p an_and_also ≡ true
  and-also-allowed in_condition = refl
  and-also-allowed in_body = refl

  or-else-allowed : (p : Position) → is_allowed d p an_or_else ≡ true
  or-else-allowed in_condition = refl
  or-else-allowed in_body = refl

  if-allowed : (c : Callee) → is_allowed d part c ≡ true → None ≡ fault_read (if is_allowed d part c then Ok c else Err badarg)
  if-allowed c h = ap (λ b. fault_read (if b then Ok c else Err badarg)) (sym h)

  place-fault : (c : Callee) → option_map expression_fault (place_reason d part c) ≡ fault_read (if is_allowed d part c then Ok c else Err badarg)
  place-fault (a_function f) = if-allowed (a_function f) (function-allowed part f)
  place-fault an_and_also = if-allowed an_and_also (and-also-allowed part)
  place-fault an_or_else = if-allowed an_or_else (or-else-allowed part)
  place-fault (an_action a) = go (is_allowed d part (an_action a))
    where
      go : (b : Bool) → option_map expression_fault (if b then None else Some (wrong_place a)) ≡ fault_read (if b then Ok (an_action a) else Err badarg)
      go true = refl
      go false = refl

  row-fault : (s : Name) (ts : Trees) (o : Option Row) → option_map expression_fault (row_reason d part s ts o) ≡ fault_read (called_of d part (count ts) o)
  row-fault s ts None = refl
  row-fault s ts (Some r) = go (takes r (count ts))
    where
      go : (b : Bool) → option_map expression_fault (if b then place_reason d part r.called else Some (wrong_count s (count ts))) ≡ fault_read (if b && is_allowed d part r.called then Ok r.called else Err badarg)
      go true = place-fault r.called
      go false = refl

  call-fault : (s : Name) (ts : Trees) → option_map expression_fault (call_reason d part s ts) ≡ fault_read (named_call d part s (count ts))
  call-fault s ts = go (is_among unsupported_names s)
    where
      go : (b : Bool) → option_map expression_fault (if b then Some (not_supported s) else row_reason d part s ts (found_in table s)) ≡ fault_read (if b then Err (unsupported s) else called_of d part (count ts) (found_in table s))
      go true = refl
      go false = row-fault s ts (found_in table s)

  abbrev first : List Tree → Option ExpressionReason
  first ts = first_reason (own_reason d part head) ts

  mutual
    expression-fault : (t : Tree) → option_map expression_fault (first (expressions_in t)) ≡ fault_read (expr_of d part head t)
    expression-fault (int z) = refl
    expression-fault (atom s) = ap (option_map expression_fault) (or-none (atom_reason head s (atom_kind s))) ∙ atom-fault s (atom_kind s)
    expression-fault (pid n) = refl
    expression-fault (list ts) = expressions-fault ts ∙ sym (then-map list_of (exprs_of d part head ts))
    expression-fault (tuple none) = refl
    expression-fault (tuple (more (int z) ts)) = refl
    expression-fault (tuple (more (atom s) ts)) = go (expressions-fault ts) (is_constant s ts)
      where
        go : option_map expression_fault (first (expressions_in_each ts)) ≡ fault_read (exprs_of d part head ts) → (b : Bool)
            → option_map expression_fault (option_or (if b then None else call_reason d part s ts) (first (if b then [] else expressions_in_each ts)))
            ≡ fault_read (if b then Ok (constant (only_element ts)) else then_read (named_call d part s (count ts)) (λ f. then_read (exprs_of d part head ts) (λ es. Ok (call_of f es))))
        go again true = refl
        go again false =
            map-or expression_fault (call_reason d part s ts) (first (expressions_in_each ts))
            ∙ ap (λ o. option_or o (option_map expression_fault (first (expressions_in_each ts)))) (call-fault s ts)
            ∙ ap (option_or (fault_read (named_call d part s (count ts)))) again
            ∙ sym (then-or (named_call d part s (count ts)) (λ f. then_read (exprs_of d part head ts) (λ es. Ok (call_of f es))) (fault_read (exprs_of d part head ts)) (λ f. then-map (call_of f) (exprs_of d part head ts)))
    expression-fault (tuple (more (pid n) ts)) = refl
    expression-fault (tuple (more (tuple us) none)) = expressions-fault us ∙ sym (then-map tuple_of (exprs_of d part head us))
    expression-fault (tuple (more (tuple us) (more v vs))) = refl
    expression-fault (tuple (more (list us) ts)) = refl

    expressions-fault : (ts : Trees) → option_map expression_fault (first (expressions_in_each ts)) ≡ fault_read (exprs_of d part head ts)
    expressions-fault none = refl
    expressions-fault (more t ts) =
        ap (option_map expression_fault) (first-append (own_reason d part head) (expressions_in t) (expressions_in_each ts))
        ∙ map-or expression_fault (first (expressions_in t)) (first (expressions_in_each ts))
        ∙ ap (λ o. option_or o (option_map expression_fault (first (expressions_in_each ts)))) (expression-fault t)
        ∙ ap (option_or (fault_read (expr_of d part head t))) (expressions-fault ts)
        ∙ sym (then-or (expr_of d part head t) (λ e. then_read (exprs_of d part head ts) (λ es. Ok (and_expr e es))) (fault_read (exprs_of d part head ts)) (λ e. then-map (and_expr e) (exprs_of d part head ts)))

-- ---- numbered

-- the first fault of several terms
abbrev first_fault : (Tree → Option SpecFault) → Trees → Option SpecFault
first_fault q none = None
first_fault q (more t ts) = option_or (q t) (first_fault q ts)

after-fault : {R : Type 0} (f : Tree → Option R) (g : R → SpecFault) (q : Tree → Option SpecFault) → ((t : Tree) → option_map g (f t) ≡ q t) → (n : ℕ) (ts : Trees) → option_map (λ x. g x.1) (reason_after f n ts) ≡ first_fault q ts
after-fault f g q same n none = refl
after-fault {R} f g q same n (more t ts) =
    map-or (λ x. g x.1) (option_map (λ r. (n, r)) (f t)) (reason_after f (suc n) ts)
    ∙ ap (λ o. option_or o (option_map (λ x. g x.1) (reason_after f (suc n) ts))) (map-map (λ x. g x.1) (λ r. (n, r)) (f t) ∙ same t)
    ∙ ap (option_or (q t)) (after-fault f g q same (suc n) ts)

exprs-first : (d : Dialect) (part : Position) (head : Pattern) (ts : Trees) → first_fault (λ t. fault_read (expr_of d part head t)) ts ≡ fault_read (exprs_of d part head ts)
exprs-first d part head none = refl
exprs-first d part head (more t ts) =
    ap (option_or (fault_read (expr_of d part head t))) (exprs-first d part head ts)
    ∙ sym (then-or (expr_of d part head t) (λ e. then_read (exprs_of d part head ts) (λ es. Ok (and_expr e es))) (fault_read (exprs_of d part head ts)) (λ e. then-map (and_expr e) (exprs_of d part head ts)))

clauses-first : (d : Dialect) (ts : Trees) → first_fault (λ t. fault_read (clause_of d t)) ts ≡ fault_read (clauses_of d ts)
clauses-first d none = refl
clauses-first d (more t ts) =
    ap (option_or (fault_read (clause_of d t))) (clauses-first d ts)
    ∙ sym (then-or (clause_of d t) (λ k. then_read (clauses_of d ts) (λ ks. Ok (k ∷ ks))) (fault_read (clauses_of d ts)) (λ k. then-map (λ ks. k ∷ ks) (clauses_of d ts)))

-- of several expressions, numbered
several-fault : (d : Dialect) (part : Position) (head : Pattern) (ts : Trees) → option_map (λ x. expression_fault x.1) (reason_after (expression_reason d part head) 0 ts) ≡ fault_read (exprs_of d part head ts)
several-fault d part head ts =
    after-fault (expression_reason d part head) expression_fault (λ t. fault_read (expr_of d part head t)) (expression-fault d part head) 0 ts
    ∙ exprs-first d part head ts

-- ---- clauses

-- of head, conditions and body
parts-fault : (d : Dialect) (h : Tree) (cs bs : Trees) → option_map clause_fault (parts_reason d h cs bs) ≡ fault_read (clause_of_parts d h cs bs)
parts-fault d h cs bs = go (head_term_reason h) (head_of h) (head-fault h)
  where
    body : Pattern → Exprs → Reads Clause
    body p conditions = then_read (exprs_of d in_body p bs) (λ body. Ok (record { head = p; conditions = conditions; body = body }))

    rest : Pattern → Reads Clause
    rest p = then_read (exprs_of d in_condition p cs) (body p)

    at : (part : Position) (p : Pattern) (ts : Trees) (make : ℕ → ExpressionReason → ClauseReason) → ((n : ℕ) (r : ExpressionReason) → clause_fault (make n r) ≡ expression_fault r)
        → option_map clause_fault (option_map (λ x. make x.0 x.1) (reason_after (expression_reason d part p) 0 ts)) ≡ fault_read (exprs_of d part p ts)
    at part p ts make same = each (reason_after (expression_reason d part p) 0 ts) ∙ several-fault d part p ts
      where
        each : (o : Option (ℕ × ExpressionReason)) → option_map clause_fault (option_map (λ x. make x.0 x.1) o) ≡ option_map (λ x. expression_fault x.1) o
        each None = refl
        each (Some x) = ap Some (same x.0 x.1)

    behind : (p : Pattern) → option_map clause_fault (reason_after_head d cs bs (Ok p)) ≡ fault_read (rest p)
    behind p =
        map-or clause_fault (option_map (λ x. of_condition x.0 x.1) (reason_after (expression_reason d in_condition p) 0 cs)) (option_map (λ x. of_body x.0 x.1) (reason_after (expression_reason d in_body p) 0 bs))
        ∙ ap (λ o. option_or o (option_map clause_fault (option_map (λ x. of_body x.0 x.1) (reason_after (expression_reason d in_body p) 0 bs)))) (at in_condition p cs of_condition (λ n r. refl))
        ∙ ap (option_or (fault_read (exprs_of d in_condition p cs))) (at in_body p bs of_body (λ n r. refl))
        ∙ sym (then-or (exprs_of d in_condition p cs) (body p) (fault_read (exprs_of d in_body p bs)) (λ conditions. then-map (λ body. record { head = p; conditions = conditions; body = body }) (exprs_of d in_body p bs)))

    go : (o : Option HeadTermReason) (r : Reads Pattern) → option_map as_badarg o ≡ fault_read r → option_map clause_fault (option_or (option_map of_head o) (reason_after_head d cs bs r)) ≡ fault_read (then_read r rest)
    go None (Ok p) same = behind p
    go None (Err e) same = absurd (cc same)
    go (Some x) (Ok p) same = absurd (cc same)
    go (Some x) (Err e) same = same

of-two : (d : Dialect) (h c : Tree) → clause_of d (tuple (more h (more c none))) ≡ Err badarg
of-two d h (int z) = refl
of-two d h (atom s) = refl
of-two d h (pid n) = refl
of-two d h (tuple us) = refl
of-two d h (list us) = refl

of-four : (d : Dialect) (h c b e : Tree) (es : Trees) → clause_of d (tuple (more h (more c (more b (more e es))))) ≡ Err badarg
of-four d h (int z) b e es = refl
of-four d h (atom s) b e es = refl
of-four d h (pid n) b e es = refl
of-four d h (tuple us) b e es = refl
of-four d h (list us) (int z) e es = refl
of-four d h (list us) (atom s) e es = refl
of-four d h (list us) (pid n) e es = refl
of-four d h (list us) (tuple vs) e es = refl
of-four d h (list us) (list vs) e es = refl

clause-fault : (d : Dialect) (t : Tree) → option_map clause_fault (clause_reason d t) ≡ fault_read (clause_of d t)
clause-fault d (int z) = refl
clause-fault d (atom s) = refl
clause-fault d (pid n) = refl
clause-fault d (list ts) = refl
clause-fault d (tuple none) = refl
clause-fault d (tuple (more h none)) = refl
clause-fault d (tuple (more h (more c none))) = ap fault_read (sym (of-two d h c))
clause-fault d (tuple (more h (more c (more b none)))) = three c b
  where
    three : (c b : Tree) → option_map clause_fault (three_reason d h c b) ≡ fault_read (clause_of d (tuple (more h (more c (more b none)))))
    three (list cs) (list bs) = parts-fault d h cs bs
    three (list cs) (int z) = refl
    three (list cs) (atom s) = refl
    three (list cs) (pid n) = refl
    three (list cs) (tuple us) = refl
    three (int z) b = refl
    three (atom s) b = refl
    three (pid n) b = refl
    three (tuple us) b = refl
clause-fault d (tuple (more h (more c (more b (more e es))))) = ap fault_read (sym (of-four d h c b e es))

spec-fault : (d : Dialect) (t : Tree) → option_map reason_fault (spec_reason d t) ≡ fault_read (spec_of d t)
spec-fault d (int z) = refl
spec-fault d (atom s) = refl
spec-fault d (pid n) = refl
spec-fault d (tuple ts) = refl
spec-fault d (list none) = refl
spec-fault d (list (more t ts)) =
    each (reason_after (clause_reason d) 0 (more t ts))
    ∙ after-fault (clause_reason d) clause_fault (λ u. fault_read (clause_of d u)) (clause-fault d) 0 (more t ts)
    ∙ clauses-first d (more t ts)
    ∙ sym (then-map (as_spec d) (clauses_of d (more t ts)))
  where
    as_spec : Dialect → List Clause → Spec
    as_spec d ks = record { dialect = d; clauses = ks }

    each : (o : Option (ℕ × ClauseReason)) → option_map reason_fault (option_map (λ x. at_clause x.0 x.1) o) ≡ option_map (λ x. clause_fault x.1) o
    each None = refl
    each (Some x) = refl

pub spec_fault_has_reason : SpecFaultHasReason
spec_fault_has_reason d t e = (
  λ h. spec-fault d t ∙ ap fault_read h,
  λ h. err_of (spec_of d t) e (sym (spec-fault d t) ∙ h),
)

-- ---- the first of several for which there is a reason

pub is_so : {R : Type 0} (q r : R) → Some q ≡ Some r → q ≡ r
is_so q r e = cc e

pub none-some : {R : Type 0} (r : R) → None ≡ Some r → ⊥
none-some r e = cc e

module _ {X R : Type 0} (f : X → Option R) (Because : X → R → Type 0) (same : (x : X) (r : R) → (f x ≡ Some r) ↔ Because x r) where
  pub first-sound : (xs : List X) (r : R) → first_reason f xs ≡ Some r → IsFirstReason Because xs r
  first-sound [] r e = absurd (none-some r e)
  first-sound (x ∷ xs) r e = go (first-sound xs r) (f x) refl e
    where
      go : (first_reason f xs ≡ Some r → IsFirstReason Because xs r) → (o : Option R) → f x ≡ o → option_or o (first_reason f xs) ≡ Some r → IsFirstReason Because (x ∷ xs) r
      go later None h e = inr (λ q b. none-some q (sym h ∙ (same x q).1 b), later e)
      go later (Some q) h e = inl ((same x r).0 (h ∙ e))

  no-reason : (x : X) → ((r : R) → ¬ Because x r) → f x ≡ None
  no-reason x h = go (f x) refl
    where
      go : (o : Option R) → f x ≡ o → f x ≡ None
      go None e = e
      go (Some r) e = absurd (h r ((same x r).0 e))

  pub first-complete : (xs : List X) (r : R) → IsFirstReason Because xs r → first_reason f xs ≡ Some r
  first-complete [] r h = absurd h
  first-complete (x ∷ xs) r (inl b) = ap (λ o. option_or o (first_reason f xs)) ((same x r).1 b)
  first-complete (x ∷ xs) r (inr h) = ap (λ o. option_or o (first_reason f xs)) (no-reason x h.0) ∙ first-complete xs r h.1

-- ---- the same, numbered

module _ {R : Type 0} (f : Tree → Option R) (IsSo : Tree → Type 0) (Because : Tree → R → Type 0) (same : (t : Tree) (r : R) → (f t ≡ Some r) ↔ Because t r) (otherwise : (t : Tree) → (f t ≡ None) ↔ IsSo t) where
  later : (m n : ℕ) → m + suc n ≡ suc m + n
  later m n = omega arith

  after-sound : (n : ℕ) (ts : Trees) (x : ℕ × R) → reason_after f n ts ≡ Some x → (k : ℕ) × (x.0 ≡ k + n) × HasReasonAt IsSo Because ts k x.1
  after-sound n none x e = absurd (none-some x e)
  after-sound n (more t ts) x e = go (after-sound (suc n) ts x) (f t) refl e
    where
      go : (reason_after f (suc n) ts ≡ Some x → (k : ℕ) × (x.0 ≡ k + suc n) × HasReasonAt IsSo Because ts k x.1) → (o : Option R) → f t ≡ o
          → option_or (option_map (λ r. (n, r)) o) (reason_after f (suc n) ts) ≡ Some x → (k : ℕ) × (x.0 ≡ k + n) × HasReasonAt IsSo Because (more t ts) k x.1
      go again None h e =
          let z : (k : ℕ) × (x.0 ≡ k + suc n) × HasReasonAt IsSo Because ts k x.1 = again e in
          (suc z.0, z.1 ∙ later z.0 n, ((otherwise t).0 h, z.2))
      go again (Some r) h e =
          let is : (n, r) ≡ x = is_so (n, r) x e in
          (zero, sym (ap (λ y. y.0) is) ∙ sym (zero-add n), (same t x.1).0 (h ∙ ap (λ y. Some y.1) is))

  after-complete : (n k : ℕ) (ts : Trees) (r : R) → HasReasonAt IsSo Because ts k r → reason_after f n ts ≡ Some (k + n, r)
  after-complete n k none r h = absurd h
  after-complete n zero (more t ts) r h = ap (λ o. option_or (option_map (λ q. (n, q)) o) (reason_after f (suc n) ts)) ((same t r).1 h) ∙ ap (λ m. Some (m, r)) (sym (zero-add n))
  after-complete n (suc k) (more t ts) r h =
      ap (λ o. option_or (option_map (λ q. (n, q)) o) (reason_after f (suc n) ts)) ((otherwise t).1 h.0) ∙ after-complete (suc n) k ts r h.1 ∙ ap (λ m. Some (m, r)) (later k n)

  at-sound : (ts : Trees) (x : ℕ × R) → reason_after f 0 ts ≡ Some x → HasReasonAt IsSo Because ts x.0 x.1
  at-sound ts x e =
      let z : (k : ℕ) × (x.0 ≡ k + 0) × HasReasonAt IsSo Because ts k x.1 = after-sound 0 ts x e in
      subst (λ m. HasReasonAt IsSo Because ts m x.1) (sym (z.1 ∙ add-zero z.0)) z.2

  at-complete : (ts : Trees) (n : ℕ) (r : R) → HasReasonAt IsSo Because ts n r → reason_after f 0 ts ≡ Some (n, r)
  at-complete ts n r h = after-complete 0 n ts r h ∙ ap (λ m. Some (m, r)) (add-zero n)

pub map-none : {R S : Type 0} (g : R → S) (o : Option R) → option_map g o ≡ None → o ≡ None
map-none g None e = refl
map-none g (Some x) e = absurd (cc e)

pub map-some : {R S : Type 0} (g : R → S) (o : Option R) (y : S) → option_map g o ≡ Some y → (x : R) × (o ≡ Some x) × (g x ≡ y)
map-some g None y e = absurd (cc e)
map-some g (Some x) y e = (x, refl, cc e)

-- ---- a head

wrong-same : (s r : Name) → (wrong_variable s ≡ Some r) ↔ IsWrongVariable s r
wrong-same s r = (λ e. go (atom_kind s) refl e, λ h. ap (wrong_of_kind s) h.1 ∙ ap Some (sym h.0))
  where
    go : (k : AtomKind) → atom_kind s ≡ k → wrong_of_kind s k ≡ Some r → IsWrongVariable s r
    go (a_variable n) h e = absurd (none-some r e)
    go a_wrong_variable h e = (sym (is_so s r e), h)
    go a_plain_atom h e = absurd (none-some r e)

same-name : (s r : Name) → atom s ≡ atom r → s ≡ r
same-name s r e = cc e

head-atom-sound : (s : Name) (r : HeadTermReason) (k : AtomKind) → atom_kind s ≡ k → head_atom_reason s k ≡ Some r → IsHeadTermReason (atom s) r
head-atom-sound s r (a_variable n) h e = absurd (none-some r e)
head-atom-sound s r a_wrong_variable h e = subst (IsHeadTermReason (atom s)) (is_so (no_head_variable s) r e) ((λ ts c. cc c), inl (refl, h))
head-atom-sound s r a_plain_atom h e = go (is_wildcard s) refl e
  where
    go : (b : Bool) → is_wildcard s ≡ b → (if b then None else Some (no_head (atom s))) ≡ Some r → IsHeadTermReason (atom s) r
    go true w f = absurd (none-some r f)
    go false w f = subst (IsHeadTermReason (atom s)) (is_so (no_head (atom s)) r f) (refl, ((λ ts c. cc c), λ q c. subst IsOtherAtom (same-name s q c) (h, w)))

head-sound : (t : Tree) (r : HeadTermReason) → head_term_reason t ≡ Some r → IsHeadTermReason t r
head-sound (int z) r e = subst (IsHeadTermReason (int z)) (is_so (no_head (int z)) r e) (refl, ((λ ts c. cc c), λ s c. absurd (cc c)))
head-sound (atom s) r e = head-atom-sound s r (atom_kind s) refl e
head-sound (pid n) r e = subst (IsHeadTermReason (pid n)) (is_so (no_head (pid n)) r e) (refl, ((λ ts c. cc c), λ s c. absurd (cc c)))
head-sound (tuple us) r e = subst (IsHeadTermReason (tuple us)) (is_so (no_head (tuple us)) r e) (refl, ((λ ts c. cc c), λ s c. absurd (cc c)))
head-sound (list us) r e =
    let x : (s : Name) × (first_reason wrong_variable (atoms_in_each us) ≡ Some s) × (no_head_variable s ≡ r) = map-some no_head_variable (first_reason wrong_variable (atoms_in_each us)) r e in
    subst (IsHeadTermReason (list us)) x.2 ((λ ts c. cc c), first-sound wrong_variable IsWrongVariable wrong-same (atoms_in_each us) x.0 x.1)

no-head-complete : (t : Tree) → IsNoHead t → head_term_reason t ≡ Some (no_head t)
no-head-complete (int z) h = refl
no-head-complete (atom s) h =
    let o : IsOtherAtom s = h.1 s refl in
    ap (head_atom_reason s) o.0 ∙ ap (λ b. if b then None else Some (no_head (atom s))) o.1
no-head-complete (pid n) h = refl
no-head-complete (tuple ts) h = refl
no-head-complete (list ts) h = absurd (h.0 ts refl)

head-complete : (t : Tree) (r : HeadTermReason) → IsHeadTermReason t r → head_term_reason t ≡ Some r
head-complete t (no_head u) h = no-head-complete t h.1 ∙ ap (λ x. Some (no_head x)) (sym h.0)
head-complete (int z) (no_head_variable s) h = absurd h.1
head-complete (atom a) (no_head_variable s) h = go h.1
  where
    go : (IsWrongVariable a s ⊎ (((q : Name) → ¬ IsWrongVariable a q) × ⊥)) → head_term_reason (atom a) ≡ Some (no_head_variable s)
    go (inl w) = ap (head_atom_reason a) w.1 ∙ ap (λ x. Some (no_head_variable x)) (sym w.0)
    go (inr n) = absurd n.1
head-complete (pid n) (no_head_variable s) h = absurd h.1
head-complete (tuple ts) (no_head_variable s) h = absurd (h.0 ts refl)
head-complete (list ts) (no_head_variable s) h = ap (option_map no_head_variable) (first-complete wrong_variable IsWrongVariable wrong-same (atoms_in_each ts) s h.1)

-- ---- an expression

module _ (d : Dialect) (part : Position) (head : Pattern) where
  abbrev Own : Tree → ExpressionReason → Type 0
  Own t r = IsOwnReason d part head t r

  atom-sound : (s : Name) (r : ExpressionReason) (k : AtomKind) → atom_kind s ≡ k → atom_reason head s k ≡ Some r → Own (atom s) r
  atom-sound s r (a_variable n) h e = go (occurs n head) refl e
    where
      go : (b : Bool) → occurs n head ≡ b → (if b then None else Some (not_in_head s)) ≡ Some r → Own (atom s) r
      go true o f = absurd (none-some r f)
      go false o f = subst (Own (atom s)) (is_so (not_in_head s) r f) (refl, (n, h, o))
  atom-sound s r a_wrong_variable h e = subst (Own (atom s)) (is_so (no_variable s) r e) (refl, h)
  atom-sound s r a_plain_atom h e = absurd (none-some r e)

  place-sound : (s : Name) (ts : Trees) (q : Row) (r : ExpressionReason) → IsNamedCall (tuple (more (atom s) ts)) s ts → found_in table s ≡ Some q → takes q (count ts) ≡ true
      → (c : Callee) → q.called ≡ c → place_reason d part c ≡ Some r → Own (tuple (more (atom s) ts)) r
  place-sound s ts q r named f k (a_function g) h e = absurd (none-some r e)
  place-sound s ts q r named f k an_and_also h e = absurd (none-some r e)
  place-sound s ts q r named f k an_or_else h e = absurd (none-some r e)
  place-sound s ts q r named f k (an_action a) h e = go (is_allowed d part (an_action a)) refl e
    where
      go : (b : Bool) → is_allowed d part (an_action a) ≡ b → (if b then None else Some (wrong_place a)) ≡ Some r → Own (tuple (more (atom s) ts)) r
      go true o g = absurd (none-some r g)
      go false o g = subst (Own (tuple (more (atom s) ts))) (is_so (wrong_place a) r g) (s, ts, q, named, f, k, h, o)

  row-sound : (s : Name) (ts : Trees) (r : ExpressionReason) → IsNamedCall (tuple (more (atom s) ts)) s ts → (o : Option Row) → found_in table s ≡ o → row_reason d part s ts o ≡ Some r → Own (tuple (more (atom s) ts)) r
  row-sound s ts r named None f e = subst (Own (tuple (more (atom s) ts))) (is_so (no_function s ts) r e) (named, f)
  row-sound s ts r named (Some q) f e = go (takes q (count ts)) refl e
    where
      go : (b : Bool) → takes q (count ts) ≡ b → (if b then place_reason d part q.called else Some (wrong_count s (count ts))) ≡ Some r → Own (tuple (more (atom s) ts)) r
      go true k g = place-sound s ts q r named f k q.called refl g
      go false k g = subst (Own (tuple (more (atom s) ts))) (is_so (wrong_count s (count ts)) r g) (ts, q, named, f, refl, k)

  call-sound : (s : Name) (ts : Trees) (r : ExpressionReason) → is_constant s ts ≡ false → call_reason d part s ts ≡ Some r → Own (tuple (more (atom s) ts)) r
  call-sound s ts r h e = go (is_among unsupported_names s) refl e
    where
      go : (b : Bool) → is_among unsupported_names s ≡ b → (if b then Some (not_supported s) else row_reason d part s ts (found_in table s)) ≡ Some r → Own (tuple (more (atom s) ts)) r
      go true u g = subst (Own (tuple (more (atom s) ts))) (is_so (not_supported s) r g) (ts, (refl, h), u)
      go false u g = row-sound s ts r ((refl, h), u) (found_in table s) refl g

  own-sound : (t : Tree) (r : ExpressionReason) → own_reason d part head t ≡ Some r → Own t r
  own-sound (int z) r e = absurd (none-some r e)
  own-sound (atom s) r e = atom-sound s r (atom_kind s) refl e
  own-sound (pid n) r e = absurd (none-some r e)
  own-sound (list ts) r e = absurd (none-some r e)
  own-sound (tuple none) r e = subst (Own (tuple none)) (is_so (no_call none) r e) (refl, ((λ us c. cc c), λ s us c. cc c))
  own-sound (tuple (more (int z) ts)) r e = subst (Own (tuple (more (int z) ts))) (is_so (no_call (more (int z) ts)) r e) (refl, ((λ us c. cc c), λ s us c. cc c))
  own-sound (tuple (more (atom s) ts)) r e = go (is_constant s ts) refl e
    where
      go : (b : Bool) → is_constant s ts ≡ b → (if b then None else call_reason d part s ts) ≡ Some r → Own (tuple (more (atom s) ts)) r
      go true h f = absurd (none-some r f)
      go false h f = call-sound s ts r h f
  own-sound (tuple (more (pid n) ts)) r e = subst (Own (tuple (more (pid n) ts))) (is_so (no_call (more (pid n) ts)) r e) (refl, ((λ us c. cc c), λ s us c. cc c))
  own-sound (tuple (more (tuple us) none)) r e = absurd (none-some r e)
  own-sound (tuple (more (tuple us) (more v vs))) r e =
      subst (Own (tuple (more (tuple us) (more v vs)))) (is_so (no_call (more (tuple us) (more v vs))) r e) (refl, ((λ ws c. cc c), λ s ws c. cc c))
  own-sound (tuple (more (list us) ts)) r e = subst (Own (tuple (more (list us) ts))) (is_so (no_call (more (list us) ts)) r e) (refl, ((λ ws c. cc c), λ s ws c. cc c))

  no-call-complete : (ts : Trees) → IsNoCall ts → own_reason d part head (tuple ts) ≡ Some (no_call ts)
  no-call-complete none h = refl
  no-call-complete (more (int z) ts) h = refl
  no-call-complete (more (atom s) ts) h = absurd (h.1 s ts refl)
  no-call-complete (more (pid n) ts) h = refl
  no-call-complete (more (tuple us) none) h = absurd (h.0 us refl)
  no-call-complete (more (tuple us) (more v vs)) h = refl
  no-call-complete (more (list us) ts) h = refl

  call-is : (t : Tree) (s : Name) (ts : Trees) → IsCallOf t s ts → own_reason d part head t ≡ call_reason d part s ts
  call-is t s ts h = ap (own_reason d part head) h.0 ∙ ap (λ b. if b then None else call_reason d part s ts) h.1

  name-is : (t : Tree) (s : Name) (ts : Trees) (o : Option Row) → IsNamedCall t s ts → found_in table s ≡ o → own_reason d part head t ≡ row_reason d part s ts o
  name-is t s ts o h f =
      call-is t s ts h.0
      ∙ ap (λ b. if b then Some (not_supported s) else row_reason d part s ts (found_in table s)) h.1
      ∙ ap (row_reason d part s ts) f

  own-complete : (t : Tree) (r : ExpressionReason) → Own t r → own_reason d part head t ≡ Some r
  own-complete t (not_in_head s) h =
      ap (own_reason d part head) h.0 ∙ ap (atom_reason head s) h.1.1 ∙ ap (λ b. if b then None else Some (not_in_head s)) h.1.2
  own-complete t (no_variable s) h = ap (own_reason d part head) h.0 ∙ ap (atom_reason head s) h.1
  own-complete t (no_call ts) h = ap (own_reason d part head) h.0 ∙ no-call-complete ts h.1
  own-complete t (no_function s ts) h = name-is t s ts None h.0 h.1
  own-complete t (wrong_count s n) h =
      name-is t s h.0 (Some h.1) h.2 h.3
      ∙ ap (λ b. if b then place_reason d part h.1.called else Some (wrong_count s (count h.0))) (ap (takes h.1) h.4 ∙ h.5)
      ∙ ap (λ m. Some (wrong_count s m)) h.4
  own-complete t (wrong_place a) h =
      name-is t h.0 h.1 (Some h.2) h.3 h.4
      ∙ ap (λ b. if b then place_reason d part h.2.called else Some (wrong_count h.0 (count h.1))) h.5
      ∙ ap (place_reason d part) h.6
      ∙ ap (λ b. if b then None else Some (wrong_place a)) h.7
  own-complete t (not_supported s) h = call-is t s h.0 h.1 ∙ ap (λ b. if b then Some (not_supported s) else row_reason d part s h.0 (found_in table s)) h.2

  own-same : (t : Tree) (r : ExpressionReason) → (own_reason d part head t ≡ Some r) ↔ Own t r
  own-same t r = (own-sound t r, own-complete t r)

  expression-same : (t : Tree) (r : ExpressionReason) → (expression_reason d part head t ≡ Some r) ↔ IsExpressionReason d part head t r
  expression-same t r = (first-sound (own_reason d part head) Own own-same (expressions_in t) r, first-complete (own_reason d part head) Own own-same (expressions_in t) r)

  expression-otherwise : (t : Tree) → (expression_reason d part head t ≡ None) ↔ IsExpression d part head t
  expression-otherwise t = (
    λ h. ok_of (expr_of d part head t) (sym (expression-fault d part head t) ∙ ap (option_map expression_fault) h),
    λ h. map-none expression_fault (expression_reason d part head t) (expression-fault d part head t ∙ ap fault_read h.1),
  )

  several-sound : (ts : Trees) (x : ℕ × ExpressionReason) → reason_after (expression_reason d part head) 0 ts ≡ Some x → HasExpressionReason d part head ts x.0 x.1
  several-sound ts x e = at-sound (expression_reason d part head) (IsExpression d part head) (IsExpressionReason d part head) expression-same expression-otherwise ts x e

  several-complete : (ts : Trees) (n : ℕ) (r : ExpressionReason) → HasExpressionReason d part head ts n r → reason_after (expression_reason d part head) 0 ts ≡ Some (n, r)
  several-complete ts n r h = at-complete (expression_reason d part head) (IsExpression d part head) (IsExpressionReason d part head) expression-same expression-otherwise ts n r h

  several-otherwise : (ts : Trees) → (reason_after (expression_reason d part head) 0 ts ≡ None) ↔ ((es : Exprs) × (exprs_of d part head ts ≡ Ok es))
  several-otherwise ts = (
    λ h. ok_of (exprs_of d part head ts) (sym (several-fault d part head ts) ∙ ap (option_map (λ x. expression_fault x.1)) h),
    λ h. map-none (λ x. expression_fault x.1) (reason_after (expression_reason d part head) 0 ts) (several-fault d part head ts ∙ ap fault_read h.1),
  )

-- ---- a clause

head-otherwise : (h : Tree) → (head_term_reason h ≡ None) ↔ ((p : Pattern) × (head_of h ≡ Ok p))
head-otherwise h = (
  λ e. ok_of (head_of h) (sym (head-fault h) ∙ ap (option_map as_badarg) e),
  λ x. map-none as_badarg (head_term_reason h) (head-fault h ∙ ap fault_read x.1),
)

module _ (d : Dialect) (h : Tree) (cs bs : Trees) where
  abbrev Whole : ClauseReason → Type 0
  Whole r = IsClauseReason d (triple h (list cs) (list bs)) r

  abbrev of_conditions : Pattern → Option ClauseReason
  of_conditions p = option_map (λ x. of_condition x.0 x.1) (reason_after (expression_reason d in_condition p) 0 cs)

  abbrev of_bodies : Pattern → Option ClauseReason
  of_bodies p = option_map (λ x. of_body x.0 x.1) (reason_after (expression_reason d in_body p) 0 bs)

  body-sound : (r : ClauseReason) (p : Pattern) (es : Exprs) → head_of h ≡ Ok p → exprs_of d in_condition p cs ≡ Ok es → of_bodies p ≡ Some r → Whole r
  body-sound r p es a b e =
      let x : (y : ℕ × ExpressionReason) × (reason_after (expression_reason d in_body p) 0 bs ≡ Some y) × (of_body y.0 y.1 ≡ r) = map-some (λ y. of_body y.0 y.1) (reason_after (expression_reason d in_body p) 0 bs) r e in
      subst Whole x.2 (h, cs, bs, p, es, refl, a, b, several-sound d in_body p bs x.0 x.1)

  behind-sound : (r : ClauseReason) (p : Pattern) → head_of h ≡ Ok p → option_or (of_conditions p) (of_bodies p) ≡ Some r → Whole r
  behind-sound r p a e = go (reason_after (expression_reason d in_condition p) 0 cs) refl e
    where
      go : (o : Option (ℕ × ExpressionReason)) → reason_after (expression_reason d in_condition p) 0 cs ≡ o → option_or (option_map (λ x. of_condition x.0 x.1) o) (of_bodies p) ≡ Some r → Whole r
      go None n f = let es : (xs : Exprs) × (exprs_of d in_condition p cs ≡ Ok xs) = (several-otherwise d in_condition p cs).0 n in body-sound r p es.0 a es.1 f
      go (Some x) n f = subst Whole (is_so (of_condition x.0 x.1) r f) (h, cs, bs, p, refl, a, several-sound d in_condition p cs x n)

  parts-sound : (r : ClauseReason) → parts_reason d h cs bs ≡ Some r → Whole r
  parts-sound r e = go (head_term_reason h) refl e
    where
      go : (o : Option HeadTermReason) → head_term_reason h ≡ o → option_or (option_map of_head o) (reason_after_head d cs bs (head_of h)) ≡ Some r → Whole r
      go None n f = let p : (q : Pattern) × (head_of h ≡ Ok q) = (head-otherwise h).0 n in behind-sound r p.0 p.1 (ap (reason_after_head d cs bs) (sym p.1) ∙ f)
      go (Some x) n f = subst Whole (is_so (of_head x) r f) (h, cs, bs, refl, head-sound h x n)

  -- with a head that is read
  behind-is : (p : Pattern) → head_of h ≡ Ok p → parts_reason d h cs bs ≡ option_or (of_conditions p) (of_bodies p)
  behind-is p a = ap (λ o. option_or (option_map of_head o) (reason_after_head d cs bs (head_of h))) ((head-otherwise h).1 (p, a)) ∙ ap (reason_after_head d cs bs) a

  head-clause-complete : (r : HeadTermReason) → IsHeadTermReason h r → parts_reason d h cs bs ≡ Some (of_head r)
  head-clause-complete r k = ap (λ o. option_or (option_map of_head o) (reason_after_head d cs bs (head_of h))) (head-complete h r k)

  condition-complete : (n : ℕ) (r : ExpressionReason) (p : Pattern) → head_of h ≡ Ok p → HasExpressionReason d in_condition p cs n r → parts_reason d h cs bs ≡ Some (of_condition n r)
  condition-complete n r p a k = behind-is p a ∙ ap (λ o. option_or (option_map (λ x. of_condition x.0 x.1) o) (of_bodies p)) (several-complete d in_condition p cs n r k)

  body-complete : (n : ℕ) (r : ExpressionReason) (p : Pattern) (es : Exprs) → head_of h ≡ Ok p → exprs_of d in_condition p cs ≡ Ok es → HasExpressionReason d in_body p bs n r → parts_reason d h cs bs ≡ Some (of_body n r)
  body-complete n r p es a b k =
      behind-is p a
      ∙ ap (λ o. option_or (option_map (λ x. of_condition x.0 x.1) o) (of_bodies p)) ((several-otherwise d in_condition p cs).1 (es, b))
      ∙ ap (option_map (λ x. of_body x.0 x.1)) (several-complete d in_body p bs n r k)

-- three elements, the second of which is no list, or the third
three-sound : (d : Dialect) (h c b : Tree) (r : ClauseReason) → three_reason d h c b ≡ Some r → IsClauseReason d (triple h c b) r
three-sound d h (list cs) (list bs) r e = parts-sound d h cs bs r e
three-sound d h (list cs) (int z) r e = subst (IsClauseReason d (triple h (list cs) (int z))) (is_so (of_shape (no_body (int z))) r e) (h, cs, refl, λ us k. cc k)
three-sound d h (list cs) (atom s) r e = subst (IsClauseReason d (triple h (list cs) (atom s))) (is_so (of_shape (no_body (atom s))) r e) (h, cs, refl, λ us k. cc k)
three-sound d h (list cs) (pid n) r e = subst (IsClauseReason d (triple h (list cs) (pid n))) (is_so (of_shape (no_body (pid n))) r e) (h, cs, refl, λ us k. cc k)
three-sound d h (list cs) (tuple ts) r e = subst (IsClauseReason d (triple h (list cs) (tuple ts))) (is_so (of_shape (no_body (tuple ts))) r e) (h, cs, refl, λ us k. cc k)
three-sound d h (int z) b r e = subst (IsClauseReason d (triple h (int z) b)) (is_so (of_shape (no_conditions (int z))) r e) (h, b, refl, λ us k. cc k)
three-sound d h (atom s) b r e = subst (IsClauseReason d (triple h (atom s) b)) (is_so (of_shape (no_conditions (atom s))) r e) (h, b, refl, λ us k. cc k)
three-sound d h (pid n) b r e = subst (IsClauseReason d (triple h (pid n) b)) (is_so (of_shape (no_conditions (pid n))) r e) (h, b, refl, λ us k. cc k)
three-sound d h (tuple ts) b r e = subst (IsClauseReason d (triple h (tuple ts) b)) (is_so (of_shape (no_conditions (tuple ts))) r e) (h, b, refl, λ us k. cc k)

-- of a tuple of another number of elements
count-sound : (d : Dialect) (ts : Trees) (r : ClauseReason) → count ts ≢ 3 → Some (of_shape (element_count (count ts))) ≡ Some r → IsClauseReason d (tuple ts) r
count-sound d ts r other e = subst (IsClauseReason d (tuple ts)) (is_so (of_shape (element_count (count ts))) r e) (ts, refl, refl, other)

more_than_three : (n : ℕ) → ((((n + 1) + 1) + 1) + 1) ≢ 3
more_than_three n e = omega arith

clause-sound : (d : Dialect) (t : Tree) (r : ClauseReason) → clause_reason d t ≡ Some r → IsClauseReason d t r
clause-sound d (int z) r e = subst (IsClauseReason d (int z)) (is_so (of_shape (no_tuple (int z))) r e) (refl, λ us k. cc k)
clause-sound d (atom s) r e = subst (IsClauseReason d (atom s)) (is_so (of_shape (no_tuple (atom s))) r e) (refl, λ us k. cc k)
clause-sound d (pid n) r e = subst (IsClauseReason d (pid n)) (is_so (of_shape (no_tuple (pid n))) r e) (refl, λ us k. cc k)
clause-sound d (list ts) r e = subst (IsClauseReason d (list ts)) (is_so (of_shape (no_tuple (list ts))) r e) (refl, λ us k. cc k)
clause-sound d (tuple none) r e = count-sound d none r (λ k. cc k) e
clause-sound d (tuple (more h none)) r e = count-sound d (more h none) r (λ k. cc k) e
clause-sound d (tuple (more h (more c none))) r e = count-sound d (more h (more c none)) r (λ k. cc k) e
clause-sound d (tuple (more h (more c (more b none)))) r e = three-sound d h c b r e
clause-sound d (tuple (more h (more c (more b (more x xs))))) r e = count-sound d (more h (more c (more b (more x xs)))) r (more_than_three (count xs)) e

no-tuple-complete : (d : Dialect) (t : Tree) → ((ts : Trees) → t ≢ tuple ts) → clause_reason d t ≡ Some (of_shape (no_tuple t))
no-tuple-complete d (int z) h = refl
no-tuple-complete d (atom s) h = refl
no-tuple-complete d (pid n) h = refl
no-tuple-complete d (tuple ts) h = absurd (h ts refl)
no-tuple-complete d (list ts) h = refl

count-complete : (d : Dialect) (ts : Trees) → count ts ≢ 3 → clause_reason d (tuple ts) ≡ Some (of_shape (element_count (count ts)))
count-complete d none h = refl
count-complete d (more a none) h = refl
count-complete d (more a (more b none)) h = refl
count-complete d (more a (more b (more c none))) h = absurd (h refl)
count-complete d (more a (more b (more c (more x xs)))) h = refl

no-conditions-complete : (d : Dialect) (h c b : Tree) → ((cs : Trees) → c ≢ list cs) → three_reason d h c b ≡ Some (of_shape (no_conditions c))
no-conditions-complete d h (int z) b k = refl
no-conditions-complete d h (atom s) b k = refl
no-conditions-complete d h (pid n) b k = refl
no-conditions-complete d h (tuple ts) b k = refl
no-conditions-complete d h (list ts) b k = absurd (k ts refl)

no-body-complete : (d : Dialect) (h : Tree) (cs : Trees) (b : Tree) → ((bs : Trees) → b ≢ list bs) → three_reason d h (list cs) b ≡ Some (of_shape (no_body b))
no-body-complete d h cs (int z) k = refl
no-body-complete d h cs (atom s) k = refl
no-body-complete d h cs (pid n) k = refl
no-body-complete d h cs (tuple ts) k = refl
no-body-complete d h cs (list ts) k = absurd (k ts refl)

clause-complete : (d : Dialect) (t : Tree) (r : ClauseReason) → IsClauseReason d t r → clause_reason d t ≡ Some r
clause-complete d t (of_shape (no_tuple u)) h = no-tuple-complete d t h.1 ∙ ap (λ x. Some (of_shape (no_tuple x))) (sym h.0)
clause-complete d t (of_shape (element_count n)) h =
    let other : count h.0 ≢ 3 = λ e. h.3 (sym h.2 ∙ e) in
    ap (clause_reason d) h.1 ∙ count-complete d h.0 other ∙ ap (λ m. Some (of_shape (element_count m))) h.2
clause-complete d t (of_shape (no_conditions c)) h = ap (clause_reason d) h.2 ∙ no-conditions-complete d h.0 c h.1 h.3
clause-complete d t (of_shape (no_body b)) h = ap (clause_reason d) h.2 ∙ no-body-complete d h.0 h.1 b h.3
clause-complete d t (of_head r) h = ap (clause_reason d) h.3 ∙ head-clause-complete d h.0 h.1 h.2 r h.4
clause-complete d t (of_condition n r) h = ap (clause_reason d) h.4 ∙ condition-complete d h.0 h.1 h.2 n r h.3 h.5 h.6
clause-complete d t (of_body n r) h = ap (clause_reason d) h.5 ∙ body-complete d h.0 h.1 h.2 n r h.3 h.4 h.6 h.7 h.8

clause-same : (d : Dialect) (t : Tree) (r : ClauseReason) → (clause_reason d t ≡ Some r) ↔ IsClauseReason d t r
clause-same d t r = (clause-sound d t r, clause-complete d t r)

clause-otherwise : (d : Dialect) (t : Tree) → (clause_reason d t ≡ None) ↔ IsClause d t
clause-otherwise d t = (
  λ h. ok_of (clause_of d t) (sym (clause-fault d t) ∙ ap (option_map clause_fault) h),
  λ h. map-none clause_fault (clause_reason d t) (clause-fault d t ∙ ap fault_read h.1),
)

-- ---- a specification

spec-sound : (d : Dialect) (t : Tree) (r : SpecReason) → spec_reason d t ≡ Some r → IsSpecReason d t r
spec-sound d (int z) r e = subst (IsSpecReason d (int z)) (is_so (no_clauses (int z)) r e) (refl, λ c cs k. cc k)
spec-sound d (atom s) r e = subst (IsSpecReason d (atom s)) (is_so (no_clauses (atom s)) r e) (refl, λ c cs k. cc k)
spec-sound d (pid n) r e = subst (IsSpecReason d (pid n)) (is_so (no_clauses (pid n)) r e) (refl, λ c cs k. cc k)
spec-sound d (tuple ts) r e = subst (IsSpecReason d (tuple ts)) (is_so (no_clauses (tuple ts)) r e) (refl, λ c cs k. cc k)
spec-sound d (list none) r e = subst (IsSpecReason d (list none)) (is_so (no_clauses (list none)) r e) (refl, λ c cs k. cc k)
spec-sound d (list (more t ts)) r e =
    let x : (y : ℕ × ClauseReason) × (reason_after (clause_reason d) 0 (more t ts) ≡ Some y) × (at_clause y.0 y.1 ≡ r) = map-some (λ y. at_clause y.0 y.1) (reason_after (clause_reason d) 0 (more t ts)) r e in
    subst (IsSpecReason d (list (more t ts))) x.2
    (more t ts, refl, at-sound (clause_reason d) (IsClause d) (IsClauseReason d) (clause-same d) (clause-otherwise d) (more t ts) x.0 x.1)

no-clauses-complete : (d : Dialect) (t : Tree) → ((c : Tree) (cs : Trees) → t ≢ list (more c cs)) → spec_reason d t ≡ Some (no_clauses t)
no-clauses-complete d (int z) h = refl
no-clauses-complete d (atom s) h = refl
no-clauses-complete d (pid n) h = refl
no-clauses-complete d (tuple ts) h = refl
no-clauses-complete d (list none) h = refl
no-clauses-complete d (list (more t ts)) h = absurd (h t ts refl)

at-clause-complete : (d : Dialect) (ts : Trees) (n : ℕ) (r : ClauseReason) → HasReasonAt (IsClause d) (IsClauseReason d) ts n r → spec_reason d (list ts) ≡ Some (at_clause n r)
at-clause-complete d none n r h = absurd h
at-clause-complete d (more t ts) n r h =
    ap (option_map (λ x. at_clause x.0 x.1)) (at-complete (clause_reason d) (IsClause d) (IsClauseReason d) (clause-same d) (clause-otherwise d) (more t ts) n r h)

spec-complete : (d : Dialect) (t : Tree) (r : SpecReason) → IsSpecReason d t r → spec_reason d t ≡ Some r
spec-complete d t (no_clauses u) h = no-clauses-complete d t h.1 ∙ ap (λ x. Some (no_clauses x)) (sym h.0)
spec-complete d t (at_clause n r) h = ap (spec_reason d) h.1 ∙ at-clause-complete d h.0 n r h.2

pub spec_reason_is_computed : SpecReasonIsComputed
spec_reason_is_computed d t r = (spec-sound d t r, spec-complete d t r)
