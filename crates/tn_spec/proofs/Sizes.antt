-- A specification is no larger than the term that it is read from.
use Rattle.std.proofs.Common.{◌≡◌, refl, subst, ℕ, ◌+◌, ◌≤◌, ◌<◌, min, Bool, true, false, if◌then◌else◌, List, [], ◌∷◌, arith}
use Rattle.std.specs.Prelude.{Ok, Err, codes}
use Rattle.std.specs.Str.{bytes_eq}
use Rattle.def_term.specs.Tree.{Tree, int, atom, pid, tuple, list, Trees, none, more, count, size, sum_of_sizes}
use Rattle.def_term.specs.Names.{Name}
use Rattle.def_spec.specs.Matching.{Pattern, variable, anything, only_term, in_tuple, in_list, Patterns, no_patterns, and_pattern, occurs}
use Rattle.def_spec.specs.Expressions.{Dialect, Expr, bound_to, whole_list, all_bound, constant, tuple_of, list_of, Exprs, no_exprs, and_expr, Position, in_condition, in_body}
use Rattle.def_spec.specs.Outcome.{Clause, Spec}
use Rattle.def_spec.specs.Reading.{badarg, then_read, AtomKind, a_variable, a_wrong_variable, a_plain_atom, atom_kind, Callee, a_function, an_and_also, an_or_else, an_action, named_call, call_of, atom_expr_of_kind, is_constant, only_element, expr_of, exprs_of, pattern_of_kind, pattern_of, patterns_of, head_of_kind, head_of, is_wildcard, clause_of_parts, clause_of, clauses_of, spec_of}
use Rattle.def_spec.proofs.Reading.{then_ok, read, ok_is}
use Rattle.tn_spec.specs.Sizes.{pattern_size, patterns_size, expr_size, exprs_size, clause_size, clauses_size, spec_size}

-- ---- heads

kind_small : (s : Name) (k : AtomKind) (p : Pattern) → pattern_of_kind s k ≡ Ok p → pattern_size p ≤ 1
kind_small s (a_variable n) p h = subst (λ q. pattern_size q ≤ 1) (ok_is (variable n) p h) (omega arith)
kind_small s a_wrong_variable p h = cc
kind_small s a_plain_atom p h = go (is_wildcard s) h
  where
    go : (b : Bool) → read (if b then anything else only_term (atom s)) ≡ Ok p → pattern_size p ≤ 1
    go true g = subst (λ q. pattern_size q ≤ 1) (ok_is anything p g) (omega arith)
    go false g = subst (λ q. pattern_size q ≤ 1) (ok_is (only_term (atom s)) p g) (omega arith)

mutual
  pattern_small : (t : Tree) (p : Pattern) → pattern_of t ≡ Ok p → pattern_size p ≤ size t
  pattern_small (int z) p h = subst (λ q. pattern_size q ≤ 1) (ok_is (only_term (int z)) p h) (omega arith)
  pattern_small (atom s) p h = kind_small s (atom_kind s) p h
  pattern_small (pid n) p h = subst (λ q. pattern_size q ≤ 1) (ok_is (only_term (pid n)) p h) (omega arith)
  pattern_small (tuple ts) p h =
      let q : (ps : Patterns) × (patterns_of ts ≡ Ok ps) × (read (in_tuple ps) ≡ Ok p) = then_ok _ _ p h in
      let within : patterns_size q.0 ≤ sum_of_sizes ts = patterns_small ts q.0 q.1 in
      subst (λ r. pattern_size r ≤ 1 + sum_of_sizes ts) (ok_is (in_tuple q.0) p q.2) (omega (arith, within))
  pattern_small (list ts) p h =
      let q : (ps : Patterns) × (patterns_of ts ≡ Ok ps) × (read (in_list ps) ≡ Ok p) = then_ok _ _ p h in
      let within : patterns_size q.0 ≤ sum_of_sizes ts = patterns_small ts q.0 q.1 in
      subst (λ r. pattern_size r ≤ 1 + sum_of_sizes ts) (ok_is (in_list q.0) p q.2) (omega (arith, within))

  patterns_small : (ts : Trees) (ps : Patterns) → patterns_of ts ≡ Ok ps → patterns_size ps ≤ sum_of_sizes ts
  patterns_small none ps h = subst (λ q. patterns_size q ≤ 0) (ok_is no_patterns ps h) (omega arith)
  patterns_small (more t ts) ps h =
      let r : (p : Pattern) × (pattern_of t ≡ Ok p) × (then_read (patterns_of ts) (λ qs. Ok (and_pattern p qs)) ≡ Ok ps) = then_ok _ _ ps h in
      let q : (qs : Patterns) × (patterns_of ts ≡ Ok qs) × (read (and_pattern r.0 qs) ≡ Ok ps) = then_ok _ _ ps r.2 in
      let first : pattern_size r.0 ≤ size t = pattern_small t r.0 r.1 in
      let others : patterns_size q.0 ≤ sum_of_sizes ts = patterns_small ts q.0 q.1 in
      subst (λ x. patterns_size x ≤ size t + sum_of_sizes ts) (ok_is (and_pattern r.0 q.0) ps q.2) (omega (arith, first, others))

head_kind_small : (s : Name) (k : AtomKind) (p : Pattern) → head_of_kind s k ≡ Ok p → pattern_size p ≤ 1
head_kind_small s (a_variable n) p h = subst (λ q. pattern_size q ≤ 1) (ok_is (variable n) p h) (omega arith)
head_kind_small s a_wrong_variable p h = cc
head_kind_small s a_plain_atom p h = go (is_wildcard s) h
  where
    go : (b : Bool) → (if b then Ok anything else Err badarg) ≡ Ok p → pattern_size p ≤ 1
    go true g = subst (λ q. pattern_size q ≤ 1) (ok_is anything p g) (omega arith)
    go false g = cc

head_small : (t : Tree) (p : Pattern) → head_of t ≡ Ok p → pattern_size p ≤ size t
head_small (atom s) p h = head_kind_small s (atom_kind s) p h
head_small (list ts) p h = pattern_small (list ts) p h
head_small (int z) p h = cc
head_small (pid n) p h = cc
head_small (tuple ts) p h = cc

-- ---- expressions

call_size : (f : Callee) (es : Exprs) → expr_size (call_of f es) ≡ 1 + exprs_size es
call_size (a_function f) es = refl
call_size an_and_also es = refl
call_size an_or_else es = refl
call_size (an_action a) es = refl

module _ (d : Dialect) (part : Position) (head : Pattern) where
  variable_small : (n : ℕ) (e : Expr) (b : Bool) → (if b then Ok (bound_to n) else Err badarg) ≡ Ok e → expr_size e ≤ 1
  variable_small n e true h = subst (λ x. expr_size x ≤ 1) (ok_is (bound_to n) e h) (omega arith)
  variable_small n e false h = cc

  plain_small : (s : Name) (e : Expr) (a b : Bool) → read (if a then whole_list else if b then all_bound else constant (atom s)) ≡ Ok e → expr_size e ≤ 1
  plain_small s e true b h = subst (λ x. expr_size x ≤ 1) (ok_is whole_list e h) (omega arith)
  plain_small s e false true h = subst (λ x. expr_size x ≤ 1) (ok_is all_bound e h) (omega arith)
  plain_small s e false false h = subst (λ x. expr_size x ≤ 1) (ok_is (constant (atom s)) e h) (omega arith)

  atom_small : (s : Name) (k : AtomKind) (e : Expr) → atom_expr_of_kind head s k ≡ Ok e → expr_size e ≤ 1
  atom_small s (a_variable n) e h = variable_small n e (occurs n head) h
  atom_small s a_wrong_variable e h = cc
  atom_small s a_plain_atom e h = plain_small s e (bytes_eq s (codes "$_")) (bytes_eq s (codes "$$")) h

  tuple_small : (s : Name) (ts : Trees) (e : Expr) (b : Bool) → ((es : Exprs) → exprs_of d part head ts ≡ Ok es → exprs_size es ≤ sum_of_sizes ts)
      → (if b then Ok (constant (only_element ts)) else then_read (named_call d part s (count ts)) (λ f. then_read (exprs_of d part head ts) (λ es. Ok (call_of f es)))) ≡ Ok e → expr_size e ≤ 1 + (1 + sum_of_sizes ts)
  tuple_small s ts e true ih h = subst (λ x. expr_size x ≤ 1 + (1 + sum_of_sizes ts)) (ok_is (constant (only_element ts)) e h) (omega arith)
  tuple_small s ts e false ih h =
      let r : (f : Callee) × (named_call d part s (count ts) ≡ Ok f) × (then_read (exprs_of d part head ts) (λ es. Ok (call_of f es)) ≡ Ok e) = then_ok _ _ e h in
      let q : (es : Exprs) × (exprs_of d part head ts ≡ Ok es) × (read (call_of r.0 es) ≡ Ok e) = then_ok _ _ e r.2 in
      let within : exprs_size q.0 ≤ sum_of_sizes ts = ih q.0 q.1 in
      let counted : expr_size (call_of r.0 q.0) ≡ 1 + exprs_size q.0 = call_size r.0 q.0 in
      subst (λ x. expr_size x ≤ 1 + (1 + sum_of_sizes ts)) (ok_is (call_of r.0 q.0) e q.2) (omega (arith, within, counted))

  mutual
    expr_small : (t : Tree) (e : Expr) → expr_of d part head t ≡ Ok e → expr_size e ≤ size t
    expr_small (int z) e h = subst (λ x. expr_size x ≤ 1) (ok_is (constant (int z)) e h) (omega arith)
    expr_small (atom s) e h = atom_small s (atom_kind s) e h
    expr_small (pid n) e h = subst (λ x. expr_size x ≤ 1) (ok_is (constant (pid n)) e h) (omega arith)
    expr_small (list ts) e h =
        let q : (es : Exprs) × (exprs_of d part head ts ≡ Ok es) × (read (list_of es) ≡ Ok e) = then_ok _ _ e h in
        let within : exprs_size q.0 ≤ sum_of_sizes ts = exprs_small ts q.0 q.1 in
        subst (λ x. expr_size x ≤ 1 + sum_of_sizes ts) (ok_is (list_of q.0) e q.2) (omega (arith, within))
    expr_small (tuple (more (tuple ts) none)) e h =
        let q : (es : Exprs) × (exprs_of d part head ts ≡ Ok es) × (read (tuple_of es) ≡ Ok e) = then_ok _ _ e h in
        let within : exprs_size q.0 ≤ sum_of_sizes ts = exprs_small ts q.0 q.1 in
        subst (λ x. expr_size x ≤ 1 + ((1 + sum_of_sizes ts) + 0)) (ok_is (tuple_of q.0) e q.2) (omega (arith, within))
    expr_small (tuple (more (atom s) ts)) e h = tuple_small s ts e (is_constant s ts) (λ es k. exprs_small ts es k) h
    expr_small (tuple _) e h = cc

    exprs_small : (ts : Trees) (es : Exprs) → exprs_of d part head ts ≡ Ok es → exprs_size es ≤ sum_of_sizes ts
    exprs_small none es h = subst (λ x. exprs_size x ≤ 0) (ok_is no_exprs es h) (omega arith)
    exprs_small (more t ts) es h =
        let r : (e : Expr) × (expr_of d part head t ≡ Ok e) × (then_read (exprs_of d part head ts) (λ us. Ok (and_expr e us)) ≡ Ok es) = then_ok _ _ es h in
        let q : (us : Exprs) × (exprs_of d part head ts ≡ Ok us) × (read (and_expr r.0 us) ≡ Ok es) = then_ok _ _ es r.2 in
        let first : expr_size r.0 ≤ size t = expr_small t r.0 r.1 in
        let others : exprs_size q.0 ≤ sum_of_sizes ts = exprs_small ts q.0 q.1 in
        subst (λ x. exprs_size x ≤ size t + sum_of_sizes ts) (ok_is (and_expr r.0 q.0) es q.2) (omega (arith, first, others))

-- ---- clauses

module _ (d : Dialect) where
  parts_small : (h : Tree) (cs bs : Trees) (k : Clause) → clause_of_parts d h cs bs ≡ Ok k → clause_size k ≤ size h + (sum_of_sizes cs + sum_of_sizes bs)
  parts_small h cs bs k e =
      let p : (head : Pattern) × (head_of h ≡ Ok head) × (then_read (exprs_of d in_condition head cs) (λ conditions. then_read (exprs_of d in_body head bs) (λ body. Ok (record { head = head; conditions = conditions; body = body }))) ≡ Ok k) = then_ok _ _ k e in
      let c : (es : Exprs) × (exprs_of d in_condition p.0 cs ≡ Ok es) × (then_read (exprs_of d in_body p.0 bs) (λ body. Ok (record { head = p.0; conditions = es; body = body })) ≡ Ok k) = then_ok _ _ k p.2 in
      let b : (es : Exprs) × (exprs_of d in_body p.0 bs ≡ Ok es) × (read (record { head = p.0; conditions = c.0; body = es }) ≡ Ok k) = then_ok _ _ k c.2 in
      let of_head : pattern_size p.0 ≤ size h = head_small h p.0 p.1 in
      let of_conditions : exprs_size c.0 ≤ sum_of_sizes cs = exprs_small d in_condition p.0 cs c.0 c.1 in
      let of_body : exprs_size b.0 ≤ sum_of_sizes bs = exprs_small d in_body p.0 bs b.0 b.1 in
      subst (λ x. clause_size x ≤ size h + (sum_of_sizes cs + sum_of_sizes bs)) (ok_is (record { head = p.0; conditions = c.0; body = b.0 }) k b.2) (omega (arith, of_head, of_conditions, of_body))

  clause_small : (t : Tree) (k : Clause) → clause_of d t ≡ Ok k → clause_size k ≤ size t
  clause_small (tuple (more h (more (list cs) (more (list bs) none)))) k e =
      let within : clause_size k ≤ size h + (sum_of_sizes cs + sum_of_sizes bs) = parts_small h cs bs k e in
      omega (arith, within)
  clause_small _ k e = cc

  clauses_small : (ts : Trees) (ks : List Clause) → clauses_of d ts ≡ Ok ks → clauses_size ks ≤ sum_of_sizes ts
  clauses_small none ks h = subst (λ x. clauses_size x ≤ 0) (ok_is [] ks h) (omega arith)
  clauses_small (more t ts) ks h =
      let r : (k : Clause) × (clause_of d t ≡ Ok k) × (then_read (clauses_of d ts) (λ js. Ok (k ∷ js)) ≡ Ok ks) = then_ok _ _ ks h in
      let q : (js : List Clause) × (clauses_of d ts ≡ Ok js) × (read (r.0 ∷ js) ≡ Ok ks) = then_ok _ _ ks r.2 in
      let first : clause_size r.0 ≤ size t = clause_small t r.0 r.1 in
      let others : clauses_size q.0 ≤ sum_of_sizes ts = clauses_small ts q.0 q.1 in
      subst (λ x. clauses_size x ≤ size t + sum_of_sizes ts) (ok_is (r.0 ∷ q.0) ks q.2) (omega (arith, first, others))

  pub spec_small : (t : Tree) (s : Spec) → spec_of d t ≡ Ok s → spec_size s ≤ size t
  spec_small (list (more t ts)) s h =
      let r : (ks : List Clause) × (clauses_of d (more t ts) ≡ Ok ks) × (read (record { dialect = d; clauses = ks }) ≡ Ok s) = then_ok _ _ s h in
      let within : clauses_size r.0 ≤ size t + sum_of_sizes ts = clauses_small (more t ts) r.0 r.1 in
      subst (λ x. spec_size x ≤ 1 + (size t + sum_of_sizes ts)) (ok_is (record { dialect = d; clauses = r.0 }) s r.2) (omega (arith, within))
  spec_small _ s h = cc

-- a size that was found to be small enough
pub few : (n size found : ℕ) → found ≡ min size 18446744073709551615 → found ≤ 4294967295 → n ≤ size → n < 4294967296
few n size found is small within = omega (arith, is, small, within)
