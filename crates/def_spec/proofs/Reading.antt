-- What is read is sound, and the first fault is answered.
use Rattle.std.proofs.Common.{◌≡◌, ℕ, suc, ◌+◌, ◌==◌, nat_le, Bool, true, false, ◌&&◌, List, [], ◌∷◌, Option, Some, None, refl, sym, ap, ◌∙◌, subst, if◌then◌else◌, arith, eqb-true}
use Rattle.std.specs.Prelude.{Ok, Err, codes, length}
use Rattle.std.proofs.lemmas.Bool.{le-leb}
use Rattle.std.specs.Str.{bytes_eq}
use Rattle.std.proofs.lemmas.Slice.Eq.{bytes_eq-Decides}
use Rattle.std.proofs.lemmas.Bool.{and_parts}
use Rattle.def_term.specs.Tree.{Tree, int, atom, pid, tuple, list, Trees, none, more, count}
use Rattle.def_term.specs.Names.{Name}
use Rattle.def_term.specs.Text.{is_among}
use Rattle.def_spec.specs.Matching.{Pattern, occurs}
use Rattle.def_spec.specs.Expressions.{Dialect, Expr, bound_to, whole_list, all_bound, constant, tuple_of, list_of, Exprs, no_exprs, and_expr, Position, in_condition, in_body}
use Rattle.def_spec.specs.Outcome.{Clause, Spec}
use Rattle.def_spec.specs.Reading.{SpecFault, badarg, unsupported, Reads, then_read, AtomKind, a_variable, a_wrong_variable, a_plain_atom, atom_kind, Callee, a_function, an_and_also, an_or_else, an_action, Row, table, unsupported_names, found_in, is_allowed, is_at_most, takes, called_of, named_call, call_of, atom_expr_of_kind, is_constant, only_element, expr_of, exprs_of, head_of, clause_of_parts, clause_of, clauses_of, spec_of}
use Rattle.def_spec.specs.Laws.{IsCovered, AreCovered, count_of, numbers_of, IsAllowed, IsFitting, AllCallsFit, CallsOfAllFit, IsSoundClause, AreSoundClauses, IsSound, ReadSpecsAreSound, trees_before, AreRead, FirstFaultyClause, HeadFaultFirst, ConditionFaultNext, BodyFaultLast, FirstFaultyExpression, UnsupportedFirst}

pub then_ok : {X Y : Type 0} (r : Reads X) (f : X → Reads Y) (y : Y) → then_read r f ≡ Ok y → (x : X) × (r ≡ Ok x) × (f x ≡ Ok y)
then_ok (Ok x) f y h = (x, refl, h)
then_ok (Err e) f y h = cc

abbrev pub read : {X : Type 0} → X → Reads X
read x = Ok x

pub ok_is : {X : Type 0} (x y : X) → read x ≡ read y → x ≡ y
ok_is x y h = cc

-- ---- the table

abbrev same_most : Option ℕ → Option ℕ → Bool
same_most None None = true
same_most None (Some m) = false
same_most (Some n) None = false
same_most (Some n) (Some m) = n == m

most_is : (o p : Option ℕ) → same_most o p ≡ true → o ≡ p
most_is None None h = refl
most_is None (Some m) h = cc
most_is (Some n) None h = cc
most_is (Some n) (Some m) h = ap Some (eqb-true n m h)

-- each row has the numbers of arguments of what it calls
abbrev is_right : Row → Bool
is_right r = (r.least == (numbers_of r.called).0) && same_most r.most (numbers_of r.called).1

abbrev are_right : List Row → Bool
are_right [] = true
are_right (r ∷ rs) = is_right r && are_right rs

table_right : are_right table ≡ true
table_right = refl

found_right : (rs : List Row) (s : Name) (r : Row) → are_right rs ≡ true → found_in rs s ≡ Some r → is_right r ≡ true
found_right [] s r h e = cc
found_right (q ∷ qs) s r h e = go (bytes_eq q.name s) (and_parts (is_right q) (are_right qs) h) (found_right qs s r) e
  where
    go : (b : Bool) → (is_right q ≡ true) × (are_right qs ≡ true) → (are_right qs ≡ true → found_in qs s ≡ Some r → is_right r ≡ true) → (if b then Some q else found_in qs s) ≡ Some r → is_right r ≡ true
    go true g k f = let same : q ≡ r = cc in subst (λ x. is_right x ≡ true) same g.0
    go false g k f = k g.1 f

allowed_is : (d : Dialect) (part : Position) (f : Callee) → is_allowed d part f ≡ true → IsAllowed d part f
allowed_is d in_condition (an_action a) h = cc
allowed_is d in_body (an_action a) h = h
allowed_is d part (a_function f) h = tt
allowed_is d part an_and_also h = tt
allowed_is d part an_or_else h = tt

module _ (d : Dialect) (part : Position) where
  row_fits : (r : Row) (n : ℕ) (f : Callee) → is_right r ≡ true → called_of d part n (Some r) ≡ Ok f → IsFitting d part f n
  row_fits r n f right h = go (takes r n && is_allowed d part r.called) refl h
    where
      numbers : (r.least ≡ (numbers_of r.called).0) × (r.most ≡ (numbers_of r.called).1)
      numbers =
          let q : ((r.least == (numbers_of r.called).0) ≡ true) × (same_most r.most (numbers_of r.called).1 ≡ true) = and_parts _ _ right in
          (eqb-true _ _ q.0, most_is _ _ q.1)

      go : (b : Bool) → (takes r n && is_allowed d part r.called) ≡ b → (if b then Ok r.called else Err badarg) ≡ Ok f → IsFitting d part f n
      go true e g =
          let taken : (takes r n ≡ true) × (is_allowed d part r.called ≡ true) = and_parts _ _ e in
          let within : (nat_le r.least n ≡ true) × (is_at_most r.most n ≡ true) = and_parts _ _ taken.0 in
          subst (λ x. IsFitting d part x n) (ok_is r.called f g) (record {
            least = subst (λ m. nat_le m n ≡ true) numbers.0 within.0;
            most = subst (λ m. is_at_most m n ≡ true) numbers.1 within.1;
            allowed = allowed_is d part r.called taken.1;
          })
      go false e g = cc

  named_fits : (s : Name) (n : ℕ) (f : Callee) → named_call d part s n ≡ Ok f → IsFitting d part f n
  named_fits s n f h = go (is_among unsupported_names s) h
    where
      found : (o : Option Row) → found_in table s ≡ o → called_of d part n o ≡ Ok f → IsFitting d part f n
      found None e g = cc
      found (Some r) e g = row_fits r n f (found_right table s r table_right e) g

      go : (b : Bool) → (if b then Err (unsupported s) else called_of d part n (found_in table s)) ≡ Ok f → IsFitting d part f n
      go true g = cc
      go false g = found (found_in table s) refl g

-- ---- expressions

module _ (d : Dialect) (part : Position) (head : Pattern) where
  abbrev Good : Expr → Type 0
  Good e = IsCovered head e × AllCallsFit d part e

  abbrev AllGood : ℕ → Exprs → Type 0
  AllGood n es = AreCovered head es × CallsOfAllFit d part es × (count_of es ≡ n)

  variable_good : (n : ℕ) (e : Expr) (b : Bool) → occurs n head ≡ b → (if b then Ok (bound_to n) else Err badarg) ≡ Ok e → Good e
  variable_good n e true o h = subst Good (ok_is (bound_to n) e h) (o, tt)
  variable_good n e false o h = cc

  plain_good : (s : Name) (e : Expr) (a b : Bool) → read (if a then whole_list else if b then all_bound else constant (atom s)) ≡ Ok e → Good e
  plain_good s e true b h = subst Good (ok_is whole_list e h) (tt, tt)
  plain_good s e false true h = subst Good (ok_is all_bound e h) (tt, tt)
  plain_good s e false false h = subst Good (ok_is (constant (atom s)) e h) (tt, tt)

  atom_good : (s : Name) (k : AtomKind) (e : Expr) → atom_expr_of_kind head s k ≡ Ok e → Good e
  atom_good s (a_variable n) e h = variable_good n e (occurs n head) refl h
  atom_good s a_wrong_variable e h = cc
  atom_good s a_plain_atom e h = plain_good s e (bytes_eq s (codes "$_")) (bytes_eq s (codes "$$")) h

  call_good : (f : Callee) (es : Exprs) → IsFitting d part f (count_of es) → AreCovered head es → CallsOfAllFit d part es → Good (call_of f es)
  call_good (a_function f) es h c g = (c, (h, g))
  call_good an_and_also es h c g = (c, (h, g))
  call_good an_or_else es h c g = (c, (h, g))
  call_good (an_action a) es h c g = (c, (h, g))

  tuple_good : (s : Name) (ts : Trees) (e : Expr) (b : Bool) → ((es : Exprs) → exprs_of d part head ts ≡ Ok es → AllGood (count ts) es)
      → (if b then Ok (constant (only_element ts)) else then_read (named_call d part s (count ts)) (λ f. then_read (exprs_of d part head ts) (λ es. Ok (call_of f es)))) ≡ Ok e → Good e
  tuple_good s ts e true ih h = subst Good (ok_is (constant (only_element ts)) e h) (tt, tt)
  tuple_good s ts e false ih h =
      let r : (f : Callee) × (named_call d part s (count ts) ≡ Ok f) × (then_read (exprs_of d part head ts) (λ es. Ok (call_of f es)) ≡ Ok e) = then_ok _ _ e h in
      let q : (es : Exprs) × (exprs_of d part head ts ≡ Ok es) × (read (call_of r.0 es) ≡ Ok e) = then_ok _ _ e r.2 in
      let g : AllGood (count ts) q.0 = ih q.0 q.1 in
      subst Good (ok_is (call_of r.0 q.0) e q.2) (call_good r.0 q.0 (subst (λ n. IsFitting d part r.0 n) (sym g.2) (named_fits d part s (count ts) r.0 r.1)) g.0 g.1)

  mutual
    good_of : (t : Tree) (e : Expr) → expr_of d part head t ≡ Ok e → Good e
    good_of (int z) e h = subst Good (ok_is (constant (int z)) e h) (tt, tt)
    good_of (atom s) e h = atom_good s (atom_kind s) e h
    good_of (pid n) e h = subst Good (ok_is (constant (pid n)) e h) (tt, tt)
    good_of (list ts) e h =
        let q : (es : Exprs) × (exprs_of d part head ts ≡ Ok es) × (read (list_of es) ≡ Ok e) = then_ok _ _ e h in
        let g : AllGood (count ts) q.0 = all_good ts q.0 q.1 in
        subst Good (ok_is (list_of q.0) e q.2) (g.0, g.1)
    good_of (tuple (more (tuple ts) none)) e h =
        let q : (es : Exprs) × (exprs_of d part head ts ≡ Ok es) × (read (tuple_of es) ≡ Ok e) = then_ok _ _ e h in
        let g : AllGood (count ts) q.0 = all_good ts q.0 q.1 in
        subst Good (ok_is (tuple_of q.0) e q.2) (g.0, g.1)
    good_of (tuple (more (atom s) ts)) e h = tuple_good s ts e (is_constant s ts) (λ es k. all_good ts es k) h
    good_of (tuple _) e h = cc

    all_good : (ts : Trees) (es : Exprs) → exprs_of d part head ts ≡ Ok es → AllGood (count ts) es
    all_good none es h = subst (AllGood 0) (ok_is no_exprs es h) (tt, tt, refl)
    all_good (more t ts) es h =
        let r : (e : Expr) × (expr_of d part head t ≡ Ok e) × (then_read (exprs_of d part head ts) (λ us. Ok (and_expr e us)) ≡ Ok es) = then_ok _ _ es h in
        let q : (us : Exprs) × (exprs_of d part head ts ≡ Ok us) × (read (and_expr r.0 us) ≡ Ok es) = then_ok _ _ es r.2 in
        let g : Good r.0 = good_of t r.0 r.1 in
        let gs : AllGood (count ts) q.0 = all_good ts q.0 q.1 in
        let counted : suc (count_of q.0) ≡ count ts + 1 = (let e : count_of q.0 ≡ count ts = gs.2 in omega arith) in
        subst (AllGood (count ts + 1)) (ok_is (and_expr r.0 q.0) es q.2) ((g.0, gs.0), (g.1, gs.1), counted)

-- ---- clauses

module _ (d : Dialect) where
  parts_sound : (h : Tree) (cs bs : Trees) (k : Clause) → clause_of_parts d h cs bs ≡ Ok k → IsSoundClause d k
  parts_sound h cs bs k e =
      let p : (head : Pattern) × (head_of h ≡ Ok head) × (then_read (exprs_of d in_condition head cs) (λ conditions. then_read (exprs_of d in_body head bs) (λ body. Ok (record { head = head; conditions = conditions; body = body }))) ≡ Ok k) = then_ok _ _ k e in
      let c : (es : Exprs) × (exprs_of d in_condition p.0 cs ≡ Ok es) × (then_read (exprs_of d in_body p.0 bs) (λ body. Ok (record { head = p.0; conditions = es; body = body })) ≡ Ok k) = then_ok _ _ k p.2 in
      let b : (es : Exprs) × (exprs_of d in_body p.0 bs ≡ Ok es) × (read (record { head = p.0; conditions = c.0; body = es }) ≡ Ok k) = then_ok _ _ k c.2 in
      let gc : AllGood d in_condition p.0 (count cs) c.0 = all_good d in_condition p.0 cs c.0 c.1 in
      let gb : AllGood d in_body p.0 (count bs) b.0 = all_good d in_body p.0 bs b.0 b.1 in
      subst (IsSoundClause d) (ok_is (record { head = p.0; conditions = c.0; body = b.0 }) k b.2) (record { conditions_covered = gc.0; conditions_fit = gc.1; body_covered = gb.0; body_fits = gb.1 })

  clause_sound : (t : Tree) (k : Clause) → clause_of d t ≡ Ok k → IsSoundClause d k
  clause_sound (tuple (more h (more (list cs) (more (list bs) none)))) k e = parts_sound h cs bs k e
  clause_sound _ k e = cc

  clauses_sound : (ts : Trees) (ks : List Clause) → clauses_of d ts ≡ Ok ks → AreSoundClauses d ks × (length ks ≡ count ts)
  clauses_sound none ks h = subst (λ x. AreSoundClauses d x × (length x ≡ 0)) (ok_is [] ks h) (tt, refl)
  clauses_sound (more t ts) ks h =
      let r : (k : Clause) × (clause_of d t ≡ Ok k) × (then_read (clauses_of d ts) (λ js. Ok (k ∷ js)) ≡ Ok ks) = then_ok _ _ ks h in
      let q : (js : List Clause) × (clauses_of d ts ≡ Ok js) × (read (r.0 ∷ js) ≡ Ok ks) = then_ok _ _ ks r.2 in
      let rest : AreSoundClauses d q.0 × (length q.0 ≡ count ts) = clauses_sound ts q.0 q.1 in
      let counted : length (r.0 ∷ q.0) ≡ count ts + 1 = (let e : length q.0 ≡ count ts = rest.1 in omega arith) in
      subst (λ x. AreSoundClauses d x × (length x ≡ count ts + 1)) (ok_is (r.0 ∷ q.0) ks q.2) ((clause_sound t r.0 r.1, rest.0), counted)

  nonempty_clauses : (n m : ℕ) → n ≡ m + 1 → nat_le 1 n ≡ true
  nonempty_clauses n m h = le-leb 1 n (omega arith)

  spec_sound : (t : Tree) (s : Spec) → spec_of d t ≡ Ok s → IsSound d s
  spec_sound (list (more t ts)) s h =
      let r : (ks : List Clause) × (clauses_of d (more t ts) ≡ Ok ks) × (read (record { dialect = d; clauses = ks }) ≡ Ok s) = then_ok _ _ s h in
      let g : AreSoundClauses d r.0 × (length r.0 ≡ count ts + 1) = clauses_sound (more t ts) r.0 r.1 in
      subst (IsSound d) (ok_is (record { dialect = d; clauses = r.0 }) s r.2) (record { dialect = refl; nonempty = nonempty_clauses (length r.0) (count ts) g.1; clauses = g.0 })
  spec_sound _ s h = cc

pub read_specs_are_sound : ReadSpecsAreSound
read_specs_are_sound d t s h = spec_sound d t s h

-- ---- the first fault

clauses_fault : (d : Dialect) (before : List Tree) (t : Tree) (after : Trees) (e : SpecFault) → AreRead d before → clause_of d t ≡ Err e → clauses_of d (trees_before before (more t after)) ≡ Err e
clauses_fault d [] t after e h f = ap (λ r. then_read r (λ k. then_read (clauses_of d after) (λ ks. Ok (k ∷ ks)))) f
clauses_fault d (u ∷ us) t after e h f =
    ap (λ r. then_read r (λ k. then_read (clauses_of d (trees_before us (more t after))) (λ ks. Ok (k ∷ ks)))) h.0.1
    ∙ ap (λ r. then_read r (λ ks. Ok (h.0.0 ∷ ks))) (clauses_fault d us t after e h.1 f)

pub first_faulty_clause : FirstFaultyClause
first_faulty_clause d [] t after e h f = ap (λ r. then_read r (λ ks. Ok (record { dialect = d; clauses = ks }))) (clauses_fault d [] t after e h f)
first_faulty_clause d (u ∷ us) t after e h f = ap (λ r. then_read r (λ ks. Ok (record { dialect = d; clauses = ks }))) (clauses_fault d (u ∷ us) t after e h f)

abbrev after_conditions : Dialect → Trees → Pattern → Reads Exprs → Reads Clause
after_conditions d bs head r = then_read r (λ conditions. then_read (exprs_of d in_body head bs) (λ body. Ok (record { head = head; conditions = conditions; body = body })))

abbrev after_head : Dialect → Trees → Trees → Reads Pattern → Reads Clause
after_head d cs bs r = then_read r (λ head. after_conditions d bs head (exprs_of d in_condition head cs))

pub head_fault_first : HeadFaultFirst
head_fault_first d h cs bs e f = ap (after_head d cs bs) f

pub condition_fault_next : ConditionFaultNext
condition_fault_next d h p cs bs e f g = ap (after_head d cs bs) f ∙ ap (after_conditions d bs p) g

pub body_fault_last : BodyFaultLast
body_fault_last d h p cs bs es e f g k =
    ap (after_head d cs bs) f ∙ ap (after_conditions d bs p) g ∙ ap (λ r. then_read r (λ body. Ok (record { head = p; conditions = es; body = body }))) k

pub first_faulty_expression : FirstFaultyExpression
first_faulty_expression d part p t ts e f = ap (λ r. then_read r (λ x. then_read (exprs_of d part p ts) (λ xs. Ok (and_expr x xs)))) f

-- `const` is no unsupported name
never_const : (s : Name) (b : Bool) → bytes_eq s (codes "const") ≡ b → is_among unsupported_names s ≡ true → b ≡ false
never_const s false e h = refl
never_const s true e h =
    let same : s ≡ codes "const" = (bytes_eq-Decides s (codes "const")).0 e in
    let no : is_among unsupported_names (codes "const") ≡ true = subst (λ x. is_among unsupported_names x ≡ true) same h in
    cc

pub unsupported_first : UnsupportedFirst
unsupported_first d part p s ts h =
    ap (λ b. if b && (count ts == 1) then Ok (constant (only_element ts)) else then_read (named_call d part s (count ts)) (λ f. then_read (exprs_of d part p ts) (λ es. Ok (call_of f es)))) (never_const s (bytes_eq s (codes "const")) refl h)
    ∙ ap (λ b. then_read (if b then Err (unsupported s) else called_of d part (count ts) (found_in table s)) (λ f. then_read (exprs_of d part p ts) (λ es. Ok (call_of f es)))) h
