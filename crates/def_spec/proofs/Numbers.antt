-- Variables that are read have numbers from 0 to 999.
use Rattle.std.proofs.Common.{◌≡◌, ℕ, ◌-◌, ◌≤◌, ◌==◌, Bool, true, false, not, ◌||◌, nat_le, List, [], ◌∷◌, refl, subst, if◌then◌else◌, arith, eqb-true}
use Rattle.std.specs.Prelude.{Ok, Err, length}
use Rattle.std.specs.Bool.{⊤}
use Rattle.std.proofs.lemmas.Bool.{leb-true}
use Rattle.def_term.specs.Tree.{Tree, int, atom, pid, tuple, list, Trees, none, more}
use Rattle.def_term.specs.Text.{is_digit, number_after}
use Rattle.def_term.specs.Names.{Name}
use Rattle.def_spec.specs.Matching.{Pattern, variable, anything, only_term, in_tuple, in_list, Patterns, no_patterns, and_pattern, occurs, occurs_in_some}
use Rattle.def_spec.specs.Expressions.{Dialect, Exprs, in_condition, in_body}
use Rattle.def_spec.specs.Outcome.{Clause, Spec}
use Rattle.def_spec.specs.Reading.{then_read, badarg, AtomKind, a_variable, a_wrong_variable, a_plain_atom, atom_kind, all_digits, is_dollar_number, is_plain_number, digits_of, is_wildcard, pattern_of_kind, pattern_of, patterns_of, head_of_kind, head_of, exprs_of, clause_of_parts, clause_of, clauses_of, spec_of}
use Rattle.def_spec.specs.Laws.{AreNumbered, VariablesAreNumbered}
use Rattle.def_spec.proofs.Reading.{read, then_ok, ok_is}
use Rattle.std.proofs.lemmas.Bool.{and_parts}

digit_value : (c : ℕ) → is_digit c ≡ true → c - 48 ≤ 9
digit_value c h = let most : c ≤ 57 = leb-true c 57 (and_parts (nat_le 48 c) (nat_le c 57) h).1 in omega arith

-- at most three digits are at most 999
pub plain_value : (ds : List ℕ) → all_digits ds ≡ true → is_plain_number ds ≡ true → number_after 0 ds ≤ 999
plain_value [] h p = cc
plain_value (d ∷ []) h p =
    let a : d - 48 ≤ 9 = digit_value d (and_parts (is_digit d) true h).0 in
    omega arith
plain_value (d ∷ e ∷ []) h p =
    let r : (is_digit d ≡ true) × (all_digits (e ∷ []) ≡ true) = and_parts _ _ h in
    let a : d - 48 ≤ 9 = digit_value d r.0 in
    let b : e - 48 ≤ 9 = digit_value e (and_parts (is_digit e) true r.1).0 in
    omega arith
plain_value (d ∷ e ∷ f ∷ []) h p =
    let r : (is_digit d ≡ true) × (all_digits (e ∷ f ∷ []) ≡ true) = and_parts _ _ h in
    let q : (is_digit e ≡ true) × (all_digits (f ∷ []) ≡ true) = and_parts _ _ r.1 in
    let a : d - 48 ≤ 9 = digit_value d r.0 in
    let b : e - 48 ≤ 9 = digit_value e q.0 in
    let c : f - 48 ≤ 9 = digit_value f (and_parts (is_digit f) true q.1).0 in
    omega arith
plain_value (d ∷ e ∷ f ∷ g ∷ gs) h p =
    let few : length (d ∷ e ∷ f ∷ g ∷ gs) ≤ 3 = leb-true _ 3 (and_parts (not (d == 48)) _ p).1 in
    absurd (omega arith)

digits_true : (s : Name) → is_dollar_number s ≡ true → all_digits (digits_of s) ≡ true
digits_true [] h = cc
digits_true (c ∷ []) h = cc
digits_true (c ∷ d ∷ ds) h = (and_parts (c == 36) (all_digits (d ∷ ds)) h).1

abbrev KindNumbered : AtomKind → Type 0
KindNumbered (a_variable n) = n ≤ 999
KindNumbered a_wrong_variable = ⊤
KindNumbered a_plain_atom = ⊤

kind_numbered : (s : Name) → KindNumbered (atom_kind s)
kind_numbered s = go (is_dollar_number s) (is_plain_number (digits_of s)) refl refl
  where
    go : (a b : Bool) → is_dollar_number s ≡ a → is_plain_number (digits_of s) ≡ b → KindNumbered (if a then (if b then a_variable (number_after 0 (digits_of s)) else a_wrong_variable) else a_plain_atom)
    go true true h p = plain_value (digits_of s) (digits_true s h) p
    go true false h p = tt
    go false b h p = tt

abbrev IsNumbered : Pattern → Type 0
IsNumbered p = (n : ℕ) → occurs n p ≡ true → n ≤ 999

abbrev AllNumbered : Patterns → Type 0
AllNumbered ps = (n : ℕ) → occurs_in_some n ps ≡ true → n ≤ 999

variable_numbered : (m : ℕ) → m ≤ 999 → IsNumbered (variable m)
variable_numbered m h n e = let same : n ≡ m = eqb-true n m e in omega arith

either_true : (a b : Bool) → (a || b) ≡ true → (n : ℕ) → (a ≡ true → n ≤ 999) → (b ≡ true → n ≤ 999) → n ≤ 999
either_true true b e n f g = f refl
either_true false b e n f g = g e

plain_atom : (s : Name) (b : Bool) (p : Pattern) → read (if b then anything else only_term (atom s)) ≡ Ok p → IsNumbered p
plain_atom s true p h = subst IsNumbered (ok_is anything p h) (λ n e. cc)
plain_atom s false p h = subst IsNumbered (ok_is (only_term (atom s)) p h) (λ n e. cc)

kind_pattern : (s : Name) (k : AtomKind) → KindNumbered k → (p : Pattern) → pattern_of_kind s k ≡ Ok p → IsNumbered p
kind_pattern s (a_variable m) g p h = subst IsNumbered (ok_is (variable m) p h) (variable_numbered m g)
kind_pattern s a_wrong_variable g p h = cc
kind_pattern s a_plain_atom g p h = plain_atom s (is_wildcard s) p h

mutual
  pattern_numbered : (t : Tree) (p : Pattern) → pattern_of t ≡ Ok p → IsNumbered p
  pattern_numbered (int z) p h = subst IsNumbered (ok_is (only_term (int z)) p h) (λ n e. cc)
  pattern_numbered (atom s) p h = kind_pattern s (atom_kind s) (kind_numbered s) p h
  pattern_numbered (pid m) p h = subst IsNumbered (ok_is (only_term (pid m)) p h) (λ n e. cc)
  pattern_numbered (tuple ts) p h =
      let r : (ps : Patterns) × (patterns_of ts ≡ Ok ps) × (read (in_tuple ps) ≡ Ok p) = then_ok _ _ p h in
      subst IsNumbered (ok_is (in_tuple r.0) p r.2) (patterns_numbered ts r.0 r.1)
  pattern_numbered (list ts) p h =
      let r : (ps : Patterns) × (patterns_of ts ≡ Ok ps) × (read (in_list ps) ≡ Ok p) = then_ok _ _ p h in
      subst IsNumbered (ok_is (in_list r.0) p r.2) (patterns_numbered ts r.0 r.1)

  patterns_numbered : (ts : Trees) (ps : Patterns) → patterns_of ts ≡ Ok ps → AllNumbered ps
  patterns_numbered none ps h = subst AllNumbered (ok_is no_patterns ps h) (λ n e. cc)
  patterns_numbered (more t ts) ps h =
      let r : (p : Pattern) × (pattern_of t ≡ Ok p) × (then_read (patterns_of ts) (λ qs. Ok (and_pattern p qs)) ≡ Ok ps) = then_ok _ _ ps h in
      let q : (qs : Patterns) × (patterns_of ts ≡ Ok qs) × (read (and_pattern r.0 qs) ≡ Ok ps) = then_ok _ _ ps r.2 in
      subst AllNumbered (ok_is (and_pattern r.0 q.0) ps q.2) (λ n e. either_true (occurs n r.0) (occurs_in_some n q.0) e n (pattern_numbered t r.0 r.1 n) (patterns_numbered ts q.0 q.1 n))

whole_wildcard : (b : Bool) (p : Pattern) → (if b then read anything else Err badarg) ≡ Ok p → IsNumbered p
whole_wildcard true p h = subst IsNumbered (ok_is anything p h) (λ n e. cc)
whole_wildcard false p h = cc

kind_head : (s : Name) (k : AtomKind) → KindNumbered k → (p : Pattern) → head_of_kind s k ≡ Ok p → IsNumbered p
kind_head s (a_variable m) g p h = subst IsNumbered (ok_is (variable m) p h) (variable_numbered m g)
kind_head s a_wrong_variable g p h = cc
kind_head s a_plain_atom g p h = whole_wildcard (is_wildcard s) p h

head_numbered : (t : Tree) (p : Pattern) → head_of t ≡ Ok p → IsNumbered p
head_numbered (atom s) p h = kind_head s (atom_kind s) (kind_numbered s) p h
head_numbered (list ts) p h =
    let r : (ps : Patterns) × (patterns_of ts ≡ Ok ps) × (read (in_list ps) ≡ Ok p) = then_ok _ _ p h in
    subst IsNumbered (ok_is (in_list r.0) p r.2) (patterns_numbered ts r.0 r.1)
head_numbered _ p h = cc

module _ (d : Dialect) where
  parts_numbered : (h : Tree) (cs bs : Trees) (k : Clause) → clause_of_parts d h cs bs ≡ Ok k → IsNumbered k.head
  parts_numbered h cs bs k e =
      let p : (head : Pattern) × (head_of h ≡ Ok head) × (then_read (exprs_of d in_condition head cs) (λ conditions. then_read (exprs_of d in_body head bs) (λ body. Ok (record { head = head; conditions = conditions; body = body }))) ≡ Ok k) = then_ok _ _ k e in
      let c : (es : Exprs) × (exprs_of d in_condition p.0 cs ≡ Ok es) × (then_read (exprs_of d in_body p.0 bs) (λ body. Ok (record { head = p.0; conditions = es; body = body })) ≡ Ok k) = then_ok _ _ k p.2 in
      let b : (es : Exprs) × (exprs_of d in_body p.0 bs ≡ Ok es) × (read (record { head = p.0; conditions = c.0; body = es }) ≡ Ok k) = then_ok _ _ k c.2 in
      subst (λ x. IsNumbered x.head) (ok_is (record { head = p.0; conditions = c.0; body = b.0 }) k b.2) (head_numbered h p.0 p.1)

  clause_numbered : (t : Tree) (k : Clause) → clause_of d t ≡ Ok k → IsNumbered k.head
  clause_numbered (tuple (more h (more (list cs) (more (list bs) none)))) k e = parts_numbered h cs bs k e
  clause_numbered _ k e = cc

  clauses_numbered : (ts : Trees) (ks : List Clause) → clauses_of d ts ≡ Ok ks → AreNumbered ks
  clauses_numbered none ks h = subst AreNumbered (ok_is [] ks h) tt
  clauses_numbered (more t ts) ks h =
      let r : (k : Clause) × (clause_of d t ≡ Ok k) × (then_read (clauses_of d ts) (λ js. Ok (k ∷ js)) ≡ Ok ks) = then_ok _ _ ks h in
      let q : (js : List Clause) × (clauses_of d ts ≡ Ok js) × (read (r.0 ∷ js) ≡ Ok ks) = then_ok _ _ ks r.2 in
      subst AreNumbered (ok_is (r.0 ∷ q.0) ks q.2) (clause_numbered t r.0 r.1, clauses_numbered ts q.0 q.1)

  spec_numbered : (t : Tree) (s : Spec) → spec_of d t ≡ Ok s → AreNumbered s.clauses
  spec_numbered (list (more t ts)) s h =
      let r : (ks : List Clause) × (clauses_of d (more t ts) ≡ Ok ks) × (read (record { dialect = d; clauses = ks }) ≡ Ok s) = then_ok _ _ s h in
      subst (λ x. AreNumbered x.clauses) (ok_is (record { dialect = d; clauses = r.0 }) s r.2) (clauses_numbered (more t ts) r.0 r.1)
  spec_numbered _ s h = cc

pub variables_are_numbered : VariablesAreNumbered
variables_are_numbered d t s h = spec_numbered d t s h
