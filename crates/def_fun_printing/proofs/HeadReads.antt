-- The term of a head is read as that of a specification, and binds the variables of the fun; so the term of a fun is a specification.
use Rattle.std.proofs.Common.{◌≡◌, ◌≢◌, ◌⊎◌, ℕ, ◌≤◌, pos, neg_ℤ, nat_le, List, [], ◌∷◌, ◌++◌, length, Bool, true, false, ◌&&◌, ◌||◌, cond, Option, Some, None, Ok, Err, refl, ap, sym, ◌∙◌, subst, arith, inl, inr}
use Rattle.std.specs.Str.{bytes_eq}
use Rattle.std.proofs.lemmas.Bool.{and_parts, or_cases, or_left, or_right, cond-false, leb-true, eq-eqb}
use Rattle.def_term.specs.Tree.{Tree, Trees, count, elements, of_elements, depth, triple}
use Rattle.def_term.specs.Tree as term
use Rattle.def_term.specs.Names.{Name, word}
use Rattle.def_term.specs.Text.{is_among, w}
use Rattle.def_text.specs.Grammar.{of_codes}
use Rattle.def_text.specs.Limits.{LIST_LENGTH}
use Rattle.def_text.specs.Spelling.{LENGTH}
use Rattle.def_text.proofs.Complete.{elements-of, count_of}
use Rattle.def_spec.specs.Expressions.{Dialect, Position, in_condition, in_body, Exprs, and_expr}
use Rattle.def_spec.specs.Matching.{Pattern, variable, anything, only_term, in_tuple, in_list, Patterns, no_patterns, and_pattern, occurs, occurs_in_some}
use Rattle.def_spec.specs.Outcome.{Clause, Spec}
use Rattle.def_spec.specs.Reading.{then_read, is_dollar_number, pattern_of_kind, pattern_of, patterns_of, head_of_kind, head_of, exprs_of, expr_of, clause_of, clauses_of, spec_of}
use Rattle.def_fun.specs.Trees as tree
use Rattle.def_fun.specs.Trees.{FunExpr, FunExprs, first_byte, joined_codes, is_variable_expr, is_list_pattern, FunHead, alone, both, FunClause}
use Rattle.def_fun.specs.Tokens.{FunSpan}
use Rattle.def_fun.specs.Grammar.{has_level, is_fun_head, is_level_head, are_exprs, are_guards, are_fun_clauses, DerivesFun}
use Rattle.def_fun.specs.Limits.{spec_clauses}
use Rattle.def_fun.specs.Refusals.{FunRefusal, too_large_at, too_deep_at, head_atom, list_with_tail, minus_alone, whole_head, OrRefusal, then_fun}
use Rattle.def_fun.specs.Variables.{ClauseNames, ANY, dollar_name, name_of_variable, name_of_whole, matched_part, names_of, variables_in, variables_in_each, is_of_whole, with_name, with_names, number_among, VariableKind, the_whole, anything_there, of_number, of_no_head, kind_of_number, variable_kind}
use Rattle.def_fun.specs.Translation.{VARIABLES, variable_term, is_proper_tail, elements_of_list, onto_tail, is_variable_atom, pattern_term, pattern_terms, HEAD_DEPTH, PART_DEPTH, within_depth, is_same_name, name_or_none, head_term, list_term, expr_translated, part_term, part_terms, alternative_term, alternatives_of, within_length, with_alternatives, with_fun_clauses, tree_of_fun}
use Rattle.def_fun.proofs.NumberedNames.{same_name, among_numbered}
use Rattle.def_fun.proofs.Translations.{then_ok, clauses_counted}
use Rattle.def_fun_printing.proofs.Results.{same_ok, no_ok, read_ok}
use Rattle.def_fun_printing.proofs.NumberAtoms.{number_kind}
use Rattle.def_fun_printing.proofs.PrintedHeads.{no_number, is_list_of, proper_if, onto_by}
use Rattle.def_fun_printing.proofs.HeadsBack.{among_end}
use Rattle.def_fun_printing.proofs.FunReads.{EachClause, each_clause}
use Rattle.def_fun_printing.proofs.SpecReads.{expr_read}

-- ---- names

among_by : (b : Bool) (ns : List Name) (m s : Name) → is_among (cond b ns (ns ++ m ∷ [])) s ≡ true → (is_among ns s ≡ true) ⊎ (bytes_eq s m ≡ true)
among_by true ns m s h = inl h
among_by false ns m s h =
    elim (or_cases (is_among ns s) (bytes_eq s m || false) (sym (among_end ns m s) ∙ h)) [
      | inl x ↦ inl x
      | inr x ↦ elim (or_cases (bytes_eq s m) false x) [ inl y ↦ inr y | inr y ↦ absurd (let no : false ≡ true = y in cc) ]
    ]

-- names that are there were there before, or are new ones
named_before : (o : Option Name) (ns ss : List Name) (s : Name) → is_among (with_names o ns ss) s ≡ true → (is_among ns s ≡ true) ⊎ (is_among ss s ≡ true)
named_before o ns [] s h = inl h
named_before o ns (m ∷ ss) s h =
    elim (named_before o (with_name o ns m) ss s h) [
      | inl x ↦ elim (among_by (is_of_whole o m || (bytes_eq m ANY || is_among ns m)) ns m s x) [ inl y ↦ inl y | inr y ↦ inr (or_left (bytes_eq s m) (is_among ss s) y) ]
      | inr x ↦ inr (or_right (bytes_eq s m) (is_among ss s) x)
    ]

among_joined : (ss us : List Name) (s : Name) → is_among (ss ++ us) s ≡ true → (is_among ss s ≡ true) ⊎ (is_among us s ≡ true)
among_joined [] us s h = inr h
among_joined (m ∷ ss) us s h =
    elim (or_cases (bytes_eq s m) (is_among (ss ++ us) s) h) [
      | inl x ↦ inl (or_left (bytes_eq s m) (is_among ss s) x)
      | inr x ↦ elim (among_joined ss us s x) [ inl y ↦ inl (or_right (bytes_eq s m) (is_among ss s) y) | inr y ↦ inr y ]
    ]

kind_number : (x a : Bool) (o : Option ℕ) (k : ℕ) → cond x the_whole (cond a anything_there (kind_of_number o)) ≡ of_number k → o ≡ Some k
kind_number true a o k h = absurd (let no : the_whole ≡ of_number k = h in cc)
kind_number false true o k h = absurd (let no : anything_there ≡ of_number k = h in cc)
kind_number false false None k h = absurd (let no : of_no_head ≡ of_number k = h in cc)
kind_number false false (Some j) k h = let e : j ≡ k = cc in ap (λ x. Some x) e

-- a variable with a number is one of the head
numbered_there : (h : FunHead) (s : Name) (k : ℕ) → variable_kind (names_of h) s ≡ of_number k → is_among (variables_in (matched_part h)) s ≡ true
numbered_there h s k e =
    let found = kind_number (is_of_whole (name_of_whole h) s) (bytes_eq s ANY) (number_among 1 (names_of h).numbers s) k e in
    let there = among_numbered 1 (names_of h).numbers s (λ none. let both : Some k ≡ None = sym found ∙ none in cc) in
    elim (named_before (name_of_whole h) [] (variables_in (matched_part h)) s there) [ inl x ↦ absurd (let no : false ≡ true = x in cc) | inr x ↦ x ]

-- ---- patterns

module _ (ns : ClauseNames) where
  record IsPatternRead (t : Tree) (ss : List Name) : Type 0 where
    pub pattern : Pattern
    pub is : pattern_of t ≡ Ok pattern
    pub there : (s : Name) (k : ℕ) → is_among ss s ≡ true → variable_kind ns s ≡ of_number k → occurs k pattern ≡ true

  record ArePatternsRead (ts : Trees) (ss : List Name) : Type 0 where
    pub patterns : Patterns
    pub are : patterns_of ts ≡ Ok patterns
    pub there : (s : Name) (k : ℕ) → is_among ss s ≡ true → variable_kind ns s ≡ of_number k → occurs_in_some k patterns ≡ true

  leaf_read : (t : Tree) (p : Pattern) → pattern_of t ≡ Ok p → IsPatternRead t []
  leaf_read t p h = record { pattern = p; is = h; there = λ s k x e. absurd (let no : false ≡ true = x in cc) }

  alone_same : (s u : Name) → is_among (s ∷ []) u ≡ true → u ≡ s
  alone_same s u h = elim (or_cases (bytes_eq u s) false h) [ inl x ↦ same_name u s x | inr x ↦ absurd (let no : false ≡ true = x in cc) ]

  number_by : (s : Name) (k at : ℕ) (b : Bool) (t : Tree) → nat_le k VARIABLES ≡ b → variable_kind ns s ≡ of_number k → cond b (Ok (term.atom (dollar_name k))) (Err (too_large_at at)) ≡ Ok t → IsPatternRead t (s ∷ [])
  number_by s k at true t e kind h =
      subst (λ u. IsPatternRead u (s ∷ [])) (same_ok (term.atom (dollar_name k)) t h)
      (record {
        pattern = variable k;
        is = ap (pattern_of_kind (dollar_name k)) (number_kind k (leb-true k VARIABLES e));
        there = λ u j x f. let same : of_number j ≡ of_number k = sym f ∙ ap (variable_kind ns) (alone_same s u x) ∙ kind in let number : j ≡ k = cc in eq-eqb j k number;
      })
  number_by s k at false t e kind h = absurd (no_ok (too_large_at at) t h)

  other_kind : (s u : Name) (k : ℕ) (v : VariableKind) → variable_kind ns s ≡ v → v ≢ of_number k → is_among (s ∷ []) u ≡ true → variable_kind ns u ≡ of_number k → ⊥
  other_kind s u k v kind other x e = other (sym kind ∙ ap (variable_kind ns) (sym (alone_same s u x)) ∙ e)

  variable_by : (s : Name) (at : ℕ) (v : VariableKind) (t : Tree) → variable_kind ns s ≡ v → variable_term s at v ≡ Ok t → IsPatternRead t (s ∷ [])
  variable_by s at the_whole t kind h = subst (λ u. IsPatternRead u (s ∷ [])) (same_ok (word "$_") t h) (record { pattern = only_term (word "$_"); is = refl; there = λ u k x e. absurd (other_kind s u k the_whole kind (λ no. cc) x e) })
  variable_by s at anything_there t kind h = subst (λ u. IsPatternRead u (s ∷ [])) (same_ok (word "_") t h) (record { pattern = anything; is = refl; there = λ u k x e. absurd (other_kind s u k anything_there kind (λ no. cc) x e) })
  variable_by s at (of_number k) t kind h = number_by s k at (nat_le k VARIABLES) t refl kind h
  variable_by s at of_no_head t kind h = absurd (no_ok _ t h)

  atom_by : (at : ℕ) (s : Name) (b : Bool) (t : Tree) → is_variable_atom s ≡ b → cond b (Err (head_atom s at)) (Ok (term.atom s)) ≡ Ok t → IsPatternRead t []
  atom_by at s true t e h = absurd (no_ok (head_atom s at) t h)
  atom_by at s false t e h = subst (λ u. IsPatternRead u []) (same_ok (term.atom s) t h) (leaf_read (term.atom s) _ (ap (pattern_of_kind s) (cond-false (is_dollar_number s) _ _ (no_number s e))))

  codes_read : (cs : List ℕ) → ArePatternsRead (of_codes cs) []
  codes_read [] = record { patterns = no_patterns; are = refl; there = λ s k x e. absurd (let no : false ≡ true = x in cc) }
  codes_read (c ∷ cs) = let r = codes_read cs in record { patterns = and_pattern (only_term (term.int (pos c))) r.patterns; are = ap (λ z. then_read z (λ ps. Ok (and_pattern (only_term (term.int (pos c))) ps))) r.are; there = λ s k x e. absurd (let no : false ≡ true = x in cc) }

  list_read : (ts : Trees) (ss : List Name) → ArePatternsRead ts ss → IsPatternRead (term.list ts) ss
  list_read ts ss p = record { pattern = in_list p.patterns; is = ap (λ z. then_read z (λ ps. Ok (in_list ps))) p.are; there = p.there }

  inside_read : (ts : Trees) (ss : List Name) → IsPatternRead (term.list ts) ss → ArePatternsRead ts ss
  inside_read ts ss p =
      let a = read_ok (patterns_of ts) (λ ps. Ok (in_list ps)) p.pattern p.is in
      record { patterns = a.0; are = a.1; there = λ s k x e. ap (occurs k) (same_ok (in_list a.0) p.pattern a.2) ∙ p.there s k x e }

  more_read : (t : Tree) (ts : Trees) (ss us : List Name) → IsPatternRead t ss → ArePatternsRead ts us → ArePatternsRead (term.more t ts) (ss ++ us)
  more_read t ts ss us p q = record {
    patterns = and_pattern p.pattern q.patterns;
    are = ap (λ z. then_read z (λ x. then_read (patterns_of ts) (λ xs. Ok (and_pattern x xs)))) p.is ∙ ap (λ z. then_read z (λ xs. Ok (and_pattern p.pattern xs))) q.are;
    there = λ s k x e.
        elim (among_joined ss us s x) [ inl y ↦ or_left (occurs k p.pattern) (occurs_in_some k q.patterns) (p.there s k y e) | inr y ↦ or_right (occurs k p.pattern) (occurs_in_some k q.patterns) (q.there s k y e) ];
  }

  none_there : {ss : List Name} → ArePatternsRead term.none ss → (s : Name) (k : ℕ) → is_among ss s ≡ true → variable_kind ns s ≡ of_number k → ⊥
  none_there p s k x e = let there = ap (occurs_in_some k) (same_ok no_patterns p.patterns p.are) ∙ p.there s k x e in absurd (let no : false ≡ true = there in cc)

  -- patterns one after the other
  rest_read : (ts us : List Tree) (ps qs : Patterns) → patterns_of (of_elements ts) ≡ Ok ps → patterns_of (of_elements us) ≡ Ok qs → (rs : Patterns) × (patterns_of (of_elements (ts ++ us)) ≡ Ok rs) × ((k : ℕ) → (occurs_in_some k ps || occurs_in_some k qs) ≡ true → occurs_in_some k rs ≡ true)
  rest_read [] us ps qs h g = (qs, g, λ k x. ap (λ z. occurs_in_some k z || occurs_in_some k qs) (same_ok no_patterns ps h) ∙ x)
  rest_read (t ∷ ts) us ps qs h g =
      let a = read_ok (pattern_of t) (λ x. then_read (patterns_of (of_elements ts)) (λ xs. Ok (and_pattern x xs))) ps h in
      let b = read_ok (patterns_of (of_elements ts)) (λ xs. Ok (and_pattern a.0 xs)) ps a.2 in
      let r = rest_read ts us b.0 qs b.1 g in (
        and_pattern a.0 r.0,
        ap (λ z. then_read z (λ x. then_read (patterns_of (of_elements (ts ++ us))) (λ xs. Ok (and_pattern x xs)))) a.1 ∙ ap (λ z. then_read z (λ xs. Ok (and_pattern a.0 xs))) r.1,
        λ k x.
            elim (or_cases (occurs k a.0 || occurs_in_some k b.0) (occurs_in_some k qs) (ap (λ z. occurs_in_some k z || occurs_in_some k qs) (same_ok (and_pattern a.0 b.0) ps b.2) ∙ x)) [
              | inl y ↦ elim (or_cases (occurs k a.0) (occurs_in_some k b.0) y) [ inl z ↦ or_left (occurs k a.0) (occurs_in_some k r.0) z | inr z ↦ or_right (occurs k a.0) (occurs_in_some k r.0) (r.2 k (or_left (occurs_in_some k b.0) (occurs_in_some k qs) z)) ]
              | inr y ↦ or_right (occurs k a.0) (occurs_in_some k r.0) (r.2 k (or_right (occurs_in_some k b.0) (occurs_in_some k qs) y))
            ],
      )

  joined_read : (ts us : List Tree) (ss vs : List Name) → ArePatternsRead (of_elements ts) ss → ArePatternsRead (of_elements us) vs → ArePatternsRead (of_elements (ts ++ us)) (ss ++ vs)
  joined_read [] us ss vs p q = record { patterns = q.patterns; are = q.are; there = λ s k x e. elim (among_joined ss vs s x) [ inl y ↦ absurd (none_there p s k y e) | inr y ↦ q.there s k y e ] }
  joined_read (t ∷ ts) us ss vs p q =
      let a = read_ok (pattern_of t) (λ x. then_read (patterns_of (of_elements ts)) (λ xs. Ok (and_pattern x xs))) p.patterns p.are in
      let b = read_ok (patterns_of (of_elements ts)) (λ xs. Ok (and_pattern a.0 xs)) p.patterns a.2 in
      let later = rest_read ts us b.0 q.patterns b.1 q.are in
      record {
        patterns = and_pattern a.0 later.0;
        are = ap (λ z. then_read z (λ x. then_read (patterns_of (of_elements (ts ++ us))) (λ xs. Ok (and_pattern x xs)))) a.1 ∙ ap (λ z. then_read z (λ xs. Ok (and_pattern a.0 xs))) later.1;
        there = λ s k x e.
            elim (among_joined ss vs s x) [
              | inl y ↦
                  elim (or_cases (occurs k a.0) (occurs_in_some k b.0) (ap (occurs_in_some k) (same_ok (and_pattern a.0 b.0) p.patterns b.2) ∙ p.there s k y e)) [
                    | inl z ↦ or_left (occurs k a.0) (occurs_in_some k later.0) z
                    | inr z ↦ or_right (occurs k a.0) (occurs_in_some k later.0) (later.2 k (or_left (occurs_in_some k b.0) (occurs_in_some k q.patterns) z))
                  ]
              | inr y ↦ or_right (occurs k a.0) (occurs_in_some k later.0) (later.2 k (or_right (occurs_in_some k b.0) (occurs_in_some k q.patterns) (q.there s k y e)))
            ];
      }

  onto_read : (at : ℕ) (ts : List Tree) (u t : Tree) (us : Trees) (ss vs : List Name) → u ≡ term.list us → ArePatternsRead (of_elements ts) ss → IsPatternRead u vs → onto_tail at ts u ≡ Ok t → IsPatternRead t (ss ++ vs)
  onto_read at ts u t us ss vs e p q h =
      let inner = inside_read us vs (subst (λ x. IsPatternRead x vs) e q) in
      let tail : ArePatternsRead (of_elements (elements_of_list u)) vs = subst (λ x. ArePatternsRead x vs) (sym (ap (λ x. of_elements (elements_of_list x)) e ∙ elements-of us)) inner in
      subst (λ x. IsPatternRead x (ss ++ vs)) (onto_by at ts (elements_of_list u) t (nat_le (length (ts ++ elements_of_list u)) LIST_LENGTH) h) (list_read (of_elements (ts ++ elements_of_list u)) (ss ++ vs) (joined_read ts (elements_of_list u) ss vs p tail))

  mutual
    pattern_read : (e : FunExpr) (t : Tree) → pattern_term ns e ≡ Ok t → IsPatternRead t (variables_in e)
    pattern_read (tree.variable at s) t h = variable_by s at (variable_kind ns s) t refl h
    pattern_read (tree.whole at k) t h = subst (λ u. IsPatternRead u []) (same_ok (term.int (pos k)) t h) (leaf_read (term.int (pos k)) _ refl)
    pattern_read (tree.atom at s) t h = atom_by at s (is_variable_atom s) t refl h
    pattern_read (tree.strings at s ss) t h = subst (λ u. IsPatternRead u []) (same_ok (term.list (of_codes (joined_codes s ss))) t h) (list_read (of_codes (joined_codes s ss)) [] (codes_read (joined_codes s ss)))
    pattern_read (tree.in_parens at e) t h = pattern_read e t h
    pattern_read (tree.call at s es) t h = absurd (no_ok (minus_alone at) t h)
    pattern_read (tree.list at es) t h =
        let a = then_ok (pattern_terms ns es) (λ ts. Ok (term.list (of_elements ts))) t h in
        subst (λ u. IsPatternRead u (variables_in_each es)) (same_ok (term.list (of_elements a.0)) t a.2) (list_read (of_elements a.0) (variables_in_each es) (patterns_read es a.0 a.1))
    pattern_read (tree.list_onto at es e) t h =
        let a = then_ok (pattern_terms ns es) (λ ts. cond (is_proper_tail e) (then_fun (pattern_term ns e) (λ u. onto_tail (first_byte e) ts u)) (Err (list_with_tail (first_byte e)))) t h in
        let b = proper_if (is_proper_tail e) _ (list_with_tail (first_byte e)) t a.2 in
        let c = then_ok (pattern_term ns e) (λ u. onto_tail (first_byte e) a.0 u) t b.1 in
        let tail = is_list_of ns e c.0 b.0 c.1 in
        onto_read (first_byte e) a.0 c.0 t tail.0 (variables_in_each es) (variables_in e) tail.1 (patterns_read es a.0 a.1) (pattern_read e c.0 c.1) c.2
    pattern_read (tree.tuple at es) t h =
        let a = then_ok (pattern_terms ns es) (λ ts. Ok (term.tuple (of_elements ts))) t h in
        let p = patterns_read es a.0 a.1 in
        subst (λ u. IsPatternRead u (variables_in_each es)) (same_ok (term.tuple (of_elements a.0)) t a.2) (record { pattern = in_tuple p.patterns; is = ap (λ z. then_read z (λ ps. Ok (in_tuple ps))) p.are; there = p.there })
    pattern_read (tree.before at o (tree.whole here k)) t h = subst (λ u. IsPatternRead u []) (same_ok (term.int (neg_ℤ (pos k))) t h) (leaf_read (term.int (neg_ℤ (pos k))) _ refl)
    pattern_read (tree.before at o e) t h = absurd (no_ok (minus_alone at) t h)
    pattern_read (tree.between at o l r) t h = absurd (no_ok (minus_alone at) t h)

    patterns_read : (es : FunExprs) (ts : List Tree) → pattern_terms ns es ≡ Ok ts → ArePatternsRead (of_elements ts) (variables_in_each es)
    patterns_read tree.none ts h = subst (λ us. ArePatternsRead (of_elements us) []) (same_ok [] ts h) (record { patterns = no_patterns; are = refl; there = λ s k x e. absurd (let no : false ≡ true = x in cc) })
    patterns_read (tree.more e es) ts h =
        let a = then_ok (pattern_term ns e) (λ t. then_fun (pattern_terms ns es) (λ us. Ok (t ∷ us))) ts h in
        let b = then_ok (pattern_terms ns es) (λ us. Ok (a.0 ∷ us)) ts a.2 in
        subst (λ us. ArePatternsRead (of_elements us) (variables_in e ++ variables_in_each es)) (same_ok (a.0 ∷ b.0) ts b.2) (more_read a.0 (of_elements b.0) (variables_in e) (variables_in_each es) (pattern_read e a.0 a.1) (patterns_read es b.0 b.1))

-- ---- heads

number_head : (k at : ℕ) (b : Bool) (t : Tree) → nat_le k VARIABLES ≡ b → cond b (Ok (term.atom (dollar_name k))) (Err (too_large_at at)) ≡ Ok t → head_of t ≡ pattern_of t
number_head k at true t e h =
    let is = same_ok (term.atom (dollar_name k)) t h in
    let kind = number_kind k (leb-true k VARIABLES e) in
    ap head_of (sym is) ∙ ap (head_of_kind (dollar_name k)) kind ∙ sym (ap (pattern_of_kind (dollar_name k)) kind) ∙ ap pattern_of is
number_head k at false t e h = absurd (no_ok (too_large_at at) t h)

-- no variable that is a whole head is the name of the whole
head_variable : (ns : ClauseNames) (s : Name) (at : ℕ) (v : VariableKind) (t : Tree) → variable_kind ns s ≡ v → v ≢ the_whole → variable_term s at v ≡ Ok t → head_of t ≡ pattern_of t
head_variable ns s at the_whole t kind other h = absurd (other refl)
head_variable ns s at anything_there t kind other h = ap head_of (sym (same_ok (word "_") t h)) ∙ ap pattern_of (same_ok (word "_") t h)
head_variable ns s at (of_number k) t kind other h = number_head k at (nat_le k VARIABLES) t refl h
head_variable ns s at of_no_head t kind other h = absurd (no_ok _ t h)

list_head : (t : Tree) (ts : Trees) → t ≡ term.list ts → head_of t ≡ pattern_of t
list_head t ts e = ap head_of e ∙ sym (ap pattern_of e)

not_whole : (x a : Bool) (o : Option ℕ) → x ≡ false → cond x the_whole (cond a anything_there (kind_of_number o)) ≢ the_whole
not_whole true a o h e = let no : true ≡ false = h in cc
not_whole false true o h e = cc
not_whole false false None h e = cc
not_whole false false (Some k) h e = cc

-- a list of patterns has a list as its term
pattern_list : (ns : ClauseNames) (e : FunExpr) (t : Tree) → is_list_pattern e ≡ true → pattern_term ns e ≡ Ok t → (ts : Trees) × (t ≡ term.list ts)
pattern_list ns (tree.list at es) t l h = is_list_of ns (tree.list at es) t refl h
pattern_list ns (tree.list_onto at es e) t l h = is_list_of ns (tree.list_onto at es e) t refl h
pattern_list ns e t l h = absurd (let no : false ≡ true = l in cc)

variable_head : (ns : ClauseNames) (e : FunExpr) (t : Tree) → is_variable_expr e ≡ true → ((s : Name) → name_of_variable e ≡ Some s → is_of_whole ns.of_whole s ≡ false) → pattern_term ns e ≡ Ok t → head_of t ≡ pattern_of t
variable_head ns (tree.variable at s) t l other h = head_variable ns s at (variable_kind ns s) t refl (not_whole (is_of_whole ns.of_whole s) (bytes_eq s ANY) (number_among 1 ns.numbers s) (other s refl)) h
variable_head ns e t l other h = absurd (let no : false ≡ true = l in cc)

record IsHeadRead (h : FunHead) (t : Tree) : Type 0 where
  pub pattern : Pattern
  pub is : head_of t ≡ Ok pattern
  pub there : (s : Name) (k : ℕ) → variable_kind (names_of h) s ≡ of_number k → occurs k pattern ≡ true

depth_by : (b : Bool) (at : ℕ) (t u : Tree) → cond b (Ok t) (Err (too_deep_at at)) ≡ Ok u → t ≡ u
depth_by true at t u h = same_ok t u h
depth_by false at t u h = absurd (no_ok (too_deep_at at) u h)

matched_read : (h : FunHead) (t : Tree) → (pattern_term (names_of h) (matched_part h) ≡ Ok t → head_of t ≡ pattern_of t) → pattern_term (names_of h) (matched_part h) ≡ Ok t → IsHeadRead h t
matched_read h t whole e =
    let p = pattern_read (names_of h) (matched_part h) t e in
    record { pattern = p.pattern; is = whole e ∙ p.is; there = λ s k kind. p.there s k (numbered_there h s k kind) kind }

-- the term of the part that is matched
abbrev head_term_is : FunHead → Tree → Type 0
head_term_is h t = pattern_term (names_of h) (matched_part h) ≡ Ok t

same_refused : (b : Bool) (e : FunRefusal) (r : OrRefusal Tree) (t : Tree) → cond b (Err e) r ≡ Ok t → (b ≡ false) × (r ≡ Ok t)
same_refused true e r t h = absurd (no_ok e t h)
same_refused false e r t h = (refl, h)

list_part : (h : FunHead) (e : FunExpr) (t : Tree) → matched_part h ≡ e → is_list_pattern e ≡ true → head_term_is h t → IsHeadRead h t
list_part h e t is l p =
    let q = pattern_list (names_of h) e t l (ap (pattern_term (names_of h)) (sym is) ∙ p) in
    matched_read h t (λ x. list_head t q.0 q.1) p

variable_part : (h : FunHead) (e : FunExpr) (t : Tree) → matched_part h ≡ e → is_variable_expr e ≡ true → ((s : Name) → name_of_variable e ≡ Some s → is_of_whole (name_of_whole h) s ≡ false) → head_term_is h t → IsHeadRead h t
variable_part h e t is v other p = matched_read h t (λ x. variable_head (names_of h) e t v other (ap (pattern_term (names_of h)) (sym is) ∙ p)) p

both_term : (a b : FunExpr) (t : Tree) → head_term (both a b) ≡ Ok t → (is_same_name (name_of_variable a) (name_of_variable b) ≡ false) × head_term_is (both a b) t
both_term a b t h =
    let g = same_refused (is_same_name (name_of_variable a) (name_of_variable b)) (whole_head (name_or_none (name_of_variable b)) (first_byte b)) _ t h in
    let p = then_ok (pattern_term (names_of (both a b)) (matched_part (both a b))) (λ u. within_depth HEAD_DEPTH (first_byte a) u) t g.1 in
    (g.0, p.1 ∙ ap (λ x. Ok x) (depth_by (nat_le (depth p.0) HEAD_DEPTH) (first_byte a) p.0 t p.2))

head_read : (h : FunHead) (t : Tree) → is_fun_head h ≡ true → head_term h ≡ Ok t → IsHeadRead h t
head_read (alone e) t is h =
    let p = then_ok (pattern_term (names_of (alone e)) e) (λ u. within_depth HEAD_DEPTH (first_byte e) u) t h in
    let q : head_term_is (alone e) t = p.1 ∙ ap (λ x. Ok x) (depth_by (nat_le (depth p.0) HEAD_DEPTH) (first_byte e) p.0 t p.2) in
    elim (or_cases (is_variable_expr e) (is_list_pattern e) is) [ inl v ↦ variable_part (alone e) e t refl v (λ s x. refl) q | inr l ↦ list_part (alone e) e t refl l q ]
head_read (both (tree.variable at n) b) t is h =
    let g = both_term (tree.variable at n) b t h in
    elim (or_cases (is_variable_expr b || is_list_pattern b) false is) [
      | inl x ↦
          elim (or_cases (is_variable_expr b) (is_list_pattern b) x) [
            | inl v ↦ variable_part (both (tree.variable at n) b) b t refl v (λ s y. sym (ap (is_same_name (Some n)) y) ∙ g.0) g.1
            | inr l ↦ list_part (both (tree.variable at n) b) b t refl l g.1
          ]
      | inr x ↦ absurd (let no : false ≡ true = x in cc)
    ]
head_read (both (tree.list at es) b) t is h =
    let p = and_parts (is_list_pattern (tree.list at es)) (is_variable_expr b) is in
    list_part (both (tree.list at es) b) (tree.list at es) t refl p.0 (both_term (tree.list at es) b t h).1
head_read (both (tree.list_onto at es e) b) t is h =
    let p = and_parts (is_list_pattern (tree.list_onto at es e)) (is_variable_expr b) is in
    list_part (both (tree.list_onto at es e) b) (tree.list_onto at es e) t refl p.0 (both_term (tree.list_onto at es e) b t h).1
head_read (both a b) t is h = absurd (let no : false ≡ true = is in cc)

-- ---- clauses

abbrev clause_with : Pattern → Exprs → Exprs → Clause
clause_with p x y = record { head = p; conditions = x; body = y }

abbrev spec_with : Dialect → List Clause → Spec
spec_with d cs = record { dialect = d; clauses = cs }

some_clauses : (ks : List FunClause) → are_fun_clauses ks ≡ true → 1 ≤ spec_clauses ks
some_clauses [] h = absurd (let no : false ≡ true = h in cc)
some_clauses (k ∷ ks) h = omega arith

-- there is a clause at least
some_terms : (d : Dialect) (ks : List FunClause) (t : Tree) (ts : List Tree) → are_fun_clauses ks ≡ true → tree_of_fun d ks ≡ Ok t → ◌≡◌ {A = OrRefusal Tree} (Ok (list_term ts)) (Ok t) → length ts ≢ 0
some_terms d ks t ts l h is none =
    let c = clauses_counted d ks t h in
    let counted = c.2 in
    let some = some_clauses ks l in
    let same : term.list (of_elements ts) ≡ term.list c.0 = same_ok (list_term ts) t is ∙ c.1 in
    let trees : of_elements ts ≡ c.0 = cc in
    let size = ap count trees in
    let all = count_of ts in
    omega (arith, counted, some, size, all, none)

abbrev each_level : List FunExpr → Bool
each_level [] = true
each_level (e ∷ es) = has_level 1 e && each_level es

exprs_level : (es : List FunExpr) → are_exprs es ≡ true → each_level es ≡ true
exprs_level [] h = refl
exprs_level (e ∷ []) h = ap (λ b. b && true) h
exprs_level (e ∷ f ∷ es) h = let p = and_parts (has_level 1 e) (are_exprs (f ∷ es)) h in ap (λ b. b && each_level (f ∷ es)) p.0 ∙ exprs_level (f ∷ es) p.1

row_read : (d : Dialect) (part : Position) (head : Pattern) (ns : ClauseNames) → ((s : Name) (k : ℕ) → variable_kind ns s ≡ of_number k → occurs k head ≡ true) → (es : List FunExpr) (ts : List Tree) → each_level es ≡ true → part_terms d part ns es ≡ Ok ts → (exs : Exprs) × (exprs_of d part head (of_elements ts) ≡ Ok exs)
row_read d part head ns bound [] ts l h = subst (λ us. (exs : Exprs) × (exprs_of d part head (of_elements us) ≡ Ok exs)) (same_ok [] ts h) (_, refl)
row_read d part head ns bound (e ∷ es) ts l h =
    let levels = and_parts (has_level 1 e) (each_level es) l in
    let a = then_ok (part_term d part ns e) (λ t. then_fun (part_terms d part ns es) (λ us. Ok (t ∷ us))) ts h in
    let b = then_ok (part_terms d part ns es) (λ us. Ok (a.0 ∷ us)) ts a.2 in
    let c = then_ok (expr_translated d part ns e) (λ x. within_depth PART_DEPTH (first_byte e) x.becomes) a.0 a.1 in
    let is = depth_by (nat_le (depth c.0.becomes) PART_DEPTH) (first_byte e) c.0.becomes a.0 c.2 in
    let p = expr_read d part head ns bound e 1 c.0 levels.0 c.1 in
    let q = row_read d part head ns bound es b.0 levels.1 b.1 in
    subst (λ us. (exs : Exprs) × (exprs_of d part head (of_elements us) ≡ Ok exs)) (same_ok (a.0 ∷ b.0) ts b.2)
    (_, ap (λ z. then_read z (λ x. then_read (exprs_of d part head (of_elements b.0)) (λ xs. Ok (and_expr x xs)))) (ap (expr_of d part head) (sym is) ∙ p.1) ∙ ap (λ z. then_read z (λ xs. Ok (and_expr p.0 xs))) q.1)

module _ (d : Dialect) where
  alternative_read : (k : FunClause) (g : List FunExpr) (t : Tree) → is_fun_head k.head ≡ true → each_level g ≡ true → are_exprs k.body ≡ true → alternative_term d k g ≡ Ok t → (c : Clause) × (clause_of d t ≡ Ok c)
  alternative_read k g t i l m h =
      let ns = names_of k.head in
      let a = then_ok (head_term k.head) (λ x. then_fun (part_terms d in_condition ns g) (λ cs. then_fun (part_terms d in_body ns k.body) (λ bs. Ok (triple x (list_term cs) (list_term bs))))) t h in
      let b = then_ok (part_terms d in_condition ns g) (λ cs. then_fun (part_terms d in_body ns k.body) (λ bs. Ok (triple a.0 (list_term cs) (list_term bs)))) t a.2 in
      let c = then_ok (part_terms d in_body ns k.body) (λ bs. Ok (triple a.0 (list_term b.0) (list_term bs))) t b.2 in
      let head = head_read k.head a.0 i a.1 in
      let conditions = row_read d in_condition head.pattern ns head.there g b.0 l b.1 in
      let body = row_read d in_body head.pattern ns head.there k.body c.0 (exprs_level k.body m) c.1 in
      subst (λ x. (r : Clause) × (clause_of d x ≡ Ok r)) (same_ok (triple a.0 (list_term b.0) (list_term c.0)) t c.2) (
        _,
        ap (λ z. then_read z (λ p. then_read (exprs_of d in_condition p (of_elements b.0)) (λ x. then_read (exprs_of d in_body p (of_elements c.0)) (λ y. Ok (clause_with p x y))))) head.is
            ∙ ap (λ z. then_read z (λ x. then_read (exprs_of d in_body head.pattern (of_elements c.0)) (λ y. Ok (clause_with head.pattern x y)))) conditions.1
            ∙ ap (λ z. then_read z (λ y. Ok (clause_with head.pattern conditions.0 y))) body.1,
      )

  abbrev EachRead : List Tree → Type 0
  EachRead [] = Unit {0}
  EachRead (t ∷ ts) = ((c : Clause) × (clause_of d t ≡ Ok c)) × EachRead ts

  each_more : (ts : List Tree) (t : Tree) → EachRead ts → (c : Clause) × (clause_of d t ≡ Ok c) → EachRead (ts ++ t ∷ [])
  each_more [] t h k = (k, tt)
  each_more (u ∷ ts) t h k = (h.0, each_more ts t h.1 k)

  length_by : (b : Bool) (at : ℕ) (ts us : List Tree) → cond b (Ok ts) (Err (too_large_at at)) ≡ Ok us → ts ≡ us
  length_by true at ts us h = same_ok ts us h
  length_by false at ts us h = absurd (no_ok (too_large_at at) us h)

  abbrev EachRow : List (List FunExpr) → Type 0
  EachRow [] = Unit {0}
  EachRow (g ∷ gs) = (each_level g ≡ true) × EachRow gs

  guards_level : (gs : List (List FunExpr)) → are_guards gs ≡ true → EachRow gs
  guards_level [] h = tt
  guards_level (g ∷ gs) h = let p = and_parts (are_exprs g) (are_guards gs) h in (exprs_level g p.0, guards_level gs p.1)

  rows_level : (gs : List (List FunExpr)) → are_guards gs ≡ true → EachRow (alternatives_of gs)
  rows_level [] h = (refl, tt)
  rows_level (g ∷ gs) h = guards_level (g ∷ gs) h

  alternatives_read : (k : FunClause) (gs : List (List FunExpr)) (ts us : List Tree) → is_fun_head k.head ≡ true → EachRow gs → are_exprs k.body ≡ true → EachRead ts → with_alternatives d k ts gs ≡ Ok us → EachRead us
  alternatives_read k [] ts us i l m each h = subst EachRead (same_ok ts us h) each
  alternatives_read k (g ∷ gs) ts us i l m each h =
      let a = then_ok (alternative_term d k g) (λ t. then_fun (within_length k.at (ts ++ t ∷ [])) (λ vs. with_alternatives d k vs gs)) us h in
      let b = then_ok (within_length k.at (ts ++ a.0 ∷ [])) (λ vs. with_alternatives d k vs gs) us a.2 in
      let is = length_by (nat_le (length (w (list_term (ts ++ a.0 ∷ [])))) LENGTH) k.at (ts ++ a.0 ∷ []) b.0 b.1 in
      alternatives_read k gs b.0 us i l.1 m (subst EachRead is (each_more ts a.0 each (alternative_read k g a.0 i l.0 m a.1))) b.2

  fun_clauses_read : (ks : List FunClause) (ts us : List Tree) → EachClause ks → EachRead ts → with_fun_clauses d ts ks ≡ Ok us → EachRead us
  fun_clauses_read [] ts us l each h = subst EachRead (same_ok ts us h) each
  fun_clauses_read (k ∷ ks) ts us l each h =
      let p = and_parts (is_fun_head k.head) (is_level_head k.head && (are_guards k.guards && are_exprs k.body)) l.0 in
      let q = and_parts (are_guards k.guards) (are_exprs k.body) (and_parts (is_level_head k.head) (are_guards k.guards && are_exprs k.body) p.1).1 in
      let a = then_ok (with_alternatives d k ts (alternatives_of k.guards)) (λ vs. with_fun_clauses d vs ks) us h in
      fun_clauses_read ks a.0 us l.1 (alternatives_read k (alternatives_of k.guards) ts a.0 p.0 (rows_level k.guards q.0) q.1 each a.1) a.2

  all_clauses : (ts : List Tree) → EachRead ts → (cs : List Clause) × (clauses_of d (of_elements ts) ≡ Ok cs)
  all_clauses [] each = ([], refl)
  all_clauses (t ∷ ts) each =
      let r = all_clauses ts each.1 in
      (each.0.0 ∷ r.0, ap (λ z. then_read z (λ c. then_read (clauses_of d (of_elements ts)) (λ cs. Ok (c ∷ cs)))) each.0.1 ∙ ap (λ z. then_read z (λ cs. Ok (each.0.0 ∷ cs))) r.1)

  spec_by : (ts : List Tree) → length ts ≢ 0 → EachRead ts → (s : Spec) × (spec_of d (list_term ts) ≡ Ok s)
  spec_by [] some each = absurd (some refl)
  spec_by (t ∷ ts) some each = let r = all_clauses (t ∷ ts) each in (_, ap (λ z. then_read z (λ cs. Ok (spec_with d cs))) r.1)

pub fun_is_a_specification : (d : Dialect) (xs : List FunSpan) (ks : List FunClause) (t : Tree) → DerivesFun xs ks → tree_of_fun d ks ≡ Ok t → (s : Spec) × (spec_of d t ≡ Ok s)
fun_is_a_specification d xs ks t derives h =
    let a = then_ok (with_fun_clauses d [] ks) (λ ts. Ok (list_term ts)) t h in
    let each = fun_clauses_read d ks [] a.0 (each_clause ks derives.clauses) tt a.1 in
    subst (λ x. (s : Spec) × (spec_of d x ≡ Ok s)) (same_ok (list_term a.0) t a.2) (spec_by d a.0 (some_terms d ks t a.0 derives.clauses h a.2) each)
