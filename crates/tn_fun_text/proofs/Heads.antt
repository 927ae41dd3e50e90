-- Patterns, and the greatest number of a variable in them.
use Rattle.std.proofs.Common.{◌≡◌, ◌∙◌, ℕ, ◌+◌, ◌<◌, ◌≤◌, ◌==◌, nat_lt, max, Bool, true, false, not, ◌||◌, if◌then◌else◌, List, length, get_or, drop, Some, None, Result, Ok, Err, refl, sym, ap, subst}
use Rattle.def_term.specs.Tree.{Tree, int, atom, pid, tuple, list, Trees}
use Rattle.def_term.specs.Names.{Name}
use Rattle.def_spec.specs.Reading.{AtomKind, a_variable, a_wrong_variable, a_plain_atom, atom_kind, is_wildcard}
use Rattle.def_fun.specs.Trees as tree
use Rattle.def_fun.specs.Trees.{FunExpr, FunExprs}
use Rattle.def_fun.specs.Variables.{ANY}
use Rattle.def_fun.specs.Translation.{is_variable_atom}
use Rattle.def_fun.specs.FunTexts.{OrReason, NoFunReason, wrong_order, no_head_atom, then_print, numbered_variable, is_text, string_expr, PrintedPattern, PrintedPatterns, pattern_atom, pattern_of_term, patterns_of_terms, head_of_term}
use Rattle.tn_term.specs.declared.term.Term.{Term}
use Rattle.tn_term.specs.Views.{tree_of, trees_of}
use Rattle.tn_term.proofs.Trees.{here, past}
use Rattle.tn_spec.specs.Answers.{list_elements}
use Rattle.tn_fun_text.specs.declared.reason.Reason.{Reason}
use Rattle.tn_fun_text.specs.Patterns.{greatest_in, SaysGreatest}

-- ---- lists

pub list_is : (t : Tree) (ts : Trees) → Some ts ≡ list_elements t → t ≡ list ts
list_is (int n) ts e = absurd (cc)
list_is (atom s) ts e = absurd (cc)
list_is (pid n) ts e = absurd (cc)
list_is (tuple us) ts e = absurd (cc)
list_is (list us) ts e = cc

pub no_list_head : (t : Tree) → None ≡ list_elements t → pattern_of_term 0 t ≡ head_of_term t
no_list_head (int n) e = refl
no_list_head (atom s) e = refl
no_list_head (pid n) e = refl
no_list_head (tuple us) e = refl
no_list_head (list us) e = absurd (cc)

-- ---- atoms

variable_if : (b : Bool) (g k : ℕ) → b ≡ false → greatest_in (if b then Err (wrong_order k (g + 1)) else Ok (numbered_variable k, max g k)) ≡ Ok (max g k)
variable_if false g k e = refl
variable_if true g k e = absurd (cc)

early_if : (b : Bool) (g k : ℕ) → b ≡ true → greatest_in (if b then Err (wrong_order k (g + 1)) else Ok (numbered_variable k, max g k)) ≡ Err (wrong_order k (g + 1))
early_if true g k e = refl
early_if false g k e = absurd (cc)

pub variable_greatest : (g k : ℕ) (s u : Name) → a_variable k ≡ atom_kind u → u ≡ s → ((k == 0) || nat_lt (g + 1) k) ≡ false → greatest_in (pattern_atom g s (atom_kind s)) ≡ Ok (max g k)
variable_greatest g k s u kind same e = ap (λ c. greatest_in (pattern_atom g s c)) (sym (kind ∙ ap atom_kind same)) ∙ variable_if ((k == 0) || nat_lt (g + 1) k) g k e

pub variable_early : (g k : ℕ) (s u : Name) → a_variable k ≡ atom_kind u → u ≡ s → ((k == 0) || nat_lt (g + 1) k) ≡ true → greatest_in (pattern_atom g s (atom_kind s)) ≡ Err (wrong_order k (g + 1))
variable_early g k s u kind same e = ap (λ c. greatest_in (pattern_atom g s c)) (sym (kind ∙ ap atom_kind same)) ∙ early_if ((k == 0) || nat_lt (g + 1) k) g k e

-- an atom that is no variable
abbrev plain_pattern : Bool → Bool → ℕ → Name → OrReason PrintedPattern
plain_pattern w v g s = if w then Ok (tree.variable 0 ANY, g) else (if v then Err (no_head_atom s) else Ok (tree.atom 0 s, g))

plain_if : (w v : Bool) (g : ℕ) (s : Name) → (w || not v) ≡ true → greatest_in (plain_pattern w v g s) ≡ Ok g
plain_if true v g s e = refl
plain_if false false g s e = refl
plain_if false true g s e = absurd (cc)

refused_if : (w v : Bool) (g : ℕ) (s : Name) → (w || not v) ≡ false → greatest_in (plain_pattern w v g s) ≡ Err (no_head_atom s)
refused_if false true g s e = refl
refused_if false false g s e = absurd (cc)
refused_if true v g s e = absurd (cc)

-- it is one of the two kinds
pub data IsNoVariable : AtomKind → Type 0 where
  wrong_is_none : IsNoVariable a_wrong_variable
  plain_is_none : IsNoVariable a_plain_atom

no_variable : (g : ℕ) (s : Name) (k : AtomKind) → IsNoVariable k → pattern_atom g s k ≡ plain_pattern (is_wildcard s) (is_variable_atom s) g s
no_variable g s (a_variable n) h = elim h [ ]
no_variable g s a_wrong_variable wrong_is_none = refl
no_variable g s a_plain_atom plain_is_none = refl

pub plain_greatest : (g : ℕ) (s u : Name) (k : AtomKind) → k ≡ atom_kind u → u ≡ s → IsNoVariable k → (is_wildcard u || not (is_variable_atom u)) ≡ true → greatest_in (pattern_atom g s (atom_kind s)) ≡ Ok g
plain_greatest g s u k kind same other e =
    ap (λ c. greatest_in (pattern_atom g s c)) (sym (kind ∙ ap atom_kind same)) ∙ ap greatest_in (no_variable g s k other)
    ∙ plain_if (is_wildcard s) (is_variable_atom s) g s (ap (λ v. is_wildcard v || not (is_variable_atom v)) (sym same) ∙ e)

pub plain_refused : (g : ℕ) (s u : Name) (k : AtomKind) → k ≡ atom_kind u → u ≡ s → IsNoVariable k → (is_wildcard u || not (is_variable_atom u)) ≡ false → greatest_in (pattern_atom g s (atom_kind s)) ≡ Err (no_head_atom s)
plain_refused g s u k kind same other e =
    ap (λ c. greatest_in (pattern_atom g s c)) (sym (kind ∙ ap atom_kind same)) ∙ ap greatest_in (no_variable g s k other)
    ∙ refused_if (is_wildcard s) (is_variable_atom s) g s (ap (λ v. is_wildcard v || not (is_variable_atom v)) (sym same) ∙ e)

-- ---- rows

number_same : (a b : ℕ) → ◌≡◌ {A = Result ℕ NoFunReason} (Ok a) (Ok b) → a ≡ b
number_same a b e = cc

greatest_more : (e : FunExpr) (r : OrReason PrintedPatterns) → greatest_in (then_print r (λ q. Ok (tree.more e q.0, q.1))) ≡ greatest_in r
greatest_more e (Ok q) = refl
greatest_more e (Err r) = refl

greatest_then : (r : OrReason PrintedPattern) (f : ℕ → OrReason PrintedPatterns) (h : ℕ) → greatest_in r ≡ Ok h
    → greatest_in (then_print r (λ p. then_print (f p.1) (λ q. Ok (tree.more p.0 q.0, q.1)))) ≡ greatest_in (f h)
greatest_then (Ok p) f h e = greatest_more p.0 (f p.1) ∙ ap (λ n. greatest_in (f n)) (number_same p.1 h e)
greatest_then (Err r) f h e = absurd (cc)

greatest_fails : (r : OrReason PrintedPattern) (f : ℕ → OrReason PrintedPatterns) (x : NoFunReason) → greatest_in r ≡ Err x
    → greatest_in (then_print r (λ p. then_print (f p.1) (λ q. Ok (tree.more p.0 q.0, q.1)))) ≡ Err x
greatest_fails (Ok p) f x e = absurd (cc)
greatest_fails (Err r) f x e = e

module _ {A : Type 0} (xs : List (Term A)) (i : ℕ) (x : Term A) (below : i < length xs) (is : x ≡ get_or xs i x) (whole : Result ℕ NoFunReason) where
  pub pattern_next : (g h : ℕ) → greatest_in (pattern_of_term g (tree_of x)) ≡ Ok h → greatest_in (patterns_of_terms g (trees_of (drop i xs))) ≡ whole → greatest_in (patterns_of_terms h (trees_of (drop (i + 1) xs))) ≡ whole
  pattern_next g h read so_far =
      sym (greatest_then (pattern_of_term g (tree_of x)) (λ n. patterns_of_terms n (trees_of (drop (i + 1) xs))) h read)
      ∙ ap (λ ts. greatest_in (patterns_of_terms g ts)) (sym (here tree_of xs i x below is)) ∙ so_far

  pub pattern_fails : (g : ℕ) (r : NoFunReason) → greatest_in (pattern_of_term g (tree_of x)) ≡ Err r → greatest_in (patterns_of_terms g (trees_of (drop i xs))) ≡ whole → whole ≡ Err r
  pattern_fails g r read so_far =
      sym so_far ∙ ap (λ ts. greatest_in (patterns_of_terms g ts)) (here tree_of xs i x below is)
      ∙ greatest_fails (pattern_of_term g (tree_of x)) (λ n. patterns_of_terms n (trees_of (drop (i + 1) xs))) r read

pub patterns_end : {A : Type 0} (xs : List (Term A)) (i g : ℕ) (whole : Result ℕ NoFunReason) → length xs ≤ i → greatest_in (patterns_of_terms g (trees_of (drop i xs))) ≡ whole → whole ≡ Ok g
patterns_end xs i g whole over so_far = sym so_far ∙ ap (λ ts. greatest_in (patterns_of_terms g ts)) (past tree_of xs i over)

-- ---- tuples and lists

enclosed_greatest : (f : FunExprs → FunExpr) (r : OrReason PrintedPatterns) → greatest_in (then_print r (λ p. Ok (f p.0, p.1))) ≡ greatest_in r
enclosed_greatest f (Ok p) = refl
enclosed_greatest f (Err r) = refl

module _ {A : Type 0} (result : Result ℕ (Reason A)) where
  -- what is said of a tree is said of a term that has it
  pub as_pattern : (g : ℕ) (t u : Tree) → t ≡ u → SaysGreatest (greatest_in (pattern_of_term g u)) result → SaysGreatest (greatest_in (pattern_of_term g t)) result
  as_pattern g t u e said = subst (λ v. SaysGreatest (greatest_in (pattern_of_term g v)) result) (sym e) said

  pub tuple_greatest : (g : ℕ) (t : Tree) (ts : Trees) → t ≡ tuple ts → SaysGreatest (greatest_in (patterns_of_terms g ts)) result → SaysGreatest (greatest_in (pattern_of_term g t)) result
  tuple_greatest g t ts e said =
      subst (λ r. SaysGreatest r result) (sym (ap (λ u. greatest_in (pattern_of_term g u)) e ∙ enclosed_greatest (tree.tuple 0) (patterns_of_terms g ts))) said

  pub list_greatest : (g : ℕ) (ts : Trees) → false ≡ is_text ts → SaysGreatest (greatest_in (patterns_of_terms g ts)) result → SaysGreatest (greatest_in (pattern_of_term g (list ts))) result
  list_greatest g ts text said =
      subst (λ r. SaysGreatest r result) (sym (ap (λ b. greatest_in (if b then Ok (string_expr ts, g) else then_print (patterns_of_terms g ts) (λ p. Ok (tree.list 0 p.0, p.1)))) (sym text) ∙ enclosed_greatest (tree.list 0) (patterns_of_terms g ts))) said

  pub head_greatest : (t : Tree) (ts : Trees) → Some ts ≡ list_elements t → SaysGreatest (greatest_in (patterns_of_terms 0 ts)) result → SaysGreatest (greatest_in (head_of_term t)) result
  head_greatest t ts e said =
      subst (λ r. SaysGreatest r result) (sym (ap (λ u. greatest_in (head_of_term u)) (list_is t ts e) ∙ enclosed_greatest (tree.list 0) (patterns_of_terms 0 ts))) said

  pub other_head : (t : Tree) → None ≡ list_elements t → SaysGreatest (greatest_in (pattern_of_term 0 t)) result → SaysGreatest (greatest_in (head_of_term t)) result
  other_head t e said = subst (λ r. SaysGreatest (greatest_in r) result) (no_list_head t e) said

pub text_greatest : (g : ℕ) (ts : Trees) → true ≡ is_text ts → greatest_in (pattern_of_term g (list ts)) ≡ Ok g
text_greatest g ts text = ap (λ b. greatest_in (if b then Ok (string_expr ts, g) else then_print (patterns_of_terms g ts) (λ p. Ok (tree.list 0 p.0, p.1)))) (sym text)
