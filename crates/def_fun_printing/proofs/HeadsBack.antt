-- The pattern that a term is printed as is translated to that term; its variables are numbered as they were.
use Rattle.std.proofs.Common.{◌≡◌, ℕ, zero, suc, ◌+◌, ◌<◌, ◌≤◌, ◌==◌, ℤ, pos, negsuc, max, nat_le, nat_lt, List, [], ◌∷◌, ◌++◌, length, Bool, true, false, ◌||◌, cond, Some, None, Ok, Err, codes, decimal, refl, ap, ap₂, sym, ◌∙◌, subst, arith, length-append, inl, inr}
use Rattle.std.specs.Str.{bytes_eq}
use Rattle.std.proofs.lemmas.Bool.{and_parts, and_from, or_cases, or_parts, or_left, or_right, cond-true, cond-false, leb-true, leb-false, le-leb, ltb-true, ltb-false, eqb-true, eqb-false, both_ways, false_from_ne_true}
use Rattle.std.proofs.lemmas.Fmt.{decimal_injective}
use Rattle.def_term.specs.Tree.{Tree, Trees, count, elements, of_elements, depth, greatest_depth}
use Rattle.def_term.specs.Tree as term
use Rattle.def_term.specs.Names.{Name, word}
use Rattle.def_term.specs.Text.{is_among}
use Rattle.def_text.specs.Limits.{LIST_LENGTH, in_range, sizes_fit, all_sizes_fit}
use Rattle.def_text.specs.Tokens.{all_are, is_printable}
use Rattle.def_text.specs.Writable.{is_writable, are_writable}
use Rattle.def_spec.specs.Matching.{Pattern, variable, anything, only_term, in_tuple, in_list, Patterns, no_patterns, and_pattern, occurs, occurs_in_some}
use Rattle.def_spec.specs.Reading.{badarg, Reads, then_read, AtomKind, a_variable, a_wrong_variable, a_plain_atom, atom_kind, is_wildcard, pattern_of_kind, pattern_of, patterns_of, head_of_kind, head_of}
use Rattle.def_fun.specs.Trees as tree
use Rattle.def_fun.specs.Trees.{FunExpr, FunExprs, each_expr, nesting_depth, greatest_nesting, is_pattern, are_patterns, alone}
use Rattle.def_fun.specs.Grammar.{has_level, have_levels, is_fun_head}
use Rattle.def_fun.specs.Limits.{GREATEST_INTEGER, is_sized, are_sized}
use Rattle.def_fun.specs.Refusals.{then_fun}
use Rattle.def_fun.specs.Variables.{ClauseNames, ANY, dollar_name, variables_in, variables_in_each, with_name, with_names, number_among, of_number, kind_of_number, variable_kind}
use Rattle.def_fun.specs.Translation.{VARIABLES, variable_term, is_variable_atom, pattern_term, pattern_terms}
use Rattle.def_fun.specs.FunTexts.{wrong_order, no_head_atom, no_pid, then_print, numbered_variable, integer_expr, is_character_code, are_character_codes, is_text, string_expr, PrintedPattern, PrintedPatterns, pattern_atom, pattern_of_term, patterns_of_terms, head_of_term}
use Rattle.def_fun.proofs.NamesGrow.{names_after}
use Rattle.def_fun.proofs.NumberedNames.{same_name, equal_names, other_name}
use Rattle.def_fun_printing.proofs.NumberAtoms.{dollar_back}
use Rattle.def_fun_printing.proofs.Offsets.{unplaced, unplaced_each}
use Rattle.def_fun_printing.proofs.ExprTexts.{HasText, HaveText}
use Rattle.def_fun_printing.proofs.ExprsBack.{number_name, number_sized, text_back}
use Rattle.def_fun_printing.proofs.PrintedHeads.{last_number}
use Rattle.def_fun_printing.proofs.Results.{same_ok, no_ok, print_ok, read_ok}

-- ---- results

-- ---- X1, X2, and so on

abbrev pub x_name : ℕ → Name
x_name k = codes "X" ++ decimal k

abbrev pub names_to : ℕ → List Name
names_to zero = []
names_to (suc n) = names_to n ++ x_name (suc n) ∷ []

names_counted : (n : ℕ) → length (names_to n) ≡ n
names_counted zero = refl
names_counted (suc n) = let later = names_counted n in let size = length-append (names_to n) (x_name (suc n) ∷ []) in omega (arith, later, size)

x_apart : (j k : ℕ) → j ≤ 999 → k ≤ 999 → x_name j ≡ x_name k → j ≡ k
x_apart j k h l e = decimal_injective j k (omega (arith, h)) (omega (arith, l)) (let tails : decimal j ≡ decimal k = cc in tails)

x_differs : (j k : ℕ) → j ≤ 999 → k ≤ 999 → j < k → bytes_eq (x_name k) (x_name j) ≡ false
x_differs j k h l less = false_from_ne_true (bytes_eq (x_name k) (x_name j)) (λ e. let same = x_apart k j l h (same_name (x_name k) (x_name j) e) in omega (arith, same, less))

or_joined : (a b c : Bool) → (a || (b || c)) ≡ ((a || b) || c)
or_joined true b c = refl
or_joined false b c = refl

pub among_end : (ns : List Name) (s u : Name) → is_among (ns ++ s ∷ []) u ≡ (is_among ns u || (bytes_eq u s || false))
among_end [] s u = refl
among_end (n ∷ ns) s u = ap (λ b. bytes_eq u n || b) (among_end ns s u) ∙ or_joined (bytes_eq u n) (is_among ns u) (bytes_eq u s || false)

-- a later number isn't among the names, and an earlier one is
not_among : (n k : ℕ) → n < k → k ≤ 999 → is_among (names_to n) (x_name k) ≡ false
not_among zero k less h = refl
not_among (suc n) k less h =
    among_end (names_to n) (x_name (suc n)) (x_name k)
    ∙ ap₂ (λ a b. a || (b || false)) (not_among n k (omega (arith, less)) h) (x_differs (suc n) k (omega (arith, less, h)) h less)

there_by : (n k : ℕ) (b : Bool) → nat_le k n ≡ b → 1 ≤ k → k ≤ suc n → (k ≤ n → is_among (names_to n) (x_name k) ≡ true) → (is_among (names_to n) (x_name k) || (bytes_eq (x_name k) (x_name (suc n)) || false)) ≡ true
there_by n k true e least most later = ap (λ b. b || (bytes_eq (x_name k) (x_name (suc n)) || false)) (later (leb-true k n e))
there_by n k false e least most later =
    let more = leb-false k n e in
    let same : k ≡ suc n = omega (arith, most, more) in
    or_right (is_among (names_to n) (x_name k)) (bytes_eq (x_name k) (x_name (suc n)) || false) (or_left (bytes_eq (x_name k) (x_name (suc n))) false (equal_names (x_name k) (x_name (suc n)) (ap x_name same)))

is_there : (n k : ℕ) → 1 ≤ k → k ≤ n → is_among (names_to n) (x_name k) ≡ true
is_there zero k least most = absurd (omega (arith, least, most))
is_there (suc n) k least most = among_end (names_to n) (x_name (suc n)) (x_name k) ∙ there_by n k (nat_le k n) refl least most (λ h. is_there n k least h)

number_by : (j : ℕ) (n : Name) (ns : List Name) (s u : Name) (b : Bool) → bytes_eq u n ≡ b → (b || is_among ns u) ≡ true → (is_among ns u ≡ true → number_among (j + 1) (ns ++ s ∷ []) u ≡ number_among (j + 1) ns u) → number_among j (n ∷ (ns ++ s ∷ [])) u ≡ number_among j (n ∷ ns) u
number_by j n ns s u true e h later = let same = equal_names n u (sym (same_name u n e)) in cond-true (bytes_eq n u) _ _ same ∙ sym (cond-true (bytes_eq n u) _ _ same)
number_by j n ns s u false e h later = let other = other_name n u e in cond-false (bytes_eq n u) _ _ other ∙ later h ∙ sym (cond-false (bytes_eq n u) _ _ other)

number_end : (j : ℕ) (ns : List Name) (s u : Name) → is_among ns u ≡ true → number_among j (ns ++ s ∷ []) u ≡ number_among j ns u
number_end j [] s u h = absurd (let no : false ≡ true = h in cc)
number_end j (n ∷ ns) s u h = number_by j n ns s u (bytes_eq u n) refl h (λ g. number_end (j + 1) ns s u g)

place_by : (n k : ℕ) (b : Bool) → nat_le k n ≡ b → 1 ≤ k → k ≤ suc n → suc n ≤ 999 → (k ≤ n → number_among 1 (names_to n) (x_name k) ≡ Some k) → number_among 1 (names_to n ++ x_name (suc n) ∷ []) (x_name k) ≡ Some k
place_by n k true e least most h later = let less = leb-true k n e in number_end 1 (names_to n) (x_name (suc n)) (x_name k) (is_there n k least less) ∙ later less
place_by n k false e least most h later =
    let more = leb-false k n e in
    let same : k ≡ suc n = omega (arith, most, more) in
    let counted = names_counted n in
    ap (λ j. number_among 1 (names_to n ++ x_name (suc n) ∷ []) (x_name j)) same
    ∙ last_number 1 (names_to n) [] (x_name (suc n)) (not_among n (suc n) (omega arith) h)
    ∙ ap (λ j. Some j) (let e : length (names_to n) + 1 ≡ k = omega (arith, counted, same) in e)

number_there : (n k : ℕ) → 1 ≤ k → k ≤ n → n ≤ 999 → number_among 1 (names_to n) (x_name k) ≡ Some k
number_there zero k least most h = absurd (omega (arith, least, most))
number_there (suc n) k least most h = place_by n k (nat_le k n) refl least most h (λ l. number_there n k least l (omega (arith, h)))

-- the names of a head whose last variable is that one
abbrev pub names_up_to : ℕ → ClauseNames
names_up_to n = record { of_whole = None; numbers = names_to n }

pub kind_there : (n k : ℕ) → 1 ≤ k → k ≤ n → n ≤ 999 → variable_kind (names_up_to n) (x_name k) ≡ of_number k
kind_there n k least most h = ap kind_of_number (number_there n k least most h)

-- ---- patterns

-- a pattern that is translated to the term, between two greatest numbers of variables
pub record IsPatternBack (g : ℕ) (t : Tree) (e : FunExpr) (n : ℕ) (p : Pattern) : Type 0 where
  pub text : HasText e
  pub bare : unplaced e ≡ e
  pub pattern : is_pattern e ≡ true
  pub level : has_level 1 e ≡ true
  pub sized : is_sized e ≡ true
  pub deep : nesting_depth e ≤ depth t + 1
  pub grows : g ≤ n
  pub small : g ≤ 999 → n ≤ 999
  pub names : n ≤ 999 → with_names None (names_to g) (variables_in e) ≡ names_to n
  pub back : (m : ℕ) → n ≤ m → m ≤ 999 → pattern_term (names_up_to m) e ≡ Ok t
  pub bound : (k : ℕ) → occurs k p ≡ true → (1 ≤ k) × (k ≤ n)

pub record ArePatternsBack (g : ℕ) (ts : Trees) (es : FunExprs) (n : ℕ) (ps : Patterns) : Type 0 where
  pub text : HaveText es
  pub bare : unplaced_each es ≡ es
  pub pattern : are_patterns es ≡ true
  pub level : have_levels es ≡ true
  pub sized : are_sized es ≡ true
  pub counted : length (each_expr es) ≡ count ts
  pub deep : greatest_nesting es ≤ greatest_depth ts + 1
  pub grows : g ≤ n
  pub small : g ≤ 999 → n ≤ 999
  pub names : n ≤ 999 → with_names None (names_to g) (variables_in_each es) ≡ names_to n
  pub back : (m : ℕ) → n ≤ m → m ≤ 999 → (us : List Tree) × (pattern_terms (names_up_to m) es ≡ Ok us) × (of_elements us ≡ ts)
  pub bound : (k : ℕ) → occurs_in_some k ps ≡ true → (1 ≤ k) × (k ≤ n)

never : (k n : ℕ) (b : Bool) → b ≡ false → b ≡ true → (1 ≤ k) × (k ≤ n)
never k n b h e = absurd (both_ways b h e)

int_pattern : (g : ℕ) (z : ℤ) → in_range z ≡ true → IsPatternBack g (term.int z) (integer_expr (term.int z)) g (only_term (term.int z))
int_pattern g (pos n) h =
    let less = ltb-true n 9223372036854775808 h in
    record { text = omega (arith, less); bare = refl; pattern = refl; level = refl; sized = le-leb n GREATEST_INTEGER (omega (arith, less)); deep = omega arith; grows = omega arith; small = λ x. x; names = λ x. refl; back = λ m x y. refl; bound = λ k e. never k g false refl e }
int_pattern g (negsuc n) h =
    let less = ltb-true n 9223372036854775808 h in
    record { text = omega (arith, less); bare = refl; pattern = refl; level = refl; sized = le-leb (suc n) (GREATEST_INTEGER + 1) (omega (arith, less)); deep = omega arith; grows = omega arith; small = λ x. x; names = λ x. refl; back = λ m x y. refl; bound = λ k e. never k g false refl e }

any_pattern : (g : ℕ) → IsPatternBack g (word "_") (tree.variable 0 ANY) g anything
any_pattern g = record { text = refl; bare = refl; pattern = refl; level = refl; sized = refl; deep = omega arith; grows = omega arith; small = λ x. x; names = λ x. refl; back = λ m x y. refl; bound = λ k e. never k g false refl e }

atom_pattern : (g : ℕ) (s : Name) → all_are is_printable s ≡ true → nat_le (length s) 255 ≡ true → is_variable_atom s ≡ false → IsPatternBack g (term.atom s) (tree.atom 0 s) g (only_term (term.atom s))
atom_pattern g s h size plain = record {
  text = h;
  bare = refl;
  pattern = refl;
  level = refl;
  sized = size;
  deep = omega arith;
  grows = omega arith;
  small = λ x. x;
  names = λ x. refl;
  back = λ m x y. cond-false (is_variable_atom s) _ _ plain;
  bound = λ k e. never k g false refl e;
}

-- the names with that variable
added : (g k : ℕ) (b : Bool) → nat_le k g ≡ b → 1 ≤ k → k ≤ g + 1 → k ≤ 999 → with_name None (names_to g) (x_name k) ≡ names_to (max g k)
added g k true e least most few =
    let less = leb-true k g e in
    let same : g ≡ max g k = omega (arith, less) in
    cond-true (is_among (names_to g) (x_name k)) _ _ (is_there g k least less) ∙ ap names_to same
added g k false e least most few =
    let more = leb-false k g e in
    let next : k ≡ suc g = omega (arith, most, more) in
    let same : suc g ≡ max g k = omega (arith, next) in
    cond-false (is_among (names_to g) (x_name k)) _ _ (not_among g k more few) ∙ ap (λ j. names_to g ++ x_name j ∷ []) next ∙ ap names_to same

above_zero : (k : ℕ) → (k ≡ 0 → ⊥) → 1 ≤ k
above_zero zero h = absurd (h refl)
above_zero (suc k) h = omega arith

-- a variable that is there, or the next one
number_pattern : (g k : ℕ) → 1 ≤ k → k ≤ g + 1 → k ≤ 999 → IsPatternBack g (term.atom (dollar_name k)) (numbered_variable k) (max g k) (variable k)
number_pattern g k least most few = record {
  text = number_name k few;
  bare = refl;
  pattern = refl;
  level = refl;
  sized = number_sized k few;
  deep = omega arith;
  grows = omega arith;
  small = λ h. omega (arith, h, few);
  names = λ h. added g k (nat_le k g) refl least most few;
  back = λ m h l. ap (λ v. variable_term (x_name k) 0 v) (kind_there m k least (omega (arith, h)) l) ∙ cond-true (nat_le k VARIABLES) _ _ (le-leb k VARIABLES few);
  bound = λ j e. let same = eqb-true j k e in (omega (arith, same, least), omega (arith, same));
}

-- ---- atoms

variable_by : (g k : ℕ) (b : Bool) (p : PrintedPattern) → ((k == 0) || nat_lt (g + 1) k) ≡ b → cond b (Err (wrong_order k (g + 1))) (Ok (numbered_variable k, max g k)) ≡ Ok p → (1 ≤ k) × (k ≤ g + 1) × ((numbered_variable k, max g k) ≡ p)
variable_by g k true p e h = absurd (no_ok (wrong_order k (g + 1)) p h)
variable_by g k false p e h =
    let q = or_parts (k == 0) (nat_lt (g + 1) k) e in
    let most = ltb-false (g + 1) k q.1 in
    (above_zero k (eqb-false k 0 q.0), most, same_ok _ p h)

plain_by : (g : ℕ) (s : Name) (w v : Bool) (p : PrintedPattern) (q : Pattern) → is_wildcard s ≡ w → is_variable_atom s ≡ v → all_are is_printable s ≡ true → nat_le (length s) 255 ≡ true → cond w (Ok (tree.variable 0 ANY, g)) (cond v (Err (no_head_atom s)) (Ok (tree.atom 0 s, g))) ≡ Ok p
    → ◌≡◌ {A = Reads Pattern} (Ok (cond w anything (only_term (term.atom s)))) (Ok q) → IsPatternBack g (term.atom s) p.0 p.1 q
plain_by g s true v p q is_w is_v text size h r =
    subst (λ x. IsPatternBack g (term.atom s) x.0 x.1 q) (same_ok (tree.variable 0 ANY, g) p h)
    (subst (IsPatternBack g (term.atom s) (tree.variable 0 ANY) g) (same_ok anything q r) (subst (λ x. IsPatternBack g (term.atom x) (tree.variable 0 ANY) g anything) (sym (same_name s (codes "_") is_w)) (any_pattern g)))
plain_by g s false true p q is_w is_v text size h r = absurd (no_ok (no_head_atom s) p h)
plain_by g s false false p q is_w is_v text size h r =
    subst (λ x. IsPatternBack g (term.atom s) x.0 x.1 q) (same_ok (tree.atom 0 s, g) p h) (subst (IsPatternBack g (term.atom s) (tree.atom 0 s) g) (same_ok (only_term (term.atom s)) q r) (atom_pattern g s text size is_v))

kind_by : (g : ℕ) (s : Name) (k : AtomKind) (p : PrintedPattern) (q : Pattern) → atom_kind s ≡ k → all_are is_printable s ≡ true → nat_le (length s) 255 ≡ true → pattern_atom g s k ≡ Ok p → pattern_of_kind s k ≡ Ok q → IsPatternBack g (term.atom s) p.0 p.1 q
kind_by g s (a_variable k) p q kind text size h r =
    let x = variable_by g k ((k == 0) || nat_lt (g + 1) k) p refl h in
    let y = dollar_back s k kind in
    subst (λ z. IsPatternBack g (term.atom s) z.0 z.1 q) x.2
    (subst (IsPatternBack g (term.atom s) (numbered_variable k) (max g k)) (same_ok (variable k) q r) (subst (λ z. IsPatternBack g (term.atom z) (numbered_variable k) (max g k) (variable k)) (sym y.0) (number_pattern g k x.0 x.1 y.1)))
kind_by g s a_wrong_variable p q kind text size h r = absurd (no_ok badarg q r)
kind_by g s a_plain_atom p q kind text size h r = plain_by g s (is_wildcard s) (is_variable_atom s) p q refl refl text size h r

-- ---- lists and tuples

codes_occur : (k : ℕ) (ts : Trees) (ps : Patterns) → are_character_codes ts ≡ true → patterns_of ts ≡ Ok ps → occurs_in_some k ps ≡ false
codes_occur k term.none ps c h = ap (occurs_in_some k) (sym (same_ok no_patterns ps h))
codes_occur k (term.more (term.int z) ts) ps c h =
    let a = read_ok (patterns_of ts) (λ qs. Ok (and_pattern (only_term (term.int z)) qs)) ps h in
    ap (occurs_in_some k) (sym (same_ok _ ps a.2)) ∙ codes_occur k ts a.0 (and_parts (is_character_code (term.int z)) (are_character_codes ts) c).1 a.1
codes_occur k (term.more (term.atom s) ts) ps c h = absurd (let no : false ≡ true = c in cc)
codes_occur k (term.more (term.pid n) ts) ps c h = absurd (let no : false ≡ true = c in cc)
codes_occur k (term.more (term.tuple us) ts) ps c h = absurd (let no : false ≡ true = c in cc)
codes_occur k (term.more (term.list us) ts) ps c h = absurd (let no : false ≡ true = c in cc)

text_occurs : (k : ℕ) (ts : Trees) (ps : Patterns) → is_text ts ≡ true → patterns_of ts ≡ Ok ps → occurs_in_some k ps ≡ false
text_occurs k term.none ps c h = absurd (let no : false ≡ true = c in cc)
text_occurs k (term.more t ts) ps c h = codes_occur k (term.more t ts) ps c h

string_pattern : (g : ℕ) (ts : Trees) (ps : Patterns) → is_text ts ≡ true → nat_le (count ts) LIST_LENGTH ≡ true → patterns_of ts ≡ Ok ps → IsPatternBack g (term.list ts) (string_expr ts) g (in_list ps)
string_pattern g ts ps text size read =
    let s = text_back ts text size in
    record {
      text = (s.printable, refl);
      bare = refl;
      pattern = refl;
      level = refl;
      sized = s.sized;
      deep = omega arith;
      grows = omega arith;
      small = λ x. x;
      names = λ x. refl;
      back = λ m x y. ap (λ us. Ok (term.list us)) s.codes_are;
      bound = λ k e. never k g (occurs_in_some k ps) (text_occurs k ts ps text read) e;
    }

list_pattern : (g n : ℕ) (ts : Trees) (es : FunExprs) (ps : Patterns) → nat_le (count ts) LIST_LENGTH ≡ true → ArePatternsBack g ts es n ps → IsPatternBack g (term.list ts) (tree.list 0 es) n (in_list ps)
list_pattern g n ts es ps size r =
    let deep = r.deep in
    record {
      text = r.text;
      bare = ap (tree.list 0) r.bare;
      pattern = r.pattern;
      level = r.level;
      sized = and_from (nat_le (length (each_expr es)) LIST_LENGTH) (are_sized es) (ap (λ k. nat_le k LIST_LENGTH) r.counted ∙ size) r.sized;
      deep = omega (arith, deep);
      grows = r.grows;
      small = r.small;
      names = r.names;
      back = λ m h l. let b = r.back m h l in ap (λ z. then_fun z (λ us. Ok (term.list (of_elements us)))) b.1 ∙ ap (λ us. Ok (term.list us)) b.2;
      bound = r.bound;
    }

tuple_pattern : (g n : ℕ) (ts : Trees) (es : FunExprs) (ps : Patterns) → nat_le (count ts) 255 ≡ true → ArePatternsBack g ts es n ps → IsPatternBack g (term.tuple ts) (tree.tuple 0 es) n (in_tuple ps)
tuple_pattern g n ts es ps size r =
    let deep = r.deep in
    record {
      text = r.text;
      bare = ap (tree.tuple 0) r.bare;
      pattern = r.pattern;
      level = r.level;
      sized = and_from (nat_le (length (each_expr es)) 255) (are_sized es) (ap (λ k. nat_le k 255) r.counted ∙ size) r.sized;
      deep = omega (arith, deep);
      grows = r.grows;
      small = r.small;
      names = r.names;
      back = λ m h l. let b = r.back m h l in ap (λ z. then_fun z (λ us. Ok (term.tuple (of_elements us)))) b.1 ∙ ap (λ us. Ok (term.tuple us)) b.2;
      bound = r.bound;
    }

one_more : (g m n : ℕ) (t : Tree) (ts : Trees) (e : FunExpr) (es : FunExprs) (p : Pattern) (ps : Patterns) → IsPatternBack g t e m p → ArePatternsBack m ts es n ps → ArePatternsBack g (term.more t ts) (tree.more e es) n (and_pattern p ps)
one_more g m n t ts e es p ps a b =
    let deep = a.deep in
    let more_deep = b.deep in
    let up = a.grows in
    let more_up = b.grows in
    let counted = b.counted in
    record {
      text = (a.text, b.text);
      bare = ap₂ tree.more a.bare b.bare;
      pattern = and_from (is_pattern e) (are_patterns es) a.pattern b.pattern;
      level = and_from (has_level 1 e) (have_levels es) a.level b.level;
      sized = and_from (is_sized e) (are_sized es) a.sized b.sized;
      counted = omega (arith, counted);
      deep = omega (arith, deep, more_deep);
      grows = omega (arith, up, more_up);
      small = λ h. b.small (a.small h);
      names = λ h. names_after None (names_to g) (variables_in e) (variables_in_each es) ∙ ap (λ ns. with_names None ns (variables_in_each es)) (a.names (omega (arith, h, more_up))) ∙ b.names h;
      back = λ k h l.
          let c = b.back k h l in
          (t ∷ c.0, ap (λ z. then_fun z (λ x. then_fun (pattern_terms (names_up_to k) es) (λ xs. Ok (x ∷ xs)))) (a.back k (omega (arith, h, more_up)) l) ∙ ap (λ z. then_fun z (λ xs. Ok (t ∷ xs))) c.1, ap (term.more t) c.2);
      bound = λ k o.
          elim (or_cases (occurs k p) (occurs_in_some k ps) o) [ inl x ↦ (let q = a.bound k x in let most = q.1 in (q.0, omega (arith, most, more_up))) | inr x ↦ b.bound k x ];
    }

list_by : (g : ℕ) (ts : Trees) (b : Bool) (p : PrintedPattern) (ps : Patterns) → is_text ts ≡ b → nat_le (count ts) LIST_LENGTH ≡ true → patterns_of ts ≡ Ok ps → ((q : PrintedPatterns) → patterns_of_terms g ts ≡ Ok q → ArePatternsBack g ts q.0 q.1 ps)
    → cond b (Ok (string_expr ts, g)) (then_print (patterns_of_terms g ts) (λ q. Ok (tree.list 0 q.0, q.1))) ≡ Ok p → IsPatternBack g (term.list ts) p.0 p.1 (in_list ps)
list_by g ts true p ps text size read rows h = subst (λ x. IsPatternBack g (term.list ts) x.0 x.1 (in_list ps)) (same_ok (string_expr ts, g) p h) (string_pattern g ts ps text size read)
list_by g ts false p ps text size read rows h =
    let a = print_ok (patterns_of_terms g ts) (λ q. Ok (tree.list 0 q.0, q.1)) p h in
    subst (λ x. IsPatternBack g (term.list ts) x.0 x.1 (in_list ps)) (same_ok (tree.list 0 a.0.0, a.0.1) p a.2) (list_pattern g a.0.1 ts a.0.0 ps size (rows a.0 a.1))

mutual
  -- each term is that of its pattern
  pub pattern_back : (g : ℕ) (t : Tree) (p : PrintedPattern) (q : Pattern) → pattern_of_term g t ≡ Ok p → pattern_of t ≡ Ok q → is_writable t ≡ true → sizes_fit t ≡ true → IsPatternBack g t p.0 p.1 q
  pattern_back g (term.int z) p q h r w s =
      subst (λ x. IsPatternBack g (term.int z) x.0 x.1 q) (same_ok (integer_expr (term.int z), g) p h) (subst (IsPatternBack g (term.int z) (integer_expr (term.int z)) g) (same_ok (only_term (term.int z)) q r) (int_pattern g z s))
  pattern_back g (term.atom a) p q h r w s = kind_by g a (atom_kind a) p q refl w s h r
  pattern_back g (term.pid n) p q h r w s = absurd (no_ok (no_pid n) p h)
  pattern_back g (term.tuple ts) p q h r w s =
      let sizes = and_parts (nat_le (count ts) 255) (all_sizes_fit ts) s in
      let a = print_ok (patterns_of_terms g ts) (λ x. Ok (tree.tuple 0 x.0, x.1)) p h in
      let b = read_ok (patterns_of ts) (λ ps. Ok (in_tuple ps)) q r in
      subst (λ x. IsPatternBack g (term.tuple ts) x.0 x.1 q) (same_ok (tree.tuple 0 a.0.0, a.0.1) p a.2)
      (subst (IsPatternBack g (term.tuple ts) (tree.tuple 0 a.0.0) a.0.1) (same_ok (in_tuple b.0) q b.2) (tuple_pattern g a.0.1 ts a.0.0 b.0 sizes.0 (patterns_back g ts a.0 b.0 a.1 b.1 w sizes.1)))
  pattern_back g (term.list ts) p q h r w s =
      let sizes = and_parts (nat_le (count ts) LIST_LENGTH) (all_sizes_fit ts) s in
      let b = read_ok (patterns_of ts) (λ ps. Ok (in_list ps)) q r in
      subst (IsPatternBack g (term.list ts) p.0 p.1) (same_ok (in_list b.0) q b.2) (list_by g ts (is_text ts) p b.0 refl sizes.0 b.1 (λ x k. patterns_back g ts x b.0 k b.1 w sizes.1) h)

  pub patterns_back : (g : ℕ) (ts : Trees) (p : PrintedPatterns) (q : Patterns) → patterns_of_terms g ts ≡ Ok p → patterns_of ts ≡ Ok q → are_writable ts ≡ true → all_sizes_fit ts ≡ true → ArePatternsBack g ts p.0 p.1 q
  patterns_back g term.none p q h r w s =
      subst (λ x. ArePatternsBack g term.none x.0 x.1 q) (same_ok (tree.none, g) p h)
      (subst (ArePatternsBack g term.none tree.none g) (same_ok no_patterns q r)
      (record { text = tt; bare = refl; pattern = refl; level = refl; sized = refl; counted = refl; deep = omega arith; grows = omega arith; small = λ x. x; names = λ x. refl; back = λ m x y. ([], refl, refl); bound = λ k e. never k g false refl e }))
  patterns_back g (term.more t ts) p q h r w s =
      let writable = and_parts (is_writable t) (are_writable ts) w in
      let sizes = and_parts (sizes_fit t) (all_sizes_fit ts) s in
      let a = print_ok (pattern_of_term g t) (λ x. then_print (patterns_of_terms x.1 ts) (λ y. Ok (tree.more x.0 y.0, y.1))) p h in
      let b = print_ok (patterns_of_terms a.0.1 ts) (λ y. Ok (tree.more a.0.0 y.0, y.1)) p a.2 in
      let c = read_ok (pattern_of t) (λ x. then_read (patterns_of ts) (λ xs. Ok (and_pattern x xs))) q r in
      let f = read_ok (patterns_of ts) (λ xs. Ok (and_pattern c.0 xs)) q c.2 in
      subst (λ x. ArePatternsBack g (term.more t ts) x.0 x.1 q) (same_ok (tree.more a.0.0 b.0.0, b.0.1) p b.2)
      (subst (ArePatternsBack g (term.more t ts) (tree.more a.0.0 b.0.0) b.0.1) (same_ok (and_pattern c.0 f.0) q f.2)
      (one_more g a.0.1 b.0.1 t ts a.0.0 b.0.0 c.0 f.0 (pattern_back g t a.0 c.0 a.1 c.1 writable.0 sizes.0) (patterns_back a.0.1 ts b.0 f.0 b.1 f.1 writable.1 sizes.1)))

-- ---- heads

-- a head that is translated to the term, and binds the variables of the specification's
pub record IsHeadBack (t : Tree) (e : FunExpr) (p : Pattern) : Type 0 where
  pub text : HasText e
  pub bare : unplaced e ≡ e
  pub head : is_fun_head (alone e) ≡ true
  pub level : has_level 1 e ≡ true
  pub sized : is_sized e ≡ true
  pub deep : nesting_depth e ≤ depth t + 1
  pub greatest : ℕ
  pub names : with_names None [] (variables_in e) ≡ names_to greatest
  pub small : greatest ≤ 999
  pub back : pattern_term (names_up_to greatest) e ≡ Ok t
  pub bound : (k : ℕ) → occurs k p ≡ true → variable_kind (names_up_to greatest) (x_name k) ≡ of_number k

pattern_head : (t : Tree) (e : FunExpr) (n : ℕ) (p : Pattern) → is_fun_head (alone e) ≡ true → IsPatternBack 0 t e n p → IsHeadBack t e p
pattern_head t e n p head b =
    let small = b.small (omega arith) in
    record {
      text = b.text;
      bare = b.bare;
      head = head;
      level = b.level;
      sized = b.sized;
      deep = b.deep;
      greatest = n;
      names = b.names small;
      small = small;
      back = b.back n (omega arith) small;
      bound = λ k o. let q = b.bound k o in kind_there n k q.0 q.1 small;
    }

any_head_by : (s : Name) (w : Bool) (p : PrintedPattern) (q : Pattern) → is_wildcard s ≡ w → atom_kind s ≡ a_plain_atom → all_are is_printable s ≡ true → nat_le (length s) 255 ≡ true → cond w (Ok (tree.variable 0 ANY, 0)) (cond (is_variable_atom s) (Err (no_head_atom s)) (Ok (tree.atom 0 s, 0))) ≡ Ok p
    → cond w (Ok anything) (Err badarg) ≡ Ok q → IsHeadBack (term.atom s) p.0 q
any_head_by s true p q is_w kind text size h r =
    let same = same_ok (tree.variable 0 ANY, 0) p h in
    let b = subst (λ x. IsPatternBack 0 (term.atom x) (tree.variable 0 ANY) 0 anything) (sym (same_name s (codes "_") is_w)) (any_pattern 0) in
    subst (λ x. IsHeadBack (term.atom s) x.0 q) same (subst (IsHeadBack (term.atom s) (tree.variable 0 ANY)) (same_ok anything q r) (pattern_head (term.atom s) (tree.variable 0 ANY) 0 anything refl b))
any_head_by s false p q is_w kind text size h r = absurd (no_ok badarg q r)

-- a whole head that is an atom
head_kind_by : (s : Name) (k : AtomKind) (p : PrintedPattern) (q : Pattern) → atom_kind s ≡ k → all_are is_printable s ≡ true → nat_le (length s) 255 ≡ true → pattern_atom 0 s k ≡ Ok p → head_of_kind s k ≡ Ok q → IsHeadBack (term.atom s) p.0 q
head_kind_by s (a_variable k) p q kind text size h r =
    let x = variable_by 0 k ((k == 0) || nat_lt (0 + 1) k) p refl h in
    pattern_head (term.atom s) p.0 p.1 q (ap (λ z. is_fun_head (alone z.0)) (sym x.2)) (kind_by 0 s (a_variable k) p q kind text size h r)
head_kind_by s a_wrong_variable p q kind text size h r = absurd (no_ok badarg q r)
head_kind_by s a_plain_atom p q kind text size h r = any_head_by s (is_wildcard s) p q refl kind text size h r

-- each head is that of its pattern
pub head_back : (t : Tree) (p : PrintedPattern) (q : Pattern) → head_of_term t ≡ Ok p → head_of t ≡ Ok q → is_writable t ≡ true → sizes_fit t ≡ true → IsHeadBack t p.0 q
head_back (term.int z) p q h r w s = absurd (no_ok badarg q r)
head_back (term.atom a) p q h r w s = head_kind_by a (atom_kind a) p q refl w s h r
head_back (term.pid n) p q h r w s = absurd (no_ok badarg q r)
head_back (term.tuple ts) p q h r w s = absurd (no_ok badarg q r)
head_back (term.list ts) p q h r w s =
    let sizes = and_parts (nat_le (count ts) LIST_LENGTH) (all_sizes_fit ts) s in
    let a = print_ok (patterns_of_terms 0 ts) (λ x. Ok (tree.list 0 x.0, x.1)) p h in
    let b = read_ok (patterns_of ts) (λ ps. Ok (in_list ps)) q r in
    let rows = patterns_back 0 ts a.0 b.0 a.1 b.1 w sizes.1 in
    subst (λ x. IsHeadBack (term.list ts) x.0 q) (same_ok (tree.list 0 a.0.0, a.0.1) p a.2)
    (subst (IsHeadBack (term.list ts) (tree.list 0 a.0.0)) (same_ok (in_list b.0) q b.2) (pattern_head (term.list ts) (tree.list 0 a.0.0) a.0.1 (in_list b.0) rows.pattern (list_pattern 0 a.0.1 ts a.0.0 b.0 sizes.0 rows)))
