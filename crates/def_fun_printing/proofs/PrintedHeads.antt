-- The term of a head is printed: its variables have numbers in their order.
use Rattle.std.proofs.Common.{◌≡◌, ℕ, ◌+◌, ◌<◌, ◌≤◌, ◌==◌, pos, neg_ℤ, nat_le, nat_lt, max, List, [], ◌∷◌, ◌++◌, length, Bool, true, false, ◌&&◌, ◌||◌, cond, Option, Some, Ok, Err, codes, refl, ap, sym, ◌∙◌, subst, arith, append_assoc, length-append}
use Rattle.std.specs.Str.{bytes_eq}
use Rattle.std.proofs.lemmas.Bool.{and_parts, cond-true, cond-false, leb-true, both_ways, false_from_ne_true}
use Rattle.std.proofs.lemmas.Bool.Decides.{nat_tests}
use Rattle.std.proofs.lemmas.List.{append-nil}
use Rattle.def_term.specs.Tree.{Tree, Trees, elements, of_elements, depth}
use Rattle.def_term.specs.Tree as term
use Rattle.def_term.specs.Names.{Name, word}
use Rattle.def_term.specs.Text.{is_digit, is_among}
use Rattle.def_text.specs.Grammar.{of_codes}
use Rattle.def_text.specs.Limits.{LIST_LENGTH}
use Rattle.def_text.proofs.Complete.{elements-of}
use Rattle.def_spec.specs.Reading.{a_plain_atom, all_digits, is_dollar_number, atom_kind, is_wildcard}
use Rattle.def_fun.specs.Trees as tree
use Rattle.def_fun.specs.Trees.{FunExpr, FunExprs, first_byte, joined_codes, FunHead, alone, both}
use Rattle.def_fun.specs.Refusals.{FunRefusal, too_large_at, too_deep_at, head_atom, list_with_tail, minus_alone, whole_head, OrRefusal, then_fun}
use Rattle.def_fun.specs.Variables.{ClauseNames, ANY, dollar_name, name_of_variable, name_of_whole, matched_part, names_of, variables_in, variables_in_each, is_of_whole, with_name, with_names, number_among, the_whole, anything_there, kind_of_number, variable_kind}
use Rattle.def_fun.specs.Translation.{VARIABLES, variable_term, is_proper_tail, elements_of_list, onto_tail, are_digits, is_signed, is_variable_atom, pattern_term, pattern_terms, HEAD_DEPTH, within_depth, is_same_name, name_or_none, head_term}
use Rattle.def_fun.specs.FunTexts.{OrReason, no_head_atom, then_print, numbered_variable, integer_expr, is_character_code, are_character_codes, is_text, string_expr, PrintedPattern, PrintedPatterns, pattern_atom, pattern_of_term, patterns_of_terms, head_of_term}
use Rattle.def_fun.proofs.NamesGrow.{names_after, names_grow}
use Rattle.def_fun.proofs.NumberedNames.{equal_names, same_name, other_name}
use Rattle.def_fun.proofs.Translations.{then_ok}
use Rattle.def_fun_printing.proofs.NumberAtoms.{number_kind, digits_same}
use Rattle.def_fun_printing.proofs.Results.{same_ok, no_ok, print_ok}

-- a term that is printed as a pattern after a greatest number, with the greatest number then
pub record IsPattern (g n : ℕ) (t : Tree) : Type 0 where
  pub expr : FunExpr
  pub is : pattern_of_term g t ≡ Ok (expr, n)

pub record ArePatterns (g n : ℕ) (ts : Trees) : Type 0 where
  pub exprs : FunExprs
  pub are : patterns_of_terms g ts ≡ Ok (exprs, n)

-- ---- numbers of names

-- the number of a name that is among some, and there are more after it
record IsAmongFirst (k : ℕ) (ns more : List Name) (s : Name) : Type 0 where
  pub number : ℕ
  pub is : number_among k (ns ++ more) s ≡ Some number
  pub least : k ≤ number
  pub most : number < k + length ns

first_by : (k : ℕ) (n : Name) (ns more : List Name) (s : Name) (b : Bool) → bytes_eq s n ≡ b → (b || is_among ns s) ≡ true → (is_among ns s ≡ true → IsAmongFirst (k + 1) ns more s) → IsAmongFirst k (n ∷ ns) more s
first_by k n ns more s true e h later = record { number = k; is = cond-true (bytes_eq n s) _ _ (equal_names n s (sym (same_name s n e))); least = omega arith; most = omega arith }
first_by k n ns more s false e h later =
    let r = later h in
    let least = r.least in
    let most = r.most in
    let other = other_name n s e in
    record { number = r.number; is = cond-false (bytes_eq n s) _ _ other ∙ r.is; least = omega (arith, least); most = omega (arith, most) }

among_first : (k : ℕ) (ns more : List Name) (s : Name) → is_among ns s ≡ true → IsAmongFirst k ns more s
among_first k [] more s h = absurd (let no : false ≡ true = h in cc)
among_first k (n ∷ ns) more s h = first_by k n ns more s (bytes_eq s n) refl h (λ g. among_first (k + 1) ns more s g)

-- that of a name that isn't among some, and is right after them
last_by : (k : ℕ) (n : Name) (ns more : List Name) (s : Name) (b : Bool) → bytes_eq s n ≡ b → (b || is_among ns s) ≡ false → (is_among ns s ≡ false → number_among (k + 1) (ns ++ s ∷ more) s ≡ Some (length ns + (k + 1))) → number_among k (n ∷ (ns ++ s ∷ more)) s ≡ Some (length (n ∷ ns) + k)
last_by k n ns more s true e h later = absurd (let no : true ≡ false = h in cc)
last_by k n ns more s false e h later =
    let other = other_name n s e in
    cond-false (bytes_eq n s) _ _ other ∙ later h ∙ ap (λ x. Some x) (let e : length ns + (k + 1) ≡ length (n ∷ ns) + k = omega arith in e)

pub last_number : (k : ℕ) (ns more : List Name) (s : Name) → is_among ns s ≡ false → number_among k (ns ++ s ∷ more) s ≡ Some (length ns + k)
last_number k [] more s h = cond-true (bytes_eq s s) _ _ (equal_names s s refl) ∙ ap (λ x. Some x) (let e : k ≡ 0 + k = omega arith in e)
last_number k (n ∷ ns) more s h = last_by k n ns more s (bytes_eq s n) refl h (λ g. last_number (k + 1) ns more s g)

-- ---- variables

in_order : (g k : ℕ) → 1 ≤ k → k ≤ g + 1 → ((k == 0) || nat_lt (g + 1) k) ≡ false
in_order g k least most = grind (arith, nat_tests)

variable_pattern : (g k n : ℕ) → k ≤ VARIABLES → 1 ≤ k → k ≤ g + 1 → max g k ≡ n → IsPattern g n (term.atom (dollar_name k))
variable_pattern g k n small least most e = record {
  expr = numbered_variable k;
  is = ap (pattern_atom g (dollar_name k)) (number_kind k small) ∙ cond-false ((k == 0) || nat_lt (g + 1) k) _ _ (in_order g k least most) ∙ ap (λ m. Ok (numbered_variable k, m)) e;
}

-- a variable after these names, with more names after it
number_by : (g k n at : ℕ) (b : Bool) (t : Tree) → nat_le k VARIABLES ≡ b → 1 ≤ k → k ≤ g + 1 → max g k ≡ n → cond b (Ok (term.atom (dollar_name k))) (Err (too_large_at at)) ≡ Ok t → IsPattern g n t
number_by g k n at true t small least most e h = subst (IsPattern g n) (same_ok (term.atom (dollar_name k)) t h) (variable_pattern g k n (leb-true k VARIABLES small) least most e)
number_by g k n at false t small least most e h = absurd (no_ok (too_large_at at) t h)

module _ (w : Option Name) where
  -- the names at the end
  abbrev all_names : List Name → List Name → ClauseNames
  all_names ns ss = record { of_whole = w; numbers = with_names w ns ss }

  kind_by : (ns ss : List Name) (s : Name) (at : ℕ) (x a b : Bool) (t : Tree) → is_of_whole w s ≡ x → bytes_eq s ANY ≡ a → is_among ns s ≡ b
      → variable_term s at (cond x the_whole (cond a anything_there (kind_of_number (number_among 1 (with_names w (cond (x || (a || b)) ns (ns ++ s ∷ [])) ss) s)))) ≡ Ok t → IsPattern (length ns) (length (cond (x || (a || b)) ns (ns ++ s ∷ []))) t
  kind_by ns ss s at true a b t e f g h = subst (IsPattern _ _) (same_ok (word "$_") t h) (record { expr = tree.atom 0 (codes "$_"); is = refl })
  kind_by ns ss s at false true b t e f g h = subst (IsPattern _ _) (same_ok (word "_") t h) (record { expr = tree.variable 0 ANY; is = refl })
  kind_by ns ss s at false false true t e f g h =
      let grown = names_grow w ns ss in
      let r = among_first 1 ns grown.0 s g in
      let least = r.least in
      let most = r.most in
      let there : number_among 1 (with_names w ns ss) s ≡ Some r.number = ap (λ l. number_among 1 l s) grown.1 ∙ r.is in
      number_by (length ns) r.number (length ns) at (nat_le r.number VARIABLES) t refl least (omega (arith, most)) (omega (arith, most)) (sym (ap (λ o. variable_term s at (kind_of_number o)) there) ∙ h)
  kind_by ns ss s at false false false t e f g h =
      let grown = names_grow w (ns ++ s ∷ []) ss in
      let k = length ns + 1 in
      let there : number_among 1 (with_names w (ns ++ s ∷ []) ss) s ≡ Some k = ap (λ l. number_among 1 l s) (grown.1 ∙ append_assoc ns (s ∷ []) grown.0) ∙ last_number 1 ns grown.0 s g in
      let size : length (ns ++ s ∷ []) ≡ length ns + 1 = length-append ns (s ∷ []) in
      number_by (length ns) k (length (ns ++ s ∷ [])) at (nat_le k VARIABLES) t refl (omega arith) (omega arith) (omega (arith, size)) (sym (ap (λ o. variable_term s at (kind_of_number o)) there) ∙ h)

  pub moved : (ns ss us : List Name) → all_names ns (ss ++ us) ≡ all_names (with_names w ns ss) us
  moved ns ss us = ap (λ l. record { of_whole = w; numbers = l }) (names_after w ns ss us)

  variable_goes : (ns ss : List Name) (s : Name) (at : ℕ) (t : Tree) → variable_term s at (variable_kind (all_names ns (s ∷ ss)) s) ≡ Ok t → IsPattern (length ns) (length (with_names w ns (s ∷ []))) t
  variable_goes ns ss s at t h = kind_by ns ss s at (is_of_whole w s) (bytes_eq s ANY) (is_among ns s) t refl refl refl h

-- ---- atoms

digit_no_sign : (c : ℕ) → is_digit c ≡ true → ((c == 43) || (c == 45)) ≡ false
digit_no_sign c h = grind (arith, nat_tests)

signed_digits : (ds : List ℕ) → is_signed ds ≡ false → all_digits ds ≡ true → 0 < length ds → ⊥
signed_digits [] h a some = omega (arith, some)
signed_digits (c ∷ cs) h a some =
    let p = and_parts (is_digit c) (all_digits cs) a in
    let no_sign : ((c == 43) || (c == 45)) ≡ false = digit_no_sign c p.0 in
    both_ways (are_digits (c ∷ cs)) (sym (cond-false ((c == 43) || (c == 45)) _ _ no_sign) ∙ h) (sym (digits_same (c ∷ cs)) ∙ a)

pub no_number : (s : Name) → is_variable_atom s ≡ false → is_dollar_number s ≡ false
no_number [] h = refl
no_number (c ∷ []) h = refl
no_number (c ∷ d ∷ ds) h =
    false_from_ne_true (is_dollar_number (c ∷ d ∷ ds)) (λ e.
    let p = and_parts (c == 36) (all_digits (d ∷ ds)) e in
    let signed : is_signed (d ∷ ds) ≡ false = sym (ap (λ b. b && is_signed (d ∷ ds)) p.0) ∙ h in
    signed_digits (d ∷ ds) signed p.1 (omega arith))

atom_by : (g : ℕ) (s : Name) (x v : Bool) → v ≡ false → (e : FunExpr) × (cond {A = OrReason PrintedPattern} x (Ok (tree.variable 0 ANY, g)) (cond v (Err (no_head_atom s)) (Ok (tree.atom 0 s, g))) ≡ Ok (e, g))
atom_by g s true v h = (_, refl)
atom_by g s false true h = absurd (let no : true ≡ false = h in cc)
atom_by g s false false h = (_, refl)

atom_pattern : (g : ℕ) (s : Name) → is_variable_atom s ≡ false → IsPattern g g (term.atom s)
atom_pattern g s h =
    let plain : atom_kind s ≡ a_plain_atom = cond-false (is_dollar_number s) _ _ (no_number s h) in
    let r = atom_by g s (is_wildcard s) (is_variable_atom s) h in
    record { expr = r.0; is = ap (pattern_atom g s) plain ∙ r.1 }

atom_goes : (g at : ℕ) (s : Name) (b : Bool) (t : Tree) → is_variable_atom s ≡ b → cond b (Err (head_atom s at)) (Ok (term.atom s)) ≡ Ok t → IsPattern g g t
atom_goes g at s true t e h = absurd (no_ok (head_atom s at) t h)
atom_goes g at s false t e h = subst (IsPattern g g) (same_ok (term.atom s) t h) (atom_pattern g s e)

-- ---- lists

codes_patterns : (g : ℕ) (cs : List ℕ) → ArePatterns g g (of_codes cs)
codes_patterns g [] = record { exprs = tree.none; are = refl }
codes_patterns g (c ∷ cs) = let r = codes_patterns g cs in record { exprs = tree.more (tree.whole 0 c) r.exprs; are = ap (λ z. then_print z (λ q. Ok (tree.more (tree.whole 0 c) q.0, q.1))) r.are }

characters_patterns : (g : ℕ) (ts : Trees) → are_character_codes ts ≡ true → ArePatterns g g ts
characters_patterns g term.none h = record { exprs = tree.none; are = refl }
characters_patterns g (term.more (term.int z) ts) h =
    let r = characters_patterns g ts (and_parts (is_character_code (term.int z)) (are_character_codes ts) h).1 in
    record { exprs = tree.more (integer_expr (term.int z)) r.exprs; are = ap (λ y. then_print y (λ q. Ok (tree.more (integer_expr (term.int z)) q.0, q.1))) r.are }
characters_patterns g (term.more (term.atom s) ts) h = absurd (let no : false ≡ true = h in cc)
characters_patterns g (term.more (term.pid n) ts) h = absurd (let no : false ≡ true = h in cc)
characters_patterns g (term.more (term.tuple us) ts) h = absurd (let no : false ≡ true = h in cc)
characters_patterns g (term.more (term.list us) ts) h = absurd (let no : false ≡ true = h in cc)

text_patterns : (g : ℕ) (ts : Trees) → is_text ts ≡ true → ArePatterns g g ts
text_patterns g term.none h = record { exprs = tree.none; are = refl }
text_patterns g (term.more t ts) h = characters_patterns g (term.more t ts) h

same_greatest : (p q : PrintedPatterns) → ◌≡◌ {A = OrReason PrintedPatterns} (Ok p) (Ok q) → p.1 ≡ q.1
same_greatest p q h = let e : p ≡ q = cc in ap (λ (x : PrintedPatterns). x.1) e

list_by : (g n : ℕ) (ts : Trees) (b : Bool) → is_text ts ≡ b → ArePatterns g n ts → IsPattern g n (term.list ts)
list_by g n ts true e p =
    let r = text_patterns g ts e in
    let same : g ≡ n = same_greatest (r.exprs, g) (p.exprs, n) (sym r.are ∙ p.are) in
    record { expr = string_expr ts; is = cond-true (is_text ts) _ _ e ∙ ap (λ m. Ok (string_expr ts, m)) same }
list_by g n ts false e p = record { expr = tree.list 0 p.exprs; is = cond-false (is_text ts) _ _ e ∙ ap (λ z. then_print z (λ q. Ok (tree.list 0 q.0, q.1))) p.are }

list_pattern : (g n : ℕ) (ts : Trees) → ArePatterns g n ts → IsPattern g n (term.list ts)
list_pattern g n ts p = list_by g n ts (is_text ts) refl p

-- the elements of a list that is printed
pattern_same : (p q : PrintedPattern) → ◌≡◌ {A = OrReason PrintedPattern} (Ok p) (Ok q) → p.1 ≡ q.1
pattern_same p q h = let e : p ≡ q = cc in ap (λ (x : PrintedPattern). x.1) e

inside_by : (g n : ℕ) (ts : Trees) (b : Bool) → is_text ts ≡ b → IsPattern g n (term.list ts) → ArePatterns g n ts
inside_by g n ts true e p =
    let same : g ≡ n = pattern_same (string_expr ts, g) (p.expr, n) (sym (cond-true (is_text ts) _ _ e) ∙ p.is) in
    subst (λ m. ArePatterns g m ts) same (text_patterns g ts e)
inside_by g n ts false e p =
    let a = print_ok (patterns_of_terms g ts) (λ q. Ok (tree.list 0 q.0, q.1)) (p.expr, n) (sym (cond-false (is_text ts) _ _ e) ∙ p.is) in
    record { exprs = a.0.0; are = a.1 ∙ ap (λ m. Ok (a.0.0, m)) (pattern_same (tree.list 0 a.0.0, a.0.1) (p.expr, n) a.2) }

inside : (g n : ℕ) (ts : Trees) → IsPattern g n (term.list ts) → ArePatterns g n ts
inside g n ts p = inside_by g n ts (is_text ts) refl p

one_more : (g m n : ℕ) (t : Tree) (ts : Trees) → IsPattern g m t → ArePatterns m n ts → ArePatterns g n (term.more t ts)
one_more g m n t ts p q = record {
  exprs = tree.more p.expr q.exprs;
  are = ap (λ z. then_print z (λ x. then_print (patterns_of_terms x.1 ts) (λ y. Ok (tree.more x.0 y.0, y.1)))) p.is ∙ ap (λ z. then_print z (λ y. Ok (tree.more p.expr y.0, y.1))) q.are;
}

joined : (g m n : ℕ) (ts us : List Tree) → ArePatterns g m (of_elements ts) → ArePatterns m n (of_elements us) → ArePatterns g n (of_elements (ts ++ us))
joined g m n [] us p q = subst (λ x. ArePatterns x n (of_elements us)) (sym (same_greatest (tree.none, g) (p.exprs, m) p.are)) q
joined g m n (t ∷ ts) us p q =
    let a = print_ok (pattern_of_term g t) (λ x. then_print (patterns_of_terms x.1 (of_elements ts)) (λ y. Ok (tree.more x.0 y.0, y.1))) (p.exprs, m) p.are in
    let b = print_ok (patterns_of_terms a.0.1 (of_elements ts)) (λ y. Ok (tree.more a.0.0 y.0, y.1)) (p.exprs, m) a.2 in
    let same : b.0.1 ≡ m = same_greatest (tree.more a.0.0 b.0.0, b.0.1) (p.exprs, m) b.2 in
    let rest : ArePatterns a.0.1 m (of_elements ts) = record { exprs = b.0.0; are = b.1 ∙ ap (λ x. Ok (b.0.0, x)) same } in
    one_more g a.0.1 n t (of_elements (ts ++ us)) (record { expr = a.0.0; is = a.1 }) (joined a.0.1 m n ts us rest q)

-- ---- tails

pub proper_if : (b : Bool) (r : OrRefusal Tree) (e : FunRefusal) (t : Tree) → cond b r (Err e) ≡ Ok t → (b ≡ true) × (r ≡ Ok t)
proper_if true r e t h = (refl, h)
proper_if false r e t h = absurd (no_ok e t h)

pub onto_by : (at : ℕ) (ts us : List Tree) (t : Tree) (b : Bool) → cond b (Ok (term.list (of_elements (ts ++ us)))) (Err (too_large_at at)) ≡ Ok t → term.list (of_elements (ts ++ us)) ≡ t
onto_by at ts us t true h = same_ok _ t h
onto_by at ts us t false h = absurd (no_ok (too_large_at at) t h)

-- a proper tail is a list
pub is_list_of : (ns : ClauseNames) (e : FunExpr) (t : Tree) → is_proper_tail e ≡ true → pattern_term ns e ≡ Ok t → (ts : Trees) × (t ≡ term.list ts)
is_list_of ns (tree.variable at s) t h g = absurd (let no : false ≡ true = h in cc)
is_list_of ns (tree.whole at k) t h g = absurd (let no : false ≡ true = h in cc)
is_list_of ns (tree.atom at s) t h g = absurd (let no : false ≡ true = h in cc)
is_list_of ns (tree.strings at s ss) t h g = (of_codes (joined_codes s ss), sym (same_ok _ t g))
is_list_of ns (tree.in_parens at e) t h g = is_list_of ns e t h g
is_list_of ns (tree.call at s es) t h g = absurd (let no : false ≡ true = h in cc)
is_list_of ns (tree.list at es) t h g = let a = then_ok (pattern_terms ns es) (λ ts. Ok (term.list (of_elements ts))) t g in (of_elements a.0, sym (same_ok _ t a.2))
is_list_of ns (tree.list_onto at es e) t h g =
    let a = then_ok (pattern_terms ns es) (λ ts. cond (is_proper_tail e) (then_fun (pattern_term ns e) (λ u. onto_tail (first_byte e) ts u)) (Err (list_with_tail (first_byte e)))) t g in
    let b = proper_if (is_proper_tail e) _ (list_with_tail (first_byte e)) t a.2 in
    let c = then_ok (pattern_term ns e) (λ u. onto_tail (first_byte e) a.0 u) t b.1 in
    (of_elements (a.0 ++ elements_of_list c.0), sym (onto_by (first_byte e) a.0 (elements_of_list c.0) t (nat_le (length (a.0 ++ elements_of_list c.0)) LIST_LENGTH) c.2))
is_list_of ns (tree.tuple at es) t h g = absurd (let no : false ≡ true = h in cc)
is_list_of ns (tree.before at o e) t h g = absurd (let no : false ≡ true = h in cc)
is_list_of ns (tree.between at o l r) t h g = absurd (let no : false ≡ true = h in cc)

onto_goes : (g m n at : ℕ) (ts : List Tree) (u t : Tree) (us : Trees) → u ≡ term.list us → ArePatterns g m (of_elements ts) → IsPattern m n u → onto_tail at ts u ≡ Ok t → IsPattern g n t
onto_goes g m n at ts u t us e p q h =
    let inner : ArePatterns m n us = inside m n us (subst (IsPattern m n) e q) in
    let tail : ArePatterns m n (of_elements (elements_of_list u)) = subst (ArePatterns m n) (sym (ap (λ x. of_elements (elements_of_list x)) e ∙ elements-of us)) inner in
    let vs = elements_of_list u in
    subst (IsPattern g n) (onto_by at ts vs t (nat_le (length (ts ++ vs)) LIST_LENGTH) h) (list_pattern g n (of_elements (ts ++ vs)) (joined g m n ts vs p tail))

-- ---- patterns

module _ (w : Option Name) (all : ClauseNames) where
  mutual
    -- the term of each pattern is printed: `ns` are the names before it, and `rest` those of the head after it
    pub pattern_goes : (e : FunExpr) (ns rest : List Name) (t : Tree) → all ≡ all_names w ns (variables_in e ++ rest) → pattern_term all e ≡ Ok t → IsPattern (length ns) (length (with_names w ns (variables_in e))) t
    pattern_goes (tree.variable at s) ns rest t is h = variable_goes w ns rest s at t (ap (λ x. variable_term s at (variable_kind x s)) (sym is) ∙ h)
    pattern_goes (tree.whole at k) ns rest t is h = subst (IsPattern _ _) (same_ok (term.int (pos k)) t h) (record { expr = tree.whole 0 k; is = refl })
    pattern_goes (tree.atom at s) ns rest t is h = atom_goes (length ns) at s (is_variable_atom s) t refl h
    pattern_goes (tree.strings at s ss) ns rest t is h = subst (IsPattern _ _) (same_ok _ t h) (list_pattern (length ns) (length ns) (of_codes (joined_codes s ss)) (codes_patterns (length ns) (joined_codes s ss)))
    pattern_goes (tree.in_parens at e) ns rest t is h = pattern_goes e ns rest t is h
    pattern_goes (tree.call at s es) ns rest t is h = absurd (no_ok (minus_alone at) t h)
    pattern_goes (tree.list at es) ns rest t is h =
        let a = then_ok (pattern_terms all es) (λ ts. Ok (term.list (of_elements ts))) t h in
        subst (IsPattern _ _) (same_ok _ t a.2) (list_pattern _ _ (of_elements a.0) (patterns_go es ns rest a.0 is a.1))
    pattern_goes (tree.list_onto at es e) ns rest t is h =
        let a = then_ok (pattern_terms all es) (λ ts. cond (is_proper_tail e) (then_fun (pattern_term all e) (λ u. onto_tail (first_byte e) ts u)) (Err (list_with_tail (first_byte e)))) t h in
        let b = proper_if (is_proper_tail e) _ (list_with_tail (first_byte e)) t a.2 in
        let c = then_ok (pattern_term all e) (λ u. onto_tail (first_byte e) a.0 u) t b.1 in
        let us = with_names w ns (variables_in_each es) in
        let first = patterns_go es ns (variables_in e ++ rest) a.0 (is ∙ ap (all_names w ns) (append_assoc (variables_in_each es) (variables_in e) rest)) a.1 in
        let later = pattern_goes e us rest c.0 (is ∙ ap (all_names w ns) (append_assoc (variables_in_each es) (variables_in e) rest) ∙ moved w ns (variables_in_each es) (variables_in e ++ rest)) c.1 in
        let tail = is_list_of all e c.0 b.0 c.1 in
        subst (λ m. IsPattern (length ns) m t) (sym (ap length (names_after w ns (variables_in_each es) (variables_in e)))) (onto_goes (length ns) (length us) (length (with_names w us (variables_in e))) (first_byte e) a.0 c.0 t tail.0 tail.1 first later c.2)
    pattern_goes (tree.tuple at es) ns rest t is h =
        let a = then_ok (pattern_terms all es) (λ ts. Ok (term.tuple (of_elements ts))) t h in
        let p = patterns_go es ns rest a.0 is a.1 in
        subst (IsPattern _ _) (same_ok _ t a.2) (record { expr = tree.tuple 0 p.exprs; is = ap (λ z. then_print z (λ q. Ok (tree.tuple 0 q.0, q.1))) p.are })
    pattern_goes (tree.before at o (tree.whole here k)) ns rest t is h = subst (IsPattern _ _) (same_ok (term.int (neg_ℤ (pos k))) t h) (record { expr = integer_expr (term.int (neg_ℤ (pos k))); is = refl })
    pattern_goes (tree.before at o e) ns rest t is h = absurd (no_ok (minus_alone at) t h)
    pattern_goes (tree.between at o l r) ns rest t is h = absurd (no_ok (minus_alone at) t h)

    patterns_go : (es : FunExprs) (ns rest : List Name) (ts : List Tree) → all ≡ all_names w ns (variables_in_each es ++ rest) → pattern_terms all es ≡ Ok ts → ArePatterns (length ns) (length (with_names w ns (variables_in_each es))) (of_elements ts)
    patterns_go tree.none ns rest ts is h = subst (λ us. ArePatterns (length ns) (length ns) (of_elements us)) (same_ok [] ts h) (record { exprs = tree.none; are = refl })
    patterns_go (tree.more e es) ns rest ts is h =
        let a = then_ok (pattern_term all e) (λ t. then_fun (pattern_terms all es) (λ us. Ok (t ∷ us))) ts h in
        let b = then_ok (pattern_terms all es) (λ us. Ok (a.0 ∷ us)) ts a.2 in
        let vs = with_names w ns (variables_in e) in
        let split = is ∙ ap (all_names w ns) (append_assoc (variables_in e) (variables_in_each es) rest) in
        let first = pattern_goes e ns (variables_in_each es ++ rest) a.0 split a.1 in
        let later = patterns_go es vs rest b.0 (split ∙ moved w ns (variables_in e) (variables_in_each es ++ rest)) b.1 in
        let p = one_more (length ns) (length vs) (length (with_names w vs (variables_in_each es))) a.0 (of_elements b.0) first later in
        subst (λ us. ArePatterns (length ns) (length (with_names w ns (variables_in_each (tree.more e es)))) (of_elements us)) (same_ok (a.0 ∷ b.0) ts b.2) (subst (λ m. ArePatterns (length ns) m (term.more a.0 (of_elements b.0))) (sym (ap length (names_after w ns (variables_in e) (variables_in_each es)))) p)

-- ---- heads

-- a pattern that is printed is so as a whole head
whole_head_printed : (t : Tree) (n : ℕ) → IsPattern 0 n t → (p : PrintedPattern) × (head_of_term t ≡ Ok p)
whole_head_printed (term.list ts) n p = let q = inside 0 n ts p in ((tree.list 0 q.exprs, n), ap (λ z. then_print z (λ x. Ok (tree.list 0 x.0, x.1))) q.are)
whole_head_printed (term.int z) n p = ((p.expr, n), p.is)
whole_head_printed (term.atom s) n p = ((p.expr, n), p.is)
whole_head_printed (term.pid k) n p = ((p.expr, n), p.is)
whole_head_printed (term.tuple ts) n p = ((p.expr, n), p.is)

depth_by : (b : Bool) (at : ℕ) (t u : Tree) → cond b (Ok t) (Err (too_deep_at at)) ≡ Ok u → t ≡ u
depth_by true at t u h = same_ok t u h
depth_by false at t u h = absurd (no_ok (too_deep_at at) u h)

same_if : (b : Bool) (e : FunRefusal) (r : OrRefusal Tree) (t : Tree) → cond b (Err e) r ≡ Ok t → r ≡ Ok t
same_if true e r t h = absurd (no_ok e t h)
same_if false e r t h = h

head_by : (h : FunHead) (t : Tree) → pattern_term (names_of h) (matched_part h) ≡ Ok t → (p : PrintedPattern) × (head_of_term t ≡ Ok p)
head_by h t e =
    let vs = variables_in (matched_part h) in
    let p = pattern_goes (name_of_whole h) (names_of h) (matched_part h) [] [] t (ap (all_names (name_of_whole h) []) (sym (append-nil vs))) e in
    whole_head_printed t _ p

-- the term of a head is printed
pub head_printed : (h : FunHead) (t : Tree) → head_term h ≡ Ok t → (p : PrintedPattern) × (head_of_term t ≡ Ok p)
head_printed (alone e) t h =
    let a = then_ok (pattern_term (names_of (alone e)) e) (λ u. within_depth HEAD_DEPTH (first_byte e) u) t h in
    head_by (alone e) t (a.1 ∙ ap (λ x. Ok x) (depth_by (nat_le (depth a.0) HEAD_DEPTH) (first_byte e) a.0 t a.2))
head_printed (both e f) t h =
    let g = same_if (is_same_name (name_of_variable e) (name_of_variable f)) (whole_head (name_or_none (name_of_variable f)) (first_byte f)) _ t h in
    let a = then_ok (pattern_term (names_of (both e f)) (matched_part (both e f))) (λ u. within_depth HEAD_DEPTH (first_byte e) u) t g in
    head_by (both e f) t (a.1 ∙ ap (λ x. Ok x) (depth_by (nat_le (depth a.0) HEAD_DEPTH) (first_byte e) a.0 t a.2))
