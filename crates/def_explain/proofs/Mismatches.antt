-- What is computed of a pattern and a term is where they differ first, which is there exactly where they don't match.
use Rattle.std.proofs.Common.{◌≡◌, ◌≢◌, ℕ, zero, suc, ◌+◌, ◌==◌, Bool, true, false, List, [], ◌∷◌, ◌++◌, length, Option, Some, None, refl, sym, ap, ◌∙◌, subst, if◌then◌else◌, eqb-true, eq-eqb, nat_cmp, append_assoc, append-nil, arith, add-one}
use Rattle.std.specs.Option.{option_and_then}
use Rattle.std.specs.FinMap.{put}
use Rattle.def_term.specs.Tree.{Tree, int, atom, pid, tuple, list, Trees, none, more, count}
use Rattle.def_term.specs.Order.{same}
use Rattle.def_term.proofs.Same.{same-is, same-self}
use Rattle.def_spec.specs.Matching.{Pattern, variable, anything, only_term, in_tuple, in_list, Patterns, no_patterns, and_pattern, Bindings, value_bound, bind, bind_on, bind_each, bindings_of}
use Rattle.def_spec.proofs.Binding.{bindings_in, bind-matches, matches-bind}
use Rattle.def_spec.proofs.Outcomes.{walk_misses_none}
use Rattle.def_explain.specs.Mismatches.{HeadPart, is_term, is_bound, is_tuple_of, is_list_of, Mismatch, mismatch, pattern_count, Pairs, pair_patterns, pair_terms, HasElements, IsUnlike, DiffersFirstAt, IsMismatch, in_element, here_or, unlike_bound, mismatch_on, mismatch_in, mismatch_of}
use Rattle.def_explain.specs.Laws.{MismatchWhereNotMatched, MismatchIsOne, MismatchIsComputed}

some_is : {X : Type 0} (x y : X) → Some x ≡ Some y → x ≡ y
some_is x y e = cc e

-- ---- walks over pairs

-- the walk over these patterns and their terms
abbrev walked : Pairs → Bindings → Option Bindings
walked xs b = bind_each (pair_patterns xs) (pair_terms xs) b

-- the element, and what follows
pub after_some : (f : Bindings → Option Bindings) (o : Option Bindings) (c : Bindings) → option_and_then f o ≡ Some c → (b : Bindings) × (o ≡ Some b) × (f b ≡ Some c)
after_some f None c e = absurd (cc e)
after_some f (Some b) c e = (b, refl, e)

walked_append : (xs ys : Pairs) (b : Bindings) → walked (xs ++ ys) b ≡ option_and_then (walked ys) (walked xs b)
walked_append [] ys b = refl
walked_append (x ∷ xs) ys b = go (λ c. walked_append xs ys c) (bind_on x.0 x.1 b)
  where
    go : ((c : Bindings) → walked (xs ++ ys) c ≡ option_and_then (walked ys) (walked xs c)) → (o : Option Bindings) → option_and_then (walked (xs ++ ys)) o ≡ option_and_then (walked ys) (option_and_then (walked xs) o)
    go again None = refl
    go again (Some c) = again c

-- ---- lengths

pub self_equal : (n : ℕ) → (n == n) ≡ true
self_equal n = eq-eqb n n refl

pub other_lengths : (m n : ℕ) → (m == n) ≡ false → m ≢ n
other_lengths m n e f = absurd (cc (sym (self_equal m) ∙ ap (λ k. m == k) f ∙ e))

pub same_lengths : (m n : ℕ) → m ≢ n → (m == n) ≡ false
same_lengths m n h = go (m == n) refl
  where
    go : (q : Bool) → (m == n) ≡ q → (m == n) ≡ false
    go true e = absurd (h (eqb-true m n e))
    go false e = e

fewer : (m n : ℕ) → suc m ≡ suc n → m ≡ n
fewer m n e = cc e

one_fewer : (ps : Patterns) (ts : Trees) → suc (pattern_count ps) ≡ count ts + 1 → pattern_count ps ≡ count ts
one_fewer ps ts e = fewer _ _ (e ∙ add-one (count ts))

no_fewer : (n : ℕ) → zero ≢ n + 1
no_fewer n e = absurd (cc (e ∙ add-one n))

-- patterns and as many terms are pairs
paired : (ps : Patterns) (ts : Trees) → pattern_count ps ≡ count ts → (xs : Pairs) × (ps ≡ pair_patterns xs) × (ts ≡ pair_terms xs)
paired no_patterns none e = ([], refl, refl)
paired no_patterns (more t ts) e = absurd (no_fewer _ e)
paired (and_pattern p ps) none e = absurd (cc e)
paired (and_pattern p ps) (more t ts) e =
    let r : (xs : Pairs) × (ps ≡ pair_patterns xs) × (ts ≡ pair_terms xs) = paired ps ts (one_fewer ps ts e) in
    ((p, t) ∷ r.0, ap (and_pattern p) r.1, ap (more t) r.2)

pairs_even : (xs : Pairs) → pattern_count (pair_patterns xs) ≡ count (pair_terms xs)
pairs_even [] = refl
pairs_even (x ∷ xs) = ap suc (pairs_even xs) ∙ sym (add-one _)

pub each_even : (ps : Patterns) (ts : Trees) (b c : Bindings) → bind_each ps ts b ≡ Some c → pattern_count ps ≡ count ts
each_even no_patterns none b c e = refl
each_even no_patterns (more t ts) b c e = absurd (cc e)
each_even (and_pattern p ps) none b c e = absurd (cc e)
each_even (and_pattern p ps) (more t ts) b c e =
    let r : (x : Bindings) × (bind_on p t b ≡ Some x) × (bind_each ps ts x ≡ Some c) = after_some (bind_each ps ts) (bind_on p t b) c e in
    ap suc (each_even ps ts r.0 c r.2) ∙ sym (add-one _)

-- ---- a pattern that differs nowhere matches

-- where nothing differs here or after it: not this element, and no other
neither : (n : ℕ) (o rest : Option Mismatch) → here_or n o rest ≡ None → (o ≡ None) × (rest ≡ None)
neither n None rest e = (refl, e)
neither n (Some m) rest e = absurd (cc e)

-- a variable that is bound to no other term is bound to this
met : (n : ℕ) (t : Tree) (b : Bindings) (o : Option Tree) → unlike_bound n t o ≡ None → (c : Bindings) × (bind n t b o ≡ Some c)
met n t b None e = (put nat_cmp n t b, refl)
met n t b (Some u) e = go (same u t) refl
  where
    go : (q : Bool) → same u t ≡ q → (c : Bindings) × (bind n t b (Some u) ≡ Some c)
    go true h = (b, ap (λ x. if x then Some b else None) h)
    go false h = absurd (cc (sym e ∙ ap (λ x. if x then None else Some (mismatch [] (is_bound n u) t)) h))

term_met : (s t : Tree) (b : Bindings) → (if same s t then None else Some (mismatch [] (is_term s) t)) ≡ None → (c : Bindings) × ((if same s t then Some b else None) ≡ Some c)
term_met s t b e = go (same s t) refl
  where
    go : (q : Bool) → same s t ≡ q → (c : Bindings) × ((if same s t then Some b else None) ≡ Some c)
    go true h = (b, ap (λ x. if x then Some b else None) h)
    go false h = absurd (cc (sym e ∙ ap (λ x. if x then None else Some (mismatch [] (is_term s) t)) h))

-- as many of the one as of the other, and nowhere among them
nowhere : (q : Bool) (inner : Option Mismatch) (m : Mismatch) → (if q then inner else Some m) ≡ None → (q ≡ true) × (inner ≡ None)
nowhere true inner m e = (refl, e)
nowhere false inner m e = absurd (cc e)

mutual
  none_bound : (p : Pattern) (t : Tree) (b : Bindings) → mismatch_on p t b ≡ None → (c : Bindings) × (bind_on p t b ≡ Some c)
  none_bound (variable n) t b e = met n t b (value_bound b n) e
  none_bound anything t b e = (b, refl)
  none_bound (only_term s) t b e = term_met s t b e
  none_bound (in_tuple ps) (tuple ts) b e =
      let r : ((pattern_count ps == count ts) ≡ true) × (mismatch_in zero ps ts b ≡ None) = nowhere _ _ _ e in
      none_bound_each zero ps ts b (eqb-true _ _ r.0) r.1
  none_bound (in_tuple ps) (int z) b e = absurd (cc e)
  none_bound (in_tuple ps) (atom z) b e = absurd (cc e)
  none_bound (in_tuple ps) (pid z) b e = absurd (cc e)
  none_bound (in_tuple ps) (list z) b e = absurd (cc e)
  none_bound (in_list ps) (list ts) b e =
      let r : ((pattern_count ps == count ts) ≡ true) × (mismatch_in zero ps ts b ≡ None) = nowhere _ _ _ e in
      none_bound_each zero ps ts b (eqb-true _ _ r.0) r.1
  none_bound (in_list ps) (int z) b e = absurd (cc e)
  none_bound (in_list ps) (atom z) b e = absurd (cc e)
  none_bound (in_list ps) (pid z) b e = absurd (cc e)
  none_bound (in_list ps) (tuple z) b e = absurd (cc e)

  none_bound_each : (n : ℕ) (ps : Patterns) (ts : Trees) (b : Bindings) → pattern_count ps ≡ count ts → mismatch_in n ps ts b ≡ None → (c : Bindings) × (bind_each ps ts b ≡ Some c)
  none_bound_each n no_patterns none b l e = (b, refl)
  none_bound_each n no_patterns (more t ts) b l e = absurd (no_fewer _ l)
  none_bound_each n (and_pattern p ps) none b l e = absurd (cc l)
  none_bound_each n (and_pattern p ps) (more t ts) b l e =
      let r : (mismatch_on p t b ≡ None) × (option_and_then (mismatch_in (suc n) ps ts) (bind_on p t b) ≡ None) = neither n _ _ e in
      let x : (c : Bindings) × (bind_on p t b ≡ Some c) = none_bound p t b r.0 in
      let y : (c : Bindings) × (bind_each ps ts x.0 ≡ Some c) = none_bound_each (suc n) ps ts x.0 (one_fewer ps ts l) (sym (ap (option_and_then (mismatch_in (suc n) ps ts)) x.1) ∙ r.1) in
      (y.0, ap (option_and_then (bind_each ps ts)) x.1 ∙ y.1)

-- ---- and a pattern that matches differs nowhere

not_unlike : (n : ℕ) (t : Tree) (b c : Bindings) (o : Option Tree) → bind n t b o ≡ Some c → unlike_bound n t o ≡ None
not_unlike n t b c None e = refl
not_unlike n t b c (Some u) e = go (same u t) refl
  where
    go : (q : Bool) → same u t ≡ q → unlike_bound n t (Some u) ≡ None
    go true h = ap (λ x. if x then None else Some (mismatch [] (is_bound n u) t)) h
    go false h = absurd (cc (sym e ∙ ap (λ x. if x then Some b else None) h))

not_unlike_term : (s t : Tree) (b c : Bindings) → (if same s t then Some b else None) ≡ Some c → (if same s t then None else Some (mismatch [] (is_term s) t)) ≡ None
not_unlike_term s t b c e = go (same s t) refl
  where
    go : (q : Bool) → same s t ≡ q → (if same s t then None else Some (mismatch [] (is_term s) t)) ≡ None
    go true h = ap (λ x. if x then None else Some (mismatch [] (is_term s) t)) h
    go false h = absurd (cc (sym e ∙ ap (λ x. if x then Some b else None) h))

among : (m n : ℕ) (inner : Option Mismatch) (x : Mismatch) → m ≡ n → (if m == n then inner else Some x) ≡ inner
among m n inner x e = ap (λ q. if q then inner else Some x) (eq-eqb m n e)

mutual
  pub bound_none : (p : Pattern) (t : Tree) (b c : Bindings) → bind_on p t b ≡ Some c → mismatch_on p t b ≡ None
  bound_none (variable n) t b c e = not_unlike n t b c (value_bound b n) e
  bound_none anything t b c e = refl
  bound_none (only_term s) t b c e = not_unlike_term s t b c e
  bound_none (in_tuple ps) (tuple ts) b c e = among _ _ _ _ (each_even ps ts b c e) ∙ bound_none_each zero ps ts b c e
  bound_none (in_tuple ps) (int z) b c e = absurd (cc e)
  bound_none (in_tuple ps) (atom z) b c e = absurd (cc e)
  bound_none (in_tuple ps) (pid z) b c e = absurd (cc e)
  bound_none (in_tuple ps) (list z) b c e = absurd (cc e)
  bound_none (in_list ps) (list ts) b c e = among _ _ _ _ (each_even ps ts b c e) ∙ bound_none_each zero ps ts b c e
  bound_none (in_list ps) (int z) b c e = absurd (cc e)
  bound_none (in_list ps) (atom z) b c e = absurd (cc e)
  bound_none (in_list ps) (pid z) b c e = absurd (cc e)
  bound_none (in_list ps) (tuple z) b c e = absurd (cc e)

  bound_none_each : (n : ℕ) (ps : Patterns) (ts : Trees) (b c : Bindings) → bind_each ps ts b ≡ Some c → mismatch_in n ps ts b ≡ None
  bound_none_each n no_patterns ts b c e = refl
  bound_none_each n (and_pattern p ps) none b c e = refl
  bound_none_each n (and_pattern p ps) (more t ts) b c e =
      let r : (x : Bindings) × (bind_on p t b ≡ Some x) × (bind_each ps ts x ≡ Some c) = after_some (bind_each ps ts) (bind_on p t b) c e in
      ap (λ o. here_or n o (option_and_then (mismatch_in (suc n) ps ts) (bind_on p t b))) (bound_none p t b r.0 r.1)
      ∙ ap (option_and_then (mismatch_in (suc n) ps ts)) r.1
      ∙ bound_none_each (suc n) ps ts r.0 c r.2

-- ---- what is computed is a difference

-- after what comes before
abbrev Differs : Pairs → Pattern → Tree → Mismatch → Type 0
Differs before p t (mismatch place h u) = DiffersFirstAt before p t place h u

module _ (before : Pairs) (b : Bindings) (so_far : walked before [] ≡ Some b) where
  leaf : (p : Pattern) (t : Tree) (h : HeadPart) → IsUnlike p t b h → Differs before p t (mismatch [] h t)
  leaf p t h x = (refl, (b, bind-matches (in_list (pair_patterns before)) (list (pair_terms before)) b so_far, x))

  variable_differs : (n : ℕ) (t : Tree) (o : Option Tree) (m : Mismatch) → value_bound b n ≡ o → unlike_bound n t o ≡ Some m → Differs before (variable n) t m
  variable_differs n t None m is e = absurd (cc e)
  variable_differs n t (Some u) m is e = go (same u t) refl
    where
      go : (q : Bool) → same u t ≡ q → Differs before (variable n) t m
      go true h = absurd (cc (sym e ∙ ap (λ x. if x then None else Some (mismatch [] (is_bound n u) t)) h))
      go false h =
          let at : mismatch [] (is_bound n u) t ≡ m = some_is _ _ (sym (ap (λ x. if x then None else Some (mismatch [] (is_bound n u) t)) h) ∙ e) in
          let apart : u ≢ t = λ i. absurd (cc (sym h ∙ ap (λ x. same x t) i ∙ same-self t)) in
          subst (Differs before (variable n) t) at (leaf (variable n) t (is_bound n u) (refl, is, apart))

  term_differs : (s t : Tree) (m : Mismatch) → (if same s t then None else Some (mismatch [] (is_term s) t)) ≡ Some m → Differs before (only_term s) t m
  term_differs s t m e = go (same s t) refl
    where
      go : (q : Bool) → same s t ≡ q → Differs before (only_term s) t m
      go true h = absurd (cc (sym e ∙ ap (λ x. if x then None else Some (mismatch [] (is_term s) t)) h))
      go false h =
          let at : mismatch [] (is_term s) t ≡ m = some_is _ _ (sym (ap (λ x. if x then None else Some (mismatch [] (is_term s) t)) h) ∙ e) in
          let apart : s ≢ t = λ i. absurd (cc (sym h ∙ ap (λ x. same x t) i ∙ same-self t)) in
          subst (Differs before (only_term s) t) at (leaf (only_term s) t (is_term s) (refl, apart))

  -- the pattern is a tuple or list, and the term none of as many
  tuple_differs : (ps : Patterns) (t : Tree) (m : Mismatch) → ((ts : Trees) → t ≡ tuple ts → pattern_count ps ≢ count ts) → Some (mismatch [] (is_tuple_of (pattern_count ps)) t) ≡ Some m → Differs before (in_tuple ps) t m
  tuple_differs ps t m h e = subst (Differs before (in_tuple ps) t) (some_is _ _ e) (leaf (in_tuple ps) t (is_tuple_of (pattern_count ps)) (refl, h))

  list_differs : (ps : Patterns) (t : Tree) (m : Mismatch) → ((ts : Trees) → t ≡ list ts → pattern_count ps ≢ count ts) → Some (mismatch [] (is_list_of (pattern_count ps)) t) ≡ Some m → Differs before (in_list ps) t m
  list_differs ps t m h e = subst (Differs before (in_list ps) t) (some_is _ _ e) (leaf (in_list ps) t (is_list_of (pattern_count ps)) (refl, h))

tuple_in : (ts us : Trees) → tuple ts ≡ tuple us → ts ≡ us
tuple_in ts us e = cc e

list_in : (ts us : Trees) → list ts ≡ list us → ts ≡ us
list_in ts us e = cc e

inside : (before : Pairs) (p : Pattern) (t : Tree) (n : ℕ) (front rest : Pairs) (q : Pattern) (s : Tree) (k : Mismatch) → length front ≡ n → HasElements p t (front ++ (q, s) ∷ rest) → Differs (before ++ front) q s k → Differs before p t (in_element n k)
inside before p t n front rest q s (mismatch place h u) size has x = (front, q, s, rest, size, has, x)

one_longer : (front : Pairs) (x : Pattern × Tree) (n : ℕ) → length front ≡ n → length (front ++ x ∷ []) ≡ suc n
one_longer [] x n e = ap suc e
one_longer (y ∷ front) x n e = ap suc (one_longer front x (length front) refl) ∙ ap suc e

-- in the element here, or in what follows it
split_here : (n : ℕ) (o rest : Option Mismatch) (m : Mismatch) → here_or n o rest ≡ Some m → (R : Type 0) → ((k : Mismatch) → o ≡ Some k → in_element n k ≡ m → R) → (o ≡ None → rest ≡ Some m → R) → R
split_here n None rest m e R f g = g refl e
split_here n (Some k) rest m e R f g = f k refl (some_is _ _ e)

mutual
  sound_on : (before : Pairs) (p : Pattern) (t : Tree) (b : Bindings) (m : Mismatch) → walked before [] ≡ Some b → mismatch_on p t b ≡ Some m → Differs before p t m
  sound_on before (variable n) t b m so_far e = variable_differs before b so_far n t (value_bound b n) m refl e
  sound_on before anything t b m so_far e = absurd (cc e)
  sound_on before (only_term s) t b m so_far e = term_differs before b so_far s t m e
  sound_on before (in_tuple ps) (tuple ts) b m so_far e = go (λ l h. sound_in before (in_tuple ps) (tuple ts) [] zero ps ts b m l (λ ys i j. (i, j)) refl (ap (λ xs. walked xs []) (append-nil before) ∙ so_far) h) (pattern_count ps == count ts) refl e
    where
      go : (pattern_count ps ≡ count ts → mismatch_in zero ps ts b ≡ Some m → Differs before (in_tuple ps) (tuple ts) m) → (q : Bool) → (pattern_count ps == count ts) ≡ q → (if q then mismatch_in zero ps ts b else Some (mismatch [] (is_tuple_of (pattern_count ps)) (tuple ts))) ≡ Some m → Differs before (in_tuple ps) (tuple ts) m
      go again true l h = again (eqb-true _ _ l) h
      go again false l h = tuple_differs before b so_far ps (tuple ts) m (λ us i. subst (λ x. pattern_count ps ≢ count x) (tuple_in ts us i) (other_lengths _ _ l)) h
  sound_on before (in_tuple ps) (int z) b m so_far e = tuple_differs before b so_far ps (int z) m (λ us i. absurd (cc i)) e
  sound_on before (in_tuple ps) (atom z) b m so_far e = tuple_differs before b so_far ps (atom z) m (λ us i. absurd (cc i)) e
  sound_on before (in_tuple ps) (pid z) b m so_far e = tuple_differs before b so_far ps (pid z) m (λ us i. absurd (cc i)) e
  sound_on before (in_tuple ps) (list z) b m so_far e = tuple_differs before b so_far ps (list z) m (λ us i. absurd (cc i)) e
  sound_on before (in_list ps) (list ts) b m so_far e = go (λ l h. sound_in before (in_list ps) (list ts) [] zero ps ts b m l (λ ys i j. (i, j)) refl (ap (λ xs. walked xs []) (append-nil before) ∙ so_far) h) (pattern_count ps == count ts) refl e
    where
      go : (pattern_count ps ≡ count ts → mismatch_in zero ps ts b ≡ Some m → Differs before (in_list ps) (list ts) m) → (q : Bool) → (pattern_count ps == count ts) ≡ q → (if q then mismatch_in zero ps ts b else Some (mismatch [] (is_list_of (pattern_count ps)) (list ts))) ≡ Some m → Differs before (in_list ps) (list ts) m
      go again true l h = again (eqb-true _ _ l) h
      go again false l h = list_differs before b so_far ps (list ts) m (λ us i. subst (λ x. pattern_count ps ≢ count x) (list_in ts us i) (other_lengths _ _ l)) h
  sound_on before (in_list ps) (int z) b m so_far e = list_differs before b so_far ps (int z) m (λ us i. absurd (cc i)) e
  sound_on before (in_list ps) (atom z) b m so_far e = list_differs before b so_far ps (atom z) m (λ us i. absurd (cc i)) e
  sound_on before (in_list ps) (pid z) b m so_far e = list_differs before b so_far ps (pid z) m (λ us i. absurd (cc i)) e
  sound_on before (in_list ps) (tuple z) b m so_far e = list_differs before b so_far ps (tuple z) m (λ us i. absurd (cc i)) e

  sound_in : (before : Pairs) (p : Pattern) (t : Tree) (front : Pairs) (n : ℕ) (ps : Patterns) (ts : Trees) (b : Bindings) (m : Mismatch)
      → pattern_count ps ≡ count ts → ((ys : Pairs) → ps ≡ pair_patterns ys → ts ≡ pair_terms ys → HasElements p t (front ++ ys))
      → length front ≡ n → walked (before ++ front) [] ≡ Some b → mismatch_in n ps ts b ≡ Some m → Differs before p t m
  sound_in before p t front n no_patterns ts b m l whole size so_far e = absurd (cc e)
  sound_in before p t front n (and_pattern q ps) none b m l whole size so_far e = absurd (cc e)
  sound_in before p t front n (and_pattern q ps) (more s ts) b m l whole size so_far e =
      split_here n (mismatch_on q s b) (option_and_then (mismatch_in (suc n) ps ts) (bind_on q s b)) m e (Differs before p t m)
      (λ k is at.
      let r : (xs : Pairs) × (ps ≡ pair_patterns xs) × (ts ≡ pair_terms xs) = paired ps ts (one_fewer ps ts l) in
      subst (Differs before p t) at (inside before p t n front r.0 q s k size (whole ((q, s) ∷ r.0) (ap (and_pattern q) r.1) (ap (more s) r.2)) (sound_on (before ++ front) q s b k so_far is)))
      (λ is behind.
      let x : (c : Bindings) × (bind_on q s b ≡ Some c) = none_bound q s b is in
      let next : walked (before ++ (front ++ (q, s) ∷ [])) [] ≡ Some x.0 =
      ap (λ xs. walked xs []) (sym (append_assoc before front ((q, s) ∷ [])))
      ∙ walked_append (before ++ front) ((q, s) ∷ []) []
      ∙ ap (option_and_then (walked ((q, s) ∷ []))) so_far
      ∙ ap (option_and_then (walked [])) x.1 in
      sound_in before p t (front ++ (q, s) ∷ []) (suc n) ps ts x.0 m (one_fewer ps ts l)
      (λ ys i j. subst (HasElements p t) (sym (append_assoc front ((q, s) ∷ []) ys)) (whole ((q, s) ∷ ys) (ap (and_pattern q) i) (ap (more s) j)))
      (one_longer front (q, s) n size) next (sym (ap (option_and_then (mismatch_in (suc n) ps ts)) x.1) ∙ behind))

-- ---- and a difference is what is computed

unlike_there : (p : Pattern) (t : Tree) (b : Bindings) (h : HeadPart) → IsUnlike p t b h → mismatch_on p t b ≡ Some (mismatch [] h t)
unlike_there (variable n) t b (is_bound m u) x =
    ap (unlike_bound n t) x.1
    ∙ ap (λ q. if q then None else Some (mismatch [] (is_bound n u) t)) (apart u t x.2)
    ∙ ap (λ k. Some (mismatch [] (is_bound k u) t)) (sym x.0)
  where
    apart : (u t : Tree) → u ≢ t → same u t ≡ false
    apart u t h = go (same u t) refl
      where
        go : (q : Bool) → same u t ≡ q → same u t ≡ false
        go true e = absurd (h (same-is u t e))
        go false e = e
unlike_there (only_term s) t b (is_term u) x =
    ap (λ q. if q then None else Some (mismatch [] (is_term s) t)) (apart s t x.1)
    ∙ ap (λ k. Some (mismatch [] (is_term k) t)) (sym x.0)
  where
    apart : (u t : Tree) → u ≢ t → same u t ≡ false
    apart u t h = go (same u t) refl
      where
        go : (q : Bool) → same u t ≡ q → same u t ≡ false
        go true e = absurd (h (same-is u t e))
        go false e = e
unlike_there (in_tuple ps) (tuple ts) b (is_tuple_of n) x =
    ap (λ q. if q then mismatch_in zero ps ts b else Some (mismatch [] (is_tuple_of (pattern_count ps)) (tuple ts))) (same_lengths _ _ (λ e. x.1 ts refl (x.0 ∙ e)))
    ∙ ap (λ k. Some (mismatch [] (is_tuple_of k) (tuple ts))) (sym x.0)
unlike_there (in_tuple ps) (int z) b (is_tuple_of n) x = ap (λ k. Some (mismatch [] (is_tuple_of k) (int z))) (sym x.0)
unlike_there (in_tuple ps) (atom z) b (is_tuple_of n) x = ap (λ k. Some (mismatch [] (is_tuple_of k) (atom z))) (sym x.0)
unlike_there (in_tuple ps) (pid z) b (is_tuple_of n) x = ap (λ k. Some (mismatch [] (is_tuple_of k) (pid z))) (sym x.0)
unlike_there (in_tuple ps) (list z) b (is_tuple_of n) x = ap (λ k. Some (mismatch [] (is_tuple_of k) (list z))) (sym x.0)
unlike_there (in_list ps) (list ts) b (is_list_of n) x =
    ap (λ q. if q then mismatch_in zero ps ts b else Some (mismatch [] (is_list_of (pattern_count ps)) (list ts))) (same_lengths _ _ (λ e. x.1 ts refl (x.0 ∙ e)))
    ∙ ap (λ k. Some (mismatch [] (is_list_of k) (list ts))) (sym x.0)
unlike_there (in_list ps) (int z) b (is_list_of n) x = ap (λ k. Some (mismatch [] (is_list_of k) (int z))) (sym x.0)
unlike_there (in_list ps) (atom z) b (is_list_of n) x = ap (λ k. Some (mismatch [] (is_list_of k) (atom z))) (sym x.0)
unlike_there (in_list ps) (pid z) b (is_list_of n) x = ap (λ k. Some (mismatch [] (is_list_of k) (pid z))) (sym x.0)
unlike_there (in_list ps) (tuple z) b (is_list_of n) x = ap (λ k. Some (mismatch [] (is_list_of k) (tuple z))) (sym x.0)
unlike_there p t b h x = absurd x

-- what comes before a difference matches together
bound_before : (place : List ℕ) (before : Pairs) (p : Pattern) (t : Tree) (h : HeadPart) (u : Tree) → DiffersFirstAt before p t place h u → (b : Bindings) × (walked before [] ≡ Some b)
bound_before [] before p t h u x = (x.1.0, matches-bind (in_list (pair_patterns before)) (list (pair_terms before)) x.1.0 x.1.1)
bound_before (n ∷ place) before p t h u (front, q, s, rest, size, has, x) =
    let c : (b : Bindings) × (walked (before ++ front) [] ≡ Some b) = bound_before place (before ++ front) q s h u x in
    let r : (b : Bindings) × (walked before [] ≡ Some b) × (walked front b ≡ Some c.0) = after_some (walked front) (walked before []) c.0 (sym (walked_append before front []) ∙ c.1) in
    (r.0, r.1)

-- it is that of the elements
of_elements_of : (p : Pattern) (t : Tree) (xs : Pairs) (b : Bindings) → HasElements p t xs → mismatch_on p t b ≡ mismatch_in zero (pair_patterns xs) (pair_terms xs) b
of_elements_of (in_tuple ps) (tuple ts) xs b h =
    among _ _ _ _ (ap pattern_count h.0 ∙ pairs_even xs ∙ sym (ap count h.1)) ∙ ap (λ qs. mismatch_in zero qs ts b) h.0 ∙ ap (λ us. mismatch_in zero (pair_patterns xs) us b) h.1
of_elements_of (in_list ps) (list ts) xs b h =
    among _ _ _ _ (ap pattern_count h.0 ∙ pairs_even xs ∙ sym (ap count h.1)) ∙ ap (λ qs. mismatch_in zero qs ts b) h.0 ∙ ap (λ us. mismatch_in zero (pair_patterns xs) us b) h.1
of_elements_of p t xs b h = absurd h

shift : (m n : ℕ) → suc m + n ≡ m + suc n
shift m n = omega arith

-- after elements that match
after_front : (k : ℕ) (front rest : Pairs) (q : Pattern) (s : Tree) (b c : Bindings) (m : Mismatch) → walked front b ≡ Some c → mismatch_on q s c ≡ Some m
    → mismatch_in k (pair_patterns (front ++ (q, s) ∷ rest)) (pair_terms (front ++ (q, s) ∷ rest)) b ≡ Some (in_element (k + length front) m)
after_front k [] rest q s b c m e f =
    let none_more : k ≡ k + zero = omega arith in
    ap (λ o. here_or k o (option_and_then (mismatch_in (suc k) (pair_patterns rest) (pair_terms rest)) (bind_on q s b))) (ap (mismatch_on q s) (bindings_in b c e) ∙ f)
    ∙ ap (λ j. Some (in_element j m)) none_more
after_front k (x ∷ front) rest q s b c m e f =
    let r : (d : Bindings) × (bind_on x.0 x.1 b ≡ Some d) × (walked front d ≡ Some c) = after_some (walked front) (bind_on x.0 x.1 b) c e in
    let next : Bindings → Option Mismatch = mismatch_in (suc k) (pair_patterns (front ++ (q, s) ∷ rest)) (pair_terms (front ++ (q, s) ∷ rest)) in
    ap (λ o. here_or k o (option_and_then next (bind_on x.0 x.1 b))) (bound_none x.0 x.1 b r.0 r.1)
    ∙ ap (option_and_then next) r.1
    ∙ after_front (suc k) front rest q s r.0 c m r.2 f
    ∙ ap (λ j. Some (in_element j m)) (shift k (length front))

complete_on : (place : List ℕ) (before : Pairs) (p : Pattern) (t : Tree) (h : HeadPart) (u : Tree) (b : Bindings) → walked before [] ≡ Some b → DiffersFirstAt before p t place h u → mismatch_on p t b ≡ Some (mismatch place h u)
complete_on [] before p t h u b so_far x =
    let is : x.1.0 ≡ b = bindings_in x.1.0 b (sym (matches-bind (in_list (pair_patterns before)) (list (pair_terms before)) x.1.0 x.1.1) ∙ so_far) in
    unlike_there p t b h (subst (λ c. IsUnlike p t c h) is x.1.2) ∙ ap (λ v. Some (mismatch [] h v)) (sym x.0)
complete_on (n ∷ place) before p t h u b so_far (front, q, s, rest, size, has, x) =
    let c : (d : Bindings) × (walked (before ++ front) [] ≡ Some d) = bound_before place (before ++ front) q s h u x in
    let through : walked front b ≡ Some c.0 = sym (ap (option_and_then (walked front)) so_far) ∙ sym (walked_append before front []) ∙ c.1 in
    let counted : zero + length front ≡ n = omega (arith, size) in
    of_elements_of p t (front ++ (q, s) ∷ rest) b has
    ∙ after_front zero front rest q s b c.0 (mismatch place h u) through (complete_on place (before ++ front) q s h u c.0 c.1 x)
    ∙ ap (λ j. Some (mismatch (j ∷ place) h u)) counted

-- ---- the laws

pub mismatch_sound : (p : Pattern) (t : Tree) (m : Mismatch) → mismatch_of p t ≡ Some m → IsMismatch p t m
mismatch_sound p t (mismatch place h u) e = sound_on [] p t [] (mismatch place h u) refl e

pub mismatch_complete : (p : Pattern) (t : Tree) (m : Mismatch) → IsMismatch p t m → mismatch_of p t ≡ Some m
mismatch_complete p t (mismatch place h u) x = complete_on place [] p t h u [] refl x

-- where no binding is found there is one
pub mismatch_there : (p : Pattern) (t : Tree) → bindings_of p t ≡ None → (m : Mismatch) × (mismatch_of p t ≡ Some m)
mismatch_there p t e = go (mismatch_of p t) refl
  where
    go : (o : Option Mismatch) → mismatch_of p t ≡ o → (m : Mismatch) × (mismatch_of p t ≡ Some m)
    go None h = absurd (cc (sym e ∙ (none_bound p t [] h).1))
    go (Some m) h = (m, h)

pub mismatch_is_computed : MismatchIsComputed
mismatch_is_computed p t m = (mismatch_sound p t m, mismatch_complete p t m)

pub mismatch_is_one : MismatchIsOne
mismatch_is_one p t m n x y = some_is m n (sym (mismatch_complete p t m x) ∙ mismatch_complete p t n y)

pub mismatch_where_not_matched : MismatchWhereNotMatched
mismatch_where_not_matched p t = (
  λ x b h. absurd (cc (sym (mismatch_complete p t x.0 x.1) ∙ bound_none p t [] b (matches-bind p t b h))),
  λ h.
      let r : (m : Mismatch) × (mismatch_of p t ≡ Some m) = mismatch_there p t ((walk_misses_none p t).1 h) in
      (r.0, mismatch_sound p t r.0 r.1),
)
