-- The walk over a head, step by step.
use Rattle.std.proofs.Common.{◌≡◌, ◌∙◌, sym, ap, ap₂, refl, rules, ℕ, suc, ◌+◌, ◌<◌, ◌≤◌, ◌==◌, nat_lt, Bool, true, false, not, cond, if◌then◌else◌, List, [], ◌∷◌, map, length, drop, get_or, Option, Some, None, arith}
use Rattle.std.specs.List.{insert, position_or_len}
use Rattle.std.specs.declared.vec.Vec.{Vec}
use Rattle.std.specs.Option.{option_and_then}
use Rattle.std.specs.Ordering.{nat_cmp, is_eq}
use Rattle.std.specs.declared.cmp.Ordering.TheVariants.{Less, Equal, Greater}
use Rattle.std.specs.FinMap.{put}
use Rattle.std.specs.FinMap.Entries.{by_order}
use Rattle.std.proofs.lemmas.List.{drop_more, drop_all}
use Rattle.def_term.specs.Tree.{Tree, int, atom, pid, tuple, list, Trees, none, more, count}
use Rattle.def_term.specs.Order.{same}
use Rattle.def_spec.specs.Functions.{nth}
use Rattle.def_spec.specs.Matching.{Pattern, Patterns, variable, only_term, in_tuple, in_list, no_patterns, and_pattern, Bindings, value_bound, bind, bind_on, bind_each, bindings_of}
use Rattle.def_spec.proofs.Binding.{bind-matches, matches-bind}
use Rattle.tn_term.specs.Views.{tree_of}
use Rattle.tn_term.specs.declared.term.Term.{Term}
use Rattle.tn_spec.specs.Views.{pattern_seen, patterns_seen}
use Rattle.tn_spec.specs.declared.pattern.Head.{Head}
use Rattle.tn_spec.specs.declared.pattern.Head.TheVariants as heads
use Rattle.tn_spec.specs.declared.pattern.Pattern as code
use Rattle.tn_guard.specs.Views.{value_seen, tuple_trees, list_trees}
use Rattle.tn_guard.proofs.Places.{rest_from, rest_here, rest_past}
use Rattle.tn_guard.specs.declared.list_view.ListView.{ListView}
use Rattle.tn_head.specs.Answers.{bindings_in}
use Rattle.tn_head.specs.Matching.{IsMatchAnswer, bound_each, bound_if}
use Rattle.tn_head.specs.Views.{binding_seen}
use Rattle.tn_head.specs.declared.bindings.Binding.{Binding}

-- ---- variables

pub met_again : (n : ℕ) (t u : Tree) (b : Bindings) (s : Bool) → Some u ≡ value_bound b n → s ≡ same u t → bind_on (variable n) t b ≡ (if s then Some b else None)
met_again n t u b s e h = ap (bind n t b) (sym e) ∙ ap (λ x. if x then Some b else None) (sym h)

pub met_first : (n : ℕ) (t : Tree) (b c : Bindings) → None ≡ value_bound b n → c ≡ put nat_cmp n t b → bind_on (variable n) t b ≡ Some c
met_first n t b c e h = ap (bind n t b) (sym e) ∙ ap Some (sym h)

module _ {A : Type 0} (b : Binding A) where
  abbrev pub place_in : List (Binding A) → ℕ
  place_in xs = position_or_len (λ x. nat_lt b.number x.number) xs

  inserted_by : (x : Binding A) (xs : List (Binding A)) (lt eq : Bool)
      → (None ≡ value_bound (map binding_seen xs) b.number → map binding_seen (insert xs (place_in xs) b) ≡ put nat_cmp b.number (value_seen b.value) (map binding_seen xs))
      → None ≡ cond (is_eq (cond lt Less (cond eq Equal Greater))) (Some (value_seen x.value)) (value_bound (map binding_seen xs) b.number)
      → map binding_seen (insert (x ∷ xs) (cond (not lt) (1 + place_in xs) 0) b)
      ≡ by_order (cond lt Less (cond eq Equal Greater)) (binding_seen b ∷ map binding_seen (x ∷ xs)) ((x.number, value_seen b.value) ∷ map binding_seen xs) (binding_seen x ∷ put nat_cmp b.number (value_seen b.value) (map binding_seen xs))
  inserted_by x xs true eq rest h = refl
  inserted_by x xs false true rest h = cc
  inserted_by x xs false false rest h =
      let next : 1 + place_in xs ≡ suc (place_in xs) = omega arith in
      ap (λ i. map binding_seen (insert (x ∷ xs) i b)) next ∙ ap (λ es. binding_seen x ∷ es) (rest h)

  -- an entry before the first of a greater number
  pub inserted : (xs : List (Binding A)) → None ≡ value_bound (map binding_seen xs) b.number → map binding_seen (insert xs (place_in xs) b) ≡ put nat_cmp b.number (value_seen b.value) (map binding_seen xs)
  inserted [] e = refl
  inserted (x ∷ xs) e = inserted_by x xs (nat_lt b.number x.number) (b.number == x.number) (inserted xs) e

-- ---- patterns

pub patterns_here : {P : Type 0} (ps : List (code.Pattern P)) (i : ℕ) (p : code.Pattern P) → i < length ps → p ≡ get_or ps i p → patterns_seen (drop i ps) ≡ and_pattern (pattern_seen p) (patterns_seen (drop (i + 1) ps))
patterns_here ps i p below is = ap patterns_seen (drop_more ps i p below) ∙ ap (λ q. and_pattern (pattern_seen q) (patterns_seen (drop (i + 1) ps))) (sym is)

pub patterns_past : {P : Type 0} (ps : List (code.Pattern P)) (i : ℕ) → length ps ≤ i → patterns_seen (drop i ps) ≡ no_patterns
patterns_past ps i past = ap patterns_seen (drop_all i ps past)

pub each_here : {P : Type 0} (ps : List (code.Pattern P)) (ts : Trees) (i : ℕ) (p : code.Pattern P) (t : Tree) (b : Bindings) (o : Option Bindings)
    → i < length ps → p ≡ get_or ps i p → Some t ≡ nth ts i → bind_on (pattern_seen p) t b ≡ o
    → bind_each (patterns_seen (drop i ps)) (rest_from i ts) b ≡ option_and_then (bind_each (patterns_seen (drop (i + 1) ps)) (rest_from (i + 1) ts)) o
each_here ps ts i p t b o n is at e =
    ap₂ (λ qs us. bind_each qs us b) (patterns_here ps i p n is) (rest_here ts i t at)
    ∙ ap (option_and_then (bind_each (patterns_seen (drop (i + 1) ps)) (rest_from (i + 1) ts))) e

pub each_past : {P : Type 0} (ps : List (code.Pattern P)) (ts : Trees) (i : ℕ) (b : Bindings) → length ps ≤ i → count ts ≤ i → bind_each (patterns_seen (drop i ps)) (rest_from i ts) b ≡ Some b
each_past ps ts i b n m = ap₂ (λ qs us. bind_each qs us b) (patterns_past ps i n) (rest_past ts i m)

none_then : (f : Bindings → Option Bindings) (o : Option Bindings) → ((b : Bindings) → f b ≡ None) → option_and_then f o ≡ None
none_then f None h = refl
none_then f (Some b) h = h b

pub of_two_lengths : {P : Type 0} (ps : List (code.Pattern P)) (ts : Trees) (b : Bindings) → (length ps ≡ count ts → ⊥) → bind_each (patterns_seen ps) ts b ≡ None
of_two_lengths [] none b h = absurd (h refl)
of_two_lengths [] (more t ts) b h = refl
of_two_lengths (p ∷ ps) none b h = refl
of_two_lengths (p ∷ ps) (more t ts) b h = none_then _ (bind_on (pattern_seen p) t b) (λ c. of_two_lengths ps ts c (λ e. h (omega (arith, e))))

-- a tuple or list of patterns, held against the elements of a term
pub tuple_met : (q : Pattern) (ps : Patterns) (t : Tree) (ts : Trees) (b : Bindings) → q ≡ in_tuple ps → Some ts ≡ tuple_trees t → bind_on q t b ≡ bind_each ps ts b
tuple_met q ps (int z) ts b e h = cc
tuple_met q ps (atom s) ts b e h = cc
tuple_met q ps (pid n) ts b e h = cc
tuple_met q ps (tuple us) ts b e h =
    let same : us ≡ ts = cc in
    ap (λ r. bind_on r (tuple us) b) e ∙ ap (λ ws. bind_each ps ws b) same
tuple_met q ps (list us) ts b e h = cc

pub no_tuple : (q : Pattern) (ps : Patterns) (t : Tree) (b : Bindings) → q ≡ in_tuple ps → None ≡ tuple_trees t → bind_on q t b ≡ None
no_tuple q ps (int z) b e h = ap (λ r. bind_on r (int z) b) e
no_tuple q ps (atom s) b e h = ap (λ r. bind_on r (atom s) b) e
no_tuple q ps (pid n) b e h = ap (λ r. bind_on r (pid n) b) e
no_tuple q ps (tuple us) b e h = cc
no_tuple q ps (list us) b e h = ap (λ r. bind_on r (list us) b) e

pub list_met : (q : Pattern) (ps : Patterns) (t : Tree) (ts : Trees) (b : Bindings) → q ≡ in_list ps → Some ts ≡ list_trees t → bind_on q t b ≡ bind_each ps ts b
list_met q ps (int z) ts b e h = cc
list_met q ps (atom s) ts b e h = cc
list_met q ps (pid n) ts b e h = cc
list_met q ps (tuple us) ts b e h = cc
list_met q ps (list us) ts b e h =
    let same : us ≡ ts = cc in
    ap (λ r. bind_on r (list us) b) e ∙ ap (λ ws. bind_each ps ws b) same

pub no_list : (q : Pattern) (ps : Patterns) (t : Tree) (b : Bindings) → q ≡ in_list ps → None ≡ list_trees t → bind_on q t b ≡ None
no_list q ps (int z) b e h = ap (λ r. bind_on r (int z) b) e
no_list q ps (atom s) b e h = ap (λ r. bind_on r (atom s) b) e
no_list q ps (pid n) b e h = ap (λ r. bind_on r (pid n) b) e
no_list q ps (tuple us) b e h = ap (λ r. bind_on r (tuple us) b) e
no_list q ps (list us) b e h = cc

pub pattern_of_only : {P : Type 0} (t : Term P) → pattern_seen (code.Only t) ≡ only_term (tree_of t)
pattern_of_only t = search (rules, code.the_lemmas)

-- ---- heads

-- a list of patterns that each matched, with nothing bound before
pub walked : {P A : Type 0} (h : Head P) (ps : Vec (code.Pattern P) P) (parts : ListView A) (start bs : List (Binding A)) (m : Bool) → h ≡ heads.List ps → start ≡ [] → m ≡ true
    → bound_each ps parts start ≡ bound_if m bs → Some (map binding_seen bs) ≡ bindings_in h parts
walked h ps parts start bs m is empty all bound =
    sym (ap (λ x. bindings_in x parts) is ∙ ap (bound_each ps parts) (sym empty) ∙ bound ∙ ap (λ b. bound_if b bs) all)

-- ---- answers

pub answered : (p : Pattern) (t : Tree) (o : Option Bindings) → o ≡ bindings_of p t → IsMatchAnswer p t o
answered p t None e = λ b m. let found : bindings_of p t ≡ Some b = matches-bind p t b m in cc
answered p t (Some b) e = bind-matches p t b (sym e)
