-- Where the pattern of a head first differs from a term, in the order of matching: left to right, and depth first (own; "Match Specifications in Erlang", MatchHead).
-- Depends on matching.
use Rattle.std.specs.Prelude.{◌≡◌, ◌≢◌, ℕ, suc, ◌==◌, if◌then◌else◌, List, [], ◌∷◌, ◌++◌, length, Option, Some, None}
use Rattle.std.specs.Option.{option_and_then}
use Rattle.def_term.specs.Tree.{Tree, tuple, list, Trees, none, more, count}
use Rattle.def_term.specs.Order.{same}
use Rattle.def_spec.specs.Matching.{Pattern, variable, anything, only_term, in_tuple, in_list, Patterns, no_patterns, and_pattern, Bindings, value_bound, Matches, bind_on}

-- what a head has at a place: a term, a variable that is bound to a term, or a tuple or list of so many
pub data HeadPart : Type 0 where
  is_term : Tree → HeadPart
  is_bound : ℕ → Tree → HeadPart
  is_tuple_of : ℕ → HeadPart
  is_list_of : ℕ → HeadPart

-- at which place the head has what, and which term is there; a place is how many elements stand before it, level by level
pub data Mismatch : Type 0 where
  mismatch : List ℕ → HeadPart → Tree → Mismatch

-- how many patterns there are
abbrev pub pattern_count : Patterns → ℕ
pattern_count no_patterns = 0
pattern_count (and_pattern p ps) = suc (pattern_count ps)

-- patterns, each with the term that it is matched with
abbrev pub Pairs : Type 0
Pairs = List (Pattern × Tree)

-- their patterns
abbrev pub pair_patterns : Pairs → Patterns
pair_patterns [] = no_patterns
pair_patterns (x ∷ xs) = and_pattern x.0 (pair_patterns xs)

-- their terms
abbrev pub pair_terms : Pairs → Trees
pair_terms [] = none
pair_terms (x ∷ xs) = more x.1 (pair_terms xs)

-- the patterns match their terms together
abbrev pub MatchTogether : Pairs → Bindings → Type 0
MatchTogether xs b = Matches (in_list (pair_patterns xs)) (list (pair_terms xs)) b

-- a tuple or list of patterns is matched with one of as many terms, element by element
abbrev pub HasElements : Pattern → Tree → Pairs → Type 0
HasElements (in_tuple ps) (tuple ts) xs = (ps ≡ pair_patterns xs) × (ts ≡ pair_terms xs)
HasElements (in_list ps) (list ts) xs = (ps ≡ pair_patterns xs) × (ts ≡ pair_terms xs)
HasElements p t xs = ⊥

-- with these variables bound the pattern is this part, which the term isn't, whatever their elements are
abbrev pub IsUnlike : Pattern → Tree → Bindings → HeadPart → Type 0
IsUnlike (variable n) t b (is_bound m u) = (m ≡ n) × (value_bound b n ≡ Some u) × (u ≢ t)
IsUnlike (only_term s) t b (is_term u) = (u ≡ s) × (s ≢ t)
IsUnlike (in_tuple ps) t b (is_tuple_of n) = (n ≡ pattern_count ps) × ((ts : Trees) → t ≡ tuple ts → n ≢ count ts)
IsUnlike (in_list ps) t b (is_list_of n) = (n ≡ pattern_count ps) × ((ts : Trees) → t ≡ list ts → n ≢ count ts)
IsUnlike p t b h = ⊥

-- all that comes before the place matches together, and the part at the place is unlike the term there
abbrev pub DiffersFirstAt : Pairs → Pattern → Tree → List ℕ → HeadPart → Tree → Type 0
DiffersFirstAt before p t [] h u = (u ≡ t) × ((b : Bindings) × MatchTogether before b × IsUnlike p t b h)
DiffersFirstAt before p t (n ∷ place) h u =
    (front : Pairs) × (q : Pattern) × (s : Tree) × (rest : Pairs) × (length front ≡ n) × HasElements p t (front ++ (q, s) ∷ rest) × DiffersFirstAt (before ++ front) q s place h u

-- the first difference of the pattern and the term
abbrev pub IsMismatch : Pattern → Tree → Mismatch → Type 0
IsMismatch p t (mismatch place h u) = DiffersFirstAt [] p t place h u

-- ---- the same, computed

-- in the element after so many
abbrev pub in_element : ℕ → Mismatch → Mismatch
in_element n (mismatch place h u) = mismatch (n ∷ place) h u

-- in this element, or in one after it
abbrev pub here_or : ℕ → Option Mismatch → Option Mismatch → Option Mismatch
here_or n None later = later
here_or n (Some m) later = Some (in_element n m)

-- of a variable that is bound to this
abbrev pub unlike_bound : ℕ → Tree → Option Tree → Option Mismatch
unlike_bound n t None = None
unlike_bound n t (Some u) = if same u t then None else Some (mismatch [] (is_bound n u) t)

-- of a pattern and a term, with what is bound before
abbrev mutual
  pub mismatch_on : Pattern → Tree → Bindings → Option Mismatch
  mismatch_on (variable n) t b = unlike_bound n t (value_bound b n)
  mismatch_on anything t b = None
  mismatch_on (only_term s) t b = if same s t then None else Some (mismatch [] (is_term s) t)
  mismatch_on (in_tuple ps) (tuple ts) b = if pattern_count ps == count ts then mismatch_in 0 ps ts b else Some (mismatch [] (is_tuple_of (pattern_count ps)) (tuple ts))
  mismatch_on (in_tuple ps) t b = Some (mismatch [] (is_tuple_of (pattern_count ps)) t)
  mismatch_on (in_list ps) (list ts) b = if pattern_count ps == count ts then mismatch_in 0 ps ts b else Some (mismatch [] (is_list_of (pattern_count ps)) (list ts))
  mismatch_on (in_list ps) t b = Some (mismatch [] (is_list_of (pattern_count ps)) t)

  -- element by element, after so many
  pub mismatch_in : ℕ → Patterns → Trees → Bindings → Option Mismatch
  mismatch_in n (and_pattern p ps) (more t ts) b = here_or n (mismatch_on p t b) (option_and_then (mismatch_in (suc n) ps ts) (bind_on p t b))
  mismatch_in n ps ts b = None

-- with nothing bound before
abbrev pub mismatch_of : Pattern → Tree → Option Mismatch
mismatch_of p t = mismatch_on p t []
