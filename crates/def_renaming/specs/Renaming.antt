-- Messages of a trace that are the first ones of what a run shows, but for pids (own).
-- Depends on terms. The pids of a trace are those of its node; a run gives its own.
use Rattle.std.specs.Prelude.{◌≡◌, ◌≢◌, ◌==◌, ◌&&◌, ◌||◌, ℕ, Bool, if◌then◌else◌, List, [], ◌∷◌, ◌++◌, All, AllPairs, Any, Contains, find, flat_map, slice_get, bytes_eq, Option, Some, None, option_and_then, option_to_list}
use Rattle.std.specs.Ordering.{int_eq}
use Rattle.def_term.specs.Tree.{Tree, int, atom, pid, tuple, list, Trees, none, more}

-- ---- pairs of a pid of the trace and a pid of the run

-- no pid is in two pairs, on either side
pub record IsOneToOne (ps : List (ℕ × ℕ)) : Type 0 where
  pub there : AllPairs (λ p q. p.0 ≢ q.0) ps
  pub here : AllPairs (λ p q. p.1 ≢ q.1) ps

-- ---- messages that are the same but for pids

abbrev mutual
  -- the same term, but where the first has a pid the second has its partner
  pub IsRenamed : List (ℕ × ℕ) → Tree → Tree → Type 0
  IsRenamed ps (int y) (int z) = y ≡ z
  IsRenamed ps (atom r) (atom s) = r ≡ s
  IsRenamed ps (pid m) (pid n) = Contains ps (m, n)
  IsRenamed ps (tuple ts) (tuple us) = AreRenamed ps ts us
  IsRenamed ps (list ts) (list us) = AreRenamed ps ts us
  IsRenamed ps _ _ = ⊥

  -- element by element
  pub AreRenamed : List (ℕ × ℕ) → Trees → Trees → Type 0
  AreRenamed ps none none = Unit {0}
  AreRenamed ps (more t ts) (more u us) = IsRenamed ps t u × AreRenamed ps ts us
  AreRenamed ps _ _ = ⊥

-- each message of the trace is so with the one at its place in the run, which may have more
abbrev pub IsRenamedPrefix : List (ℕ × ℕ) → (there here : List Tree) → Type 0
IsRenamedPrefix ps [] us = Unit {0}
IsRenamedPrefix ps (t ∷ ts) [] = ⊥
IsRenamedPrefix ps (t ∷ ts) (u ∷ us) = IsRenamed ps t u × IsRenamedPrefix ps ts us

-- each group of messages of the trace is so with one of the lists that the run shows, by the same pairs
abbrev pub HaveRenamedPrefixes : List (ℕ × ℕ) → (groups lists : List (List Tree)) → Type 0
HaveRenamedPrefixes ps groups lists = All (λ group. Any (IsRenamedPrefix ps group) lists) groups

-- ---- computed

-- it is this pair
abbrev pub is_pair : ℕ → ℕ → ℕ × ℕ → Bool
is_pair m n p = (p.0 == m) && (p.1 == n)

-- it has one of the two pids, on its side
abbrev pub has_either : ℕ → ℕ → ℕ × ℕ → Bool
has_either m n p = (p.0 == m) || (p.1 == n)

-- the pairs with this one, by the one that has either of its pids
abbrev pub with_pair_by : List (ℕ × ℕ) → ℕ → ℕ → Option (ℕ × ℕ) → Option (List (ℕ × ℕ))
with_pair_by ps m n None = Some (ps ++ (m, n) ∷ [])
with_pair_by ps m n (Some p) = if is_pair m n p then Some ps else None

-- the pairs with this one, which comes at the end unless it is there; none where one of the two has another partner
abbrev pub with_pair : List (ℕ × ℕ) → ℕ → ℕ → Option (List (ℕ × ℕ))
with_pair ps m n = with_pair_by ps m n (find (has_either m n) ps)

abbrev mutual
  -- the pairs with those that the two terms need; none where no pairs make the one of the other
  pub with_term_pairs : List (ℕ × ℕ) → Tree → Tree → Option (List (ℕ × ℕ))
  with_term_pairs ps (int y) (int z) = if int_eq y z then Some ps else None
  with_term_pairs ps (atom r) (atom s) = if bytes_eq r s then Some ps else None
  with_term_pairs ps (pid m) (pid n) = with_pair ps m n
  with_term_pairs ps (tuple ts) (tuple us) = with_element_pairs ps ts us
  with_term_pairs ps (list ts) (list us) = with_element_pairs ps ts us
  with_term_pairs ps _ _ = None

  -- element by element
  pub with_element_pairs : List (ℕ × ℕ) → Trees → Trees → Option (List (ℕ × ℕ))
  with_element_pairs ps none none = Some ps
  with_element_pairs ps (more t ts) (more u us) = option_and_then (λ qs. with_element_pairs qs ts us) (with_term_pairs ps t u)
  with_element_pairs ps _ _ = None

-- the pairs with those that the messages of a group need where they are the first ones of a list
abbrev pub with_prefix_pairs : List (ℕ × ℕ) → (there here : List Tree) → Option (List (ℕ × ℕ))
with_prefix_pairs ps [] us = Some ps
with_prefix_pairs ps (t ∷ ts) [] = None
with_prefix_pairs ps (t ∷ ts) (u ∷ us) = option_and_then (λ qs. with_prefix_pairs qs ts us) (with_term_pairs ps t u)

-- the pairs with those that a group needs, for each list whose first messages it can be
abbrev pub renamings_of : List Tree → (lists : List (List Tree)) → List (ℕ × ℕ) → List (List (ℕ × ℕ))
renamings_of group lists ps = flat_map (λ us. option_to_list (with_prefix_pairs ps group us)) lists

-- the same for group after group
abbrev pub renamings : (groups lists : List (List Tree)) → List (List (ℕ × ℕ)) → List (List (ℕ × ℕ))
renamings [] lists pss = pss
renamings (group ∷ groups) lists pss = renamings groups lists (flat_map (renamings_of group lists) pss)

-- the first pairs by which each group is a prefix of a list, if there are some
abbrev pub first_renaming : (groups lists : List (List Tree)) → Option (List (ℕ × ℕ))
first_renaming groups lists = slice_get (renamings groups lists ([] ∷ [])) 0
