-- What the code's values stand for: pairs of pids, and terms that are lent.
-- Depends on renamings.
use Rattle.std.specs.Prelude.{◌≡◌, ℕ, Bool, if◌then◌else◌, List, ◌++◌, map, slice_get, Option, Some, None}
use Rattle.std.specs.Borrow.{Bor}
use Rattle.std.specs.declared.vec.Vec.{Vec}
use Rattle.def_term.specs.Tree.{Tree}
use Rattle.def_renaming.specs.Renaming.{renamings}
use Rattle.tn_term.specs.Views.{tree_of}
use Rattle.tn_term.specs.declared.term.Term.{Term}
use Rattle.tn_renaming.specs.declared.pairs.PidPair.{PidPair}

abbrev pub pair_seen : PidPair → ℕ × ℕ
pair_seen p = (p.there, p.here)

abbrev pub pairs_seen : {A : Type 0} → Vec PidPair A → List (ℕ × ℕ)
pairs_seen v = map pair_seen v.items

abbrev pub lent_term_seen : {A : Type 0} → Bor (Term A) → Tree
lent_term_seen t = tree_of t.now

abbrev pub lent_terms_seen : {A B : Type 0} → Vec (Bor (Term A)) B → List Tree
lent_terms_seen v = map lent_term_seen v.items

-- the first pairs that these give for groups of messages
abbrev pub first_from : (groups lists : List (List Tree)) → List (List (ℕ × ℕ)) → Option (List (ℕ × ℕ))
first_from groups lists pss = slice_get (renamings groups lists pss) 0

-- the pairs after a search are what it gives; where it gives nothing, they are those before it and more
pub record LeavesPairs (old : List (ℕ × ℕ)) (gives : Option (List (ℕ × ℕ))) (found : Bool) (new : List (ℕ × ℕ)) : Type 0 where
  pub is : gives ≡ (if found then Some new else None)
  pub more : List (ℕ × ℕ)
  pub kept : new ≡ old ++ more
