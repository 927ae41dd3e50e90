-- Where the reading of a specification stops (own; "Match Specifications in Erlang", "Grammar").
-- Depends on how clauses are read.
use Rattle.std.specs.Prelude.{◌≡◌, ℕ, zero, suc, Option, Some, None, Ok, Err}
use Rattle.def_term.specs.Tree.{Tree, list, Trees, none, more}
use Rattle.def_spec.specs.Expressions.{Dialect}
use Rattle.def_spec.specs.Outcome.{Clause}
use Rattle.def_spec.specs.Reading.{SpecFault, Reads, clause_of}

-- the clause after so many is the first that is none
abbrev pub StopsAtClause : Dialect → Trees → ℕ → Type 0
StopsAtClause d none n = ⊥
StopsAtClause d (more t ts) zero = (e : SpecFault) × (clause_of d t ≡ Err e)
StopsAtClause d (more t ts) (suc n) = (k : Clause) × (clause_of d t ≡ Ok k) × StopsAtClause d ts n

-- ---- the same, computed

-- this clause, or one after it
abbrev pub this_or : ℕ → Reads Clause → Option ℕ → Option ℕ
this_or n (Ok k) behind = behind
this_or n (Err e) behind = Some n

-- the first of these terms, after so many, that is no clause
abbrev pub stop_after : Dialect → ℕ → Trees → Option ℕ
stop_after d n none = None
stop_after d n (more t ts) = this_or n (clause_of d t) (stop_after d (suc n) ts)

-- the first element that is no clause, where it is a list
abbrev pub stop_of : Dialect → Tree → Option ℕ
stop_of d (list ts) = stop_after d 0 ts
stop_of d _ = None
