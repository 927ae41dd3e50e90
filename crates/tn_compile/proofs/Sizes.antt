-- The registers of each clause fit, since the specification is small.
use Rattle.std.proofs.Common.{◌≡◌, ℕ, zero, suc, ◌+◌, ◌*◌, ◌<◌, ◌≤◌, ◌^◌, List, [], ◌∷◌, length, map, get_or, Option, Some, None, ap, arith}
use Rattle.def_term.specs.Tree.{Tree}
use Rattle.def_spec.specs.Matching.{Pattern, Patterns, variable, anything, only_term, in_tuple, in_list, no_patterns, and_pattern}
use Rattle.def_machine.specs.Compilation.{registers_taken, registers_taken_each}
use Rattle.def_machine.specs.HeadFolds.{constant_in, term_or, fold_head, folded_each}
use Rattle.tn_spec.specs.Sizes.{pattern_size, patterns_size, exprs_size, clause_size, clauses_size}
use Rattle.tn_spec.specs.Views.{clause_seen, exprs_seen, head_seen}
use Rattle.tn_spec.specs.declared.spec.Clause.{Clause}
use Rattle.tn_compile.specs.Rooms.{HasRoomFor}

few-or : (x : Option Tree) (q : Pattern) (n : ℕ) → 1 ≤ n → suc (registers_taken q) ≤ 2 * n → suc (registers_taken (term_or x q)) ≤ 2 * n
few-or None q n some h = h
few-or (Some t) q n some h = omega (arith, some)

mutual
  registers-few : (p : Pattern) → suc (registers_taken (fold_head p)) ≤ 2 * pattern_size p
  registers-few (variable n) = omega arith
  registers-few anything = omega arith
  registers-few (only_term t) = omega arith
  registers-few (in_tuple ps) = few-or (constant_in (in_tuple ps)) (in_tuple (folded_each ps)) (1 + patterns_size ps) (omega arith) (omega (arith, each-few ps))
  registers-few (in_list ps) = few-or (constant_in (in_list ps)) (in_list (folded_each ps)) (1 + patterns_size ps) (omega arith) (omega (arith, each-few ps))

  each-few : (ps : Patterns) → registers_taken_each (folded_each ps) ≤ 2 * patterns_size ps
  each-few no_patterns = omega arith
  each-few (and_pattern p ps) = omega (arith, registers-few p, each-few ps)

clause-within : {A : Type 0} (ks : List (Clause A)) (i : ℕ) (k : Clause A) → i < length ks → k ≡ get_or ks i k → clause_size (clause_seen k) ≤ clauses_size (map clause_seen ks)
clause-within [] i k l is = absurd (omega (arith, l))
clause-within (x ∷ ks) zero k l is = let s : clause_size (clause_seen k) ≡ clause_size (clause_seen x) = ap (λ y. clause_size (clause_seen y)) is in omega (arith, s)
clause-within (x ∷ ks) (suc i) k l is = omega (arith, clause-within ks i k (omega (arith, l)) is)

pub clause-room : {A : Type 0} (ks : List (Clause A)) (i : ℕ) (k : Clause A) → i < length ks → k ≡ get_or ks i k → clauses_size (map clause_seen ks) < 2 ^ 32 → HasRoomFor k
clause-room ks i k l is small =
    let few : suc (registers_taken (fold_head (head_seen k.head))) ≤ 2 * pattern_size (head_seen k.head) = registers-few (head_seen k.head) in
    let within : pattern_size (head_seen k.head) + (exprs_size (exprs_seen k.conditions.items) + exprs_size (exprs_seen k.body.items)) ≤ clauses_size (map clause_seen ks) = clause-within ks i k l is in
    record { conditions = omega (arith, few, within, small); body = omega (arith, few, within, small) }

-- ---- registers and code of one clause

pub room-of-head : (taken size : ℕ) → 2 + taken + size < 2 ^ 64 → 1 + taken < 2 ^ 64
room-of-head taken size h = omega (arith, h)

pub room-behind-head : (free taken size small : ℕ) → free ≡ 1 + taken → small ≤ size → 2 + taken + size < 2 ^ 64 → free + 1 + small < 2 ^ 64
room-behind-head free taken size small is le h = omega (arith, is, le, h)

pub one-longer : (n old new : ℕ) → n ≡ old → new ≡ old + 1 → n ≤ new
one-longer n old new is h = omega (arith, is, h)

pub as-long : (n old new : ℕ) → n ≤ old → old ≤ new → n ≤ new
as-long n old new is h = omega (arith, is, h)
