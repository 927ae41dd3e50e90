-- The words of clauses are counted.
use Rattle.std.proofs.Common.{◌≡◌, ℕ, List, [], ◌∷◌, length, map, max, length-append, refl, arith}
use Rattle.def_fun.specs.Trees.{FunExpr, FunClause}
use Rattle.def_fun.specs.Translation.{alternatives_of}
use Rattle.def_fun.specs.Limits.{clause_count, spec_clauses}
use Rattle.def_fun_words.specs.Words.{clause_words, words_of_fun}

as_many : {X Y : Type 0} (f : X → Y) (xs : List X) → length (map f xs) ≡ length xs
as_many f [] = refl
as_many f (x ∷ xs) = let more = as_many f xs in omega (arith, more)

alternatives : (gs : List (List FunExpr)) → length (alternatives_of gs) ≡ max 1 (length gs)
alternatives [] = refl
alternatives (g ∷ gs) = omega arith

of_clause : (text : List ℕ) (k : FunClause) → length (clause_words text k) ≡ clause_count k
of_clause text k = let one = as_many (Rattle.def_fun_words.specs.Words.guard_words text k) (alternatives_of k.guards) in let other = alternatives k.guards in omega (arith, one, other)

pub counted : (text : List ℕ) (ks : List FunClause) → length (words_of_fun text ks) ≡ spec_clauses ks
counted text [] = refl
counted text (k ∷ ks) =
    let one = length-append (clause_words text k) (words_of_fun text ks) in
    let first = of_clause text k in
    let others = counted text ks in
    omega (arith, one, first, others)
