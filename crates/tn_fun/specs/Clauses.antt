-- The heads and clauses of the code, and those of the definition that they stand for, in a text.
use Rattle.std.specs.Prelude.{ℕ, List, map, Option}
use Rattle.std.specs.Option.{option_map}
use Rattle.std.specs.declared.vec.Vec.{Vec}
use Rattle.def_fun.specs.Trees.{FunExpr, FunHead, alone, both, FunClause}
use Rattle.tn_fun.specs.declared.tree.Expr.{Expr}
use Rattle.tn_fun.specs.declared.clause.Head.{Head}
use Rattle.tn_fun.specs.declared.clause.Head.TheVariants as heads
use Rattle.tn_fun.specs.declared.clause.Clause.{Clause}
use Rattle.tn_fun.specs.Trees.{fun_expr_seen, fun_row_seen}

abbrev pub fun_head_seen : {A : Type 0} → List ℕ → Head A → FunHead
fun_head_seen text (heads.Alone e) = alone (fun_expr_seen text e)
fun_head_seen text (heads.Both a b) = both (fun_expr_seen text a) (fun_expr_seen text b)

-- a guard's conditions
abbrev pub guard_seen : {A : Type 0} → List ℕ → Vec (Expr A) A → List FunExpr
guard_seen text g = fun_row_seen text g.items

abbrev pub guards_seen : {A : Type 0} → List ℕ → List (Vec (Expr A) A) → List (List FunExpr)
guards_seen text gs = map (guard_seen text) gs

abbrev pub fun_clause_seen : {A : Type 0} → List ℕ → Clause A → FunClause
fun_clause_seen text k = record { at = k.at; head = fun_head_seen text k.head; guards = guards_seen text k.guards.items; body = fun_row_seen text k.body.items }

abbrev pub fun_clauses_seen : {A : Type 0} → List ℕ → List (Clause A) → List FunClause
fun_clauses_seen text ks = map (fun_clause_seen text) ks

-- the part of a head before `=`, where there is one
abbrev pub first_seen : {A : Type 0} → List ℕ → Option (Expr A) → Option FunExpr
first_seen text o = option_map (fun_expr_seen text) o
