-- What the code's checks of clauses are compared with.
use Rattle.std.specs.Prelude.{◌≡◌, ℕ, List, Option, Some, None, Result, Ok, Err}
use Rattle.std.specs.declared.vec.Vec.{Vec}
use Rattle.def_term.specs.Tree.{Tree, tuple, Trees}
use Rattle.def_spec.specs.Expressions as ex
use Rattle.def_spec.specs.Expressions.{in_condition, in_body}
use Rattle.def_fun.specs.Trees.{FunExpr}
use Rattle.def_fun.specs.FunTexts as texts
use Rattle.def_fun.specs.FunTexts.{the_condition, the_expression, reason_at, expr_of_term, parts_printed, clause_of_parts_printed, clause_printed}
use Rattle.tn_term.specs.declared.term.Term.{Term}
use Rattle.tn_term.specs.Views.{tree_of, trees_of}
use Rattle.tn_spec.specs.declared.func.Dialect.{Dialect}
use Rattle.tn_spec.specs.Names.{position_seen}
use Rattle.tn_spec.specs.Views.{dialect_of}
use Rattle.tn_fun_text.specs.declared.scope.Scope.{Scope}
use Rattle.tn_fun_text.specs.declared.reason.Reason.{Reason}
use Rattle.tn_fun_text.specs.declared.no_fun.ClausePart.{ClausePart}
use Rattle.tn_fun_text.specs.declared.clause_check.FunTextFault.{FunTextFault}
use Rattle.tn_fun_text.specs.declared.clause_check.FunTextFault.TheVariants as faults
use Rattle.tn_fun_text.specs.Reasons.{no_fun_seen}

-- the reason, where nothing is printed
abbrev pub no_fun_in : {X : Type 0} → Result X texts.NoFun → Option texts.NoFun
no_fun_in (Ok x) = None
no_fun_in (Err n) = Some n

-- there is no reason, or this one; where memory ran out nothing is said
abbrev pub SaysNoFun : {A U : Type 0} → Option texts.NoFun → Result U (FunTextFault A) → Type 0
SaysNoFun o (Ok u) = o ≡ None
SaysNoFun o (Err (faults.NoFun n)) = o ≡ Some (no_fun_seen n)
SaysNoFun o (Err faults.OutOfMemory) = Unit {0}

-- the definition prints it, or has this reason
abbrev pub IsClauseChecked : {A X U : Type 0} → Result X texts.NoFun → Result U (FunTextFault A) → Type 0
IsClauseChecked r result = SaysNoFun (no_fun_in r) result

-- the fault of this reason in that part
abbrev pub fault_in_part : {A : Type 0} → ℕ → ClausePart → Reason A → FunTextFault A
fault_in_part n p r = faults.NoFun (record { clause = n; part = p; reason = r })

-- the condition or expression of this number
abbrev pub numbered_part : ex.Position → ℕ → texts.ClausePart
numbered_part in_condition = the_condition
numbered_part in_body = the_expression

-- the condition or expression of this number, of the clause of that
abbrev pub clause_part_at : {A : Type 0} → Scope A → ℕ → ℕ → Tree → Result FunExpr texts.NoFun
clause_part_at w n k t = reason_at n (numbered_part (position_seen w.part) k) (expr_of_term (dialect_of w.dialect) (position_seen w.part) t)

-- several, numbered from there on
abbrev pub parts_at : {A : Type 0} → Scope A → ℕ → ℕ → Trees → Result (List (List ℕ)) texts.NoFun
parts_at w n k ts = parts_printed (dialect_of w.dialect) (position_seen w.part) n (numbered_part (position_seen w.part)) k ts

-- a clause of these three
abbrev pub three_at : {A : Type 0} → Dialect → ℕ → Term A → Vec (Term A) A → Vec (Term A) A → Result (List ℕ) texts.NoFun
three_at d n h cs bs = clause_of_parts_printed (dialect_of d) n (tree_of h) (trees_of cs.items) (trees_of bs.items)

-- a clause of these elements
abbrev pub fields_at : {A : Type 0} → Dialect → ℕ → Vec (Term A) A → Result (List ℕ) texts.NoFun
fields_at d n v = clause_printed (dialect_of d) n (tuple (trees_of v.items))
