-- What is promised of traps (own): they do nothing, in whatever context.
-- Depends on traps, on matching, and on what expressions give.
use Rattle.std.specs.Prelude.{◌≡◌, ◌==◌, ℕ, false, List, Some, length}
use Rattle.std.specs.List.{list_any}
use Rattle.def_spec.specs.Matching.{Bindings}
use Rattle.def_spec.specs.Expressions.{Dialect, Effect, Expr, perform, Exprs, no_exprs, Context, in_body, evaluation, evaluation_of_all, its_effects}
use Rattle.def_spec.specs.Outcome.{Clause, Fires}
use Rattle.def_trap.specs.Traps.{BodyTrap, Trap, body_trap, head_trap}

-- the expressions that an action is called with
abbrev pub arguments_of : Expr → Exprs
arguments_of (perform a es) = es
arguments_of _ = no_exprs

-- an expression of a body that is a trap adds no effect to those of its arguments
abbrev pub BodyTrapsDoNothing : Type 0
BodyTrapsDoNothing =
    (d : Dialect) (e : Expr) (t : BodyTrap) → body_trap d e ≡ Some t → (b : Bindings) (c : Context) (before : List Effect)
    → its_effects (evaluation d in_body b c e before) ≡ its_effects (evaluation_of_all d in_body b c (arguments_of e) before)

-- a clause whose head is a trap fires for no list of these lengths
abbrev pub HeadTrapsDoNothing : Type 0
HeadTrapsDoNothing =
    (d : Dialect) (lengths : List ℕ) (k : Clause) (t : Trap) → head_trap lengths k.head ≡ Some t
    → (c : Context) (b : Bindings) → Fires d k c b → list_any (λ n. n == length c.matched_list) lengths ≡ false
