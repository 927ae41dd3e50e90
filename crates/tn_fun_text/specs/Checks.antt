-- What the code's checks of expressions are compared with.
use Rattle.std.specs.Prelude.{Bool, true, false, ◌||◌, if◌then◌else◌, Option, Some, None, codes}
use Rattle.std.specs.Str.{bytes_eq}
use Rattle.std.specs.Option.{option_or}
use Rattle.std.specs.declared.vec.Vec.{Vec}
use Rattle.def_term.specs.Tree.{Tree, atom, Trees, none, more, count}
use Rattle.def_term.specs.Names.{Name}
use Rattle.def_spec.specs.Reading.{is_wildcard}
use Rattle.def_fun.specs.Translation.{begins_with_dollar}
use Rattle.def_fun.specs.Trees.{FunExpr, FunExprs}
use Rattle.def_fun.specs.FunTexts.{OrReason, NoFunReason, is_computed, no_such_call, PrintedCall, prints_between, prints_before, prints_call, prints_nothing, printed_call, would_compute, have_list, expr_of_term, exprs_of_terms, const_printed}
use Rattle.tn_term.specs.declared.term.Term.{Term}
use Rattle.tn_spec.specs.Names.{position_seen}
use Rattle.tn_spec.specs.Views.{dialect_of}
use Rattle.tn_fun_text.specs.declared.scope.Scope.{Scope}
use Rattle.tn_fun_text.specs.Reasons.{no_fun_reason}
use Rattle.tn_fun_text.specs.Terms.{terms_from}
use Rattle.tn_fun_text.specs.Values.{computation_at}

-- '_', '$_' or '$*'
abbrev pub is_special_name : Name → Bool
is_special_name s = is_wildcard s || bytes_eq s (codes "$_") || bytes_eq s (codes "$*")

-- an atom that begins with `$`
abbrev pub is_dollar_atom_tree : Tree → Bool
is_dollar_atom_tree (atom s) = begins_with_dollar s
is_dollar_atom_tree t = false

-- one such atom
abbrev pub is_dollar_const : Trees → Bool
is_dollar_const (more t none) = is_dollar_atom_tree t
is_dollar_const ts = false

-- the expression of a term that stands there
abbrev pub expr_at : {A : Type 0} → Scope A → Tree → OrReason FunExpr
expr_at w t = expr_of_term (dialect_of w.dialect) (position_seen w.part) t

-- those of several
abbrev pub exprs_at : {A : Type 0} → Scope A → Trees → OrReason FunExprs
exprs_at w ts = exprs_of_terms (dialect_of w.dialect) (position_seen w.part) ts

-- why an operator is none of a fun, whatever its operands are
abbrev pub computed_reason : Tree → Bool → Bool → Option NoFunReason
computed_reason t true false = Some (is_computed t)
computed_reason t computes keeps = None

-- the same of the terms after the first
abbrev pub computed_reason_at : {A : Type 0} → Scope A → Name → Tree → Vec (Term A) A → Option NoFunReason
computed_reason_at w s t v = computed_reason t (would_compute (computation_at w s v)) (have_list (terms_from 1 v))

-- why a call or operator is none, whatever its arguments are
abbrev pub fun_call_reason : PrintedCall → Name → Tree → Trees → Bool → Option NoFunReason
fun_call_reason (prints_between o) s t ts computes = computed_reason t computes (have_list ts)
fun_call_reason (prints_before o) s t ts computes = computed_reason t computes (have_list ts)
fun_call_reason prints_call s t ts computes = None
fun_call_reason prints_nothing s t ts computes = Some (no_such_call s (count ts))

-- the same of the terms after the first
abbrev pub call_reason_at : {A : Type 0} → Scope A → Name → Tree → Vec (Term A) A → Option NoFunReason
call_reason_at w s t v =
    fun_call_reason (printed_call (dialect_of w.dialect) (position_seen w.part) s (count (terms_from 1 v))) s t (terms_from 1 v) (would_compute (computation_at w s v))

-- why the tree of a name and the terms after the first is none
abbrev pub named_reason_at : {A : Type 0} → Scope A → Name → Tree → Vec (Term A) A → Option NoFunReason
named_reason_at w s t v =
    if bytes_eq s (codes "const") then no_fun_reason (const_printed t (terms_from 1 v))
    else option_or (call_reason_at w s t v) (no_fun_reason (exprs_at w (terms_from 1 v)))
