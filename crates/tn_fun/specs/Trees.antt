-- The trees of the code, and those of the definition that they stand for, in a text.
use Rattle.std.specs.Prelude.{ℕ, ◌-◌, List, map, box_value, take, drop}
use Rattle.def_term.specs.Names.{Name}
use Rattle.def_fun.specs.Trees.{FunExpr, variable, whole, atom, strings, in_parens, call, list, list_onto, tuple, before, between, FunExprs, of_exprs, joined_codes}
use Rattle.tn_fun.specs.Tokens.{operator_seen, quoted_codes}
use Rattle.tn_fun.specs.declared.token.Kind.{Kind}
use Rattle.tn_fun.specs.declared.token.Kind.TheVariants as kinds
use Rattle.tn_fun.specs.declared.token.Token.{Token}
use Rattle.tn_fun.specs.declared.tree.Expr.{Expr, fold-Expr}
use Rattle.tn_fun.specs.declared.tree.Expr.TheOpen.{Expr-F}

-- the name of an atom or a variable, of its own bytes u and of all bytes from its first on
abbrev pub name_of_kind : Kind → List ℕ → List ℕ → Name
name_of_kind kinds.Quoted u bytes = quoted_codes 39 bytes
name_of_kind kind u bytes = u

-- that of a token of the text
abbrev pub token_name : List ℕ → Token → Name
token_name text v = name_of_kind v.kind (take (v.to - v.from) (drop v.from text)) (drop v.from text)

-- the codes of a string of the text
abbrev pub string_codes : List ℕ → Token → List ℕ
string_codes text v = quoted_codes 34 (drop v.from text)

-- with its offset
abbrev pub named_there : List ℕ → Token → ℕ × Name
named_there text v = (v.from, token_name text v)

-- the codes of strings beside each other
abbrev pub strings_codes : List ℕ → Token → List Token → List ℕ
strings_codes text v vs = joined_codes (string_codes text v) (map (string_codes text) vs)

-- one level, with each part already seen
abbrev pub fun_node_seen : {A : Type 0} → List ℕ → Expr-F A FunExpr → FunExpr
fun_node_seen text (Expr-F.Variable v) = variable v.from (token_name text v)
fun_node_seen text (Expr-F.Integer at n) = whole at n
fun_node_seen text (Expr-F.Atom v) = atom v.from (token_name text v)
fun_node_seen text (Expr-F.Strings v vs) = strings v.from (string_codes text v) (map (string_codes text) vs.items)
fun_node_seen text (Expr-F.Parens at e) = in_parens at (box_value e)
fun_node_seen text (Expr-F.Call v es) = call v.from (token_name text v) (of_exprs es.items)
fun_node_seen text (Expr-F.List at es) = list at (of_exprs es.items)
fun_node_seen text (Expr-F.ListOnto at es e) = list_onto at (of_exprs es.items) (box_value e)
fun_node_seen text (Expr-F.Tuple at es) = tuple at (of_exprs es.items)
fun_node_seen text (Expr-F.Before at o e) = before at (operator_seen o) (box_value e)
fun_node_seen text (Expr-F.Between at o l r) = between at (operator_seen o) (box_value l) (box_value r)

-- an expression of the text
abbrev pub fun_expr_seen : {A : Type 0} → List ℕ → Expr A → FunExpr
fun_expr_seen {A} text = fold-Expr A FunExpr (fun_node_seen text)

-- several, in their order
abbrev pub fun_exprs_seen : {A : Type 0} → List ℕ → List (Expr A) → FunExprs
fun_exprs_seen text es = of_exprs (map (fun_expr_seen text) es)

-- the same as a list
abbrev pub fun_row_seen : {A : Type 0} → List ℕ → List (Expr A) → List FunExpr
fun_row_seen text es = map (fun_expr_seen text) es
