-- What each node of a tree stands for.
use Rattle.std.proofs.Common.{◌≡◌, ℕ, ◌+◌, ◌<◌, ◌≤◌, List, length, get_or, drop, map, rules, box_value, ap, sym, ◌∙◌, ◌⊎◌, inl, inr}
use Rattle.std.proofs.lemmas.List.{drop_more, drop_all}
use Rattle.std.specs.declared.vec.Vec.{Vec}
use Rattle.std.specs.Prelude.{Box as Boxed}
use Rattle.def_fun.specs.Trees as tree
use Rattle.def_fun.specs.Trees.{of_exprs}
use Rattle.tn_fun.specs.declared.operator.Operator.{Operator}
use Rattle.tn_fun.specs.declared.token.Token.{Token}
use Rattle.tn_fun.specs.declared.tree.Expr.{Expr, Variable, Integer, Atom, Strings, Parens, Call, List as ListOf, ListOnto, Tuple, Before, Between, the_lemmas}
use Rattle.tn_fun.specs.Tokens.{operator_seen}
use Rattle.tn_fun.specs.Trees.{token_name, string_codes, fun_expr_seen, fun_exprs_seen}

pub seen_variable : (A : Type 0) (text : List ℕ) (v : Token) → fun_expr_seen {A = A} text (Variable v) ≡ tree.variable v.from (token_name text v)
seen_variable A text v = search (rules, the_lemmas)

pub seen_integer : (A : Type 0) (text : List ℕ) (at n : ℕ) → fun_expr_seen {A = A} text (Integer at n) ≡ tree.whole at n
seen_integer A text at n = search (rules, the_lemmas)

pub seen_atom : (A : Type 0) (text : List ℕ) (v : Token) → fun_expr_seen {A = A} text (Atom v) ≡ tree.atom v.from (token_name text v)
seen_atom A text v = search (rules, the_lemmas)

pub seen_strings : {A : Type 0} (text : List ℕ) (v : Token) (vs : Vec Token A) → fun_expr_seen text (Strings v vs) ≡ tree.strings v.from (string_codes text v) (map (string_codes text) vs.items)
seen_strings text v vs = search (rules, the_lemmas)

pub seen_parens : {A : Type 0} (text : List ℕ) (at : ℕ) (e : Boxed (Expr A) A) → fun_expr_seen text (Parens at e) ≡ tree.in_parens at (fun_expr_seen text (box_value e))
seen_parens text at e = search (rules, the_lemmas)

pub seen_call : {A : Type 0} (text : List ℕ) (v : Token) (es : Vec (Expr A) A) → fun_expr_seen text (Call v es) ≡ tree.call v.from (token_name text v) (fun_exprs_seen text es.items)
seen_call text v es = search (rules, the_lemmas)

pub seen_list : {A : Type 0} (text : List ℕ) (at : ℕ) (es : Vec (Expr A) A) → fun_expr_seen text (ListOf at es) ≡ tree.list at (fun_exprs_seen text es.items)
seen_list text at es = search (rules, the_lemmas)

pub seen_list_onto : {A : Type 0} (text : List ℕ) (at : ℕ) (es : Vec (Expr A) A) (e : Boxed (Expr A) A) → fun_expr_seen text (ListOnto at es e) ≡ tree.list_onto at (fun_exprs_seen text es.items) (fun_expr_seen text (box_value e))
seen_list_onto text at es e = search (rules, the_lemmas)

pub seen_tuple : {A : Type 0} (text : List ℕ) (at : ℕ) (es : Vec (Expr A) A) → fun_expr_seen text (Tuple at es) ≡ tree.tuple at (fun_exprs_seen text es.items)
seen_tuple text at es = search (rules, the_lemmas)

pub seen_before : {A : Type 0} (text : List ℕ) (at : ℕ) (o : Operator) (e : Boxed (Expr A) A) → fun_expr_seen text (Before at o e) ≡ tree.before at (operator_seen o) (fun_expr_seen text (box_value e))
seen_before text at o e = search (rules, the_lemmas)

pub seen_between : {A : Type 0} (text : List ℕ) (at : ℕ) (o : Operator) (l r : Boxed (Expr A) A) → fun_expr_seen text (Between at o l r) ≡ tree.between at (operator_seen o) (fun_expr_seen text (box_value l)) (fun_expr_seen text (box_value r))
seen_between text at o l r = search (rules, the_lemmas)

-- ---- expressions of a vector, from the front

pub exprs_here : {A : Type 0} (text : List ℕ) (xs : List (Expr A)) (i : ℕ) (x : Expr A) → i < length xs → x ≡ get_or xs i x → fun_exprs_seen text (drop i xs) ≡ tree.more (fun_expr_seen text x) (fun_exprs_seen text (drop (i + 1) xs))
exprs_here text xs i x below is = ap (fun_exprs_seen text) (drop_more xs i x below) ∙ ap (λ z. tree.more (fun_expr_seen text z) (fun_exprs_seen text (drop (i + 1) xs))) (sym is)

pub exprs_past : {A : Type 0} (text : List ℕ) (xs : List (Expr A)) (i : ℕ) → length xs ≤ i → fun_exprs_seen text (drop i xs) ≡ tree.none
exprs_past text xs i past = ap (fun_exprs_seen text) (drop_all i xs past)

-- ---- nesting

pub items_nest : {A : Type 0} (text : List ℕ) (e : Expr A) (es : Vec (Expr A) A) → ((v : Token) × (e ≡ Call v es)) ⊎ (((at : ℕ) × (e ≡ ListOf at es)) ⊎ ((at : ℕ) × (e ≡ Tuple at es))) → tree.nesting_depth (fun_expr_seen text e) ≡ 1 + tree.greatest_nesting (fun_exprs_seen text es.items)
items_nest text e es (inl h) = ap (λ x. tree.nesting_depth (fun_expr_seen text x)) h.1 ∙ ap tree.nesting_depth (seen_call text h.0 es)
items_nest text e es (inr (inl h)) = ap (λ x. tree.nesting_depth (fun_expr_seen text x)) h.1 ∙ ap tree.nesting_depth (seen_list text h.0 es)
items_nest text e es (inr (inr h)) = ap (λ x. tree.nesting_depth (fun_expr_seen text x)) h.1 ∙ ap tree.nesting_depth (seen_tuple text h.0 es)

pub inner_nests : {A : Type 0} (text : List ℕ) (e : Expr A) (inner : Boxed (Expr A) A) → ((at : ℕ) × (e ≡ Parens at inner)) ⊎ ((at : ℕ) × (o : Operator) × (e ≡ Before at o inner)) → tree.nesting_depth (fun_expr_seen text e) ≡ 1 + tree.nesting_depth (fun_expr_seen text (box_value inner))
inner_nests text e inner (inl h) = ap (λ x. tree.nesting_depth (fun_expr_seen text x)) h.1 ∙ ap tree.nesting_depth (seen_parens text h.0 inner)
inner_nests text e inner (inr h) = ap (λ x. tree.nesting_depth (fun_expr_seen text x)) h.2 ∙ ap tree.nesting_depth (seen_before text h.0 h.1 inner)
