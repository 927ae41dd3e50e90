-- What the code's words stand for.
use Rattle.std.specs.Prelude.{ℕ, List, [], map, flat_map, Option, Some, None}
use Rattle.std.specs.Option.{option_map, option_to_list}
use Rattle.std.specs.Borrow.{Bor}
use Rattle.std.specs.declared.vec.Vec.{Vec}
use Rattle.def_term.specs.Names.{Name}
use Rattle.def_fun.specs.Trees.{FunExpr}
use Rattle.def_fun.specs.Variables as variables
use Rattle.def_fun_words.specs.Words as words
use Rattle.def_fun_words.specs.Words.{condition_text, guard_words, words_of_fun}
use Rattle.tn_fun.specs.Trees.{fun_expr_seen, fun_row_seen}
use Rattle.tn_fun.specs.Clauses.{fun_clause_seen, fun_clauses_seen}
use Rattle.tn_fun.specs.declared.tree.Expr.{Expr}
use Rattle.tn_fun_words.specs.declared.names.Names.{Names}
use Rattle.tn_fun_words.specs.declared.fun_words.FunWords.{FunWords}
use Rattle.tn_fun_words.specs.declared.words.ClauseWords.{ClauseWords}

-- expressions that are lent
abbrev pub lent_exprs_seen : {A : Type 0} → List ℕ → List (Bor (Expr A)) → List FunExpr
lent_exprs_seen text es = map (λ e. fun_expr_seen text e.now) es

-- the bytes of each of several vectors
abbrev pub name_list_seen : {A : Type 0} → List (Vec ℕ A) → List Name
name_list_seen vs = map (λ v. v.items) vs

-- the names of a head
abbrev pub head_names_seen : {A : Type 0} → Names A → variables.ClauseNames
head_names_seen n = record { of_whole = option_map (λ v. v.items) n.whole; numbers = name_list_seen n.numbers.items }

-- the texts of the conditions
abbrev pub condition_texts : {A : Type 0} → List ℕ → List (Expr A) → List (List ℕ)
condition_texts text es = map (condition_text text) (fun_row_seen text es)

-- the words for a clause
abbrev pub clause_words_seen : {A : Type 0} → ClauseWords A → words.ClauseWords
clause_words_seen w = guard_words w.fun.now.bytes.now (fun_clause_seen w.fun.now.bytes.now w.clause.now) (fun_row_seen w.fun.now.bytes.now w.conditions.now)

-- the words of a fun for the clauses of its specification
abbrev pub all_words_seen : {A : Type 0} → FunWords A → List words.ClauseWords
all_words_seen f = words_of_fun f.bytes.now (fun_clauses_seen f.bytes.now f.clauses.items)

-- where there is one
abbrev pub fun_words_seen : {A : Type 0} → Option (Bor (FunWords A)) → List words.ClauseWords
fun_words_seen None = []
fun_words_seen (Some f) = all_words_seen f.now

-- the names of the variables among some parts
abbrev pub names_in_parts : List FunExpr → List Name
names_in_parts es = flat_map (λ e. option_to_list (variables.name_of_variable e)) es
