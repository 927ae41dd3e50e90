-- Rows: what the premises of the laws are for, and specifications with what they are printed as and what that has.
use Rattle.std.proofs.Common.{◌≡◌, ℕ, zero, suc, pos, negsuc, List, [], ◌∷◌, false, Result, Ok, Err, codes, refl}
use Rattle.std.specs.Fmt.{digits}
use Rattle.def_term.specs.Tree.{Tree, int, atom, list, tuple, none, more, depth, of_elements}
use Rattle.def_term.specs.Names.{word}
use Rattle.def_term.specs.Text.{is_written_bare}
use Rattle.def_text.specs.Writable.{is_writable}
use Rattle.def_text.specs.Limits.{sizes_fit}
use Rattle.def_spec.specs.Expressions.{for_calls}
use Rattle.def_spec.specs.Reading.{badarg, spec_of}
use Rattle.def_fun.specs.Trees as tree
use Rattle.def_fun.specs.Trees.{alone, FunClause}
use Rattle.def_fun.specs.Grammar.{are_fun_clauses}
use Rattle.def_fun.specs.Translation.{tree_of_fun}
use Rattle.def_fun.specs.Answers.{fun_answer}
use Rattle.def_fun.specs.FunTexts.{NoFun, no_fun_line, fun_printed}

-- ---- a list with a tail in a head

-- fun([|X]) -> X end
abbrev no_element : List FunClause
no_element = record { at = 3; head = alone (tree.list_onto 4 tree.none (tree.variable 6 (codes "X"))); guards = []; body = tree.variable 13 (codes "X") ∷ [] } ∷ []

-- no tokens spell it, and its text is refused at the bar
pub no_element_is_no_fun : are_fun_clauses no_element ≡ false
no_element_is_no_fun = refl

pub no_element_is_refused : fun_answer for_calls (codes "fun([|X]) -> X end") ≡ codes "refused 2 token at 5"
unfolding is_written_bare digits
no_element_is_refused = refl

-- ---- a body without an expression

-- no tokens spell it, and its term is not printed
abbrev no_body : List FunClause
no_body = record { at = 0; head = alone (tree.variable 0 (codes "_")); guards = []; body = [] } ∷ []

abbrev line_of : Result (List ℕ) NoFun → List ℕ
line_of (Ok s) = s
line_of (Err r) = no_fun_line r

abbrev printed_of : Tree → List ℕ
printed_of t = line_of (fun_printed for_calls t)

-- {Head,[],Body}
abbrev body_alone : Tree → List Tree → Tree
body_alone h bs = list (more (tuple (more h (more (list none) (more (list (of_elements bs)) none)))) none)

pub no_body_has_a_term : tree_of_fun for_calls no_body ≡ Ok (body_alone (word "_") [])
unfolding is_written_bare
no_body_has_a_term = refl

pub no_body_is_not_printed : printed_of (body_alone (word "_") []) ≡ codes "no fun: clause 1: body: the body is empty, and that of a fun has an expression; true there has no effect"
unfolding is_written_bare digits
no_body_is_not_printed = refl

-- ---- terms that are no specification are printed, and no fun has them

-- no clause
pub no_clause : printed_of (list none) ≡ codes "fun end"
no_clause = refl

pub no_clause_is_no_specification : spec_of for_calls (list none) ≡ Err badarg
no_clause_is_no_specification = refl

pub no_clause_is_refused : fun_answer for_calls (codes "fun end") ≡ codes "refused 2 token at 4"
unfolding is_written_bare digits
no_clause_is_refused = refl

-- a variable that the head doesn't bind
pub unbound_variable : printed_of (body_alone (word "_") (word "$1" ∷ [])) ≡ codes "fun(_) -> X1 end"
unfolding is_written_bare digits
unbound_variable = refl

pub unbound_is_no_specification : spec_of for_calls (body_alone (word "_") (word "$1" ∷ [])) ≡ Err badarg
unbound_is_no_specification = refl

pub unbound_is_refused : fun_answer for_calls (codes "fun(_) -> X1 end") ≡ codes "refused 22 unbound X1 at 10"
unfolding is_written_bare digits
unbound_is_refused = refl

-- ---- terms past the limits

-- an atom with a character that is none of 32 to 126
abbrev strange : Tree
strange = body_alone (word "_") (atom (127 ∷ []) ∷ [])

pub strange_is_not_writable : is_writable strange ≡ false
strange_is_not_writable = refl

pub strange_is_refused : fun_answer for_calls (printed_of strange) ≡ codes "refused 2 token at 10"
unfolding is_written_bare digits
strange_is_refused = refl

-- an integer past signed 64 bits
abbrev large : Tree
large = body_alone (word "_") (int (pos 9223372036854775808) ∷ [])

pub large_does_not_fit : sizes_fit large ≡ false
large_does_not_fit = refl

pub large_is_refused : fun_answer for_calls (printed_of large) ≡ codes "refused 4 too large at 10"
unfolding is_written_bare digits
large_is_refused = refl

-- a list in so many lists
abbrev nested : ℕ → Tree
nested zero = list none
nested (suc n) = list (more (nested n) none)

abbrev deep : Tree
deep = body_alone (word "_") (nested 29 ∷ [])

pub deep_is_past_the_limit : depth deep ≡ 33
deep_is_past_the_limit = refl

pub deep_is_refused : fun_answer for_calls (printed_of deep) ≡ codes "refused 3 too deep at 10"
unfolding is_written_bare digits
deep_is_refused = refl

-- ---- specifications, what they are printed as, and what that has

abbrev has_of : Result (List ℕ) NoFun → List ℕ
has_of (Ok text) = fun_answer for_calls text
has_of (Err r) = no_fun_line r

-- the specification of what a specification is printed as
abbrev back : Tree → List ℕ
back t = has_of (fun_printed for_calls t)

abbrev calls : List ℕ → List Tree → Tree
calls s ts = tuple (more (atom s) (of_elements ts))

abbrev doubled : List Tree → Tree
doubled ts = tuple (more (tuple (of_elements ts)) none)

-- variables, a negative integer, a string and a tuple
pub tuple_back : back (body_alone (list (of_elements (word "$1" ∷ int (negsuc 0) ∷ word "$2" ∷ word "$1" ∷ []))) (doubled (word "$2" ∷ int (negsuc 2) ∷ list (of_elements (int (pos 97) ∷ [])) ∷ []) ∷ [])) ≡ codes "[{['$1',-1,'$2','$1'],[],[{{'$2',-3,[97]}}]}]"
unfolding is_written_bare digits
tuple_back = refl

-- what a fun would compute is kept by a string
pub kept_back : back (body_alone (word "_") (calls (codes "==") (list none ∷ doubled (list (more (int (pos 1)) none) ∷ []) ∷ []) ∷ [])) ≡ codes "[{'_',[],[{'==',[],{{[1]}}}]}]"
unfolding is_written_bare digits
kept_back = refl

-- an operator in parentheses, and an atom that begins with `$`
pub levels_back : back (body_alone (word "$1") (calls (codes "*") (calls (codes "+") (word "$1" ∷ int (pos 2) ∷ []) ∷ calls (codes "const") (word "$a" ∷ []) ∷ []) ∷ [])) ≡ codes "[{'$1',[],[{'*',{'+','$1',2},{const,'$a'}}]}]"
unfolding is_written_bare digits
levels_back = refl
