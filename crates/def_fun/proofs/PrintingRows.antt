-- Rows: specifications, and the funs that they are printed as, or why there is none.
use Rattle.std.proofs.Common.{◌≡◌, ℕ, pos, List, [], ◌∷◌, ◌++◌, Result, Ok, Err, codes, refl}
use Rattle.std.specs.Fmt.{digits}
use Rattle.def_term.specs.Tree.{Tree, int, atom, pid, tuple, list, Trees, none, more, of_elements}
use Rattle.def_term.specs.Names.{word}
use Rattle.def_term.specs.Text.{is_written_bare}
use Rattle.def_spec.specs.Expressions.{for_calls}
use Rattle.def_fun.specs.Refusals.{FunRefusal}
use Rattle.def_fun.specs.Answers.{spec_of_text}
use Rattle.def_fun.specs.FunTexts.{NoFun, no_fun_line, fun_printed}

-- the fun that the specification of a fun is printed as
abbrev pub line_of : Result (List ℕ) NoFun → List ℕ
line_of (Ok s) = s
line_of (Err r) = no_fun_line r

abbrev pub printed_of : Result Tree FunRefusal → List ℕ
printed_of (Ok t) = line_of (fun_printed for_calls t)
printed_of (Err r) = []

abbrev pub back : List ℕ → List ℕ
back bytes = printed_of (spec_of_text for_calls bytes)

-- each alternative is a clause
pub two_clauses : back (codes "fun([A,B]) when A > 1, B == x; is_atom(A) -> message({A,B}), true; (_) -> false end") ≡ codes "fun([X1, X2]) when X1 > 1, X2 == x -> message({X1, X2}), true;" ++ 10 ∷ codes "   ([X1, X2]) when is_atom(X1) -> message({X1, X2}), true;" ++ 10 ∷ codes "   (_) -> false end"
unfolding is_written_bare digits
two_clauses = refl

-- parentheses where the levels need them
pub levels : back (codes "fun([A,B]) -> (A + B) * 2 - (A - (B - A)), not (A == B), A andalso B andalso A, (A andalso B) andalso A, (A < B) < A end") ≡ codes "fun([X1, X2]) -> (X1 + X2) * 2 - (X1 - (X2 - X1)), not (X1 == X2), X1 andalso X2 andalso X1, (X1 andalso X2) andalso X1, (X1 < X2) < X1 end"
unfolding is_written_bare digits
levels = refl

-- a negative integer has the level of a prefix
pub negative : back (codes "fun([A,-3]) -> A - -1, A + 2 - 3, bnot A end") ≡ codes "fun([X1, -3]) -> X1 - -1, X1 + 2 - 3, bnot X1 end"
unfolding is_written_bare digits
negative = refl

-- a list of codes is a string, but not a whole head
pub texts : back (codes "fun([$a]) -> \"a\\\"b\\\\\", [$a,$b], [9] end") ≡ codes "fun([97]) -> \"a\\\"b\\\\\", \"ab\", [9] end"
unfolding is_written_bare digits
texts = refl

-- what would be computed is kept by a string
pub kept : back (codes "fun(_) when \"\" == [1], [1|\"\"] == [], [1|\"\"] == [2,3] -> {[1],2} == a end") ≡ codes "fun(_) when \"\" == [1], [1|\"\"] == [], [1|\"\"] == [2, 3] -> false end"
unfolding is_written_bare digits
kept = refl

-- atoms that begin with `$`
pub dollars : back (codes "fun([A]) -> '$a', object(), bindings(), {'$1',A}, {} end") ≡ codes "fun([X1]) -> '$a', object(), bindings(), {'$1', X1}, {} end"
unfolding is_written_bare digits
dollars = refl

-- ---- specifications that no fun has

abbrev pub clause_with : Trees → Trees → Trees → Tree
clause_with h cs bs = list (more (tuple (more (list h) (more (list cs) (more (list bs) none)))) none)

abbrev pub one : Tree → Trees
one t = more t none

abbrev pub calls : List ℕ → List Tree → Tree
calls s ts = tuple (more (atom s) (of_elements ts))

-- [{['$1'],[],[{message,'$$'}]}]
pub pretty_all_bound : line_of (fun_printed for_calls (clause_with (one (word "$1")) none (one (calls (codes "message") (word "$$" ∷ []))))) ≡ codes "no fun: clause 1: body 1: no expression of a fun is '$$'"
unfolding is_written_bare digits
pretty_all_bound = refl

-- [{['$1'],[{'==',1,1}],[true]}]
pub pretty_computed : line_of (fun_printed for_calls (clause_with (one (word "$1")) (one (calls (codes "==") (int (pos 1) ∷ int (pos 1) ∷ []))) (one (word "true")))) ≡ codes "no fun: clause 1: condition 1: a fun computes {'==',1,1} before it is a specification"
unfolding is_written_bare digits
pretty_computed = refl

-- [{['$1'],[{'==','$1',{const,{a}}}],[true]}]
pub pretty_const : line_of (fun_printed for_calls (clause_with (one (word "$1")) (one (calls (codes "==") (word "$1" ∷ calls (codes "const") (tuple (one (word "a")) ∷ []) ∷ []))) (one (word "true")))) ≡ codes "no fun: clause 1: condition 1: a fun has {const,T} of atoms that begin with $ alone, and {const,{a}} is another"
unfolding is_written_bare digits
pretty_const = refl

-- [{'_',[],[]}]
pub pretty_empty_body : line_of (fun_printed for_calls (list (one (tuple (more (word "_") (more (list none) (more (list none) none))))))) ≡ codes "no fun: clause 1: body: the body is empty, and that of a fun has an expression; true there has no effect"
unfolding is_written_bare digits
pretty_empty_body = refl

-- the numbers of variables rise by one
pub wrong_numbers : line_of (fun_printed for_calls (clause_with (one (word "$2")) none (one (word "true")))) ≡ codes "no fun: clause 1: head: '$2' comes before '$1': the variables of a fun have the numbers from 1 in their order"
unfolding is_written_bare digits
wrong_numbers = refl

pub pid_in_body : line_of (fun_printed for_calls (clause_with none none (one (pid 101)))) ≡ codes "no fun: clause 1: body 1: a fun has no pids, and <0.101.0> is one"
unfolding is_written_bare digits
pid_in_body = refl

pub and_of_three : line_of (fun_printed for_calls (clause_with none none (one (calls (codes "and") (word "a" ∷ word "b" ∷ word "c" ∷ []))))) ≡ codes "no fun: clause 1: body 1: a fun has no call and/3"
unfolding is_written_bare digits
and_of_three = refl

-- an operator's own reason is before those of its operands
pub computed_whole : line_of (fun_printed for_calls (clause_with none none (one (calls (codes "+") (calls (codes "+") (int (pos 1) ∷ int (pos 2) ∷ []) ∷ int (pos 3) ∷ []))))) ≡ codes "no fun: clause 1: body 1: a fun computes {'+',{'+',1,2},3} before it is a specification"
unfolding is_written_bare digits
computed_whole = refl
