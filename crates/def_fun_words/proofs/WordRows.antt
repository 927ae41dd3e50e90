-- Rows: texts of funs, each with the words of its clauses.
use Rattle.std.proofs.Common.{◌≡◌, ℕ, List, [], ◌∷◌, codes, refl}
use Prim.Native.String.{String}
use Rattle.std.specs.Prelude.{map}
use Rattle.def_fun_words.specs.Words.{ClauseWords, words_of_text}

abbrev texts : List String → List (List ℕ)
texts ss = map (λ s. codes s) ss

abbrev words : ℕ → List String → List String → ClauseWords
words n conditions names = record { line = n; conditions = texts conditions; names = texts names }

pub one_guard : words_of_text (codes "fun([X]) when X > 3 -> message(X) end") ≡ words 1 ("X > 3" ∷ []) ("X" ∷ []) ∷ []
one_guard = refl

-- blanks and comments are one blank, and no blank comes to be
pub blanks_are_one : words_of_text (codes "fun([X]) when X  > % c\n\t3,not(is_atom(X)) -> X end") ≡ words 1 ("X > 3" ∷ "not(is_atom(X))" ∷ []) ("X" ∷ []) ∷ []
blanks_are_one = refl

-- a comma in brackets is part of the condition; a comment may be before it and after it
pub brackets_are_part : words_of_text (codes "fun([X,Y]) when % a\n element( 1,{X,Y} ) == [X,$,|\"b,;\"] % ->\n , Y -> X end") ≡ words 1 ("element( 1,{X,Y} ) == [X,$,|\"b,;\"]" ∷ "Y" ∷ []) ("X" ∷ "Y" ∷ []) ∷ []
brackets_are_part = refl

-- each guard is a clause; a clause without guards is one; lines are those of the `(`
pub guards_are_clauses : words_of_text (codes "fun([X]) when X == 1, true; X == 2\n -> X; % c\n (_) -> 1; (N =\n [Y,Z,Y,_]) when Z -> N end") ≡
    words 1 ("X == 1" ∷ "true" ∷ []) ("X" ∷ []) ∷ words 1 ("X == 2" ∷ []) ("X" ∷ []) ∷ words 3 [] [] ∷ words 3 ("Z" ∷ []) ("Y" ∷ "Z" ∷ []) ∷ []
guards_are_clauses = refl

-- `fun` may be on another line
pub line_of_the_parenthesis : words_of_text (codes "\nfun\n(X) when (X) -> X end.") ≡ words 3 ("(X)" ∷ []) ("X" ∷ []) ∷ []
line_of_the_parenthesis = refl

-- a text that is no fun has none
pub no_fun_no_words : words_of_text (codes "fun(X) -> X") ≡ []
no_fun_no_words = refl
