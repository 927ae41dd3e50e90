-- Worked rows of refused texts, from their bytes to their lines.
use Rattle.std.proofs.Common.{◌≡◌, ◌<◌, ◌≤◌, ℕ, zero, suc, false, replicate, drop, ap, ◌∙◌, pos, List, [], ◌∷◌, length, true, Ok, codes, refl, arith, inl, inr}
use Rattle.std.specs.Fmt.{digits}
use Rattle.std.proofs.lemmas.List.{length-replicate}
use Rattle.def_term.specs.Tree.{Tree, int, tuple, list, of_elements}
use Rattle.def_term.specs.Names.{word}
use Rattle.def_text.specs.Tokens.{Token, open_brace, close_brace, open_bracket, close_bracket, comma, stop, integer, atom, bad, gap_len, TokenSpan, Tokens}
use Rattle.def_text.specs.Limits.{DEPTH}
use Rattle.def_text.specs.Faults.{misplaced}
use Rattle.def_text.specs.Spelling.{LENGTH, tokens_of}
use Rattle.def_text.specs.Scripts.{SpellsTerms}
use Rattle.def_text.specs.ScriptReading.{read_script}
use Rattle.def_text.proofs.TokenComplete.{none_there}
use Rattle.def_text.proofs.ScriptFaults.{found, refused as fault_is_first}
use Rattle.def_script.specs.Program.{give_back, Form, declares, starts}
use Rattle.def_script.specs.Shapes.{function_from, entry_from}
use Rattle.def_script.specs.Rules.{undeclared, unbound, wrong_arity}
use Rattle.def_script.specs.Script.{program_from, IsScript, too_long, token, form, broken, IsRefused, refusal_line}
use Rattle.def_script.proofs.FirstBroken.{first_is, none_broken}

abbrev spanned : Token → ℕ → ℕ → TokenSpan
spanned t from to = record { token = t; from = from; to = to }

abbrev braces : List Tree → Tree
braces ts = tuple (of_elements ts)

abbrev brackets : List Tree → Tree
brackets ts = list (of_elements ts)

-- a text spells the terms that are read from its tokens
spelled : (bytes : List ℕ) (xs : List TokenSpan) (ts : List Tree) → length bytes ≤ LENGTH → Tokens bytes xs → read_script DEPTH true (tokens_of xs) ≡ Ok ts → SpellsTerms bytes ts
spelled bytes xs ts short are is =
    let both = found DEPTH (tokens_of xs) ts is in
    record { short = short; tokens = xs; are = are; derives = both.0; fits = both.1 }

-- only a beginning
abbrev pub refused_open_control_text : List ℕ
refused_open_control_text = codes "{control,["

abbrev refused_open_control_tokens : List TokenSpan
refused_open_control_tokens = spanned open_brace 0 1 ∷ spanned (atom (codes "control")) 1 8 ∷ spanned comma 8 9 ∷ spanned open_bracket 9 10 ∷ []

refused_open_control_are : Tokens refused_open_control_text refused_open_control_tokens
refused_open_control_are = (codes "{", codes "control,[", record { split = refl; from = refl; to = refl; stands = refl }, (codes "control", codes ",[", record { split = refl; from = refl; to = refl; stands = inl (record { text = refl; name = refl; whole = refl; free = refl }) }, (codes ",", codes "[", record { split = refl; from = refl; to = refl; stands = refl }, (codes "[", [], record { split = refl; from = refl; to = refl; stands = refl }, refl))))

pub refused_open_control : IsRefused refused_open_control_text (token 10)
refused_open_control = record { short = omega arith; front = spanned open_brace 0 1 ∷ spanned (atom (codes "control")) 1 8 ∷ spanned comma 8 9 ∷ spanned open_bracket 9 10 ∷ []; rest = []; are = refused_open_control_are; first = fault_is_first DEPTH (tokens_of refused_open_control_tokens) (misplaced, tokens_of ([])) refl; offset = refl }

refused_open_control_line : refusal_line (token 10) ≡ codes "refused 2 token at 10"
unfolding digits
refused_open_control_line = refl

-- its full stop is missing
abbrev pub refused_no_full_stop_text : List ℕ
refused_no_full_stop_text = codes "{control,[]}"

abbrev refused_no_full_stop_tokens : List TokenSpan
refused_no_full_stop_tokens = spanned open_brace 0 1 ∷ spanned (atom (codes "control")) 1 8 ∷ spanned comma 8 9 ∷ spanned open_bracket 9 10 ∷ spanned close_bracket 10 11 ∷ spanned close_brace 11 12 ∷ []

refused_no_full_stop_are : Tokens refused_no_full_stop_text refused_no_full_stop_tokens
refused_no_full_stop_are = (codes "{", codes "control,[]}", record { split = refl; from = refl; to = refl; stands = refl }, (codes "control", codes ",[]}", record { split = refl; from = refl; to = refl; stands = inl (record { text = refl; name = refl; whole = refl; free = refl }) }, (codes ",", codes "[]}", record { split = refl; from = refl; to = refl; stands = refl }, (codes "[", codes "]}", record { split = refl; from = refl; to = refl; stands = refl }, (codes "]", codes "}", record { split = refl; from = refl; to = refl; stands = refl }, (codes "}", [], record { split = refl; from = refl; to = refl; stands = refl }, refl))))))

pub refused_no_full_stop : IsRefused refused_no_full_stop_text (token 12)
refused_no_full_stop = record { short = omega arith; front = spanned open_brace 0 1 ∷ spanned (atom (codes "control")) 1 8 ∷ spanned comma 8 9 ∷ spanned open_bracket 9 10 ∷ spanned close_bracket 10 11 ∷ spanned close_brace 11 12 ∷ []; rest = []; are = refused_no_full_stop_are; first = fault_is_first DEPTH (tokens_of refused_no_full_stop_tokens) (misplaced, tokens_of ([])) refl; offset = refl }

refused_no_full_stop_line : refusal_line (token 12) ≡ codes "refused 2 token at 12"
unfolding digits
refused_no_full_stop_line = refl

-- no comma between two terms
abbrev pub refused_no_comma_text : List ℕ
refused_no_comma_text = codes "{a b}."

abbrev refused_no_comma_tokens : List TokenSpan
refused_no_comma_tokens = spanned open_brace 0 1 ∷ spanned (atom (codes "a")) 1 2 ∷ spanned (atom (codes "b")) 3 4 ∷ spanned close_brace 4 5 ∷ spanned stop 5 6 ∷ []

refused_no_comma_are : Tokens refused_no_comma_text refused_no_comma_tokens
refused_no_comma_are = (codes "{", codes "a b}.", record { split = refl; from = refl; to = refl; stands = refl }, (codes "a", codes " b}.", record { split = refl; from = refl; to = refl; stands = inl (record { text = refl; name = refl; whole = refl; free = refl }) }, (codes "b", codes "}.", record { split = refl; from = refl; to = refl; stands = inl (record { text = refl; name = refl; whole = refl; free = refl }) }, (codes "}", codes ".", record { split = refl; from = refl; to = refl; stands = refl }, (codes ".", [], record { split = refl; from = refl; to = refl; stands = (refl, refl) }, refl)))))

pub refused_no_comma : IsRefused refused_no_comma_text (token 3)
refused_no_comma = record { short = omega arith; front = spanned open_brace 0 1 ∷ spanned (atom (codes "a")) 1 2 ∷ []; rest = spanned (atom (codes "b")) 3 4 ∷ spanned close_brace 4 5 ∷ spanned stop 5 6 ∷ []; are = refused_no_comma_are; first = fault_is_first DEPTH (tokens_of refused_no_comma_tokens) (misplaced, tokens_of (spanned (atom (codes "b")) 3 4 ∷ spanned close_brace 4 5 ∷ spanned stop 5 6 ∷ [])) refl; offset = refl }

refused_no_comma_line : refusal_line (token 3) ≡ codes "refused 2 token at 3"
unfolding digits
refused_no_comma_line = refl

-- no token stands at a capital letter
abbrev pub refused_upper_case_text : List ℕ
refused_upper_case_text = codes "X."

abbrev refused_upper_case_tokens : List TokenSpan
refused_upper_case_tokens = spanned bad 0 2 ∷ []

refused_upper_case_are : Tokens refused_upper_case_text refused_upper_case_tokens
refused_upper_case_are = (codes "X.", [], record { split = refl; from = refl; to = refl; stands = (refl, omega arith, none_there (codes "X.") refl) }, refl)

pub refused_upper_case : IsRefused refused_upper_case_text (token 0)
refused_upper_case = record { short = omega arith; front = []; rest = spanned bad 0 2 ∷ []; are = refused_upper_case_are; first = fault_is_first DEPTH (tokens_of refused_upper_case_tokens) (misplaced, tokens_of (spanned bad 0 2 ∷ [])) refl; offset = refl }

refused_upper_case_line : refusal_line (token 0) ≡ codes "refused 2 token at 0"
unfolding digits
refused_upper_case_line = refl

-- nor at a point within a number
abbrev pub refused_float_text : List ℕ
refused_float_text = codes "1.5."

abbrev refused_float_tokens : List TokenSpan
refused_float_tokens = spanned (integer (pos 1)) 0 1 ∷ spanned bad 1 4 ∷ []

refused_float_are : Tokens refused_float_text refused_float_tokens
refused_float_are = (codes "1", codes ".5.", record { split = refl; from = refl; to = refl; stands = (refl, inl (record { some = omega arith; all = refl }, refl)) }, (codes ".5.", [], record { split = refl; from = refl; to = refl; stands = (refl, omega arith, none_there (codes ".5.") refl) }, refl))

pub refused_float : IsRefused refused_float_text (token 1)
refused_float = record { short = omega arith; front = spanned (integer (pos 1)) 0 1 ∷ []; rest = spanned bad 1 4 ∷ []; are = refused_float_are; first = fault_is_first DEPTH (tokens_of refused_float_tokens) (misplaced, tokens_of (spanned bad 1 4 ∷ [])) refl; offset = refl }

refused_float_line : refusal_line (token 1) ≡ codes "refused 2 token at 1"
unfolding digits
refused_float_line = refl

-- a beginning, as the atom may go on
abbrev pub refused_begins_an_atom_text : List ℕ
refused_begins_an_atom_text = codes "{func"

abbrev refused_begins_an_atom_tokens : List TokenSpan
refused_begins_an_atom_tokens = spanned open_brace 0 1 ∷ spanned (atom (codes "func")) 1 5 ∷ []

refused_begins_an_atom_are : Tokens refused_begins_an_atom_text refused_begins_an_atom_tokens
refused_begins_an_atom_are = (codes "{", codes "func", record { split = refl; from = refl; to = refl; stands = refl }, (codes "func", [], record { split = refl; from = refl; to = refl; stands = inl (record { text = refl; name = refl; whole = refl; free = refl }) }, refl))

pub refused_begins_an_atom : IsRefused refused_begins_an_atom_text (token 5)
refused_begins_an_atom = record { short = omega arith; front = spanned open_brace 0 1 ∷ spanned (atom (codes "func")) 1 5 ∷ []; rest = []; are = refused_begins_an_atom_are; first = fault_is_first DEPTH (tokens_of refused_begins_an_atom_tokens) (misplaced, tokens_of ([])) refl; offset = refl }

refused_begins_an_atom_line : refusal_line (token 5) ≡ codes "refused 2 token at 5"
unfolding digits
refused_begins_an_atom_line = refl

-- a reserved word is no token
abbrev pub refused_reserved_word_text : List ℕ
refused_reserved_word_text = codes "{fun"

abbrev refused_reserved_word_tokens : List TokenSpan
refused_reserved_word_tokens = spanned open_brace 0 1 ∷ spanned bad 1 4 ∷ []

refused_reserved_word_are : Tokens refused_reserved_word_text refused_reserved_word_tokens
refused_reserved_word_are = (codes "{", codes "fun", record { split = refl; from = refl; to = refl; stands = refl }, (codes "fun", [], record { split = refl; from = refl; to = refl; stands = (refl, omega arith, none_there (codes "fun") refl) }, refl))

pub refused_reserved_word : IsRefused refused_reserved_word_text (token 1)
refused_reserved_word = record { short = omega arith; front = spanned open_brace 0 1 ∷ []; rest = spanned bad 1 4 ∷ []; are = refused_reserved_word_are; first = fault_is_first DEPTH (tokens_of refused_reserved_word_tokens) (misplaced, tokens_of (spanned bad 1 4 ∷ [])) refl; offset = refl }

refused_reserved_word_line : refusal_line (token 1) ≡ codes "refused 2 token at 1"
unfolding digits
refused_reserved_word_line = refl

-- a term that has no shape of a form
abbrev pub refused_no_form_text : List ℕ
refused_no_form_text = codes "7."

abbrev refused_no_form_tokens : List TokenSpan
refused_no_form_tokens = spanned (integer (pos 7)) 0 1 ∷ spanned stop 1 2 ∷ []

refused_no_form_are : Tokens refused_no_form_text refused_no_form_tokens
refused_no_form_are = (codes "7", codes ".", record { split = refl; from = refl; to = refl; stands = (refl, inl (record { some = omega arith; all = refl }, refl)) }, (codes ".", [], record { split = refl; from = refl; to = refl; stands = (refl, refl) }, refl))

abbrev refused_no_form_terms : List Tree
refused_no_form_terms = int (pos 7) ∷ []

refused_no_form_spelled : SpellsTerms refused_no_form_text refused_no_form_terms
refused_no_form_spelled = spelled refused_no_form_text refused_no_form_tokens refused_no_form_terms (omega arith) refused_no_form_are refl

pub refused_no_form : IsRefused refused_no_form_text (form 1)
refused_no_form = record { terms = refused_no_form_terms; spelled = refused_no_form_spelled; few = omega arith; first = record { earlier = []; term = int (pos 7); later = []; whole = refl; number = refl; none = refl; forms = []; shaped = refl } }

refused_no_form_line : refusal_line (form 1) ≡ codes "refused 5 form 1"
unfolding digits
refused_no_form_line = refl

-- a function that no form declares
abbrev pub refused_undeclared_text : List ℕ
refused_undeclared_text = codes "{process,m,go,[]}."

abbrev refused_undeclared_tokens : List TokenSpan
refused_undeclared_tokens = spanned open_brace 0 1 ∷ spanned (atom (codes "process")) 1 8 ∷ spanned comma 8 9 ∷ spanned (atom (codes "m")) 9 10 ∷ spanned comma 10 11 ∷ spanned (atom (codes "go")) 11 13 ∷ spanned comma 13 14 ∷ spanned open_bracket 14 15 ∷ spanned close_bracket 15 16 ∷ spanned close_brace 16 17 ∷ spanned stop 17 18 ∷ []

refused_undeclared_are : Tokens refused_undeclared_text refused_undeclared_tokens
refused_undeclared_are = (codes "{", codes "process,m,go,[]}.", record { split = refl; from = refl; to = refl; stands = refl }, (codes "process", codes ",m,go,[]}.", record { split = refl; from = refl; to = refl; stands = inl (record { text = refl; name = refl; whole = refl; free = refl }) }, (codes ",", codes "m,go,[]}.", record { split = refl; from = refl; to = refl; stands = refl }, (codes "m", codes ",go,[]}.", record { split = refl; from = refl; to = refl; stands = inl (record { text = refl; name = refl; whole = refl; free = refl }) }, (codes ",", codes "go,[]}.", record { split = refl; from = refl; to = refl; stands = refl }, (codes "go", codes ",[]}.", record { split = refl; from = refl; to = refl; stands = inl (record { text = refl; name = refl; whole = refl; free = refl }) }, (codes ",", codes "[]}.", record { split = refl; from = refl; to = refl; stands = refl }, (codes "[", codes "]}.", record { split = refl; from = refl; to = refl; stands = refl }, (codes "]", codes "}.", record { split = refl; from = refl; to = refl; stands = refl }, (codes "}", codes ".", record { split = refl; from = refl; to = refl; stands = refl }, (codes ".", [], record { split = refl; from = refl; to = refl; stands = (refl, refl) }, refl)))))))))))

abbrev refused_undeclared_terms : List Tree
refused_undeclared_terms = braces (word "process" ∷ word "m" ∷ word "go" ∷ brackets [] ∷ []) ∷ []

refused_undeclared_spelled : SpellsTerms refused_undeclared_text refused_undeclared_terms
refused_undeclared_spelled = spelled refused_undeclared_text refused_undeclared_tokens refused_undeclared_terms (omega arith) refused_undeclared_are refl

abbrev refused_undeclared_forms : List Form
refused_undeclared_forms = starts (entry_from (codes "m") (codes "go") []) ∷ []

pub refused_undeclared : IsRefused refused_undeclared_text (broken undeclared 1)
refused_undeclared = record { forms = refused_undeclared_forms; spelled = record { terms = refused_undeclared_terms; spelled = refused_undeclared_spelled; shaped = refl }; few = omega arith; first = first_is refused_undeclared_forms 1 undeclared refl }

refused_undeclared_line : refusal_line (broken undeclared 1) ≡ codes "refused 8 undeclared in form 1"
unfolding digits
refused_undeclared_line = refl

-- with another number of arguments
abbrev pub refused_arity_text : List ℕ
refused_arity_text = codes "{function,m,go,exported,[],[]}. {process,m,go,[1]}."

abbrev refused_arity_tokens : List TokenSpan
refused_arity_tokens = spanned open_brace 0 1 ∷ spanned (atom (codes "function")) 1 9 ∷ spanned comma 9 10 ∷ spanned (atom (codes "m")) 10 11 ∷ spanned comma 11 12 ∷ spanned (atom (codes "go")) 12 14 ∷ spanned comma 14 15 ∷ spanned (atom (codes "exported")) 15 23 ∷ spanned comma 23 24 ∷ spanned open_bracket 24 25 ∷ spanned close_bracket 25 26 ∷ spanned comma 26 27 ∷ spanned open_bracket 27 28 ∷ spanned close_bracket 28 29 ∷ spanned close_brace 29 30 ∷ spanned stop 30 31 ∷ spanned open_brace 32 33 ∷ spanned (atom (codes "process")) 33 40 ∷ spanned comma 40 41 ∷ spanned (atom (codes "m")) 41 42 ∷ spanned comma 42 43 ∷ spanned (atom (codes "go")) 43 45 ∷ spanned comma 45 46 ∷ spanned open_bracket 46 47 ∷ spanned (integer (pos 1)) 47 48 ∷ spanned close_bracket 48 49 ∷ spanned close_brace 49 50 ∷ spanned stop 50 51 ∷ []

refused_arity_are : Tokens refused_arity_text refused_arity_tokens
refused_arity_are = (codes "{", codes "function,m,go,exported,[],[]}. {process,m,go,[1]}.", record { split = refl; from = refl; to = refl; stands = refl }, (codes "function", codes ",m,go,exported,[],[]}. {process,m,go,[1]}.", record { split = refl; from = refl; to = refl; stands = inl (record { text = refl; name = refl; whole = refl; free = refl }) }, (codes ",", codes "m,go,exported,[],[]}. {process,m,go,[1]}.", record { split = refl; from = refl; to = refl; stands = refl }, (codes "m", codes ",go,exported,[],[]}. {process,m,go,[1]}.", record { split = refl; from = refl; to = refl; stands = inl (record { text = refl; name = refl; whole = refl; free = refl }) }, (codes ",", codes "go,exported,[],[]}. {process,m,go,[1]}.", record { split = refl; from = refl; to = refl; stands = refl }, (codes "go", codes ",exported,[],[]}. {process,m,go,[1]}.", record { split = refl; from = refl; to = refl; stands = inl (record { text = refl; name = refl; whole = refl; free = refl }) }, (codes ",", codes "exported,[],[]}. {process,m,go,[1]}.", record { split = refl; from = refl; to = refl; stands = refl }, (codes "exported", codes ",[],[]}. {process,m,go,[1]}.", record { split = refl; from = refl; to = refl; stands = inl (record { text = refl; name = refl; whole = refl; free = refl }) }, (codes ",", codes "[],[]}. {process,m,go,[1]}.", record { split = refl; from = refl; to = refl; stands = refl }, (codes "[", codes "],[]}. {process,m,go,[1]}.", record { split = refl; from = refl; to = refl; stands = refl }, (codes "]", codes ",[]}. {process,m,go,[1]}.", record { split = refl; from = refl; to = refl; stands = refl }, (codes ",", codes "[]}. {process,m,go,[1]}.", record { split = refl; from = refl; to = refl; stands = refl }, (codes "[", codes "]}. {process,m,go,[1]}.", record { split = refl; from = refl; to = refl; stands = refl }, (codes "]", codes "}. {process,m,go,[1]}.", record { split = refl; from = refl; to = refl; stands = refl }, (codes "}", codes ". {process,m,go,[1]}.", record { split = refl; from = refl; to = refl; stands = refl }, (codes ".", codes " {process,m,go,[1]}.", record { split = refl; from = refl; to = refl; stands = (refl, refl) }, (codes "{", codes "process,m,go,[1]}.", record { split = refl; from = refl; to = refl; stands = refl }, (codes "process", codes ",m,go,[1]}.", record { split = refl; from = refl; to = refl; stands = inl (record { text = refl; name = refl; whole = refl; free = refl }) }, (codes ",", codes "m,go,[1]}.", record { split = refl; from = refl; to = refl; stands = refl }, (codes "m", codes ",go,[1]}.", record { split = refl; from = refl; to = refl; stands = inl (record { text = refl; name = refl; whole = refl; free = refl }) }, (codes ",", codes "go,[1]}.", record { split = refl; from = refl; to = refl; stands = refl }, (codes "go", codes ",[1]}.", record { split = refl; from = refl; to = refl; stands = inl (record { text = refl; name = refl; whole = refl; free = refl }) }, (codes ",", codes "[1]}.", record { split = refl; from = refl; to = refl; stands = refl }, (codes "[", codes "1]}.", record { split = refl; from = refl; to = refl; stands = refl }, (codes "1", codes "]}.", record { split = refl; from = refl; to = refl; stands = (refl, inl (record { some = omega arith; all = refl }, refl)) }, (codes "]", codes "}.", record { split = refl; from = refl; to = refl; stands = refl }, (codes "}", codes ".", record { split = refl; from = refl; to = refl; stands = refl }, (codes ".", [], record { split = refl; from = refl; to = refl; stands = (refl, refl) }, refl))))))))))))))))))))))))))))

abbrev refused_arity_terms : List Tree
refused_arity_terms = braces (word "function" ∷ word "m" ∷ word "go" ∷ word "exported" ∷ brackets [] ∷ brackets [] ∷ []) ∷ braces (word "process" ∷ word "m" ∷ word "go" ∷ brackets (int (pos 1) ∷ []) ∷ []) ∷ []

refused_arity_spelled : SpellsTerms refused_arity_text refused_arity_terms
refused_arity_spelled = spelled refused_arity_text refused_arity_tokens refused_arity_terms (omega arith) refused_arity_are refl

abbrev refused_arity_forms : List Form
refused_arity_forms = declares (function_from (codes "m") (codes "go") true [] []) ∷ starts (entry_from (codes "m") (codes "go") (int (pos 1) ∷ [])) ∷ []

pub refused_arity : IsRefused refused_arity_text (broken wrong_arity 2)
refused_arity = record { forms = refused_arity_forms; spelled = record { terms = refused_arity_terms; spelled = refused_arity_spelled; shaped = refl }; few = omega arith; first = first_is refused_arity_forms 2 wrong_arity refl }

refused_arity_line : refusal_line (broken wrong_arity 2) ≡ codes "refused 12 arity in form 2"
unfolding digits
refused_arity_line = refl

-- a variable that nothing binds
abbrev pub refused_unbound_text : List ℕ
refused_unbound_text = codes "{function,m,go,exported,[],[{return,'X'}]}."

abbrev refused_unbound_tokens : List TokenSpan
refused_unbound_tokens = spanned open_brace 0 1 ∷ spanned (atom (codes "function")) 1 9 ∷ spanned comma 9 10 ∷ spanned (atom (codes "m")) 10 11 ∷ spanned comma 11 12 ∷ spanned (atom (codes "go")) 12 14 ∷ spanned comma 14 15 ∷ spanned (atom (codes "exported")) 15 23 ∷ spanned comma 23 24 ∷ spanned open_bracket 24 25 ∷ spanned close_bracket 25 26 ∷ spanned comma 26 27 ∷ spanned open_bracket 27 28 ∷ spanned open_brace 28 29 ∷ spanned (atom (codes "return")) 29 35 ∷ spanned comma 35 36 ∷ spanned (atom (codes "X")) 36 39 ∷ spanned close_brace 39 40 ∷ spanned close_bracket 40 41 ∷ spanned close_brace 41 42 ∷ spanned stop 42 43 ∷ []

refused_unbound_are : Tokens refused_unbound_text refused_unbound_tokens
refused_unbound_are = (codes "{", codes "function,m,go,exported,[],[{return,'X'}]}.", record { split = refl; from = refl; to = refl; stands = refl }, (codes "function", codes ",m,go,exported,[],[{return,'X'}]}.", record { split = refl; from = refl; to = refl; stands = inl (record { text = refl; name = refl; whole = refl; free = refl }) }, (codes ",", codes "m,go,exported,[],[{return,'X'}]}.", record { split = refl; from = refl; to = refl; stands = refl }, (codes "m", codes ",go,exported,[],[{return,'X'}]}.", record { split = refl; from = refl; to = refl; stands = inl (record { text = refl; name = refl; whole = refl; free = refl }) }, (codes ",", codes "go,exported,[],[{return,'X'}]}.", record { split = refl; from = refl; to = refl; stands = refl }, (codes "go", codes ",exported,[],[{return,'X'}]}.", record { split = refl; from = refl; to = refl; stands = inl (record { text = refl; name = refl; whole = refl; free = refl }) }, (codes ",", codes "exported,[],[{return,'X'}]}.", record { split = refl; from = refl; to = refl; stands = refl }, (codes "exported", codes ",[],[{return,'X'}]}.", record { split = refl; from = refl; to = refl; stands = inl (record { text = refl; name = refl; whole = refl; free = refl }) }, (codes ",", codes "[],[{return,'X'}]}.", record { split = refl; from = refl; to = refl; stands = refl }, (codes "[", codes "],[{return,'X'}]}.", record { split = refl; from = refl; to = refl; stands = refl }, (codes "]", codes ",[{return,'X'}]}.", record { split = refl; from = refl; to = refl; stands = refl }, (codes ",", codes "[{return,'X'}]}.", record { split = refl; from = refl; to = refl; stands = refl }, (codes "[", codes "{return,'X'}]}.", record { split = refl; from = refl; to = refl; stands = refl }, (codes "{", codes "return,'X'}]}.", record { split = refl; from = refl; to = refl; stands = refl }, (codes "return", codes ",'X'}]}.", record { split = refl; from = refl; to = refl; stands = inl (record { text = refl; name = refl; whole = refl; free = refl }) }, (codes ",", codes "'X'}]}.", record { split = refl; from = refl; to = refl; stands = refl }, (codes "'X'", codes "}]}.", record { split = refl; from = refl; to = refl; stands = inr (record { text = refl; printable = refl }) }, (codes "}", codes "]}.", record { split = refl; from = refl; to = refl; stands = refl }, (codes "]", codes "}.", record { split = refl; from = refl; to = refl; stands = refl }, (codes "}", codes ".", record { split = refl; from = refl; to = refl; stands = refl }, (codes ".", [], record { split = refl; from = refl; to = refl; stands = (refl, refl) }, refl)))))))))))))))))))))

abbrev refused_unbound_terms : List Tree
refused_unbound_terms = braces (word "function" ∷ word "m" ∷ word "go" ∷ word "exported" ∷ brackets [] ∷ brackets (braces (word "return" ∷ word "X" ∷ []) ∷ []) ∷ []) ∷ []

refused_unbound_spelled : SpellsTerms refused_unbound_text refused_unbound_terms
refused_unbound_spelled = spelled refused_unbound_text refused_unbound_tokens refused_unbound_terms (omega arith) refused_unbound_are refl

abbrev refused_unbound_forms : List Form
refused_unbound_forms = declares (function_from (codes "m") (codes "go") true [] (give_back (word "X") ∷ [])) ∷ []

pub refused_unbound : IsRefused refused_unbound_text (broken unbound 1)
refused_unbound = record { forms = refused_unbound_forms; spelled = record { terms = refused_unbound_terms; spelled = refused_unbound_spelled; shaped = refl }; few = omega arith; first = first_is refused_unbound_forms 1 unbound refl }

refused_unbound_line : refusal_line (broken unbound 1) ≡ codes "refused 10 unbound in form 1"
unfolding digits
refused_unbound_line = refl

-- ---- 1,048,576 blanks, and one more

abbrev pub blanks : ℕ → List ℕ
blanks n = replicate n 32

blanks_are_gaps : (n : ℕ) → gap_len false (blanks n) ≡ n
blanks_are_gaps zero = refl
blanks_are_gaps (suc n) = let e : gap_len false (blanks n) ≡ n = blanks_are_gaps n in omega (arith, e)

none_after : (n : ℕ) → drop n (blanks n) ≡ []
none_after zero = refl
none_after (suc n) = none_after n

blanks_have_no_token : (n : ℕ) → Tokens (blanks n) []
blanks_have_no_token n = ap (λ m. drop m (blanks n)) (blanks_are_gaps n) ∙ none_after n

pub blanks_are_a_script : (n : ℕ) → n ≤ LENGTH → IsScript (blanks n) (program_from [])
blanks_are_a_script n short =
    let fits : length (blanks n) ≤ LENGTH = omega (arith, short, length-replicate {A = ℕ} n 32) in
    record {
      forms = [];
      spelled = record { terms = []; spelled = spelled (blanks n) [] [] fits (blanks_have_no_token n) refl; shaped = refl };
      few = omega arith;
      kept = none_broken [] refl;
      made = refl;
    }

pub blanks_1048576 : IsScript (blanks 1048576) (program_from [])
blanks_1048576 = blanks_are_a_script 1048576 (omega arith)

blanks_too_long : (n : ℕ) → LENGTH < n → IsRefused (blanks n) too_long
blanks_too_long n long = omega (arith, long, length-replicate {A = ℕ} n 32)

pub blanks_1048577 : IsRefused (blanks 1048577) too_long
blanks_1048577 = blanks_too_long 1048577 (omega arith)

blanks_1048577_line : refusal_line too_long ≡ codes "refused 1 too long"
blanks_1048577_line = refl
