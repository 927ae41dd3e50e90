-- Worked rows of outputs, from the bytes of a script and a text of picks.
use Rattle.std.proofs.Common.{◌<◌, ◌^◌, ℕ, List, [], ◌∷◌, codes, refl, arith}
use Rattle.std.proofs.lemmas.List.Elements.{All-nil}
use Rattle.std.specs.Fmt.{digits}
use Rattle.def_script.specs.Rules.{undeclared, unbound, wrong_arity}
use Rattle.def_script.specs.Script.{program_from, too_long, token, form, broken}
use Rattle.def_script.proofs.TextRows.{blanks, blanks_are_a_script, blanks_1048576, blanks_1048577, refused_open_control_text, refused_open_control, refused_no_full_stop_text, refused_no_full_stop, refused_no_comma_text, refused_no_comma, refused_upper_case_text, refused_upper_case, refused_float_text, refused_float, refused_begins_an_atom_text, refused_begins_an_atom, refused_reserved_word_text, refused_reserved_word, refused_no_form_text, refused_no_form, refused_undeclared_text, refused_undeclared, refused_arity_text, refused_arity, refused_unbound_text, refused_unbound}
use Rattle.def_run.specs.Picks.{SpellsPicks}
use Rattle.def_run.specs.Output.{IsOutput, lists, refuses, refuses_picks}
use Rattle.def_run.proofs.Samples.{lines}
use Rattle.def_run.proofs.PickRows.{bad_picks_leading_zero, bad_picks_two_spaces}

-- the empty text is the empty list of picks
no_picks : SpellsPicks [] []
no_picks = record { short = omega arith; fit = All-nil (λ p. p < 2 ^ 32); spelled = refl }

-- the empty script, and 1,048,576 blanks
empty : IsOutput [] [] (lines ("== replies" ∷ "== journal" ∷ "" ∷ []))
empty = lists (program_from []) [] (blanks_are_a_script 0 (omega arith)) no_picks refl

blanks_accepted : IsOutput (blanks 1048576) [] (lines ("== replies" ∷ "== journal" ∷ "" ∷ []))
blanks_accepted = lists (program_from []) [] blanks_1048576 no_picks refl

blanks_too_long : IsOutput (blanks 1048577) [] (lines ("refused 1 too long" ∷ []))
blanks_too_long = refuses too_long [] blanks_1048577 no_picks refl

-- bad picks, whatever the bytes
leading_zero : (bytes : List ℕ) → IsOutput bytes (codes "0 00") (lines ("refused 20 bad picks" ∷ []))
leading_zero bytes = refuses_picks bad_picks_leading_zero refl

two_spaces : (bytes : List ℕ) → IsOutput bytes (codes "0  0") (lines ("refused 20 bad picks" ∷ []))
two_spaces bytes = refuses_picks bad_picks_two_spaces refl

-- refused texts, each the line alone
refused_open_control_output : IsOutput refused_open_control_text [] (lines ("refused 2 token at 10" ∷ []))
unfolding digits
refused_open_control_output = refuses (token 10) [] refused_open_control no_picks refl

refused_no_full_stop_output : IsOutput refused_no_full_stop_text [] (lines ("refused 2 token at 12" ∷ []))
unfolding digits
refused_no_full_stop_output = refuses (token 12) [] refused_no_full_stop no_picks refl

refused_no_comma_output : IsOutput refused_no_comma_text [] (lines ("refused 2 token at 3" ∷ []))
unfolding digits
refused_no_comma_output = refuses (token 3) [] refused_no_comma no_picks refl

refused_upper_case_output : IsOutput refused_upper_case_text [] (lines ("refused 2 token at 0" ∷ []))
unfolding digits
refused_upper_case_output = refuses (token 0) [] refused_upper_case no_picks refl

refused_float_output : IsOutput refused_float_text [] (lines ("refused 2 token at 1" ∷ []))
unfolding digits
refused_float_output = refuses (token 1) [] refused_float no_picks refl

refused_begins_an_atom_output : IsOutput refused_begins_an_atom_text [] (lines ("refused 2 token at 5" ∷ []))
unfolding digits
refused_begins_an_atom_output = refuses (token 5) [] refused_begins_an_atom no_picks refl

refused_reserved_word_output : IsOutput refused_reserved_word_text [] (lines ("refused 2 token at 1" ∷ []))
unfolding digits
refused_reserved_word_output = refuses (token 1) [] refused_reserved_word no_picks refl

refused_no_form_output : IsOutput refused_no_form_text [] (lines ("refused 5 form 1" ∷ []))
unfolding digits
refused_no_form_output = refuses (form 1) [] refused_no_form no_picks refl

refused_undeclared_output : IsOutput refused_undeclared_text [] (lines ("refused 8 undeclared in form 1" ∷ []))
unfolding digits
refused_undeclared_output = refuses (broken undeclared 1) [] refused_undeclared no_picks refl

refused_arity_output : IsOutput refused_arity_text [] (lines ("refused 12 arity in form 2" ∷ []))
unfolding digits
refused_arity_output = refuses (broken wrong_arity 2) [] refused_arity no_picks refl

refused_unbound_output : IsOutput refused_unbound_text [] (lines ("refused 10 unbound in form 1" ∷ []))
unfolding digits
refused_unbound_output = refuses (broken unbound 1) [] refused_unbound no_picks refl
