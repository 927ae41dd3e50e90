-- Worked values of remarks, of the lines of replies, and of where commands begin.
use Rattle.std.proofs.Common.{◌≡◌, ℕ, true, false, List, [], ◌∷◌, ◌++◌, Some, None, codes, refl}
use Rattle.std.specs.Fmt.{digits}
use Rattle.def_term.specs.Names.{word}
use Rattle.def_term.specs.Tree.{Tree, tuple, list, none, more}
use Rattle.def_term.specs.Text.{is_written_bare}
use Rattle.def_text.specs.Tokens.{Token, open_brace, close_brace, open_bracket, close_bracket, comma, stop, atom, TokenSpan}
use Rattle.def_script.specs.Exports.{Exports}
use Rattle.def_script.specs.Program.{set_processes, set_send}
use Rattle.def_spec.specs.Expressions.{for_sends}
use Rattle.def_trap.specs.Traps.{names_action, of_body}
use Rattle.def_explain.specs.CommandReasons.{not_created, no_how, no_match, has_trap}
use Rattle.def_explain.specs.Remarks.{remarks_after, remark_text, command_has_trap, has_reason_line}
use Rattle.def_explain.specs.CommandPlaces.{before_form, command_starts}

-- the second and the fourth of four commands
numbered_from_one : remarks_after 0 (None ∷ Some (no_match None) ∷ None ∷ Some not_created ∷ []) ≡ (record { command = 2; reason = no_match None } ∷ record { command = 4; reason = not_created } ∷ [])
numbered_from_one = refl

text_of_remark : remark_text (record { command = 2; reason = no_how (word "on") }) ≡ codes "command 2 replies badarg: How is true or false, found on"
unfolding is_written_bare digits
text_of_remark = refl

text_of_no_match : remark_text (record { command = 12; reason = no_match None }) ≡ codes "command 12 replies 0: no function matches"
unfolding is_written_bare digits
text_of_no_match = refl

text_of_trap : remark_text (record { command = 2; reason = has_trap 1 0 for_sends (of_body 0 (names_action (codes "return_trace"))) })
    ≡ codes "command 2 replies 1: clause 1: body 1: return_trace is a constant, and no call of the action"
unfolding is_written_bare digits
text_of_trap = refl

-- ---- traps, whatever the session is

abbrev no_functions : Exports
no_functions = record { functions = []; processes = 1 }

-- [{'_',[],[E]}]
abbrev of_body_alone : Tree → Tree
of_body_alone t = list (more (tuple (more (word "_") (more (list none) (more (list (more t none)) none)))) none)

trap_of_send : command_has_trap no_functions (set_send (codes "s") (of_body_alone (word "silent"))) ≡ true
trap_of_send = refl

no_trap_of_send : command_has_trap no_functions (set_send (codes "s") (of_body_alone (word "true"))) ≡ false
no_trap_of_send = refl

-- of flags there are no clauses
no_trap_of_flags : command_has_trap no_functions (set_processes (codes "s") (word "all") (word "true") (list none)) ≡ false
no_trap_of_flags = refl

-- ---- the lines of replies

badarg_is_found : has_reason_line true (codes "{session,s}\n2\nbadarg\n") ≡ true
badarg_is_found = refl

zero_is_found : has_reason_line true (codes "{session,s}\n0\n") ≡ true
zero_is_found = refl

unsupported_is_found : has_reason_line true (codes "{unsupported,size}\n") ≡ true
unsupported_is_found = refl

-- neither a name nor a number with other digits
others_are_none : has_reason_line true (codes "{session,badarg}\n10\n1\n") ≡ false
others_are_none = refl

-- ---- where commands begin

abbrev at : ℕ → Token → TokenSpan
at n t = record { token = t; from = n; to = n }

-- {control,[{a},{b,[{c}]}]}.
abbrev control_form : List TokenSpan
control_form =
    at 0 open_brace ∷ at 1 (atom (codes "control")) ∷ at 8 comma ∷ at 9 open_bracket
    ∷ at 10 open_brace ∷ at 11 (atom (codes "a")) ∷ at 12 close_brace ∷ at 13 comma
    ∷ at 14 open_brace ∷ at 15 (atom (codes "b")) ∷ at 16 comma ∷ at 17 open_bracket ∷ at 18 open_brace ∷ at 19 (atom (codes "c")) ∷ at 20 close_brace ∷ at 21 close_bracket ∷ at 22 close_brace
    ∷ at 23 close_bracket ∷ at 24 close_brace ∷ at 25 stop ∷ []

-- {process,control,[{a}]}.
abbrev other_form : List TokenSpan
other_form =
    at 30 open_brace ∷ at 31 (atom (codes "process")) ∷ at 38 comma ∷ at 39 (atom (codes "control")) ∷ at 46 comma
    ∷ at 47 open_bracket ∷ at 48 open_brace ∷ at 49 (atom (codes "a")) ∷ at 50 close_brace ∷ at 51 close_bracket ∷ at 52 close_brace ∷ at 53 stop ∷ []

two_commands : command_starts before_form control_form ≡ (10 ∷ 14 ∷ [])
two_commands = refl

none_in_another_form : command_starts before_form other_form ≡ []
none_in_another_form = refl

-- those of each control form, in order
two_forms : command_starts before_form (control_form ++ other_form ++ control_form) ≡ (10 ∷ 14 ∷ 10 ∷ 14 ∷ [])
two_forms = refl
