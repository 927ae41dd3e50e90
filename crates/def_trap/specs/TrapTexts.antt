-- The line of a trap (own).
-- Depends on traps and on the texts of terms.
use Rattle.std.specs.Prelude.{ℕ, suc, List, ◌++◌, codes, decimal}
use Rattle.def_term.specs.Tree.{Tree}
use Rattle.def_term.specs.Text.{w, atom_text}
use Rattle.def_spec.specs.Expressions.{Dialect, for_calls, for_sends, for_receives, Action}
use Rattle.def_trap.specs.Actions.{action_name}
use Rattle.def_trap.specs.Traps.{BodyTrap, names_action, marks_no_call, lacks_flag, Trap, of_head, of_body}

-- what is matched in each dialect
abbrev pub matched_text : Dialect → List ℕ
matched_text for_calls = codes "no function that is traced has as many arguments"
matched_text for_sends = codes "the list of a send is [Receiver,Message]"
matched_text for_receives = codes "the list of a receive is [Node,Sender,Message]"

-- where there is no call
abbrev pub no_call_text : Dialect → List ℕ
no_call_text for_calls = codes "a call"
no_call_text for_sends = codes "a send"
no_call_text for_receives = codes "a receive"

-- of an action that lacks a flag
abbrev pub no_flag_trap_text : Action → Tree → List ℕ
no_flag_trap_text a t = action_name a ++ codes " has no effect, " ++ w t ++ codes " is no flag"

-- what is wrong with an expression of a body
abbrev pub body_trap_text : Dialect → BodyTrap → List ℕ
body_trap_text d (names_action s) = atom_text s ++ codes " is a constant, and no call of the action"
body_trap_text d (marks_no_call a) = action_name a ++ codes " has no effect on " ++ no_call_text d
body_trap_text d (lacks_flag a t) = no_flag_trap_text a t

abbrev pub trap_text : Dialect → Trap → List ℕ
trap_text d (of_head n) = codes "the head has " ++ decimal n ++ codes " elements, " ++ matched_text d
trap_text d (of_body n t) = codes "body " ++ decimal (suc n) ++ codes ": " ++ body_trap_text d t

-- in the clause after so many
abbrev pub clause_trap_text : Dialect → ℕ → Trap → List ℕ
clause_trap_text d n t = codes "clause " ++ decimal (suc n) ++ codes ": " ++ trap_text d t
