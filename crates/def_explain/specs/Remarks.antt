-- What is remarked of a run: which of the commands that it took are refused, match no function or have a trap, and why (own).
-- Depends on the history of a run, on why a command is refused, and on the texts of reasons.
use Rattle.std.specs.Prelude.{ℕ, suc, ◌==◌, Bool, true, false, ◌&&◌, ◌||◌, List, [], ◌∷◌, ◌++◌, flat_map, nat_eq, Option, Some, None, codes, decimal}
use Rattle.std.specs.List.{starts_with, list_any}
use Rattle.std.specs.Option.{is_some}
use Rattle.def_term.specs.Text.{w}
use Rattle.def_script.specs.Program.{Command, session_of, Program}
use Rattle.def_script.specs.Exports.{Exports, exports_of}
use Rattle.def_run.specs.Run.{HistoryItem, event_item, command_item}
use Rattle.def_run.specs.History.{NamedSession, Moment, session_in, history}
use Rattle.def_explain.specs.CommandReasons.{CommandReason, reply_of, trap_reason, command_reason}
use Rattle.def_explain.specs.ReasonTexts.{command_reason_text}

-- why a command is refused, matches no function or has a trap, by its own session before it; None where it is done as it was meant
abbrev pub item_reasons : Exports → List NamedSession → HistoryItem → List (Option CommandReason)
item_reasons o ss (event_item e) = []
item_reasons o ss (command_item c) = command_reason o (session_in o (session_of c) ss) c ∷ []

-- of the commands among these moments, in order
abbrev pub reasons_in : Exports → List Moment → List (Option CommandReason)
reasons_in o ms = flat_map (λ m. item_reasons o m.before m.item) ms

-- of the commands that a run took
abbrev pub run_reasons : Program → List ℕ → List (Option CommandReason)
run_reasons p picks = reasons_in (exports_of p) (history p picks)

-- a command that is refused, matches no function or has a trap, by its number in the control list, counted from 1, and why
pub record Remark : Type 0 where
  pub command : ℕ
  pub reason : CommandReason

-- of the commands after so many
abbrev pub remarks_after : ℕ → List (Option CommandReason) → List Remark
remarks_after n [] = []
remarks_after n (None ∷ rs) = remarks_after (suc n) rs
remarks_after n (Some r ∷ rs) = record { command = suc n; reason = r } ∷ remarks_after (suc n) rs

-- of a run
abbrev pub remarks : Program → List ℕ → List Remark
remarks p picks = remarks_after 0 (run_reasons p picks)

-- there is one
abbrev pub is_some_remark : List Remark → Bool
is_some_remark [] = false
is_some_remark (r ∷ rs) = true

-- something is remarked of a run
abbrev pub has_remarks : Program → List ℕ → Bool
has_remarks p picks = is_some_remark (remarks p picks)

-- ---- texts

-- the reply, and why it is this one
abbrev pub reply_and_reason : CommandReason → List ℕ
reply_and_reason r = codes "replies " ++ w (reply_of r) ++ codes ": " ++ command_reason_text r

-- of the command of this number
abbrev pub command_text : ℕ → List ℕ → List ℕ
command_text n text = codes "command " ++ decimal n ++ 32 ∷ text

abbrev pub remark_text : Remark → List ℕ
remark_text r = command_text r.command (reply_and_reason r.reason)

-- ---- where nothing is remarked

-- the specification of the command has a trap, whatever its session is
abbrev pub command_has_trap : Exports → Command → Bool
command_has_trap o c = is_some (trap_reason o c)

-- that of one of the program's commands has
abbrev pub has_traps : Program → Bool
has_traps p = list_any (command_has_trap (exports_of p)) p.commands

-- the text begins with the line of a reply of a command that isn't done: `badarg`, 0 or {unsupported,Name}
abbrev pub begins_reason : List ℕ → Bool
begins_reason text =
    starts_with nat_eq text (codes "badarg\n") || (starts_with nat_eq text (codes "0\n") || starts_with nat_eq text (codes "{unsupported,"))

-- one of the lines of a text does; whether the text itself begins with a line is given
abbrev pub has_reason_line : (at_start : Bool) → List ℕ → Bool
has_reason_line b [] = false
has_reason_line b (c ∷ cs) = (b && begins_reason (c ∷ cs)) || has_reason_line (c == 10) cs
