-- What a node does otherwise by a command, by what is read of it and by the session that is looked at.
use Rattle.std.proofs.Common.{◌≡◌, ◌∙◌, Bool, true, false, Some, Ok, Err, refl, ap}
use Rattle.def_script.specs.Exports.{Exports}
use Rattle.def_script.specs.Program.{Command}
use Rattle.def_spec.specs.Reading.{Reads}
use Rattle.def_session.specs.Settings.{FunctionPattern, Setting, off, plain, by}
use Rattle.def_session.specs.State.{Phase, absent, live, destroyed, Session}
use Rattle.def_explain.specs.CommandDifferences.{read_difference, live_difference, difference_in, command_difference}
use Rattle.tn_session.specs.Looks.{is_live}
use Rattle.tn_running_node.specs.Replies.{on_where_read}
use Rattle.tn_explain.specs.CommandDifferences.{difference_by}

pub by_reading : (o : Exports) (s : Session) (covered : FunctionPattern) (local : Bool) (r : Reads Setting) (on : Bool) → on_where_read r ≡ Some on → difference_by o s covered local on ≡ read_difference o s (Some covered) (Some local) r
by_reading o s covered local (Ok off) true e = absurd (cc e)
by_reading o s covered local (Ok off) false e = refl
by_reading o s covered local (Ok plain) true e = refl
by_reading o s covered local (Ok plain) false e = absurd (cc e)
by_reading o s covered local (Ok (by k)) true e = refl
by_reading o s covered local (Ok (by k)) false e = absurd (cc e)
by_reading o s covered local (Err f) on e = absurd (cc e)

by_phase : (o : Exports) (s : Session) (c : Command) (p : Phase) → is_live p ≡ true → live_difference o s c ≡ difference_in p o s c
by_phase o s c absent e = absurd (cc e)
by_phase o s c live e = refl
by_phase o s c destroyed e = absurd (cc e)

-- of a live session
pub of_live_session : (o : Exports) (s l : Session) (c : Command) → l ≡ s → is_live l.phase ≡ true → live_difference o l c ≡ command_difference o s c
of_live_session o s l c same e = by_phase o l c l.phase e ∙ ap (λ q. command_difference o q c) same
