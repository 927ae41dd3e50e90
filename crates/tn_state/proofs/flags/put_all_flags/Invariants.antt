use Rattle.std.proofs.Common.{◌≡◌, ◌++◌, ◌-◌, flat_map}
use Rattle.def_run.specs.Round.{pass_from}
use Rattle.def_state.specs.SessionTexts.{flags_text_at, flag_texts}
use Rattle.tn_session.specs.Looks.{look_seen}
use Rattle.tn_state.proofs.flags.put_all_flags.Given as goal

abbrev pub invariant-loop-pid : goal.invariant-loop-pid
invariant-loop-pid g l = l.out.items ++ flat_map (flags_text_at (look_seen l.look)) (pass_from (164 - l.pid) l.pid) ≡ l.fn.out.items ++ flag_texts (look_seen l.look)
