use Rattle.std.proofs.Common.{◌≡◌, ◌++◌, ◌-◌, flat_map}
use Rattle.def_run.specs.Round.{pass_from}
use Rattle.def_session.specs.State.{mark_of}
use Rattle.def_state.specs.SessionTexts.{depths, frame_mark_text}
use Rattle.tn_session.specs.Looks.{look_seen}
use Rattle.tn_state.proofs.marks.put_marks_of.Given as goal

abbrev pub invariant-loop-depth : goal.invariant-loop-depth
invariant-loop-depth g l =
    l.out.items ++ flat_map (λ d. frame_mark_text l.pid d (mark_of (look_seen l.look) l.pid d)) (pass_from (65 - l.depth) l.depth)
    ≡ l.fn.out.items ++ flat_map (λ d. frame_mark_text l.pid d (mark_of (look_seen l.look) l.pid d)) depths
