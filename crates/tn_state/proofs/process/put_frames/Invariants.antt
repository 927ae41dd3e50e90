use Rattle.std.proofs.Common.{◌≡◌, ◌≤◌, ◌++◌, map, take, reverse, length}
use Rattle.def_state.specs.ProcessTexts.{frames_text}
use Rattle.tn_process.specs.Views.{frame_of}
use Rattle.tn_script.specs.Views.{functions_of}
use Rattle.tn_state.proofs.process.put_frames.Given as goal

abbrev pub invariant-loop-depth : goal.invariant-loop-depth
invariant-loop-depth g l =
    (l.depth ≤ length l.frames)
    × (l.out.items ++ frames_text (functions_of l.functions) (reverse (map frame_of (take l.depth l.frames))) ≡ l.fn.out.items ++ frames_text (functions_of l.functions) (reverse (map frame_of l.frames)))

abbrev pub decreases-loop-depth : goal.decreases-loop-depth
decreases-loop-depth g l = l.depth
