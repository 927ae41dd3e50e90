use Rattle.std.proofs.Common.{◌≡◌, ◌++◌, ◌+◌, map, drop}
use Rattle.def_state.specs.ProcessTexts.{processes_text}
use Rattle.tn_node.specs.Worlds.{slot_of}
use Rattle.tn_script.specs.Views.{functions_of}
use Rattle.tn_state.proofs.process.put_processes.Given as goal

abbrev pub invariant-loop-place : goal.invariant-loop-place
invariant-loop-place g l =
    l.out.items ++ processes_text (functions_of l.functions) (100 + l.place) (map slot_of (drop l.place l.slots)) ≡ l.fn.out.items ++ processes_text (functions_of l.functions) 100 (map slot_of l.slots)
