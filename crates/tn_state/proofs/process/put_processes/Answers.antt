use Rattle.tn_node.specs.Worlds.{slot_of}
use Rattle.tn_script.specs.Views.{functions_of}
use Rattle.tn_state.proofs.ProcessLemmas.{one_process}
use Rattle.tn_state.proofs.process.put_processes.Goals as goal

pub loop-place-preserved : goal.loop-place-preserved
loop-place-preserved g c =
    let l = c.loop-place in
    one_process (functions_of c.args.functions.now) slot_of c.args.slots.now l.place c.index-slots-place.result l.out.items c.put_process.new.out.items _ c.loop-place-test.true c.index-slots-place.is l.invariant c.in_ok-put_process.ensures
