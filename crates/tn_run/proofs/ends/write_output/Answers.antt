use Rattle.std.proofs.Common.{◌∙◌, rules}
use Rattle.std.specs.contracts.io.Error.{the_row}
use Rattle.tn_run.proofs.EndsLemmas.{Appends-next, failed_write-took}
use Rattle.tn_run.proofs.ends.write_output.Goals as goal

pub loop-written-preserved : goal.loop-written-preserved
loop-written-preserved g c =
    let now = c.loop-written.invariant in
    record {
      within = search rules;
      gained = Appends-next _ _ _ c.args.output.now c.loop-written.written c.in-Ok.n now.gained c.in-Ok.ensures.bytes;
      watch = failed_write-took the_row.Denot _ _ c.in-Ok.n _ c.in-Ok.n-test.1 c.in-Ok.ensures.watch ∙ now.watch;
    }
