use Rattle.std.proofs.Common.{◌∙◌, ◌≡◌, ℕ, [], Some, IfOk, ap, sym, subst}
use Rattle.std.specs.Prelude.{OnErr, OnOk}
use Rattle.std.specs.Io.KnownBytes.{Appends}
use Rattle.std.specs.Process.{exit_status}
use Rattle.std.specs.declared.alloc.Global.{Global}
use Rattle.std.specs.declared.vec.Vec.{Vec}
use Rattle.tn_command.specs.declared.last_error.LastError.{LastError}
use Rattle.tn_text.specs.Watch.{watched_inner}
use Rattle.tn_run.specs.Jobs.{Writes}
use Rattle.tn_command.specs.Ends.{last_error_inner, tee_inner}
use Rattle.tn_expectation.specs.Expectations.{meets_expectation}
use Rattle.tn_command.specs.Flaws.{script_bytes}
use Rattle.tn_command.specs.PrintedJobs.{WroteNoneOrFront}
use Rattle.tn_command.specs.Status.{status_after_judgement}
use Rattle.tn_command.proofs.PrintLemmas.{front_so, prints_kept, printed_along}
use Rattle.tn_command.proofs.jobs.print_with_expectation.Goals as goal

pub returns-clause-printed : goal.returns-clause-printed
returns-clause-printed g c =
    let view = g.J.Job.view c.args.job.now in
    let flaw = g.J.Command.flaw c.args.job.now in
    let e = c.args.expectation.now in
    let done = c.perform_over-end in
    let end = c.write_end-end in
    let k = exit_status c.print_end-status.result in
    let m = exit_status c.judge.result in
    let bytes = g.S.Read.remaining (tee_inner (last_error_inner (watched_inner c.script_of-script.result.reader))) in
    let old = g.W.Write.contents (last_error_inner (watched_inner c.of-writer.result)) in
    let new = g.W.Write.contents (last_error_inner (watched_inner end.new.writer)) in
    let items = c.into_parts-output.result.0.items in
    let empty : (last_error_inner (watched_inner c.of-memory.result)).items ≡ [] = ap (λ (w : LastError (Vec ℕ Global)). (last_error_inner w).items) c.of-memory.ensures.inner ∙ ap (λ (v : Vec ℕ Global). v.items) c.of.ensures.inner ∙ c.new.ensures.items in
    let whole : (last_error_inner (watched_inner done.new.writer)).items ≡ items = sym (ap (λ (v : Vec ℕ Global). v.items) c.into_parts-output.ensures.inner ∙ ap (λ (w : LastError (Vec ℕ Global)). (last_error_inner w).items) c.into_inner.ensures) in
    let written = subst (λ xs. IfOk done.result.answer (Writes view bytes (Some []) (Some xs))) whole
    (subst (λ xs. IfOk done.result.answer (Writes view bytes (Some xs) (Some (last_error_inner (watched_inner done.new.writer)).items))) empty done.ensures.done.written) in
    let all = subst (λ xs. OnOk end.result.answer (Appends old new xs)) c.deref.ensures.value end.ensures.all in
    let at_front = subst (λ xs. OnErr end.result.answer (WroteNoneOrFront (λ w. g.W.Write.contents (last_error_inner w)) c.of-writer.result end.new.writer xs done.result.answer)) c.deref.ensures.value end.ensures.front in
    let front = front_so (λ w. g.W.Write.contents (last_error_inner w)) c.of-writer.result end.new.writer items done.result.answer end.result.answer at_front in
    let judged = subst (λ xs. m ≡ status_after_judgement k (meets_expectation e xs)) c.deref-2.ensures.value c.judge.ensures in
    printed_along view flaw e _ _ _ _ _ _ m
    (ap g.S.Read.remaining c.script_of-script.ensures)
    (ap (λ w. g.W.Write.contents (last_error_inner w)) c.of-writer.ensures.inner ∙ ap g.W.Write.contents c.of-2.ensures.inner)
    (sym (ap g.W.Write.contents c.into_parts-writer.ensures.inner ∙ ap (λ w. g.W.Write.contents (last_error_inner w)) c.into_inner-2.ensures))
    (prints_kept view bytes old new items flaw e done.result.answer end.result.answer
    (script_bytes (record c.script_of-script.result { reader = done.new.reader })) (exit_status end.result.status) k m end.ensures.status written
    end.ensures.outcome all front c.print_end-status.ensures judged)
