use Rattle.std.proofs.Common.{◌∙◌, ap, sym}
use Rattle.std.specs.Process.{exit_status}
use Rattle.tn_command.specs.Ends.{last_error_inner, tee_inner}
use Rattle.tn_command.specs.Flaws.{script_bytes}
use Rattle.tn_command.proofs.PrintLemmas.{printed_along, prints_plain}
use Rattle.tn_command.proofs.jobs.print_plain.Goals as goal

pub returns-clause-printed : goal.returns-clause-printed
returns-clause-printed g c =
    let view = g.J.Job.view c.args.job.now in
    let flaw = g.J.Command.flaw c.args.job.now in
    let end = c.perform_over-end in
    let status = exit_status c.print_end-status.result in
    printed_along view flaw c.args.expectation.now _ _ _ _ _ _ status
    (ap g.S.Read.remaining c.script_of-script.ensures)
    (ap (λ w. g.W.Write.contents (last_error_inner w)) c.of-writer.ensures.inner ∙ ap g.W.Write.contents c.of.ensures.inner)
    (sym (ap g.W.Write.contents c.into_parts-writer.ensures.inner ∙ ap (λ w. g.W.Write.contents (last_error_inner w)) c.into_inner.ensures))
    (prints_plain view (λ r. g.S.Read.remaining (tee_inner (last_error_inner r))) c.script_of-script.result.reader end.new.reader
    (λ w. g.W.Write.contents (last_error_inner w)) c.of-writer.result end.new.writer flaw c.args.expectation.now end.result.answer
    (script_bytes (record c.script_of-script.result { reader = end.new.reader })) (exit_status end.result.status) status
    end.ensures.answer end.ensures.done c.requires c.print_end-status.ensures)
