use Rattle.std.proofs.Common.{◌∙◌, ap, sym, inl}
use Rattle.std.specs.Process.{exit_status}
use Rattle.tn_exploration.specs.Requests.{explore_by}
use Rattle.tn_command.specs.Ends.{last_error_inner, tee_inner}
use Rattle.tn_command.specs.Explorations.{status_after_search, search_status}
use Rattle.tn_command.specs.JobForms.{job_within}
use Rattle.tn_command.proofs.ExplorationLemmas.{explored_along, prints_exploration, has_exploration_status}
use Rattle.tn_command.proofs.explore.print_exploration_over.Goals as goal

pub returns-clause-printed : goal.returns-clause-printed
returns-clause-printed g c =
    let view = job_within c.args.most (explore_by c.args.request.now) in
    let end = c.perform_over-end in
    explored_along view _ _ _ _ _ _ (exit_status c.status_after_search.result)
    (ap g.S.Read.remaining c.script_of-script.ensures)
    (ap (λ w. g.W.Write.contents (last_error_inner w)) c.of-writer.ensures.inner ∙ ap g.W.Write.contents c.of.ensures.inner)
    (sym (ap g.W.Write.contents c.into_parts-writer.ensures.inner ∙ ap (λ w. g.W.Write.contents (last_error_inner w)) c.into_inner.ensures))
    (prints_exploration view (λ r. g.S.Read.remaining (tee_inner (last_error_inner r))) c.script_of-script.result.reader end.new.reader
    (λ w. g.W.Write.contents (last_error_inner w)) c.of-writer.result end.new.writer end.result.answer (exit_status end.result.status) (exit_status c.print_end-status.result) c.search_status-search.result (exit_status c.status_after_search.result)
    end.ensures.answer c.print_end-status.ensures c.search_status-search.ensures c.status_after_search.ensures end.ensures.done)

pub returns-clause-status : goal.returns-clause-status
returns-clause-status g c =
    has_exploration_status c.perform_over-end.result.answer (exit_status c.perform_over-end.result.status) (exit_status c.print_end-status.result) c.search_status-search.result (exit_status c.status_after_search.result)
    c.perform_over-end.ensures.status c.print_end-status.ensures c.search_status-search.ensures c.status_after_search.ensures
