use Rattle.std.proofs.Common.{◌≡◌}
use Rattle.std.proofs.lemmas.Result.{IfOk-weaker}
use Rattle.tn_messages.specs.MessageViews.{kept_seen}
use Rattle.tn_search.proofs.Steps.{admitted_by_open, admitted_by}
use Rattle.tn_search.proofs.program_state.ProgramStateSearchState.is_admitted.Goals as goal

pub returns-then-is_open : goal.returns-then-is_open
returns-then-is_open g c =
    admitted_by_open g.K.MessageSink.keeps g.K.SearchSink.is_by_process g.F.RunFilter.admits c.args.filter.now c.args.self.now (c.is_open.ensures c.if-is_open.true)

pub returns : goal.returns
returns g c =
    let f = c.args.filter.now in
    let m = kept_seen c.in_ok-kept.kept in
    IfOk-weaker c.is_admitted.result (λ b. g.F.RunFilter.admits f m ≡ b) _
    (λ b is. admitted_by g.K.MessageSink.keeps g.K.SearchSink.is_by_process g.F.RunFilter.admits f c.args.self.now m b is c.in_ok-kept.ensures)
    c.is_admitted.ensures
