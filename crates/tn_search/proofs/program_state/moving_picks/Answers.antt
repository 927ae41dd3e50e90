use Rattle.std.proofs.Common.{◌≡◌, ◌∙◌, length, ap, arith}
use Rattle.std.proofs.lemmas.Result.{IfOk-weaker}
use Rattle.std.specs.List.{filter}
use Rattle.tn_program.specs.Views.{program_of}
use Rattle.tn_search.specs.ReadyPicks.{may_move_by}
use Rattle.tn_search.proofs.Steps.{all_moves, no_moves}
use Rattle.tn_search.proofs.program_state.moving_picks.Goals as goal

pub returns-then-made-ge-JOURNAL : goal.returns-then-made-ge-JOURNAL
returns-then-made-ge-JOURNAL g c = λ a is pick moving.
    let long : length c.journal-made.result.now ≡ length c.args.state.now.run.journal.items = ap length c.journal-made.ensures in
    no_moves g.K.MessageSink.keeps g.K.SearchSink.is_by_process c.args.program.now c.args.state.now a is c.new.result.items pick (omega (arith, c.if-made-ge-JOURNAL.true)) moving

pub returns : goal.returns
returns g c =
    let Keeps = g.K.MessageSink.keeps in
    let b = g.K.SearchSink.is_by_process in
    let s = c.args.state.now in
    let long : length c.journal-made.result.now ≡ length s.run.journal.items = ap length c.journal-made.ensures in
    let x = c.args.program.now in
    IfOk-weaker c.ready_picks.result (λ v. v.items ≡ filter (may_move_by (program_of x) c.node.result.now) c.deref.result.now) _
    (λ v those a is pick moving. all_moves Keeps b x s a is c.node.result.now c.deref.result.now v.items pick c.node.ensures (c.deref.ensures.value ∙ c.in_ok-pass.ensures) (omega (arith, c.if-made-ge-JOURNAL.false)) those moving)
    c.ready_picks.ensures
