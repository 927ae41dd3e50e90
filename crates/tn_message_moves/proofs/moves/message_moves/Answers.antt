use Rattle.std.proofs.Common.{◌∙◌, []}
use Rattle.tn_program.specs.Views.{program_of}
use Rattle.tn_trace.proofs.Passes.{first_followed}
use Rattle.tn_message_moves.specs.Counters.{HasCounted}
use Rattle.tn_message_moves.proofs.MoveCounts.{none_numbered, run_numbered}
use Rattle.tn_message_moves.proofs.moves.message_moves.Goals as goal

pub returns : goal.returns
returns g c =
    let p = program_of c.args.program.now in
    let picks = c.args.picks.now in
    let counter = c.in_ok-counter.counter in
    let r = c.in_ok-run.run' in
    let first = c.in_ok-moves.ensures ∙ none_numbered counter.recorder p c.in_ok-counter.ensures in
    let added = c.in_ok-take_all.ensures.adds 65536 [] (first_followed HasCounted p 65536 r (c.in_ok-run.ensures.start c.in_ok-counter.ensures)) in
    run_numbered p picks r.observer c.take_all.new.self.observer c.in_ok-moves.moves c.take_all.new.out added first
