use Rattle.std.proofs.Common.{◌∙◌, [], ◌++◌, ap}
use Rattle.def_explain.specs.Remarks.{run_reasons}
use Rattle.tn_program.specs.Views.{program_of}
use Rattle.tn_trace.proofs.Passes.{first_followed}
use Rattle.tn_remark.specs.TextLines.{texts_seen}
use Rattle.tn_replay.specs.RemarkedSessions.{HasRemarked}
use Rattle.tn_replay.proofs.Remarks.{run_remarked, said}
use Rattle.tn_replay.proofs.remark_observer.command_texts.Goals as goal

pub returns : goal.returns
returns g c =
    let p = program_of c.args.program.now in
    let picks = c.args.picks.now in
    let r = c.in_ok-run.run' in
    run_remarked p picks r.observer c.take_all.new.self.observer c.new-texts.result c.take_all.new.out
    (c.in_ok-take_all.ensures.adds 65536 [] (first_followed HasRemarked p 65536 r (c.in_ok-run.ensures.start c.in_ok-observer.ensures)))
    ∙ ap (λ l. texts_seen l ++ said (run_reasons p picks)) c.new-texts.ensures.items
