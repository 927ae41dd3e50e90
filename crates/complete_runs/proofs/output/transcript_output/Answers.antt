use Rattle.std.proofs.Common.{◌≡◌, ◌∙◌, ℕ, Vec, sym}
use Rattle.def_run.specs.Listing.{program_output}
use Rattle.tn_program.specs.Views.{program_of}
use Rattle.complete_runs.proofs.Both.{both_if_ok}
use Rattle.complete_runs.proofs.output.transcript_output.Goals as goal

pub returns : goal.returns
returns g c =
    let p = program_of c.args.program.now in
    let whole = program_output p c.args.picks.now in
    both_if_ok (λ (v : Vec ℕ g.row.A.Denot). v.items ≡ whole) (λ (v : Vec ℕ g.row.A.Denot). v.items ≡ whole) (λ v w. v.items ≡ w.items) (λ v w d e. d ∙ sym e)
    c.transcript_output-first.result c.transcript_output-second.result
    (c.transcript_output-first.ensures c.args.picks.now c.requires.one) (c.transcript_output-second.ensures c.args.picks.now c.requires.other)
