use Rattle.std.proofs.Common.{◌∙◌, ◌≡◌, [], sym, ap}
use Rattle.tn_program.specs.Views.{program_of}
use Rattle.tn_trace.specs.Cores.{core_of}
use Rattle.complete_runs.proofs.Both.{both_if_ok}
use Rattle.complete_runs.proofs.run_core.new.Goals as goal

pub returns : goal.returns
returns g c =
    both_if_ok (λ v. v ≡ core_of (program_of c.args.one) []) (λ v. v ≡ core_of (program_of c.args.other) []) (λ v w. v ≡ w)
    (λ v w k l. k ∙ ap (λ p. core_of p []) c.requires ∙ sym l) _ _ c.new-first.ensures c.new-second.ensures
