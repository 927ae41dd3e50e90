use Rattle.std.proofs.Common.{◌∙◌, sym, ap}
use Rattle.std.specs.Option.{option_map}
use Rattle.def_run.specs.Listing.{messages}
use Rattle.tn_trace.specs.Cores.{CoreValue, creation_numbered}
use Rattle.complete_runs.proofs.SameSteps.{read_of, is_listed}
use Rattle.complete_runs.proofs.run_core.listing.Goals as goal

pub returns : goal.returns
returns g c =
    let n = c.args.session in
    is_listed c.args.one.now.program n c.args.one.now.journal _ c.listing.ensures.listing c.listing.ensures.spent
    ∙ ap (λ (v : CoreValue). read_of v.journal (λ picks. option_map (λ s. messages s.0 v.program picks) (creation_numbered v.program n))) c.requires
    ∙ sym (is_listed c.args.other.now.program n c.args.other.now.journal _ c.listing-2.ensures.listing c.listing-2.ensures.spent)
