use Rattle.std.proofs.Common.{◌∙◌, map, sym, ap}
use Rattle.def_run.specs.Listing.{replies}
use Rattle.tn_text.specs.WrittenTrees.{written_tree}
use Rattle.tn_trace.specs.Cores.{CoreValue}
use Rattle.complete_runs.proofs.SameSteps.{read_of, is_read}
use Rattle.complete_runs.proofs.run_core.replies.Goals as goal

pub returns : goal.returns
returns g c =
    is_read (λ v. map written_tree v.now) c.args.one.now.journal (replies c.args.one.now.program) _ c.replies.ensures.replies c.replies.ensures.spent
    ∙ ap (λ (v : CoreValue). read_of v.journal (replies v.program)) c.requires
    ∙ sym (is_read (λ v. map written_tree v.now) c.args.other.now.journal (replies c.args.other.now.program) _ c.replies-2.ensures.replies c.replies-2.ensures.spent)
