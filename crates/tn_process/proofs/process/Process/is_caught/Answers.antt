use Rattle.std.proofs.Common.{◌∙◌, rules, tests}
use Rattle.std.proofs.lemmas.Iterator.Adapters.{YieldsList-from_rev_slice}
use Rattle.std.proofs.lemmas.Iterator.Search.{any_from_yields_List}
use Rattle.tn_process.specs.Views.{frame_of}
use Rattle.tn_process.proofs.Exceptions.{any_caught}
use Rattle.tn_process.proofs.process.Process.is_caught.Goals as goal

pub returns : goal.returns
returns g c =
    let frames = c.args.self.now.frames.items in
    any_from_yields_List (λ f. f.by_catch) _ _ _ c.any.ensures.ran (YieldsList-from_rev_slice frames cc) (λ x b q k. search (rules, tests))
    ∙ any_caught (frame_of {A = g.row.A.Denot}) frames
