use Rattle.std.proofs.Common.{◌∙◌, ◌++◌, map, reverse, ap}
use Rattle.def_state.specs.ProcessTexts.{oldest_function}
use Rattle.tn_process.specs.Views.{frame_of}
use Rattle.tn_script.specs.Views.{functions_of}
use Rattle.tn_term.specs.Views.{tree_of}
use Rattle.tn_state.proofs.process.oldest_terms.Goals as goal

pub returns : goal.returns
returns g c =
    c.in_ok-push_oldest.ensures
    ∙ ap (λ ts. map tree_of ts ++ oldest_function (functions_of c.args.functions.now) (reverse (map frame_of c.args.frames.now))) c.new-terms.ensures.items
