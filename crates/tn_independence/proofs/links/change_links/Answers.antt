use Rattle.std.proofs.Common.{◌∙◌}
use Rattle.tn_script.specs.Views.{functions_of}
use Rattle.tn_independence.proofs.EitherLinks.{all_kinds}
use Rattle.tn_independence.proofs.links.change_links.Goals as goal

pub returns : goal.returns
returns g c = c.have_changes.ensures ∙ all_kinds (functions_of c.args.functions.now)
