use Rattle.std.proofs.Common.{sym}
use Rattle.tn_term.specs.Views.{tree_of}
use Rattle.complete_specs.proofs.Readings.{specs_alike}
use Rattle.complete_specs.proofs.spec.spec_of.Goals as goal

pub returns : goal.returns
returns g c =
    specs_alike c.args.dialect (tree_of c.args.one.now) (tree_of c.args.other.now) c.spec_of.result c.spec_of-2.result (sym c.requires)
    c.spec_of.ensures.read c.spec_of.ensures.size c.spec_of-2.ensures.read c.spec_of-2.ensures.size
