use Rattle.complete_scripts.proofs.Fronts.{both_alike, one_offset}
use Rattle.complete_scripts.proofs.places.offset.Goals as goal

pub returns : goal.returns
returns g c = both_alike _ _ _ (one_offset c.args.text.now c.args.form c.requires) c.form_offset.result c.form_offset-2.result c.form_offset.ensures c.form_offset-2.ensures
