use Rattle.def_explain.proofs.NearNames.{near_are_near}
use Rattle.def_explain.proofs.near_names_are_near.Goals as goal

pub returns : goal.returns
returns c = near_are_near
