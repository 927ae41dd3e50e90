use Rattle.def_explore.proofs.Settings.{commands_determine}
use Rattle.def_explore.proofs.commands_determine_settings.Goals as goal

pub returns : goal.returns
returns c = commands_determine
