use Rattle.def_formats.proofs.OutputSections as lemmas
use Rattle.def_formats.proofs.sections_are_of_the_run.Goals as goal

pub returns : goal.returns
returns c = lemmas.sections_are_of_the_run
