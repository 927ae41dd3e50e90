use Rattle.def_fun_words.proofs.Lines.{lines_said}
use Rattle.def_fun_words.proofs.laws.lines_without_words_are_those_of_spec.Goals as goal

pub returns : goal.returns
returns c = λ d ks context. lines_said d context ks
