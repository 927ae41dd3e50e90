use Rattle.def_serve.proofs.AnswerLines.{answer_is_a_line, error_is_a_line}
use Rattle.def_serve.proofs.an_answer_is_one_line.Goals as goal

pub returns : goal.returns
returns c = record { answer = answer_is_a_line; error = error_is_a_line }
