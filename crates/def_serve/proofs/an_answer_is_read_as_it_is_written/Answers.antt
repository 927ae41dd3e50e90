use Rattle.def_serve.proofs.AnswerTexts.{answer_is_read, error_is_read, text_is_kept}
use Rattle.def_serve.proofs.an_answer_is_read_as_it_is_written.Goals as goal

pub returns : goal.returns
returns c = record { answer = answer_is_read; error = error_is_read; text = text_is_kept }
