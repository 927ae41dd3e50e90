use Rattle.complete_fun_words.proofs.Answers.{worded_alike}
use Rattle.complete_fun_words.proofs.answer.answer_in_words.Goals as goal

pub returns : goal.returns
returns g c =
    worded_alike c.args.question.now c.args.one.now.bytes.now c.args.other.now.bytes.now _ _ c.requires c.answer_in_words.ensures c.answer_in_words-2.ensures
