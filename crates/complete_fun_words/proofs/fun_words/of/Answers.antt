use Rattle.complete_fun_words.proofs.Words.{words_alike}
use Rattle.complete_fun_words.proofs.fun_words.of.Goals as goal

pub returns : goal.returns
returns g c = words_alike c.args.bytes.now _ _ c.of.ensures c.of-2.ensures
