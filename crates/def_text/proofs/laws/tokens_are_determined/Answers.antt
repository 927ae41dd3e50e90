use Rattle.def_text.proofs.Unique.{same_tokens}
use Rattle.def_text.proofs.TokensExist.{tokens_exist}
use Rattle.def_text.proofs.laws.tokens_are_determined.Goals as goal

pub returns : goal.returns
returns c = record { one = same_tokens 0; some = tokens_exist }
