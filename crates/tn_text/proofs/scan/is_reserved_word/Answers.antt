use Rattle.std.proofs.Common.{sym}
use Rattle.std.proofs.lemmas.Bool.{false_from_ne_true}
use Rattle.tn_text.proofs.AsciiWords.{reserved_utf8}
use Rattle.tn_text.proofs.scan.is_reserved_word.Goals as goal

pub returns-in-Err : goal.returns-in-Err
returns-in-Err c = sym (false_from_ne_true _ (λ e. c.in-Err.ensures.cases.0 (reserved_utf8 c.args.bytes.now e)))
