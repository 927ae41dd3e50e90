use Rattle.std.proofs.Common.{sym, ap, ◌∙◌}
use Rattle.tn_fun.specs.Scan.{word_named}
use Rattle.tn_fun.proofs.AsciiNames.{no_word, bare_word, named_word}
use Rattle.tn_fun.proofs.scan.word.Goals as goal

pub returns-in-Some : goal.returns-in-Some
returns-in-Some c = λ all. named_word c.args.bytes.now _ (rw c.in-Ok.ensures.cases.0 at (c.in-Some.ensures all))

pub returns-in-None : goal.returns-in-None
returns-in-None c = λ all. bare_word c.args.bytes.now (ap word_named (sym c.in-Ok.ensures.cases.0) ∙ sym (c.in-None.ensures all))

pub returns-in-Err : goal.returns-in-Err
returns-in-Err c = λ all. bare_word c.args.bytes.now (no_word c.args.bytes.now (λ t. c.in-Err.ensures.cases.0 t))
