use Rattle.std.proofs.Common.{sym}
use Rattle.tn_fun.proofs.AsciiNames.{no_symbol}
use Rattle.tn_fun.proofs.scan.symbol_of_bytes.Goals as goal

pub returns-in-Ok : goal.returns-in-Ok
returns-in-Ok c = λ all. rw c.in-Ok.ensures.cases.0 at (c.symbol_of.ensures all)

pub returns-in-Err : goal.returns-in-Err
returns-in-Err c = λ all. sym (no_symbol c.args.bytes.now (λ t. c.in-Err.ensures.cases.0 t))
