use Rattle.std.proofs.Common.{rules}
use Rattle.tn_formats.proofs.AsciiLemmas.{utf8_of_ascii}
use Rattle.tn_formats.proofs.values.ascii_text.Goals as goal

pub returns-in-Err : goal.returns-in-Err
returns-in-Err c = absurd (c.in-Err.ensures.cases.0 (utf8_of_ascii c.args.bytes.now (search rules)))
