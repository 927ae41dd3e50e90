use Rattle.tn_fun.proofs.AsciiNames.{first_symbol, no_first_symbol}
use Rattle.tn_fun.proofs.scan.symbol_within.Goals as goal

pub returns-in-Some-clause-value : goal.returns-in-Some-clause-value
returns-in-Some-clause-value c = first_symbol c.args.bytes.now c.args.most c.min-len.result _ c.min-len.ensures (c.in-Some.ensures c.args.bytes.now)

pub returns-in-None-clause-value : goal.returns-in-None-clause-value
returns-in-None-clause-value c = no_first_symbol c.args.bytes.now c.args.most c.min-len.result c.min-len.ensures (c.in-None.ensures c.args.bytes.now)
