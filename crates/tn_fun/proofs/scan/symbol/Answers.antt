use Rattle.tn_fun.proofs.AsciiNames.{longest_of_three, longest_of_two, longest_of_one}
use Rattle.tn_fun.proofs.scan.symbol.Goals as goal

pub returns-in-Some-clause-value : goal.returns-in-Some-clause-value
returns-in-Some-clause-value c = longest_of_three c.args.bytes.now _ c.in-Some.ensures.value

pub returns-in-Some-symbol_within-clause-value : goal.returns-in-Some-symbol_within-clause-value
returns-in-Some-symbol_within-clause-value c = longest_of_two c.args.bytes.now _ c.in_default.ensures.value c.in-Some-symbol_within.ensures.value

pub returns-clause-value : goal.returns-clause-value
returns-clause-value c = longest_of_one c.args.bytes.now _ c.in_default.ensures.value c.in_default-symbol_within.ensures.value c.symbol_within-3.ensures.value
