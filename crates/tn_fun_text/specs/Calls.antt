-- What a name with so many arguments is printed as.
use Rattle.def_fun.specs.FunTexts as texts
use Rattle.tn_fun.specs.Tokens.{operator_seen}
use Rattle.tn_fun_text.specs.declared.printed_call.PrintedCall.{PrintedCall}
use Rattle.tn_fun_text.specs.declared.printed_call.PrintedCall.TheVariants as calls

abbrev pub printed_call_seen : PrintedCall → texts.PrintedCall
printed_call_seen (calls.Between o) = texts.prints_between (operator_seen o)
printed_call_seen (calls.Before o) = texts.prints_before (operator_seen o)
printed_call_seen calls.Call = texts.prints_call
printed_call_seen calls.Nothing = texts.prints_nothing
