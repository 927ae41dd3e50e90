use Rattle.def_trace_text.proofs.MessageLines.{one_trace}
use Rattle.def_trace_text.proofs.Refusals.{not_both, one_refusal, trace_or_refusal}
use Rattle.def_trace_text.proofs.laws.a_text_spells_one_trace.Goals as goal

pub returns : goal.returns
returns c = record { one = one_trace; refused = not_both; once = one_refusal; either = trace_or_refusal }
