use Rattle.std.proofs.Common.{arith}
use Rattle.tn_spec.proofs.Tuples.{further_counted}
use Rattle.tn_verdict.proofs.spec_reason_texts.further_count.Goals as goal

pub returns : goal.returns
returns g c = let stored = c.args.terms.now.ok.0 in further_counted c.args.terms.now.items c.saturating_sub.result (omega arith)
