use Rattle.std.proofs.Common.{◌∙◌, sym, ap}
use Rattle.tn_spec.specs.Views.{head_seen}
use Rattle.tn_message_pattern.proofs.Readings.{only_one}
use Rattle.tn_message_pattern.proofs.reading.only_pattern.Goals as goal

pub returns-in-List : goal.returns-in-List
returns-in-List g c = λ p is. only_one {A = g.row.A.Denot} c.pop.result c.in-List.patterns.items c.in-List.patterns.len p (sym (ap (head_seen {A = g.row.A.Denot}) c.in-List.is) ∙ is) c.in-List.patterns.ok.0 c.pop.ensures.value
