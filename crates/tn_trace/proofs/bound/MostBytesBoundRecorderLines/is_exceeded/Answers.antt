use Rattle.std.proofs.Common.{◌<◌, IsTrue, ◌↔◌, subst}
use Rattle.tn_trace.specs.Transcripts.{bytes_in_all, slot_lines}
use Rattle.tn_trace.proofs.Bounds.{longer_or_not}
use Rattle.tn_trace.proofs.bound.MostBytesBoundRecorderLines.is_exceeded.Goals as goal

pub returns : goal.returns
returns g c =
    subst (λ slots. IsTrue c.is_longer.result ↔ (c.args.self.now.bytes < bytes_in_all (slot_lines slots))) c.deref.ensures.value
    (longer_or_not c.is_longer.result c.args.self.now.bytes (bytes_in_all (slot_lines c.deref.result.now)) c.is_longer.ensures.longer c.is_longer.ensures.within)
