use Rattle.std.proofs.Common.{◌≡◌, drop}
use Rattle.def_term.specs.Text.{are_name_bytes}
use Rattle.tn_text.proofs.name.all_name_bytes.Given as goal

abbrev pub invariant-loop-b : goal.invariant-loop-b
invariant-loop-b l = are_name_bytes (drop l.b-index l.bytes) ≡ are_name_bytes l.bytes
