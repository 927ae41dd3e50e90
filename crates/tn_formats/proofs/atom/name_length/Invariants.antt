use Rattle.std.proofs.Common.{◌≡◌, ◌+◌, drop}
use Rattle.std.specs.List.{prefix_len}
use Rattle.def_term.specs.Text.{is_name_byte}
use Rattle.tn_formats.proofs.atom.name_length.Given as goal

-- all bytes so far are those of a bare atom
abbrev pub invariant-loop-i : goal.invariant-loop-i
invariant-loop-i l = prefix_len is_name_byte l.text ≡ l.i + prefix_len is_name_byte (drop l.i l.text)
