use Rattle.std.proofs.Common.{◌≡◌, ◌+◌, drop}
use Rattle.std.specs.List.{prefix_len}
use Rattle.def_text.specs.Tokens.{is_blank}
use Rattle.tn_trace_text.proofs.error_map.blanks_length.Given as goal

-- the bytes before this one are blanks
abbrev pub invariant-loop-i : goal.invariant-loop-i
invariant-loop-i l = l.i + prefix_len is_blank (drop l.i l.text) ≡ prefix_len is_blank l.text
