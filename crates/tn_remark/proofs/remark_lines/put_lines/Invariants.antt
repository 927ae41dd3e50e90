use Rattle.std.proofs.Common.{◌≡◌, ◌++◌, drop}
use Rattle.tn_remark.specs.TextLines.{lines_of_texts, texts_seen}
use Rattle.tn_remark.proofs.remark_lines.put_lines.Given as goal

abbrev pub invariant-loop-place : goal.invariant-loop-place
invariant-loop-place g l =
    l.out.items ++ lines_of_texts l.name l.text l.starts l.place (texts_seen (drop l.place l.texts.items)) ≡ l.initial.out.items ++ lines_of_texts l.name l.text l.starts 0 (texts_seen l.texts.items)
