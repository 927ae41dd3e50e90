use Rattle.std.proofs.Common.{◌≡◌, ◌++◌, ◌≤◌, length, drop}
use Rattle.def_picture.specs.Templates.{fill}
use Rattle.tn_picture.proofs.templates.put_filled.Given as goal

abbrev pub invariant-loop-byte : goal.invariant-loop-byte
invariant-loop-byte g l = record {
  within : l.next ≤ length l.numbers;
  written : l.out.items ++ fill (drop l.byte-index l.template) (drop l.next l.numbers) ≡ l.fn.out.items ++ fill l.template l.numbers;
}
