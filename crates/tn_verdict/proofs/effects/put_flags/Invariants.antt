use Rattle.std.proofs.Common.{◌≡◌, ◌++◌, drop}
use Rattle.tn_text.specs.Writes.{Grows}
use Rattle.tn_verdict.specs.Effects.{said_of}
use Rattle.tn_verdict.proofs.effects.put_flags.Given as goal

abbrev pub invariant-loop-name : goal.invariant-loop-name
invariant-loop-name g l = record {
  written : l.out.items ++ said_of l.verb (drop l.name-index l.name-items) ≡ l.fn.out.items ++ said_of l.verb l.name-items;
  grows : Grows l.fn.out.items l.out.items;
}
