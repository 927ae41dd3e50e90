use Rattle.std.proofs.Common.{◌≤◌, ◌-◌, length}
use Rattle.tn_text.proofs.Listing.{ListedTo}
use Rattle.tn_text.proofs.lexer.tokens.Given as goal

abbrev pub invariant-loop-at : goal.invariant-loop-at
invariant-loop-at g l = record {
  within : l.at ≤ length l.bytes;
  listed : ListedTo l.bytes l.at l.found.items;
}

abbrev pub decreases-loop-at : goal.decreases-loop-at
decreases-loop-at g l = length l.bytes - l.at
