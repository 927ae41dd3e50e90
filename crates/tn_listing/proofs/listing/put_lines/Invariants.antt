use Rattle.std.proofs.Common.{◌≡◌, ◌++◌, drop, map}
use Rattle.def_run.specs.Listing.{lines_of}
use Rattle.tn_text.specs.WrittenTrees.{written_tree}
use Rattle.tn_text.specs.Writes.{Grows}
use Rattle.tn_listing.proofs.listing.put_lines.Given as goal

abbrev pub invariant-loop-message : goal.invariant-loop-message
invariant-loop-message g l = record {
  written : l.out.items ++ lines_of (map written_tree (drop l.message-index l.messages)) ≡ l.fn.out.items ++ lines_of (map written_tree l.messages);
  grows : Grows l.fn.out.items l.out.items;
}
