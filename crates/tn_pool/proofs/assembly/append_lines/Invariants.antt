use Rattle.std.proofs.Common.{◌≡◌, ◌++◌, drop, map}
use Rattle.def_run.specs.Listing.{lines_of}
use Rattle.tn_text.specs.WrittenTrees.{written_tree}
use Rattle.tn_pool.proofs.assembly.append_lines.Given as goal

abbrev pub invariant-loop-index : goal.invariant-loop-index
invariant-loop-index g l = l.text.items ++ lines_of (map written_tree (drop l.index l.messages)) ≡ l.fn.text.items ++ lines_of (map written_tree l.messages)
