use Rattle.std.proofs.Common.{◌≡◌, ◌++◌, ◌+◌, map, drop}
use Rattle.def_node.specs.Node.{partner_pids}
use Rattle.def_term.specs.Tree.{pid}
use Rattle.tn_term.specs.Views.{tree_of}
use Rattle.tn_state.proofs.process.links_term.Given as goal

abbrev pub invariant-loop-place : goal.invariant-loop-place
invariant-loop-place g l = map tree_of l.pids.items ++ map pid (partner_pids (100 + l.place) (drop l.place l.links)) ≡ map pid (partner_pids 100 l.links)
