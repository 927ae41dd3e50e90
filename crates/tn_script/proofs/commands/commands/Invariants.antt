use Rattle.std.proofs.Common.{◌≡◌, map}
use Rattle.std.specs.Vec.Iter.{into_iter_items}
use Rattle.def_script.specs.Shapes.{each_in, command_in}
use Rattle.tn_term.specs.Views.{tree_of}
use Rattle.tn_flags.specs.Views.{command_of}
use Rattle.tn_script.proofs.Each.{prepended}
use Rattle.tn_script.proofs.commands.commands.Given as goal

abbrev pub invariant-loop-term : goal.invariant-loop-term
invariant-loop-term g l = each_in command_in (map tree_of l.initial.term-iterator.rest.items) ≡ prepended (map (command_of) l.commands.items) (each_in command_in (map tree_of (into_iter_items l.term-iterator)))
