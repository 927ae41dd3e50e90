use Rattle.std.proofs.Common.{◌∙◌, ◌++◌, ap, codes}
use Rattle.def_trap.specs.Actions.{action_name}
use Rattle.def_term.specs.Text.{w}
use Rattle.tn_term.specs.Views.{tree_of}
use Rattle.tn_spec.specs.Views.{action_of}
use Rattle.tn_trap.proofs.Pieces.{four_pieces}
use Rattle.tn_trap.proofs.text.put_no_flag.Goals as goal

pub returns-clause-ok : goal.returns-clause-ok
returns-clause-ok g c =
    four_pieces c.args.out.now.items (action_name (action_of c.args.action)) (codes " has no effect, ") (w (tree_of c.args.term.now)) (codes " is no flag") _ _ _ _
    (c.in_ok-extend_from_slice.ensures.items ∙ ap (λ l. c.args.out.now.items ++ l) c.action_name.ensures)
    c.in_ok-extend_from_slice-2.ensures.items c.in_ok-write_term.ensures.ok c.in_ok-extend_from_slice-3.ensures.items
