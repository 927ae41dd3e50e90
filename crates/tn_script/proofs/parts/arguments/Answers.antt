use Rattle.std.proofs.Common.{ap, ◌∙◌, arith}
use Rattle.std.specs.Option.{option_map}
use Rattle.def_script.specs.Shapes.{and_then, if_few, list_in}
use Rattle.tn_term.specs.Views.{tree_of}
use Rattle.tn_script.specs.Views.{args_of}
use Rattle.tn_script.proofs.OfTerms.{args_of_few, args_of_many}
use Rattle.tn_script.proofs.parts.arguments.Goals as goal

pub returns-in_err-terms : goal.returns-in_err-terms
returns-in_err-terms g c = ap (option_map (args_of {A = g.row.A.Denot})) c.from_residual.ensures ∙ ap (λ o. and_then o if_few) c.in_err-terms.ensures

pub returns-then-len-le-ARGUMENTS : goal.returns-then-len-le-ARGUMENTS
returns-then-len-le-ARGUMENTS g c = args_of_few {A = g.row.A.Denot} c.in_ok-terms.terms.items (list_in (tree_of {A = g.row.A.Denot} c.args.term)) (omega arith) c.in_ok-terms.ensures

pub returns-else-len-le-ARGUMENTS : goal.returns-else-len-le-ARGUMENTS
returns-else-len-le-ARGUMENTS g c = args_of_many {A = g.row.A.Denot} c.in_ok-terms.terms.items (list_in (tree_of {A = g.row.A.Denot} c.args.term)) (omega arith) c.in_ok-terms.ensures
