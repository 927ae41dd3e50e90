use Rattle.def_wording.specs.SyntaxTexts.{of_term}
use Rattle.tn_refusal.specs.Refusals.{refusal_of}
use Rattle.complete_scripts.proofs.Fronts.{both_alike}
use Rattle.complete_scripts.proofs.OneLine.{one_line}
use Rattle.complete_scripts.proofs.lines.whole_term_line.Goals as goal

pub returns : goal.returns
returns g c =
    both_alike _ _ _ (λ v w p q. one_line of_term c.args.name.now c.args.text.now (refusal_of c.args.refusal) v.items w.items c.requires p q) c.explain_term-first.result c.explain_term-second.result c.explain_term-first.ensures
    c.explain_term-second.ensures
