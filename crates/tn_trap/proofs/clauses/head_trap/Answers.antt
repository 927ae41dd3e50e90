use Rattle.std.proofs.Common.{◌∙◌, sym, ap}
use Rattle.def_trap.specs.Traps.{head_trap, length_trap}
use Rattle.tn_spec.specs.Views.{head_seen}
use Rattle.tn_trap.proofs.Firsts.{counted}
use Rattle.tn_trap.proofs.clauses.head_trap.Goals as goal

pub returns-in-List : goal.returns-in-List
returns-in-List g c =
    c.length_trap.ensures
    ∙ ap (length_trap c.args.lengths.now) (c.len.ensures ∙ c.in-List.patterns.ok.0 ∙ counted c.in-List.patterns.items)
    ∙ ap (λ h. head_trap c.args.lengths.now (head_seen h)) (sym c.in-List.is)
