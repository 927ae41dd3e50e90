use Rattle.std.proofs.Common.{sym, subst}
use Rattle.std.specs.Option.{option_map}
use Rattle.def_script.specs.Program.{Program}
use Rattle.def_script.specs.Exports.{exports_of}
use Rattle.def_running_node.specs.NodeComparisons.{comparison_at_start}
use Rattle.tn_program.specs.Views.{program_of}
use Rattle.tn_running_node.specs.Comparisons.{IsComparison}
use Rattle.complete_running_node.specs.SameComparisons.{StandForOne}
use Rattle.complete_running_node.proofs.Both.{if_both}
use Rattle.complete_running_node.proofs.comparison.new.Goals as goal

pub returns : goal.returns
returns g c =
    let name = option_map (λ s. s.now) c.args.session in
    let p = program_of c.args.one.now in
    if_both c.new.result c.new-2.result _ _ (λ x y. StandForOne x y)
    (λ x y h i. record {
      exports = exports_of p;
      compared = comparison_at_start name p;
      one_is = h;
      other_is = subst (λ (q : Program). IsComparison (exports_of q) (comparison_at_start name q) y) (sym c.requires) i;
    })
    c.new.ensures c.new-2.ensures
