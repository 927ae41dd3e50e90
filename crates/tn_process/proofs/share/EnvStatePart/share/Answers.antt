use Rattle.std.proofs.Common.{ap, sym, ◌∙◌, map}
use Rattle.def_term.specs.Names.{Name}
use Rattle.def_term.specs.Tree.{Tree}
use Rattle.def_script.specs.Shapes.{are_distinct}
use Rattle.tn_process.specs.Views.{name_and_term}
use Rattle.tn_process.proofs.Templates.{map_twice}
use Rattle.tn_process.proofs.share.EnvStatePart.share.Goals as goal

pub invariant_of-result : goal.invariant_of-result
invariant_of-result g c =
    let name : Name × Tree → Name = λ p. p.0 in
    let old = c.args.self.now.values.items in
    let new = c.in_ok-values.values.items in
    record { once = ap are_distinct (map_twice name_and_term name new ∙ ap (map name) c.in_ok-values.ensures ∙ sym (map_twice name_and_term name old)) ∙ c.args.self.now.once }
