use Rattle.std.proofs.Common.{◌≡◌, ℕ, List, [], ◌∷◌, ap, ap₂, ◌∙◌, map, rules}
use Rattle.def_term.specs.Tree.{Tree}
use Rattle.tn_term.proofs.Views.{tree_of_pid}
use Rattle.tn_process.specs.Views.{name_and_term}
use Rattle.tn_process.proofs.env.Env.of_process.Goals as goal

pub returns : goal.returns
returns g c =
    let x = c.in_ok-name.name in
    let v = c.in_ok-value.value in
    let items : c.push.new.self.items ≡ record { name = x; value = v } ∷ [] = search rules in
    ap (map name_and_term) items
    ∙ ap₂ (λ (m : List ℕ) (t : Tree). (m, t) ∷ []) c.in_ok-name.ensures (c.in_ok-value.ensures ∙ tree_of_pid g.row.A.Denot c.args.pid)
