use Rattle.std.proofs.Common.{◌≡◌, ap, sym, ◌∙◌, [], ◌∷◌, map, rules}
use Rattle.def_node.specs.Values.{params_bound}
use Rattle.tn_term.specs.SharedTree.{shared_tree}
use Rattle.tn_process.specs.Views.{env_of}
use Rattle.tn_process.proofs.Acts.{none_bound}
use Rattle.tn_process.proofs.env.Env.bind_next.Goals as goal

pub returns-in-None : goal.returns-in-None
returns-in-None g c ps =
    let before : c.args.args.now.items ≡ [] = search rules in
    let after : c.pop_front.new.self.items ≡ [] = search rules in
    ap (λ ts. params_bound (env_of c.args.self.now) ps (map shared_tree ts)) after ∙ none_bound (env_of c.args.self.now) ps
    ∙ sym (ap (λ ts. params_bound (env_of c.args.self.now) (c.args.param.now ∷ ps) (map shared_tree ts)) before)
