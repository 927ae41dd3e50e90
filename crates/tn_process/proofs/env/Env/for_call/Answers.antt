use Rattle.std.proofs.Common.{◌≡◌, ap, ap₂, sym, ◌∙◌, [], ◌∷◌, ◌+◌, map, drop, codes, arith, rules}
use Rattle.std.proofs.lemmas.List.{drop_more}
use Rattle.def_term.specs.Tree as Tree
use Rattle.def_node.specs.Values.{params_bound, Env}
use Rattle.tn_term.specs.SharedTree.{shared_tree}
use Rattle.tn_process.specs.Views.{env_of}
use Rattle.tn_process.proofs.env.Env.for_call.Goals as goal

pub loop-param-init : goal.loop-param-init
loop-param-init g c =
    let base : Env = (codes "Self", Tree.pid c.args.pid) ∷ [] in
    let ts : c.from-args.result.items ≡ c.args.args.items = search rules in
    ap (λ env. params_bound env c.deref-param-items.result.now (map shared_tree c.from-args.result.items)) c.in_ok-env.ensures
    ∙ ap₂ (λ ps us. params_bound base ps (map shared_tree us)) c.deref-param-items.ensures.value ts

pub loop-param-preserved : goal.loop-param-preserved
loop-param-preserved g c =
    let xs = c.deref-param-items.result.now in
    let i = c.loop-param.param-index in
    let more = drop_more xs i c.param-item.result (omega arith) ∙ ap (λ z. z ∷ drop (i + 1) xs) (sym c.param-item.is) in
    c.in_ok-bind_next.ensures (drop (i + 1) xs) ∙ sym (ap (λ ps. params_bound (env_of c.loop-param.env) ps (map shared_tree c.loop-param.args.items)) more) ∙ c.loop-param.invariant
