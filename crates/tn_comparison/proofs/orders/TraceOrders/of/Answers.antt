use Rattle.std.proofs.Common.{◌∙◌, ◌++◌, ◌∷◌, [], ℕ, List, ap, map}
use Rattle.std.specs.Prelude.{filter}
use Rattle.def_term.specs.Tree.{Tree}
use Rattle.def_explore.specs.Rests.{is_of_process}
use Rattle.tn_renaming.specs.Pairs.{lent_term_seen, lent_terms_seen}
use Rattle.tn_term.specs.Views.{tree_of}
use Rattle.tn_comparison.proofs.orders.TraceOrders.of.Goals as goal

pub returns : goal.returns
returns g c =
    let ms = map (tree_of {A = g.row.P.Denot}) c.args.messages.now in
    let same = ap (map lent_term_seen) c.deref-2.ensures.value ∙ c.in_ok-list.ensures in
    record {
      all = ap (map lent_terms_seen) (c.in_ok-push.ensures.items ∙ ap (λ xs. xs ++ c.in_ok-list.list ∷ []) c.new-all.ensures.items) ∙ ap (λ l. l ∷ []) c.in_ok-list.ensures;
      by_process = c.in_ok-by_process.ensures ∙ ap (λ (xs : List Tree). map (λ n. filter (is_of_process n) xs) c.deref.result.now) same ∙ ap (map (λ (n : ℕ). filter (is_of_process n) ms)) (c.deref.ensures.value ∙ c.in_ok-processes.ensures);
    }
