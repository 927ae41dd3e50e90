-- Two steps of one node.
use Rattle.std.proofs.Common.{◌≡◌, ◌∙◌, ℕ, Option, None, Some, Result, Ok, Err, IfOk, IsErr, refl, sym, ap, subst}
use Rattle.std.specs.Option.{IsSomeAnd}
use Rattle.def_node.specs.Node.{pick_result}
use Rattle.tn_node.specs.Nodes.{NodeValue, next_node, moved_seen}
use Rattle.tn_node.specs.declared.step_outcome.Moved.{Moved}

-- what a pick gives in the node
abbrev Steps : {A : Type 0} → Option NodeValue → ℕ → Option NodeValue → Moved A → Type 0
Steps node pick new m = IsSomeAnd node (λ n. next_node n (pick_result n.functions n.commands n.state pick) ≡ (new, moved_seen m))

same_answers : {A : Type 0} (node : Option NodeValue) (pick : ℕ) (one other : Option NodeValue) (m k : Moved A)
    → Steps node pick one m → Steps node pick other k → (one ≡ other) × (moved_seen m ≡ moved_seen k)
same_answers None pick one other m k h i = absurd h
same_answers (Some n) pick one other m k h i = (ap (λ r. r.0) (sym h ∙ i), ap (λ r. r.1) (sym h ∙ i))

pub same_steps : {A E : Type 0} {node same : Option NodeValue} (pick : ℕ) (one other : Option NodeValue) (r q : Result (Moved A) E) → node ≡ same
    → IfOk r (Steps node pick one) → IfOk q (Steps same pick other) → IfOk r (λ m. IfOk q (λ k. (one ≡ other) × (moved_seen m ≡ moved_seen k)))
same_steps pick one other (Ok m) (Ok k) e h i = same_answers _ pick one other m k h (subst (λ n. Steps n pick other k) (sym e) i)
same_steps pick one other (Ok m) (Err e) same h i = tt
same_steps pick one other (Err e) q same h i = tt

pub spent_fails : {A E : Type 0} {node : Option NodeValue} (pick : ℕ) (new : Option NodeValue) (r : Result (Moved A) E) → node ≡ None → IfOk r (Steps node pick new) → IsErr r
spent_fails pick new (Ok m) e h = absurd (subst (λ n. Steps n pick new m) e h)
spent_fails pick new (Err x) e h = refl
