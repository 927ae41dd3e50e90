-- The greedy run, where it shows a trace, and the search where it doesn't.
use Rattle.std.proofs.Common.{◌≡◌, ℕ, Bool, true, false, List, refl, subst, sym}
use Rattle.std.specs.Option.{is_some, option_map}
use Rattle.std.specs.Prelude.{Option, Some, None}
use Rattle.def_script.specs.Program.{Program}
use Rattle.def_compare.specs.Traces.{TraceQuestion}
use Rattle.tn_exploration.specs.Searches.{greedy_run_in_order, IsRunBySearch, IsRunElse, IsRunInOrder}

-- what is made of something is there where that is
pub is_there : {X Y : Type 0} (f : X → Y) (o : Option X) (b : Bool) → is_some o ≡ b → is_some (option_map f o) ≡ b
is_there f None b e = e
is_there f (Some x) b e = e

module _ (a : TraceQuestion) (p : Program) (before places : List ℕ) (max_states : ℕ) where
  pub greedy_found : (o : Option (List ℕ × ℕ)) → greedy_run_in_order a p before places max_states ≡ o → is_some o ≡ true → IsRunInOrder a p before places max_states o
  greedy_found None e some = absurd (cc)
  greedy_found (Some run) e some = subst (λ x. IsRunElse a p before places max_states x (Some run)) (sym e) refl

  pub greedy_not_found : (o found : Option (List ℕ × ℕ)) → greedy_run_in_order a p before places max_states ≡ o → is_some o ≡ false → IsRunBySearch a p before places max_states found → IsRunInOrder a p before places max_states found
  greedy_not_found None found e none h = subst (λ x. IsRunElse a p before places max_states x found) (sym e) h
  greedy_not_found (Some run) found e none h = absurd (cc)
