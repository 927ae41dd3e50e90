-- Runs are followed, and end, alike after picks that lead to the same state.
use Rattle.std.proofs.Common.{◌∙◌, inl, inr, ℕ, List, [], ◌∷◌, ◌++◌, Bool, ap}
use Rattle.def_term.specs.Names.{Name}
use Rattle.def_script.specs.Program.{Program}
use Rattle.def_explore.specs.Rests.{RunQuestion, KeptMessages}
use Rattle.def_explore.specs.Alike.{IsStateAlike}
use Rattle.def_explore.specs.RunsToEnd.{IsFollowed, IsEndAfter, IsRunToEnd}
use Rattle.def_explore.proofs.Alike.{goes_on, idle_alike}

module _ (admits : KeptMessages → Bool) (q : RunQuestion) (ss : List Name) (p : Program) where
  pub end_alike : (a b : List ℕ) → IsStateAlike q ss p a b → IsEndAfter admits q ss p b → IsEndAfter admits q ss p a
  end_alike a b alike (inl rests) = inl (λ pick. idle_alike q ss p a b pick alike (rests pick))
  end_alike a b alike (inr out) = inr (ap admits alike.kept ∙ out)

  pub followed_alike : (more a b : List ℕ) → IsStateAlike q ss p a b → IsFollowed admits q ss p b more → IsFollowed admits q ss p a more
  followed_alike [] a b alike h = tt
  followed_alike (pick ∷ more) a b alike h = (ap admits alike.kept ∙ h.0, followed_alike more (a ++ pick ∷ []) (b ++ pick ∷ []) (goes_on q ss p a b (pick ∷ []) alike) h.1)

  pub run_alike : (more a b : List ℕ) → IsStateAlike q ss p a b → IsRunToEnd admits q ss p b more → IsRunToEnd admits q ss p a more
  run_alike more a b alike h = record {
    followed = followed_alike more a b alike h.followed;
    ends = end_alike (a ++ more) (b ++ more) (goes_on q ss p a b more alike) h.ends;
  }
