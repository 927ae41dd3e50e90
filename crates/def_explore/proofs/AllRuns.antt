-- Where each run is followed, entries of runs to their ends are those of all runs to rest.
use Rattle.std.proofs.Common.{◌≡◌, inl, inr, ℕ, List, [], ◌∷◌, ◌++◌, true, false, refl, sym, subst}
use Rattle.def_term.specs.Names.{Name}
use Rattle.def_script.specs.Program.{Program}
use Rattle.def_run.specs.Run.{moves}
use Rattle.def_explore.specs.Rests.{IsRestAfter, RunQuestion}
use Rattle.def_explore.specs.Answers.{RestEntry, IsRestEntry}
use Rattle.def_explore.specs.RunsToEnd.{IsFollowed, IsEndAfter, IsRunToEnd, IsEndEntry, all_runs}
use Rattle.def_explore.specs.Laws.{AllRunsAreSound, AllRunsAreComplete, AllRunsAreShortest}
use Rattle.def_explore.proofs.Lists.{each_also}

true_is_not_false : true ≡ false → ⊥
true_is_not_false h = cc

module _ (q : RunQuestion) (ss : List Name) (p : Program) where
  all_followed : (picks more : List ℕ) → IsFollowed all_runs q ss p picks more
  all_followed picks [] = tt
  all_followed picks (pick ∷ more) = (refl, all_followed (picks ++ pick ∷ []) more)

  end_is_rest : (picks : List ℕ) → IsEndAfter all_runs q ss p picks → IsRestAfter p picks
  end_is_rest picks (inl rests) = rests
  end_is_rest picks (inr out) = absurd (true_is_not_false out)

  run_to_end : (picks more : List ℕ) → IsRestAfter p (picks ++ more) → IsRunToEnd all_runs q ss p picks more
  run_to_end picks more rests = record { followed = all_followed picks more; ends = inl rests }

  rest_entry : (before : List ℕ) (e : RestEntry) → IsEndEntry all_runs q ss p before e → IsRestEntry q ss p before e
  rest_entry before e h = record { from = h.from; rests = subst (IsRestAfter p) (sym h.from.goes_on) (end_is_rest (moves p before ++ h.from.more) h.ends.ends); keeps = h.keeps }

pub all_are_sound : AllRunsAreSound
all_are_sound q ss p before es h = each_also (IsEndEntry all_runs q ss p before) (IsRestEntry q ss p before) es (rest_entry q ss p before) h

pub all_are_complete : AllRunsAreComplete
all_are_complete q ss p before es h more rests = h more (run_to_end q ss p before more rests)

pub all_are_shortest : AllRunsAreShortest
all_are_shortest q ss p before es h more rests = h more (run_to_end q ss p before more rests)
