-- How a worker's turns end.
use Rattle.std.proofs.Common.{◌≡◌, ◌∙◌, ℕ, Bool, true, false, not, cond, List, [], ◌∷◌, ◌++◌, length, Option, Some, None, IfSome, IsSome, is_some, ◌⊎◌, inl, inr, Err, sym, refl, ap, subst}
use Rattle.std.specs.Option.{option_to_list}
use Rattle.std.proofs.lemmas.Bool.{false≢true}
use Rattle.def_run.specs.Run.{JOURNAL}
use Rattle.def_turns.specs.Turns.{list_without}
use Rattle.def_turns.specs.Moments.{TakesTurn, FindsNoTurn}
use Rattle.def_turns.proofs.Counts.{equal-self}
use Rattle.def_script.specs.Program.{Program}
use Rattle.tn_live.specs.States.{SeatState}
use Rattle.tn_live.specs.SeatTurns.{SeatTurns}
use Rattle.tn_trace.specs.declared.item.StepFault.{StepFault}
use Rattle.tn_trace.specs.declared.item.StepFault.TheVariants.{LimitReached, Spent, OutOfMemory}
use Rattle.tn_pool.specs.declared.report.PoolFault.{PoolFault}
use Rattle.tn_pool.specs.declared.report.PoolFault.TheVariants.{Step, Memory}
use Rattle.tn_pool.specs.declared.worker.Worker.{Worker}
use Rattle.tn_pool.specs.Endings.{IsNoFullJournal, ending_fault, first_fault, IsReady, IsAccounted, WorkerStepsOn, GivesBack, TurnsOn}

-- a step that ends its worker
pub step_ends : (A : Type 0) (p : Program) (s t : SeatState) (pick : ℕ) (answer : StepFault) (o : Option PoolFault) → SeatTurns {A = A} p s pick (Err answer) t → o ≡ ending_fault answer
    → ((length t.seen ≡ JOURNAL) × (o ≡ None)) ⊎ ((fault : PoolFault) × (o ≡ Some fault) × IsNoFullJournal fault)
step_ends A p s t pick LimitReached o turn e = inl (turn.2, e)
step_ends A p s t pick Spent o turn e = inr (Step Spent, e, tt)
step_ends A p s t pick OutOfMemory o turn e = inr (Step OutOfMemory, e, tt)

-- what is left where the one slot is taken out
without-one : (x : ℕ) → list_without x (x ∷ []) ≡ []
without-one x = ap (λ b. cond (not b) (x ∷ []) []) (equal-self x)

module _ {A J : Type 0} where
  -- who is ready is accounted for
  pub still_accounted : (held : List ℕ) (w : Worker A J) → IsReady held w → IsAccounted held w
  still_accounted held w r = record {
    holds_kept = r.holds_none ∙ ap option_to_list (sym r.keeps_none);
    faulted = subst (λ o. IsSome o → IsSome w.fault) (sym r.keeps_none) (λ has. absurd (false≢true has));
    real = subst (λ o. IfSome o IsNoFullJournal) (sym r.unfailed) tt;
  }

  -- with a fault and no token
  pub faulted_without : (held : List ℕ) (w : Worker A J) (fault : PoolFault) → held ≡ [] → w.kept ≡ None → w.fault ≡ Some fault → IsNoFullJournal fault → TurnsOn false held w
  faulted_without held w fault h k f real = (
    record {
      holds_kept = h ∙ ap option_to_list (sym k);
      faulted = λ kept. ap is_some f;
      real = subst (λ o. IfSome o IsNoFullJournal) (sym f) real;
    },
    inr (ap is_some f),
  )

  -- with a token that couldn't be given back
  faulted_with : (held : List ℕ) (w : Worker A J) (x : ℕ) (fault : PoolFault) → held ≡ x ∷ [] → w.kept ≡ Some x → w.fault ≡ Some fault → IsNoFullJournal fault → TurnsOn false held w
  faulted_with held w x fault h k f real = (
    record {
      holds_kept = h ∙ ap option_to_list (sym k);
      faulted = λ kept. ap is_some f;
      real = subst (λ o. IfSome o IsNoFullJournal) (sym f) real;
    },
    inr (ap is_some f),
  )

  -- ---- a turn

  -- no memory for a receipt
  pub turned_without_room : (held : List ℕ) (v w : Worker A J) → w.kept ≡ v.kept → w.fault ≡ Some Memory → IsReady held v → TurnsOn false held w
  turned_without_room held v w k f r = faulted_without held w Memory r.holds_none (k ∙ r.keeps_none) f tt

  -- no token in the queue
  pub turned_without_token : (held held' : List ℕ) (v w : Worker A J) → FindsNoTurn held held' → w.kept ≡ v.kept → w.fault ≡ v.fault → IsReady held v → TurnsOn true held' w
  turned_without_token held held' v w finds k f r = record { holds_none = finds.stays ∙ r.holds_none; keeps_none = k ∙ r.keeps_none; unfailed = f ∙ r.unfailed }

  module _ (x : ℕ) (held held1 held2 : List ℕ) (v w1 w2 : Worker A J) (none : held ≡ []) (free : v.kept ≡ None) (well : v.fault ≡ None) (takes : TakesTurn held x held1) (seat : w2.seat ≡ w1.seat) where
    taken : held1 ≡ x ∷ []
    taken = takes.step.gains ∙ ap (λ l. l ++ x ∷ []) none

    given : GivesBack true x held1 w1 held2 w2 → held2 ≡ []
    given gives = gives.0.step.loses ∙ ap (list_without x) taken ∙ without-one x

    kept-none : w1.kept ≡ v.kept → GivesBack true x held1 w1 held2 w2 → w2.kept ≡ None
    kept-none k gives = gives.1 ∙ k ∙ free

    fault-or : (o : Option PoolFault) → w1.fault ≡ o → GivesBack false x held1 w1 held2 w2 → w2.fault ≡ first_fault o (Some Memory)
    fault-or o f gives = gives.2 ∙ ap (λ p. first_fault p (Some Memory)) f

    -- why the step ended the worker
    abbrev Cause : Type 0
    Cause = ((length w1.seat.seen ≡ JOURNAL) × (w1.fault ≡ None)) ⊎ ((fault : PoolFault) × (w1.fault ≡ Some fault) × IsNoFullJournal fault)

    ended-given : w1.kept ≡ v.kept → Cause → GivesBack true x held1 w1 held2 w2 → TurnsOn false held2 w2
    ended-given k (inl full) gives =
        let ready : IsReady held2 w2 = record { holds_none = given gives; keeps_none = kept-none k gives; unfailed = gives.2 ∙ full.1 } in
        (still_accounted held2 w2 ready, inl (ap (λ (s : SeatState). length s.seen) seat ∙ full.0))
    ended-given k (inr failed) gives = faulted_without held2 w2 failed.0 (given gives) (kept-none k gives) (gives.2 ∙ failed.1) failed.2

    ended-kept : Cause → GivesBack false x held1 w1 held2 w2 → TurnsOn false held2 w2
    ended-kept (inl full) gives = faulted_with held2 w2 x Memory (gives.0 ∙ taken) gives.1 (fault-or None full.1 gives) tt
    ended-kept (inr failed) gives = faulted_with held2 w2 x failed.0 (gives.0 ∙ taken) gives.1 (fault-or (Some failed.0) failed.1 gives) failed.2

    -- the token was given back
    pub turned_given : (goes_on : Bool) → WorkerStepsOn goes_on v w1 → GivesBack true x held1 w1 held2 w2 → TurnsOn goes_on held2 w2
    turned_given true steps gives = record { holds_none = given gives; keeps_none = kept-none steps.0 gives; unfailed = gives.2 ∙ steps.1 ∙ well }
    turned_given false steps gives = ended-given steps.0 steps.1 gives

    -- it came back
    pub turned_kept : (goes_on : Bool) → WorkerStepsOn goes_on v w1 → GivesBack false x held1 w1 held2 w2 → TurnsOn false held2 w2
    turned_kept true steps gives = faulted_with held2 w2 x Memory (gives.0 ∙ taken) gives.1 (fault-or None (steps.1 ∙ well) gives) tt
    turned_kept false steps gives = ended-kept steps.1 gives

-- ---- faults of many

pub first_of_three : (a b c : Option PoolFault) → first_fault (first_fault a b) c ≡ first_fault a (first_fault b c)
first_of_three None b c = refl
first_of_three (Some fault) b c = refl

pub some_first : (a b : Option PoolFault) → IsSome a → IsSome (first_fault a b)
some_first None b has = absurd (false≢true has)
some_first (Some fault) b has = refl

pub some_later : (a b : Option PoolFault) → IsSome b → IsSome (first_fault a b)
some_later None b has = has
some_later (Some fault) b has = refl

pub both_real : (a b : Option PoolFault) → IfSome a IsNoFullJournal → IfSome b IsNoFullJournal → IfSome (first_fault a b) IsNoFullJournal
both_real None b h i = i
both_real (Some fault) b h i = h
