-- The rest of a random run goes on from its states.
use Rattle.std.proofs.Common.{◌≡◌, ◌∙◌, ℕ, suc, ◌+◌, ◌-◌, ◌<◌, ◌≤◌, true, false, List, [], ◌∷◌, ◌++◌, ap, sym, subst, Some, None, arith}
use Rattle.std.specs.Prelude.{Option, unwrap_or}
use Rattle.std.specs.Option.{option_map}
use Rattle.def_random_run.specs.Numbers.{next_seed, seed_number}
use Rattle.def_random_run.specs.RandomRuns.{random_pick, random_run}
use Rattle.tn_explore.specs.Query.{Query}
use Rattle.tn_random_run.specs.RandomStates.{IsMoveOf, IsRandomState}

-- the rest of the run goes on from this state and seed
pub record GoesOn {S : Type 0} (Journal : S → List ℕ) (IsOf : S → Query → Type 0) (a : Query) (picks : List ℕ) (n seed i last : ℕ) (first s : S) : Type 0 where
  pub is_of : IsOf s a
  pub same : random_run a.program picks (n - i) last (Journal s) ≡ random_run a.program picks n seed (Journal first)

module _ {S : Type 0} (Journal : S → List ℕ) (IsOf : S → Query → Type 0) (a : Query) (picks : List ℕ) (n seed : ℕ) (first : S) where
  pub starts : IsOf first a → GoesOn Journal IsOf a picks n seed 0 seed first first
  starts is_of = let all : n - 0 ≡ n = omega arith in record { is_of = is_of; same = ap (λ m. random_run a.program picks m seed (Journal first)) all }

  module _ (i last next number : ℕ) (s t : S) (seeds : next ≡ next_seed last) (gives : number ≡ seed_number next) where
    one_move_left : (o : Option ℕ) → i < n → random_pick a.program picks (Journal s) number ≡ o
        → random_run a.program picks (n - i) last (Journal s) ≡ unwrap_or (option_map (λ pick. random_run a.program picks (n - (i + 1)) next (Journal s ++ pick ∷ [])) o) (Journal s)
    one_move_left o below drawn =
        let more : n - i ≡ suc (n - (i + 1)) = omega (arith, below) in
        rw more (
        ap (λ m. unwrap_or (option_map (λ pick. random_run a.program picks (n - (i + 1)) (next_seed last) (Journal s ++ pick ∷ [])) m) (Journal s)) (ap (random_pick a.program picks (Journal s)) (ap seed_number (sym seeds) ∙ sym gives) ∙ drawn)
        ∙ ap (λ m. unwrap_or (option_map (λ pick. random_run a.program picks (n - (i + 1)) m (Journal s ++ pick ∷ [])) o) (Journal s)) (sym seeds)
        )

    pub moves_on : i < n → GoesOn Journal IsOf a picks n seed i last first s → IsMoveOf Journal IsOf a picks number s t true → GoesOn Journal IsOf a picks n seed (i + 1) next first t
    moves_on below old (pick, drawn, more) = record {
      is_of = more.is_of;
      same = ap (random_run a.program picks (n - (i + 1)) next) more.longer ∙ sym (one_move_left (Some pick) below drawn) ∙ old.same;
    }

    pub stops : i < n → GoesOn Journal IsOf a picks n seed i last first s → IsMoveOf Journal IsOf a picks number s t false → IsRandomState Journal IsOf a picks n seed first t
    stops below old none = record {
      is_of = subst (λ u. IsOf u a) (sym none.1) old.is_of;
      journal = ap Journal none.1 ∙ sym (one_move_left None below none.0) ∙ old.same;
    }

  pub ends : (i last : ℕ) (s : S) → n ≤ i → GoesOn Journal IsOf a picks n seed i last first s → IsRandomState Journal IsOf a picks n seed first s
  ends i last s past old =
      let zero_left : n - i ≡ 0 = omega (arith, past) in
      record { is_of = old.is_of; journal = ap (λ m. random_run a.program picks m last (Journal s)) (sym zero_left) ∙ old.same }
