-- Entries that are looked up, and those of several random runs.
use Rattle.std.proofs.Common.{◌≡◌, ◌∙◌, ℕ, zero, suc, ◌+◌, ◌-◌, ◌<◌, ◌≤◌, ◌==◌, ◌||◌, Bool, true, false, cond, List, [], ◌∷◌, ◌++◌, length, ap, sym, refl, Some, arith}
use Rattle.std.specs.Prelude.{is_some}
use Rattle.std.specs.List.{list_any}
use Rattle.std.specs.Map.{lookup}
use Rattle.std.specs.declared.vec.Vec.{Vec}
use Rattle.std.proofs.lemmas.Bool.{eqb-true}
use Rattle.def_run.specs.Round.{is_empty}
use Rattle.def_explore.specs.Rests.{KeptMessages}
use Rattle.def_explore.specs.Answers.{RestEntry}
use Rattle.def_random_run.specs.Numbers.{next_seed, seed_mixture}
use Rattle.def_random_run.specs.RandomRuns.{is_at_rest, random_run}
use Rattle.def_random_run.specs.RandomEntries.{keep_same, states_through, states_of, random_runs, random_states, with_entry, with_journals, random_entries}
use Rattle.def_random_run.proofs.KeptSame.{keep_same_is, keep_same_itself}
use Rattle.def_random_run.proofs.RandomRuns.{run_is_bounded}
use Rattle.tn_explore.specs.Query.{Query, entry_for, kept_for}
use Rattle.tn_explore.specs.SearchStates.{EqualsByKept}
use Rattle.tn_explore.specs.Searches.{answer_entry, answer_entries}
use Rattle.tn_explore.proofs.Lists.{map_both}
use Rattle.tn_random_run.specs.RandomStates.{AreMovingFor, with_journal_for, IsRandomSearch}
use Rattle.tn_random_run.specs.declared.search.RandomPlan.{RandomPlan}

both_ways : (b : Bool) → b ≡ true → b ≡ false → ⊥
both_ways b h k = cc

-- ---- one entry

module _ {M : Type 0} (eq : M → M → Bool) (Seen : M → KeptMessages) (by_kept : EqualsByKept eq Seen) (m : M) where
  -- the test of what is kept answers as that of the definitions does
  test_is : (n : M) → eq m n ≡ keep_same (Seen m) (Seen n)
  test_is n = by_test (eq m n) refl (keep_same (Seen m) (Seen n)) refl
    where
      by_test : (b : Bool) → eq m n ≡ b → (d : Bool) → keep_same (Seen m) (Seen n) ≡ d → b ≡ d
      by_test true e d f = sym (keep_same_itself (Seen m)) ∙ ap (keep_same (Seen m)) ((by_kept m n).0 e) ∙ f
      by_test false e true f = sym e ∙ (by_kept m n).1 (keep_same_is (Seen m) (Seen n) f)
      by_test false e false f = refl

  -- it is found where one of the entries keeps the same
  lookup_is : {A : Type 0} (pairs : List (M × Vec ℕ A)) → is_some (lookup (eq m) pairs) ≡ list_any (λ f. keep_same (Seen m) f.kept) (answer_entries Seen pairs)
  lookup_is [] = refl
  lookup_is (pair ∷ pairs) = by_first (eq m pair.0) ∙ ap (λ b. eq m pair.0 || b) (lookup_is pairs) ∙ ap (λ b. b || list_any (λ f. keep_same (Seen m) f.kept) (answer_entries Seen pairs)) (test_is pair.0)
    where
      by_first : (b : Bool) → is_some (cond b (Some pair.1) (lookup (eq m) pairs)) ≡ b || is_some (lookup (eq m) pairs)
      by_first true = refl
      by_first false = refl

  module _ {A : Type 0} (a : Query) (journal : List ℕ) (keeps : Seen m ≡ kept_for a journal) (pairs : List (M × Vec ℕ A)) where
    found : (b : Bool) → is_some (lookup (eq m) pairs) ≡ b → list_any (λ f. keep_same (kept_for a journal) f.kept) (answer_entries Seen pairs) ≡ b
    found b is = ap (λ (k : KeptMessages). list_any (λ f. keep_same k f.kept) (answer_entries Seen pairs)) (sym keeps) ∙ sym (lookup_is pairs) ∙ is

    pub entry_stays : is_some (lookup (eq m) pairs) ≡ true → answer_entries Seen pairs ≡ with_entry (answer_entries Seen pairs) (entry_for a journal)
    entry_stays is = sym (ap (λ b. cond b (answer_entries Seen pairs) (answer_entries Seen pairs ++ entry_for a journal ∷ [])) (found true is))

    pub entry_more : (new : List (M × Vec ℕ A)) (v : Vec ℕ A) → is_some (lookup (eq m) pairs) ≡ false → new ≡ pairs ++ (m, v) ∷ [] → v.items ≡ journal
        → answer_entries Seen new ≡ with_entry (answer_entries Seen pairs) (entry_for a journal)
    entry_more new v is longer same =
        ap (answer_entries Seen) longer ∙ map_both (answer_entry Seen) pairs ((m, v) ∷ [])
        ∙ (λ i. answer_entries Seen pairs ++ record { kept = keeps i; journal = same i } ∷ [])
        ∙ sym (ap (λ b. cond b (answer_entries Seen pairs) (answer_entries Seen pairs ++ entry_for a journal ∷ [])) (found false is))

-- ---- at rest

-- some are empty where they have no length
empty_by : (moving : List ℕ) (n : ℕ) → length moving ≡ n → is_empty moving ≡ (n == 0)
empty_by [] n long = ap (λ m. m == 0) long
empty_by (k ∷ ks) n long = by_test (n == 0) refl
  where
    by_test : (b : Bool) → (n == 0) ≡ b → false ≡ b
    by_test false e = refl
    by_test true e = let none : n ≡ 0 = eqb-true n 0 e in absurd (omega arith)

module _ (a : Query) (picks journal moving : List ℕ) (n : ℕ) (are : AreMovingFor a picks journal moving) (long : length moving ≡ n) where
  rest_is : (b : Bool) → (n == 0) ≡ b → is_at_rest a.program picks journal ≡ b
  rest_is b is = ap is_empty (sym are) ∙ empty_by moving n long ∙ is

  pub not_at_rest : (es : List RestEntry) → (n == 0) ≡ false → es ≡ with_journal_for a picks es journal
  not_at_rest es is = sym (ap (λ b. cond b (with_entry es (entry_for a journal)) es) (rest_is false is))

  pub at_rest : (es fs : List RestEntry) → (n == 0) ≡ true → fs ≡ with_entry es (entry_for a journal) → fs ≡ with_journal_for a picks es journal
  at_rest es fs is more = more ∙ sym (ap (λ b. cond b (with_entry es (entry_for a journal)) es) (rest_is true is))

-- ---- several runs

abbrev runs_left : Query → (first picks : List ℕ) → RandomPlan → (i seed count : ℕ) → List (List ℕ)
runs_left a first picks plan i seed count = random_runs a.program picks first (plan.runs - i) seed (plan.max_states - count)

-- the runs that are left go on from these entries and states
pub record RunsOn (a : Query) (first picks : List ℕ) (plan : RandomPlan) (i seed count : ℕ) (es : List RestEntry) : Type 0 where
  pub entries : with_journals a.question a.sessions a.program picks es (runs_left a first picks plan i seed count) ≡ random_entries a.question a.sessions a.program picks first plan.runs plan.seed plan.max_states
  pub states : count + states_of first (runs_left a first picks plan i seed count) ≡ random_states a.program picks first plan.runs plan.seed plan.max_states
  pub bounded : count ≤ plan.max_states

module _ (a : Query) (first picks : List ℕ) (plan : RandomPlan) where
  pub runs_start : RunsOn a first picks plan 0 plan.seed 0 []
  runs_start =
      let runs : plan.runs - 0 ≡ plan.runs = omega arith in
      let room : plan.max_states - 0 ≡ plan.max_states = omega arith in
      let all : runs_left a first picks plan 0 plan.seed 0 ≡ random_runs a.program picks first plan.runs plan.seed plan.max_states = λ i. random_runs a.program picks first (runs i) plan.seed (room i) in
      record {
        entries = ap (with_journals a.question a.sessions a.program picks []) all;
        states = let counted = ap (states_of first) all in omega arith;
        bounded = omega arith;
      }

  module _ (i seed count : ℕ) (es : List RestEntry) (on : RunsOn a first picks plan i seed count es) where
    search_of : runs_left a first picks plan i seed count ≡ [] → IsRandomSearch a first picks plan es count false
    search_of none = record {
      entries = sym (ap (with_journals a.question a.sessions a.program picks es) none) ∙ on.entries;
      states = let last : states_of first (runs_left a first picks plan i seed count) ≡ 0 = ap (states_of first) none in let all = on.states in omega arith;
      part = refl;
    }

    no_room : (runs : ℕ) → random_runs a.program picks first runs seed 0 ≡ []
    no_room zero = refl
    no_room (suc runs) = refl

    pub room_ends : plan.max_states ≤ count → IsRandomSearch a first picks plan es count false
    room_ends past =
        let room : plan.max_states - count ≡ 0 = omega arith in
        search_of (ap (random_runs a.program picks first (plan.runs - i) seed) room ∙ no_room (plan.runs - i))

    pub runs_end : plan.runs ≤ i → IsRandomSearch a first picks plan es count false
    runs_end past =
        let left : plan.runs - i ≡ 0 = omega arith in
        search_of (ap (λ runs. random_runs a.program picks first runs seed (plan.max_states - count)) left)

    pub run_more : (journal : List ℕ) (moves next new : ℕ) (fs : List RestEntry) → i < plan.runs → count < plan.max_states → moves + 1 ≡ plan.max_states - count
        → journal ≡ random_run a.program picks moves (seed_mixture seed) first → next ≡ next_seed seed → new ≡ count + states_through first journal → fs ≡ with_journal_for a picks es journal
        → RunsOn a first picks plan (i + 1) next new fs
    run_more journal moves next new fs below free room is seeds counts adds =
        let drawn : List ℕ = random_run a.program picks moves (seed_mixture seed) first in
        let left : plan.runs - i ≡ suc (plan.runs - (i + 1)) = omega arith in
        let states_left : plan.max_states - count ≡ suc moves = omega arith in
        let long : length journal ≡ length drawn = ap length is in
        let short : length drawn ≤ length first + moves = run_is_bounded a.program picks moves (seed_mixture seed) first in
        let later : suc moves - states_through first drawn ≡ plan.max_states - new = omega arith in
        let one : runs_left a first picks plan i seed count ≡ journal ∷ runs_left a first picks plan (i + 1) next new =
        (λ k. random_runs a.program picks first (left k) seed (states_left k)) ∙ (λ k. sym is k ∷ random_runs a.program picks first (plan.runs - (i + 1)) (sym seeds k) (later k)) in
        record {
          entries = ap (λ gs. with_journals a.question a.sessions a.program picks gs (runs_left a first picks plan (i + 1) next new)) adds
              ∙ sym (ap (with_journals a.question a.sessions a.program picks es) one) ∙ on.entries;
          states = let counted = ap (states_of first) one in let all = on.states in omega arith;
          bounded = omega arith;
        }
