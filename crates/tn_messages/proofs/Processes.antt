-- One more message, by process.
use Rattle.std.proofs.Common.{◌≡◌, ◌∙◌, ℕ, zero, suc, ◌+◌, ◌-◌, ◌<◌, ◌≤◌, Bool, true, false, List, [], ◌∷◌, ◌++◌, get_or, refl, ap, arith, cond, nat_lt, Option, Some, None}
use Rattle.std.specs.Prelude.{filter, ◌==◌}
use Rattle.std.proofs.Math.ListN.{set}
use Rattle.std.proofs.lemmas.Bool.Decides.{nat_tests}
use Rattle.def_term.specs.Tree.{Tree, int, atom, pid, tuple, list, none, more}
use Rattle.def_run.specs.Round.{pass_from}
use Rattle.def_explore.specs.Rests.{message_process, is_of_process, each_process, all_pids}
use Rattle.tn_messages.specs.MessageViews.{pid_place, message_place}

-- whether a message is of a process, by the process that it is of
abbrev is_process : Option ℕ → ℕ → Bool
is_process None n = false
is_process (Some m) n = m == n

pub of_process : (n : ℕ) (t : Tree) → is_of_process n t ≡ is_process (message_process t) n
of_process n (int m) = refl
of_process n (atom s) = refl
of_process n (pid m) = refl
of_process n (list ts) = refl
of_process n (tuple none) = refl
of_process n (tuple (more t none)) = refl
of_process n (tuple (more t (more (int m) ts))) = refl
of_process n (tuple (more t (more (atom m) ts))) = refl
of_process n (tuple (more t (more (pid m) ts))) = refl
of_process n (tuple (more t (more (tuple m) ts))) = refl
of_process n (tuple (more t (more (list m) ts))) = refl

-- one more that passes a test, or doesn't
passed_more : {X : Type 0} (p : X → Bool) (xs : List X) (x : X) → p x ≡ true → filter p (xs ++ x ∷ []) ≡ filter p xs ++ x ∷ []
passed_more p [] x h = ap (λ b. cond b (x ∷ []) []) h
passed_more p (y ∷ xs) x h = go (passed_more p xs x h) (p y)
  where
    go : filter p (xs ++ x ∷ []) ≡ filter p xs ++ x ∷ [] → (b : Bool) → cond b (y ∷ filter p (xs ++ x ∷ [])) (filter p (xs ++ x ∷ [])) ≡ cond b (y ∷ filter p xs) (filter p xs) ++ x ∷ []
    go rest true = ap (λ zs. y ∷ zs) rest
    go rest false = rest

missed_more : {X : Type 0} (p : X → Bool) (xs : List X) (x : X) → p x ≡ false → filter p (xs ++ x ∷ []) ≡ filter p xs
missed_more p [] x h = ap (λ b. cond b (x ∷ []) []) h
missed_more p (y ∷ xs) x h = go (missed_more p xs x h) (p y)
  where
    go : filter p (xs ++ x ∷ []) ≡ filter p xs → (b : Bool) → cond b (y ∷ filter p (xs ++ x ∷ [])) (filter p (xs ++ x ∷ [])) ≡ cond b (y ∷ filter p xs) (filter p xs)
    go rest true = ap (λ zs. y ∷ zs) rest
    go rest false = rest

-- of none of these processes
missed_all : (ms : List Tree) (m : Tree) (k n : ℕ) → ((j : ℕ) → j < k → is_of_process (n + j) m ≡ false) → each_process (pass_from k n) (ms ++ m ∷ []) ≡ each_process (pass_from k n) ms
missed_all ms m zero n h = refl
missed_all ms m (suc k) n h =
    let here : is_of_process n m ≡ false = ap (λ x. is_of_process x m) (omega arith) ∙ h 0 (omega arith) in
    let rest : each_process (pass_from k (n + 1)) (ms ++ m ∷ []) ≡ each_process (pass_from k (n + 1)) ms = missed_all ms m k (n + 1) (λ j below. ap (λ x. is_of_process x m) (omega arith) ∙ h (suc j) (omega arith)) in
    ap (λ xs. xs ∷ each_process (pass_from k (n + 1)) (ms ++ m ∷ [])) (missed_more (is_of_process n) ms m here) ∙ ap (λ xss. filter (is_of_process n) ms ∷ xss) rest

-- of the one at this place
passed_one : (ms : List Tree) (m : Tree) (k n i : ℕ) → i < k → ((j : ℕ) → is_of_process j m ≡ (n + i == j)) → each_process (pass_from k n) (ms ++ m ∷ []) ≡ set (each_process (pass_from k n) ms) i (get_or (each_process (pass_from k n) ms) i [] ++ m ∷ [])
passed_one ms m zero n i below h = absurd (omega arith)
passed_one ms m (suc k) n zero below h =
    let here : is_of_process n m ≡ true = h n ∙ grind (arith, nat_tests) in
    ap (λ xs. xs ∷ each_process (pass_from k (n + 1)) (ms ++ m ∷ [])) (passed_more (is_of_process n) ms m here)
    ∙ ap (λ xss. (filter (is_of_process n) ms ++ m ∷ []) ∷ xss) (missed_all ms m k (n + 1) (λ j less. h (n + 1 + j) ∙ grind (arith, nat_tests)))
passed_one ms m (suc k) n (suc i) below h =
    let here : is_of_process n m ≡ false = h n ∙ grind (arith, nat_tests) in
    ap (λ xs. xs ∷ each_process (pass_from k (n + 1)) (ms ++ m ∷ [])) (missed_more (is_of_process n) ms m here)
    ∙ ap (λ xss. filter (is_of_process n) ms ∷ xss) (passed_one ms m k (n + 1) i (omega arith) (λ j. h j ∙ ap (λ x. x == j) (omega arith)))

-- ---- with its place

none_of : (o : Option ℕ) → pid_place o ≡ None → (j : ℕ) → j < 64 → is_process o (100 + j) ≡ false
none_of None e j below = refl
none_of (Some n) e j below = elim (nat_lt n 100) as (λ b. nat_lt n 100 ≡ b → cond b None (cond (nat_lt (n - 100) 64) (Some (n - 100)) None) ≡ None → (n == 100 + j) ≡ false) [
  | true ↦ λ low same. grind (arith, nat_tests, low)
  | false ↦ λ low same. elim (nat_lt (n - 100) 64) as (λ b. nat_lt (n - 100) 64 ≡ b → cond b (Some (n - 100)) None ≡ None → (n == 100 + j) ≡ false) [
    | true ↦ λ high again. cc
    | false ↦ λ high again. grind (arith, nat_tests, low, high)
  ] refl same
] refl e

some_of : (o : Option ℕ) (i : ℕ) → pid_place o ≡ Some i → (i < 64) × ((j : ℕ) → is_process o j ≡ (100 + i == j))
some_of None i e = cc
some_of (Some n) i e = elim (nat_lt n 100) as (λ b. nat_lt n 100 ≡ b → cond b None (cond (nat_lt (n - 100) 64) (Some (n - 100)) None) ≡ Some i → (i < 64) × ((j : ℕ) → (n == j) ≡ (100 + i == j))) [
  | true ↦ λ low same. cc
  | false ↦ λ low same. elim (nat_lt (n - 100) 64) as (λ b. nat_lt (n - 100) 64 ≡ b → cond b (Some (n - 100)) None ≡ Some i → (i < 64) × ((j : ℕ) → (n == j) ≡ (100 + i == j))) [
    | true ↦ λ high again.
        let at : n - 100 ≡ i = cc in
        let least : 100 ≤ n = grind (arith, nat_tests, low) in
        let most : n - 100 < 64 = grind (arith, nat_tests, high) in
        let is : n ≡ 100 + i = omega arith in
        (omega arith, λ j. ap (λ x. x == j) is)
    | false ↦ λ high again. cc
  ] refl same
] refl e

pub none_more : (ms : List Tree) (m : Tree) → message_place m ≡ None → each_process all_pids (ms ++ m ∷ []) ≡ each_process all_pids ms
none_more ms m e = missed_all ms m 64 100 (λ j below. of_process (100 + j) m ∙ none_of (message_process m) e j below)

pub one_more : (ms : List Tree) (m : Tree) (i : ℕ) → message_place m ≡ Some i → (i < 64) × (each_process all_pids (ms ++ m ∷ []) ≡ set (each_process all_pids ms) i (get_or (each_process all_pids ms) i [] ++ m ∷ []))
one_more ms m i e = let h : (i < 64) × ((j : ℕ) → is_process (message_process m) j ≡ (100 + i == j)) = some_of (message_process m) i e in (h.0, passed_one ms m 64 100 i h.0 (λ j. of_process j m ∙ h.1 j))
