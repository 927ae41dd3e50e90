-- Runs of bytes that pass a test.
use Rattle.std.proofs.Common.{◌≡◌, ℕ, ◌+◌, List, [], ◌∷◌, ◌++◌, length, Bool, true, cond, refl, ap, ◌∙◌, arith}
use Rattle.std.proofs.lemmas.Bool.{and_parts, and_from, not-true, not_from_false, cond_both}
use Rattle.def_text.specs.Tokens.{all_are, stops}
use Rattle.def_text.specs.Scan.{run_len}

pub run_at_stop : (p : ℕ → Bool) (rest : List ℕ) → stops p rest ≡ true → run_len p rest ≡ 0
run_at_stop p [] h = refl
run_at_stop p (b ∷ bs) h = ap (λ c. cond c (run_len p bs + 1) 0) (not-true (p b) h)

pub run_all : (p : ℕ → Bool) (ds rest : List ℕ) → all_are p ds ≡ true → stops p rest ≡ true → run_len p (ds ++ rest) ≡ length ds
run_all p [] rest h s = run_at_stop p rest s
run_all p (d ∷ ds) rest h s =
    let parts = and_parts (p d) (all_are p ds) h in
    let same = run_all p ds rest parts.1 s in
    let more : run_len p (ds ++ rest) + 1 ≡ length (d ∷ ds) = omega (arith, same) in
    ap (λ c. cond c (run_len p (ds ++ rest) + 1) 0) parts.0 ∙ more

-- the run, and what stands after it
pub record Run (p : ℕ → Bool) (bs : List ℕ) (n : ℕ) : Type 0 where
  pub front : List ℕ
  pub rest : List ℕ
  pub split : bs ≡ front ++ rest
  pub len : n ≡ length front
  pub all : all_are p front ≡ true
  pub over : stops p rest ≡ true

pub run_parts : (p : ℕ → Bool) (bs : List ℕ) → Run p bs (run_len p bs)
run_parts p [] = record { front = []; rest = []; split = refl; len = refl; all = refl; over = refl }
run_parts p (b ∷ bs) =
    let r = run_parts p bs in
    cond_both (p b) (run_len p bs + 1) 0 (λ n. Run p (b ∷ bs) n)
    (λ h. record { front = b ∷ r.front; rest = r.rest; split = ap (λ xs. b ∷ xs) r.split; len = let l = r.len in omega (arith, l); all = and_from (p b) (all_are p r.front) h r.all; over = r.over })
    (λ h. record { front = []; rest = b ∷ bs; split = refl; len = refl; all = refl; over = not_from_false (p b) h })
