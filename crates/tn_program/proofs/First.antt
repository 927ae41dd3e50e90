-- The first form that breaks a rule, form by form; and how many processes are started where none does.
use Rattle.std.proofs.Common.{◌≡◌, ℕ, suc, ◌+◌, ◌≤◌, nat_le, Bool, true, false, ◌||◌, cond, List, [], ◌∷◌, ◌++◌, length, take, drop, map, Option, Some, None, refl, lit≤, arith}
use Rattle.std.specs.List.{count_by, list_any}
use Rattle.std.proofs.lemmas.List.Sums.{sum_by_push}
use Rattle.std.proofs.lemmas.Bool.Decides.{nat_tests}
use Rattle.def_script.specs.Program.{Form, declares, starts, controls}
use Rattle.def_script.specs.Rules as rules
use Rattle.def_script.specs.Rules.{Rule, is_process, first_passing, rule_broken, breaks, or_later, first_broken, first_broken_from, entries_of}

abbrev pub FirstSo : {X : Type 0} (f : X → Form) (xs : List X) (i : ℕ) → Type 0
FirstSo f xs i = first_broken (map f xs) ≡ first_broken_from (map f xs) (map f (take i xs)) (map f (drop i xs))

or_none : (n : ℕ) (o : Option Rule) (later : Option (ℕ × Rule)) → or_later n o later ≡ None → (o ≡ None) × (later ≡ None)
or_none n None later e = (refl, e)
or_none n (Some r) later e = cc

some_is_none : {X : Type 0} (P : Type 0) (x : X) → Some x ≡ None → P
some_is_none P x e = cc

none_pass : {X : Type 0} (p : X → Bool) (xs : List X) → first_passing p xs ≡ None → list_any p xs ≡ false
none_pass p [] e = refl
none_pass p (x ∷ xs) e = elim (p x) as (λ b. cond b (Some x) (first_passing p xs) ≡ None → (b || list_any p xs) ≡ false) [ true ↦ λ h. some_is_none (true ≡ false) x h | false ↦ λ h. none_pass p xs h ] e

or_right : (a b : Bool) → (a || b) ≡ false → b ≡ false
or_right true b e = cc
or_right false b e = e

or_left : (a : Bool) → (a || false) ≡ false → a ≡ false
or_left true e = e
or_left false e = e

limit_kept : (fs earlier : List Form) (f : Form) → rule_broken fs earlier f ≡ None → breaks fs earlier f rules.past_limit ≡ false
limit_kept fs earlier f e =
    let p = breaks fs earlier f in
    or_left (p rules.past_limit) (or_right (p rules.wrong_arity) _ (or_right (p rules.tracer_taken) _ (or_right (p rules.unbound) _ (or_right (p rules.not_exported) _ (or_right (p rules.undeclared) _ (or_right (p rules.duplicate) _ (none_pass p rules.rules e)))))))

room_left : (n : ℕ) → nat_le 16 n ≡ false → n + 1 ≤ 16
room_left n e = grind (arith, nat_tests, e)

few_from : (fs earlier rest : List Form) → first_broken_from fs earlier rest ≡ None → count_by is_process earlier ≤ 16 → length (entries_of rest) + count_by is_process earlier ≤ 16
few_from fs earlier [] e few = omega (arith, few)
few_from fs earlier (declares k ∷ rest) e few =
    let more : count_by is_process (earlier ++ declares k ∷ []) ≡ count_by is_process earlier + 0 = sum_by_push (λ f. cond (is_process f) 1 0) earlier (declares k) in
    let later = (or_none (suc (length earlier)) (rule_broken fs earlier (declares k)) (first_broken_from fs (earlier ++ declares k ∷ []) rest) e).1 in
    let ih : length (entries_of rest) + count_by is_process (earlier ++ declares k ∷ []) ≤ 16 = few_from fs (earlier ++ declares k ∷ []) rest later (omega (arith, more, few)) in
    omega (arith, ih, more)
few_from fs earlier (starts n ∷ rest) e few =
    let more : count_by is_process (earlier ++ starts n ∷ []) ≡ count_by is_process earlier + 1 = sum_by_push (λ f. cond (is_process f) 1 0) earlier (starts n) in
    let both = or_none (suc (length earlier)) (rule_broken fs earlier (starts n)) (first_broken_from fs (earlier ++ starts n ∷ []) rest) e in
    let room : count_by is_process earlier + 1 ≤ 16 = room_left (count_by is_process earlier) (limit_kept fs earlier (starts n) both.0) in
    let ih : length (entries_of rest) + count_by is_process (earlier ++ starts n ∷ []) ≤ 16 = few_from fs (earlier ++ starts n ∷ []) rest both.1 (omega (arith, more, room)) in
    omega (arith, ih, more)
few_from fs earlier (controls cs ∷ rest) e few =
    let more : count_by is_process (earlier ++ controls cs ∷ []) ≡ count_by is_process earlier + 0 = sum_by_push (λ f. cond (is_process f) 1 0) earlier (controls cs) in
    let later = (or_none (suc (length earlier)) (rule_broken fs earlier (controls cs)) (first_broken_from fs (earlier ++ controls cs ∷ []) rest) e).1 in
    let ih : length (entries_of rest) + count_by is_process (earlier ++ controls cs ∷ []) ≤ 16 = few_from fs (earlier ++ controls cs ∷ []) rest later (omega (arith, more, few)) in
    omega (arith, ih, more)

-- at most 16 processes are started where no form breaks a rule
pub few_processes : (fs : List Form) → first_broken fs ≡ None → length (entries_of fs) ≤ 16
few_processes fs e = let h : length (entries_of fs) + 0 ≤ 16 = few_from fs [] fs e (lit≤ tt) in omega (arith, h)
