-- The first broken rule that is computed is the lowest-numbered form's least.
use Rattle.std.proofs.Common.{◌≡◌, ℕ, suc, ◌+◌, ◌≤◌, ◌==◌, Bool, true, false, cond, List, [], ◌∷◌, ◌++◌, length, Option, Some, None, refl, sym, ap, ap₂, subst, ◌∙◌, append_assoc, length-append, if◌then◌else◌, ◌⊎◌, inl, inr, lit≤, arith}
use Rattle.std.proofs.lemmas.List.{append-nil}
use Rattle.def_script.specs.Program.{Form}
use Rattle.def_script.specs.Rules.{Rule, duplicate, undeclared, not_exported, unbound, tracer_taken, wrong_arity, past_limit, rule_number, rules, breaks, Breaks, IsFirstBroken, first_passing, rule_broken, or_later, first_broken, first_broken_from}

-- ---- one form

some_none : {X : Type 0} (P : Type 0) (x : X) → Some x ≡ None → P
some_none P x e = cc

none_some : {X : Type 0} (P : Type 0) (x : X) → None ≡ Some x → P
none_some P x e = cc

the_same : {X : Type 0} (x y : X) → Some x ≡ Some y → x ≡ y
the_same x y e = cc

false_true : (P : Type 0) → false ≡ true → P
false_true P e = cc

pass_found : {X : Type 0} (p : X → Bool) (xs : List X) (r : X) → first_passing p xs ≡ Some r → p r ≡ true
pass_found p [] r e = none_some (p r ≡ true) r e
pass_found p (x ∷ xs) r e =
    elim (p x) as (λ b. p x ≡ b → cond b (Some x) (first_passing p xs) ≡ Some r → p r ≡ true) [
      | true ↦ λ h f. ap p (sym (the_same x r f)) ∙ h
      | false ↦ λ h f. pass_found p xs r f
    ] refl e

-- it stands in the list
abbrev pub Among : Rule → List Rule → Type 0
Among q [] = ⊥
Among q (x ∷ xs) = (q ≡ x) ⊎ Among q xs

abbrev pub AllFrom : ℕ → List Rule → Type 0
AllFrom n [] = Unit {0}
AllFrom n (x ∷ xs) = (n ≤ rule_number x) × AllFrom n xs

abbrev pub Rising : List Rule → Type 0
Rising [] = Unit {0}
Rising (x ∷ xs) = AllFrom (rule_number x) xs × Rising xs

from_all : (n : ℕ) (xs : List Rule) (q : Rule) → AllFrom n xs → Among q xs → n ≤ rule_number q
from_all n [] q all here = absurd here
from_all n (x ∷ xs) q all (inl e) = subst (λ z. n ≤ rule_number z) (sym e) all.0
from_all n (x ∷ xs) q all (inr there) = from_all n xs q all.1 there

pass_least : (p : Rule → Bool) (xs : List Rule) (r : Rule) → Rising xs → first_passing p xs ≡ Some r → (q : Rule) → Among q xs → p q ≡ true → rule_number r ≤ rule_number q
pass_least p [] r rising e q here passes = absurd here
pass_least p (x ∷ xs) r rising e q (inl same) passes =
    elim (p x) as (λ b. p x ≡ b → cond b (Some x) (first_passing p xs) ≡ Some r → rule_number r ≤ rule_number q) [
      | true ↦ λ h f. let eq : r ≡ q = sym (the_same x r f) ∙ sym same in subst (λ z. rule_number r ≤ rule_number z) eq (omega arith)
      | false ↦ λ h f. false_true (rule_number r ≤ rule_number q) (sym h ∙ ap p (sym same) ∙ passes)
    ] refl e
pass_least p (x ∷ xs) r rising e q (inr there) passes =
    elim (p x) as (λ b. p x ≡ b → cond b (Some x) (first_passing p xs) ≡ Some r → rule_number r ≤ rule_number q) [
      | true ↦ λ h f. subst (λ z. rule_number z ≤ rule_number q) (the_same x r f) (from_all (rule_number x) xs q rising.0 there)
      | false ↦ λ h f. pass_least p xs r rising.1 f q there passes
    ] refl e

pass_none : (p : Rule → Bool) (xs : List Rule) → first_passing p xs ≡ None → (q : Rule) → Among q xs → p q ≡ true → ⊥
pass_none p [] e q here passes = here
pass_none p (x ∷ xs) e q (inl same) passes =
    elim (p x) as (λ b. p x ≡ b → cond b (Some x) (first_passing p xs) ≡ None → ⊥) [
      | true ↦ λ h f. some_none ⊥ x f
      | false ↦ λ h f. false_true ⊥ (sym h ∙ ap p (sym same) ∙ passes)
    ] refl e
pass_none p (x ∷ xs) e q (inr there) passes =
    elim (p x) as (λ b. p x ≡ b → cond b (Some x) (first_passing p xs) ≡ None → ⊥) [
      | true ↦ λ h f. some_none ⊥ x f
      | false ↦ λ h f. pass_none p xs f q there passes
    ] refl e

all_rules : (q : Rule) → Among q rules
all_rules duplicate = inl refl
all_rules undeclared = inr (inl refl)
all_rules not_exported = inr (inr (inl refl))
all_rules unbound = inr (inr (inr (inl refl)))
all_rules tracer_taken = inr (inr (inr (inr (inl refl))))
all_rules wrong_arity = inr (inr (inr (inr (inr (inl refl)))))
all_rules past_limit = inr (inr (inr (inr (inr (inr (inl refl))))))

rules_rise : Rising rules
rules_rise = (
  (lit≤ tt, (lit≤ tt, (lit≤ tt, (lit≤ tt, (lit≤ tt, (lit≤ tt, tt)))))),
  (
    (lit≤ tt, (lit≤ tt, (lit≤ tt, (lit≤ tt, (lit≤ tt, tt))))),
    (
      (lit≤ tt, (lit≤ tt, (lit≤ tt, (lit≤ tt, tt)))),
      (
        (lit≤ tt, (lit≤ tt, (lit≤ tt, tt))),
        (
          (lit≤ tt, (lit≤ tt, tt)),
          ((lit≤ tt, tt), (tt, tt)),
        ),
      ),
    ),
  ),
)

-- ---- all forms

abbrev or_else : {X : Type 0} → Option X → Option X → Option X
or_else None o = o
or_else (Some x) o = Some x

later_append : (n : ℕ) (o : Option Rule) (p q : Option (ℕ × Rule)) → or_later n o (or_else p q) ≡ or_else (or_later n o p) q
later_append n None p q = refl
later_append n (Some r) p q = refl

walk_append : (fs e xs ys : List Form) → first_broken_from fs e (xs ++ ys) ≡ or_else (first_broken_from fs e xs) (first_broken_from fs (e ++ xs) ys)
walk_append fs e [] ys = ap (λ d. first_broken_from fs d ys) (sym (append-nil e))
walk_append fs e (x ∷ xs) ys =
    ap (or_later (suc (length e)) (rule_broken fs e x)) (walk_append fs (e ++ x ∷ []) xs ys ∙ ap (λ d. or_else (first_broken_from fs (e ++ x ∷ []) xs) (first_broken_from fs d ys)) (append_assoc e (x ∷ []) xs))
    ∙ later_append (suc (length e)) (rule_broken fs e x) (first_broken_from fs (e ++ x ∷ []) xs) (first_broken_from fs (e ++ x ∷ xs) ys)

walk_bound : (fs e xs : List Form) (n : ℕ) (r : Rule) → first_broken_from fs e xs ≡ Some (n, r) → n ≤ length e + length xs
walk_bound fs e [] n r h = none_some (n ≤ length e + 0) (n, r) h
walk_bound fs e (x ∷ xs) n r h =
    elim (rule_broken fs e x) as (λ o. or_later (suc (length e)) o (first_broken_from fs (e ++ x ∷ []) xs) ≡ Some (n, r) → n ≤ length e + suc (length xs)) [
      | None ↦ λ f.
          let ih : n ≤ length (e ++ x ∷ []) + length xs = walk_bound fs (e ++ x ∷ []) xs n r f in
          let long : length (e ++ x ∷ []) ≡ length e + 1 = length-append e (x ∷ []) in
          omega (arith, ih, long)
      | Some q ↦ λ f. let same : suc (length e) ≡ n = ap (λ p. p.0) (the_same (suc (length e), q) (n, r) f) in omega (arith, same)
    ] h

-- where the walk finds one
record FoundAt (fs e xs : List Form) (n : ℕ) (r : Rule) : Type 0 where
  before : List Form
  there : Form
  after : List Form
  whole : xs ≡ before ++ there ∷ after
  number : n ≡ suc (length (e ++ before))
  rule : rule_broken fs (e ++ before) there ≡ Some r

walk_found : (fs e xs : List Form) (n : ℕ) (r : Rule) → first_broken_from fs e xs ≡ Some (n, r) → FoundAt fs e xs n r
walk_found fs e [] n r h = none_some (FoundAt fs e [] n r) (n, r) h
walk_found fs e (x ∷ xs) n r h =
    elim (rule_broken fs e x) as (λ o. rule_broken fs e x ≡ o → or_later (suc (length e)) o (first_broken_from fs (e ++ x ∷ []) xs) ≡ Some (n, r) → FoundAt fs e (x ∷ xs) n r) [
      | None ↦ λ k f.
          let found = walk_found fs (e ++ x ∷ []) xs n r f in
          let front : (e ++ x ∷ []) ++ found.before ≡ e ++ x ∷ found.before = append_assoc e (x ∷ []) found.before in
          record {
            before = x ∷ found.before;
            there = found.there;
            after = found.after;
            whole = ap (λ ys. x ∷ ys) found.whole;
            number = found.number ∙ ap (λ ys. suc (length ys)) front;
            rule = ap (λ ys. rule_broken fs ys found.there) (sym front) ∙ found.rule;
          }
      | Some q ↦ λ k f.
          let same = the_same (suc (length e), q) (n, r) f in
          record {
            before = [];
            there = x;
            after = xs;
            whole = refl;
            number = sym (ap (λ p. p.0) same) ∙ ap (λ ys. suc (length ys)) (sym (append-nil e));
            rule = ap (λ ys. rule_broken fs ys x) (append-nil e) ∙ k ∙ ap (λ p. Some p.1) same;
          }
    ] refl h

-- what a form that breaks a rule makes the walk answer: an earlier one, or it
broken_there : (fs : List Form) (m : ℕ) (q : Rule) → Breaks fs m q → (n : ℕ) × (r : Rule) × (first_broken fs ≡ Some (n, r)) × (n ≤ m)
broken_there fs m q b =
    let split : first_broken fs ≡ or_else (first_broken_from fs [] b.earlier) (first_broken_from fs b.earlier (b.breaker ∷ b.later)) =
    ap (first_broken_from fs []) b.whole ∙ walk_append fs [] b.earlier (b.breaker ∷ b.later) in
    elim (first_broken_from fs [] b.earlier) as (λ o. first_broken_from fs [] b.earlier ≡ o → first_broken fs ≡ or_else o (first_broken_from fs b.earlier (b.breaker ∷ b.later)) → (n : ℕ) × (r : Rule) × (first_broken fs ≡ Some (n, r)) × (n ≤ m)) [
      | None ↦ λ k f.
          elim (rule_broken fs b.earlier b.breaker) as (λ o. rule_broken fs b.earlier b.breaker ≡ o → first_broken fs ≡ or_later (suc (length b.earlier)) o (first_broken_from fs (b.earlier ++ b.breaker ∷ []) b.later) → (n : ℕ) × (r : Rule) × (first_broken fs ≡ Some (n, r)) × (n ≤ m)) [
            | None ↦ λ i g. absurd (pass_none (breaks fs b.earlier b.breaker) rules i q (all_rules q) b.broken)
            | Some s ↦ λ i g. (suc (length b.earlier), s, g, omega (arith, b.number))
          ] refl f
      | Some p ↦ λ k f.
          let bound : p.0 ≤ length b.earlier = omega (arith, walk_bound fs [] b.earlier p.0 p.1 k) in
          (p.0, p.1, f, omega (arith, bound, b.number))
    ] refl split

first_same : {X : Type 0} (a b : X) (cs ds : List X) → a ∷ cs ≡ b ∷ ds → a ≡ b
first_same a b cs ds e = cc

rest_same : {X : Type 0} (a b : X) (cs ds : List X) → a ∷ cs ≡ b ∷ ds → cs ≡ ds
rest_same a b cs ds e = cc

split_same : {X : Type 0} (xs ys : List X) (x y : X) (zs ws : List X) → xs ++ x ∷ zs ≡ ys ++ y ∷ ws → length xs ≡ length ys → (xs ≡ ys) × (x ≡ y)
split_same [] [] x y zs ws e long = (refl, first_same x y zs ws e)
split_same [] (b ∷ ys) x y zs ws e long = absurd (omega (arith, long))
split_same (a ∷ xs) [] x y zs ws e long = absurd (omega (arith, long))
split_same (a ∷ xs) (b ∷ ys) x y zs ws e long =
    let rest = split_same xs ys x y zs ws (rest_same a b (xs ++ x ∷ zs) (ys ++ y ∷ ws) e) (omega (arith, long)) in
    (ap₂ (λ c cs. c ∷ cs) (first_same a b (xs ++ x ∷ zs) (ys ++ y ∷ ws) e) rest.0, rest.1)

pub first_is : (fs : List Form) (n : ℕ) (r : Rule) → first_broken fs ≡ Some (n, r) → IsFirstBroken fs n r
first_is fs n r h =
    let found = walk_found fs [] fs n r h in record {
      breaks_it = record { earlier = found.before; breaker = found.there; later = found.after; whole = found.whole; number = found.number; broken = pass_found (breaks fs found.before found.there) rules r found.rule };
      lowest = λ m q b.
          let at = broken_there fs m q b in
          let same : at.0 ≡ n = ap (λ p. p.0) (the_same (at.0, at.1) (n, r) (sym at.2 ∙ h)) in
          omega (arith, at.3, same);
      least = λ q b.
          let long : length found.before ≡ length b.earlier = omega (arith, found.number, b.number) in
          let same = split_same found.before b.earlier found.there b.breaker found.after b.later (sym found.whole ∙ b.whole) long in
          pass_least (breaks fs found.before found.there) rules r rules_rise found.rule q (all_rules q) (ap₂ (λ e f. breaks fs e f q) same.0 same.1 ∙ b.broken);
    }

pub none_broken : (fs : List Form) → first_broken fs ≡ None → (m : ℕ) (q : Rule) → Breaks fs m q → ⊥
none_broken fs h m q b = let at = broken_there fs m q b in none_some ⊥ (at.0, at.1) (sym h ∙ at.2)

rule_of : ℕ → Option Rule
rule_of n = if n == 7 then Some duplicate else if n == 8 then Some undeclared else if n == 9 then Some not_exported else if n == 10 then Some unbound else if n == 11 then Some tracer_taken else if n == 12 then Some wrong_arity else Some past_limit

numbered : (r : Rule) → rule_of (rule_number r) ≡ Some r
unfolding rule_of
numbered duplicate = refl
numbered undeclared = refl
numbered not_exported = refl
numbered unbound = refl
numbered tracer_taken = refl
numbered wrong_arity = refl
numbered past_limit = refl

same_rule : (r s : Rule) → rule_number r ≡ rule_number s → r ≡ s
same_rule r s e = the_same r s (sym (numbered r) ∙ ap rule_of e ∙ numbered s)

pub first_only : (fs : List Form) (n : ℕ) (r : Rule) → IsFirstBroken fs n r → first_broken fs ≡ Some (n, r)
first_only fs n r h =
    let at = broken_there fs n r h.breaks_it in
    let other = first_is fs at.0 at.1 at.2 in
    let low : n ≤ at.0 = h.lowest at.0 at.1 other.breaks_it in
    let same : at.0 ≡ n = omega (arith, low, at.3) in
    let one : rule_number at.1 ≤ rule_number r = other.least r (subst (λ m. Breaks fs m r) (sym same) h.breaks_it) in
    let two : rule_number r ≤ rule_number at.1 = h.least at.1 (subst (λ m. Breaks fs m at.1) same other.breaks_it) in
    let rule : at.1 ≡ r = same_rule at.1 r (omega (arith, one, two)) in
    at.2 ∙ ap₂ (λ m q. Some (m, q)) same rule
