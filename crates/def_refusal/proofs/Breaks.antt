-- The item for which a form breaks a rule is the one with which it breaks it.
use Rattle.std.proofs.Common.{◌≡◌, ℕ, zero, suc, ◌+◌, ◌-◌, nat_le, nat_lt, Bool, true, false, ◌&&◌, ◌||◌, not, List, [], ◌∷◌, ◌++◌, length, take, Option, Some, None, refl, sym, ap, ap₂, ◌∙◌, subst, cond, arith}
use Rattle.std.specs.List.{list_any, count_by}
use Rattle.std.specs.Option.{option_map}
use Rattle.std.proofs.lemmas.List.{length-append}
use Rattle.std.proofs.lemmas.List.Sums.{sum_by_push, sum_by-cons}
use Rattle.std.proofs.lemmas.Bool.Decides.{nat_tests}
use Rattle.def_script.specs.Limits.{FUNCTIONS, STEPS, COMMANDS, SESSIONS}
use Rattle.def_script.specs.Program.{Step, Function, Command, Form, declares, starts, controls}
use Rattle.def_script.specs.Rules.{Rule, duplicate, undeclared, not_exported, unbound, tracer_taken, wrong_arity, past_limit, breaks, any_with_earlier, on_some, is_declared_at_all, is_internal, is_misnamed, named_by, named_with_module, is_function, is_creation, commands_of, holds_past}
use Rattle.def_refusal.specs.Items.{FormItem, step, numbered_command, position_with_earlier, breaks_by_step, breaks_by_command, is_past, command_at, breaking_item}
use Rattle.def_refusal.specs.ItemStarts.{item_position}
use Rattle.def_refusal.specs.Laws.{with_first_items, IsBreak, ItemIsTheBreak, NoItemNoBreak}

none_some : {X : Type 0} (P : Type 0) (x : X) → None ≡ Some x → P
none_some P x e = cc

the_same : {X : Type 0} (x y : X) → Some x ≡ Some y → x ≡ y
the_same x y e = cc

-- so many elements before this one don't pass, and with it one does
record FirstAt {X : Type 0} (p : List X → X → Bool) (earlier xs : List X) (n k : ℕ) : Type 0 where
  pub before : ℕ
  pub place : k ≡ n + before
  pub kept : any_with_earlier p earlier (take before xs) ≡ false
  pub passed : any_with_earlier p earlier (take (suc before) xs) ≡ true

or_false : (a b : Bool) → a ≡ false → b ≡ false → (a || b) ≡ false
or_false a b e f = ap (λ c. c || b) e ∙ f

or_true : (a b : Bool) → b ≡ true → (a || b) ≡ true
or_true true b e = refl
or_true false b e = e

first_now : {X : Type 0} (p : List X → X → Bool) (earlier xs : List X) (x : X) (n k : ℕ) → p earlier x ≡ true → n ≡ k → FirstAt p earlier (x ∷ xs) n k
first_now p earlier xs x n k is e = record { before = 0; place = omega (arith, e); kept = refl; passed = ap (λ b. b || any_with_earlier p (earlier ++ x ∷ []) (take 0 xs)) is }

first_later : {X : Type 0} (p : List X → X → Bool) (earlier xs : List X) (x : X) (n k : ℕ) → p earlier x ≡ false → FirstAt p (earlier ++ x ∷ []) xs (suc n) k → FirstAt p earlier (x ∷ xs) n k
first_later p earlier xs x n k is f = record {
  before = suc f.before;
  place = let e = f.place in omega arith;
  kept = or_false (p earlier x) (any_with_earlier p (earlier ++ x ∷ []) (take f.before xs)) is f.kept;
  passed = or_true (p earlier x) (any_with_earlier p (earlier ++ x ∷ []) (take (suc f.before) xs)) f.passed;
}

first_at : {X : Type 0} (p : List X → X → Bool) (earlier xs : List X) (n k : ℕ) → position_with_earlier p earlier n xs ≡ Some k → FirstAt p earlier xs n k
first_at p earlier [] n k e = none_some _ k e
first_at p earlier (x ∷ xs) n k e =
    elim (p earlier x) as (λ b. p earlier x ≡ b → cond b (Some n) (position_with_earlier p (earlier ++ x ∷ []) (suc n) xs) ≡ Some k → FirstAt p earlier (x ∷ xs) n k) [
      | true ↦ λ is h. first_now p earlier xs x n k is (the_same n k h)
      | false ↦ λ is h. first_later p earlier xs x n k is (first_at p (earlier ++ x ∷ []) xs (suc n) k h)
    ] refl e

some_none : {X : Type 0} (P : Type 0) (x : X) → Some x ≡ None → P
some_none P x e = cc

none_at : {X : Type 0} (p : List X → X → Bool) (earlier xs : List X) (n : ℕ) → position_with_earlier p earlier n xs ≡ None → any_with_earlier p earlier xs ≡ false
none_at p earlier [] n e = refl
none_at p earlier (x ∷ xs) n e =
    elim (p earlier x) as (λ b. p earlier x ≡ b → cond b (Some n) (position_with_earlier p (earlier ++ x ∷ []) (suc n) xs) ≡ None → any_with_earlier p earlier (x ∷ xs) ≡ false) [
      | true ↦ λ is h. some_none _ n h
      | false ↦ λ is h. or_false (p earlier x) (any_with_earlier p (earlier ++ x ∷ []) xs) is (none_at p (earlier ++ x ∷ []) xs (suc n) h)
    ] refl e

-- a search that doesn't look at the elements before
any_alone : {X : Type 0} (q : X → Bool) (earlier xs : List X) → list_any q xs ≡ any_with_earlier (λ before x. q x) earlier xs
any_alone q earlier [] = refl
any_alone q earlier (x ∷ xs) = ap (λ b. q x || b) (any_alone q (earlier ++ x ∷ []) xs)

-- one of the elements has as many before it
long_step : (limit n m : ℕ) (later : Bool) → later ≡ (nat_lt 0 m && nat_lt limit (suc n + m)) → (nat_lt 0 (suc m) && nat_lt limit (n + suc m)) ≡ (nat_le limit n || later)
long_step limit n m later e = grind (arith, nat_tests, e)

long_any : {X : Type 0} (limit : ℕ) (earlier xs : List X) → (nat_lt 0 (length xs) && nat_lt limit (length earlier + length xs)) ≡ any_with_earlier (λ before x. nat_le limit (length before)) earlier xs
long_any limit earlier [] = refl
long_any limit earlier (x ∷ xs) =
    let more : length (earlier ++ x ∷ []) ≡ suc (length earlier) = length-append earlier (x ∷ []) ∙ omega arith in
    long_step limit (length earlier) (length xs) (any_with_earlier (λ before y. nat_le limit (length before)) (earlier ++ x ∷ []) xs)
    (sym (long_any limit (earlier ++ x ∷ []) xs) ∙ ap (λ k. nat_lt 0 (length xs) && nat_lt limit (k + length xs)) more)

long_steps : (limit n : ℕ) → nat_lt limit n ≡ (nat_lt 0 n && nat_lt limit (0 + n))
long_steps limit n = grind (arith, nat_tests)

-- a command past a limit
past_step : (n m c d k : ℕ) (creates later : Bool) → k ≡ cond creates 1 0 → later ≡ (holds_past COMMANDS (suc n) m || holds_past SESSIONS (c + k) d)
    → (holds_past COMMANDS n (suc m) || holds_past SESSIONS c (k + d)) ≡ ((nat_le COMMANDS n || (creates && nat_le SESSIONS c)) || later)
past_step n m c d k true later e f = grind (arith, nat_tests, e, f)
past_step n m c d k false later e f = grind (arith, nat_tests, e, f)

past_any : (earlier cs : List Command) → (holds_past COMMANDS (length earlier) (length cs) || holds_past SESSIONS (count_by is_creation earlier) (count_by is_creation cs)) ≡ any_with_earlier is_past earlier cs
past_any earlier [] = refl
past_any earlier (c ∷ cs) =
    let k : ℕ = cond (is_creation c) 1 0 in
    let more : length (earlier ++ c ∷ []) ≡ suc (length earlier) = length-append earlier (c ∷ []) ∙ omega arith in
    let made : count_by is_creation (earlier ++ c ∷ []) ≡ count_by is_creation earlier + k = sum_by_push (λ x. cond (is_creation x) 1 0) earlier c in
    let first : count_by is_creation (c ∷ cs) ≡ k + count_by is_creation cs = sum_by-cons (λ x. cond (is_creation x) 1 0) c cs in
    ap (λ n. holds_past COMMANDS (length earlier) (suc (length cs)) || holds_past SESSIONS (count_by is_creation earlier) n) first
    ∙ past_step (length earlier) (length cs) (count_by is_creation earlier) (count_by is_creation cs) k (is_creation c) (any_with_earlier is_past (earlier ++ c ∷ []) cs) refl
    (sym (past_any (earlier ++ c ∷ []) cs) ∙ ap₂ (λ a b. holds_past COMMANDS a (length cs) || holds_past SESSIONS b (count_by is_creation cs)) more made)

-- ---- the rules on the first so many items

or_left : (a b : Bool) → (a || b) ≡ false → a ≡ false
or_left true b e = e
or_left false b e = refl

none_passes : {X : Type 0} (earlier xs : List X) → any_with_earlier (λ before x. false) earlier xs ≡ false
none_passes earlier [] = refl
none_passes earlier (x ∷ xs) = none_passes (earlier ++ x ∷ []) xs

-- where a function without steps keeps the rule, one with so many steps breaks it by one of these
function_breaks : (fs earlier : List Form) (k : Function) (r : Rule) (n : ℕ) → breaks fs earlier (with_first_items 0 (declares k)) r ≡ false
    → breaks fs earlier (with_first_items n (declares k)) r ≡ any_with_earlier (breaks_by_step fs k r) [] (take n k.steps)
function_breaks fs earlier k duplicate n free = free ∙ sym (none_passes [] (take n k.steps))
function_breaks fs earlier k undeclared n free = any_alone (λ s. on_some (λ f. not (is_declared_at_all fs f)) (named_by k.module_name s)) [] (take n k.steps)
function_breaks fs earlier k not_exported n free = any_alone (λ s. on_some (is_internal fs) (named_with_module s)) [] (take n k.steps)
function_breaks fs earlier k unbound n free = refl
function_breaks fs earlier k tracer_taken n free = sym (none_passes [] (take n k.steps))
function_breaks fs earlier k wrong_arity n free = any_alone (λ s. on_some (is_misnamed fs) (named_by k.module_name s)) [] (take n k.steps)
function_breaks fs earlier k past_limit n free =
    ap (λ b. b || nat_lt STEPS (length (take n k.steps))) (or_left (nat_le FUNCTIONS (count_by is_function earlier)) (nat_lt STEPS 0) free)
    ∙ long_steps STEPS (length (take n k.steps)) ∙ long_any STEPS [] (take n k.steps)

-- so it is with commands
control_breaks : (fs earlier : List Form) (cs : List Command) (r : Rule) (n : ℕ) → breaks fs earlier (with_first_items n (controls cs)) r ≡ any_with_earlier (breaks_by_command r) (commands_of earlier) (take n cs)
control_breaks fs earlier cs duplicate n = refl
control_breaks fs earlier cs undeclared n = refl
control_breaks fs earlier cs not_exported n = sym (none_passes (commands_of earlier) (take n cs))
control_breaks fs earlier cs unbound n = sym (none_passes (commands_of earlier) (take n cs))
control_breaks fs earlier cs tracer_taken n = refl
control_breaks fs earlier cs wrong_arity n = sym (none_passes (commands_of earlier) (take n cs))
control_breaks fs earlier cs past_limit n = past_any (commands_of earlier) (take n cs)

-- ---- the laws

mapped_some : {X Y : Type 0} (f : X → Y) (o : Option X) (y : Y) → option_map f o ≡ Some y → (x : X) × (o ≡ Some x) × (f x ≡ y)
mapped_some f None y e = none_some _ y e
mapped_some f (Some x) y e = (x, refl, the_same (f x) y e)

mapped_none : {X Y : Type 0} (f : X → Y) (o : Option X) → option_map f o ≡ None → o ≡ None
mapped_none f None e = refl
mapped_none f (Some x) e = some_none _ (f x) e

function_break : (fs earlier : List Form) (k : Function) (r : Rule) (n : ℕ) → breaks fs earlier (with_first_items 0 (declares k)) r ≡ false → position_with_earlier (breaks_by_step fs k r) [] 1 k.steps ≡ Some n → IsBreak fs earlier (declares k) r (step n)
function_break fs earlier k r n free e =
    let f = first_at (breaks_by_step fs k r) [] k.steps 1 n e in
    let place = f.place in
    let less : n - 1 ≡ f.before = omega arith in
    let same : n ≡ suc f.before = omega arith in
    record {
      kept = function_breaks fs earlier k r (n - 1) free ∙ ap (λ m. any_with_earlier (breaks_by_step fs k r) [] (take m k.steps)) less ∙ f.kept;
      broken = function_breaks fs earlier k r n free ∙ ap (λ m. any_with_earlier (breaks_by_step fs k r) [] (take m k.steps)) same ∙ f.passed;
    }

control_break : (fs earlier : List Form) (cs : List Command) (r : Rule) (n m : ℕ) → position_with_earlier (breaks_by_command r) (commands_of earlier) 1 cs ≡ Some n → IsBreak fs earlier (controls cs) r (numbered_command n m)
control_break fs earlier cs r n m e =
    let f = first_at (breaks_by_command r) (commands_of earlier) cs 1 n e in
    let place = f.place in
    let less : n - 1 ≡ f.before = omega arith in
    let same : n ≡ suc f.before = omega arith in
    record {
      kept = control_breaks fs earlier cs r (n - 1) ∙ ap (λ k. any_with_earlier (breaks_by_command r) (commands_of earlier) (take k cs)) less ∙ f.kept;
      broken = control_breaks fs earlier cs r n ∙ ap (λ k. any_with_earlier (breaks_by_command r) (commands_of earlier) (take k cs)) same ∙ f.passed;
    }

pub item_breaks : ItemIsTheBreak
item_breaks fs earlier (declares k) r i free e =
    let n = mapped_some step (position_with_earlier (breaks_by_step fs k r) [] 1 k.steps) i e in
    subst (IsBreak fs earlier (declares k) r) n.2 (function_break fs earlier k r n.0 free n.1)
item_breaks fs earlier (starts a) r i free e = none_some _ i e
item_breaks fs earlier (controls cs) r i free e =
    let n = mapped_some (command_at (length (commands_of earlier))) (position_with_earlier (breaks_by_command r) (commands_of earlier) 1 cs) i e in
    subst (IsBreak fs earlier (controls cs) r) n.2 (control_break fs earlier cs r n.0 _ n.1)

steps_kept : (fs earlier : List Form) (k : Function) (r : Rule) → breaks fs earlier (with_first_items 0 (declares k)) r ≡ false → any_with_earlier (breaks_by_step fs k r) [] k.steps ≡ false → breaks fs earlier (declares k) r ≡ false
steps_kept fs earlier k duplicate free e = free
steps_kept fs earlier k undeclared free e = any_alone (λ s. on_some (λ f. not (is_declared_at_all fs f)) (named_by k.module_name s)) [] k.steps ∙ e
steps_kept fs earlier k not_exported free e = any_alone (λ s. on_some (is_internal fs) (named_with_module s)) [] k.steps ∙ e
steps_kept fs earlier k unbound free e = e
steps_kept fs earlier k tracer_taken free e = refl
steps_kept fs earlier k wrong_arity free e = any_alone (λ s. on_some (is_misnamed fs) (named_by k.module_name s)) [] k.steps ∙ e
steps_kept fs earlier k past_limit free e =
    ap (λ b. b || nat_lt STEPS (length k.steps)) (or_left (nat_le FUNCTIONS (count_by is_function earlier)) (nat_lt STEPS 0) free)
    ∙ long_steps STEPS (length k.steps) ∙ long_any STEPS [] k.steps ∙ e

commands_kept : (fs earlier : List Form) (cs : List Command) (r : Rule) → any_with_earlier (breaks_by_command r) (commands_of earlier) cs ≡ false → breaks fs earlier (controls cs) r ≡ false
commands_kept fs earlier cs duplicate e = e
commands_kept fs earlier cs undeclared e = e
commands_kept fs earlier cs not_exported e = refl
commands_kept fs earlier cs unbound e = refl
commands_kept fs earlier cs tracer_taken e = e
commands_kept fs earlier cs wrong_arity e = refl
commands_kept fs earlier cs past_limit e = past_any (commands_of earlier) cs ∙ e

pub no_item : NoItemNoBreak
no_item fs earlier (declares k) r free e =
    steps_kept fs earlier k r free (none_at (breaks_by_step fs k r) [] k.steps 1 (mapped_none step (position_with_earlier (breaks_by_step fs k r) [] 1 k.steps) e))
no_item fs earlier (starts a) r free e = free
no_item fs earlier (controls cs) r free e =
    commands_kept fs earlier cs r (none_at (breaks_by_command r) (commands_of earlier) cs 1 (mapped_none (command_at (length (commands_of earlier))) (position_with_earlier (breaks_by_command r) (commands_of earlier) 1 cs) e))
