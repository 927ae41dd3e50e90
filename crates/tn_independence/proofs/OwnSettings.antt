-- How many expressions are in a list of them, and settings one after the other.
use Rattle.std.proofs.Common.{◌≡◌, ◌∙◌, ◌++◌, ◌&&◌, ◌+◌, ◌≤◌, ℕ, Bool, true, false, List, [], ◌∷◌, zero, suc, length, take, reverse, refl, sym, ap, subst, arith}
use Rattle.std.specs.Prelude.{slice_get}
use Rattle.std.specs.Option.{option_map}
use Rattle.std.proofs.lemmas.List.{reverse-append, take_all}
use Rattle.def_session.specs.Settings.{FunctionSetting}
use Rattle.def_independence.specs.OwnEffects.{count_exprs, setting_acts_on_self, functions_act_on_self}
use Rattle.tn_spec.specs.Views.{exprs_seen}
use Rattle.tn_spec.specs.declared.expr.Expr.{Expr}
use Rattle.tn_session.specs.Looks.{parts_of}
use Rattle.tn_independence.specs.OwnSettings.{acts_by}

pub count_seen : {A : Type 0} (es : List (Expr A)) → count_exprs (exprs_seen es) ≡ length es
count_seen [] = refl
count_seen (e ∷ es) = ap suc (count_seen es)

and_assoc : (a b c : Bool) → (a && (b && c)) ≡ ((a && b) && c)
and_assoc true b c = refl
and_assoc false b c = refl

and_last : (a b : Bool) → (a && (b && true)) ≡ (b && a)
and_last true true = refl
and_last true false = refl
and_last false true = refl
and_last false false = refl

both_parts : (xs ys : List FunctionSetting) → functions_act_on_self (xs ++ ys) ≡ (functions_act_on_self xs && functions_act_on_self ys)
both_parts [] ys = refl
both_parts (k ∷ xs) ys = ap (λ b. setting_acts_on_self k.setting && b) (both_parts xs ys) ∙ and_assoc (setting_acts_on_self k.setting) (functions_act_on_self xs) (functions_act_on_self ys)

-- whether they act so goes by no order
in_reverse : (ks : List FunctionSetting) → functions_act_on_self (reverse ks) ≡ functions_act_on_self ks
in_reverse [] = refl
in_reverse (k ∷ ks) =
    ap functions_act_on_self (reverse-append (k ∷ []) ks)
    ∙ both_parts (reverse ks) (k ∷ [])
    ∙ ap (λ b. b && functions_act_on_self (k ∷ [])) (in_reverse ks)
    ∙ and_last (functions_act_on_self ks) (setting_acts_on_self k.setting)

both_act : (b c d : Bool) → (c ≡ true → d ≡ true) → (b && c) ≡ true → (b && d) ≡ true
both_act true c d f e = f e
both_act false c d f e = e

-- one more that acts so
next_acts : (ks : List FunctionSetting) (i : ℕ) → acts_by (option_map parts_of (slice_get ks i)) ≡ true → functions_act_on_self (take i ks) ≡ true → functions_act_on_self (take (suc i) ks) ≡ true
next_acts [] i h k = refl
next_acts (x ∷ xs) zero h k = ap (λ b. b && true) h
next_acts (x ∷ xs) (suc i) h k = both_act (setting_acts_on_self x.setting) (functions_act_on_self (take i xs)) (functions_act_on_self (take (suc i) xs)) (next_acts xs i h) k

pub one_acts : (ks : List FunctionSetting) (i : ℕ) → acts_by (option_map parts_of (slice_get ks i)) ≡ true → functions_act_on_self (take i ks) ≡ true → functions_act_on_self (take (i + 1) ks) ≡ true
one_acts ks i h k = let e : suc i ≡ i + 1 = omega arith in subst (λ n. functions_act_on_self (take n ks) ≡ true) e (next_acts ks i h k)

-- where one doesn't, they don't
one_fails : (ks : List FunctionSetting) (i : ℕ) → acts_by (option_map parts_of (slice_get ks i)) ≡ false → functions_act_on_self ks ≡ false
one_fails [] zero h = absurd (let e : true ≡ false = h in cc)
one_fails [] (suc i) h = absurd (let e : true ≡ false = h in cc)
one_fails (x ∷ xs) zero h = ap (λ b. b && functions_act_on_self xs) h
one_fails (x ∷ xs) (suc i) h = ap (λ b. setting_acts_on_self x.setting && b) (one_fails xs i h) ∙ nothing (setting_acts_on_self x.setting)
  where
    nothing : (b : Bool) → (b && false) ≡ false
    nothing true = refl
    nothing false = refl

pub they_fail : (ks : List FunctionSetting) (i : ℕ) → acts_by (option_map parts_of (slice_get (reverse ks) i)) ≡ false → false ≡ functions_act_on_self ks
they_fail ks i h = sym (sym (in_reverse ks) ∙ one_fails (reverse ks) i h)

pub they_act : (ks : List FunctionSetting) (i : ℕ) → length (reverse ks) ≤ i → functions_act_on_self (take i (reverse ks)) ≡ true → true ≡ functions_act_on_self ks
they_act ks i past h = sym (sym (in_reverse ks) ∙ ap functions_act_on_self (sym (take_all i (reverse ks) past)) ∙ h)
