-- What `trace` tells, and where it faults.
use Rattle.std.proofs.Common.{◌≡◌, inl, inr, ◌⊎◌, ℕ, Bool, true, false, not, ◌&&◌, ◌||◌, Option, Some, None, refl, sym, ap, ◌∙◌, if◌then◌else◌}
use Rattle.std.proofs.lemmas.Bool.{and_parts}
use Rattle.def_spec.specs.Flags.{Flag, send_flag, receive_flag, call_flag, procs_flag, silent_flag, arity_flag, set_on_spawn, set_on_first_spawn, set_on_link, set_on_first_link, Flags, has_all, same_flags, flags_listed, flags_in}
use Rattle.def_spec.specs.Expressions.{change_flags, living_pid, is_changing, trace_change}
use Rattle.def_spec.specs.Laws.{TraceTellsAChange, TraceFaults, ClearsBeforeItSets}

-- ---- the same flags

both_are : (a b : Bool) → a ≡ true → b ≡ true → (a && b) ≡ true
both_are a b e f = ap (λ x. x && b) e ∙ f

-- it holds of each of the ten
abbrev of_all : (Flag → Bool) → Bool
of_all h = h send_flag && (h receive_flag && (h call_flag && (h procs_flag && (h silent_flag && (h arity_flag && (h set_on_spawn && (h set_on_first_spawn && (h set_on_link && h set_on_first_link))))))))

of_each : (h : Flag → Bool) → of_all h ≡ true → (x : Flag) → h x ≡ true
of_each h e =
    let a : (h send_flag ≡ true) × _ = and_parts (h send_flag) _ e in
    let b : (h receive_flag ≡ true) × _ = and_parts (h receive_flag) _ a.1 in
    let c : (h call_flag ≡ true) × _ = and_parts (h call_flag) _ b.1 in
    let d : (h procs_flag ≡ true) × _ = and_parts (h procs_flag) _ c.1 in
    let f : (h silent_flag ≡ true) × _ = and_parts (h silent_flag) _ d.1 in
    let g : (h arity_flag ≡ true) × _ = and_parts (h arity_flag) _ f.1 in
    let i : (h set_on_spawn ≡ true) × _ = and_parts (h set_on_spawn) _ g.1 in
    let j : (h set_on_first_spawn ≡ true) × _ = and_parts (h set_on_first_spawn) _ i.1 in
    let k : (h set_on_link ≡ true) × (h set_on_first_link ≡ true) = and_parts (h set_on_link) _ j.1 in
    pick a.0 b.0 c.0 d.0 f.0 g.0 i.0 j.0 k.0 k.1
  where
    pick : h send_flag ≡ true → h receive_flag ≡ true → h call_flag ≡ true → h procs_flag ≡ true → h silent_flag ≡ true → h arity_flag ≡ true → h set_on_spawn ≡ true → h set_on_first_spawn ≡ true → h set_on_link ≡ true → h set_on_first_link ≡ true → (x : Flag) → h x ≡ true
    pick a b c d f g i j k l send_flag = a
    pick a b c d f g i j k l receive_flag = b
    pick a b c d f g i j k l call_flag = c
    pick a b c d f g i j k l procs_flag = d
    pick a b c d f g i j k l silent_flag = f
    pick a b c d f g i j k l arity_flag = g
    pick a b c d f g i j k l set_on_spawn = i
    pick a b c d f g i j k l set_on_first_spawn = j
    pick a b c d f g i j k l set_on_link = k
    pick a b c d f g i j k l set_on_first_link = l

all_of : (h : Flag → Bool) → ((x : Flag) → h x ≡ true) → of_all h ≡ true
all_of h e =
    both_are _ _ (e send_flag) (both_are _ _ (e receive_flag) (both_are _ _ (e call_flag) (both_are _ _ (e procs_flag) (both_are _ _ (e silent_flag) (both_are _ _ (e arity_flag) (both_are _ _ (e set_on_spawn) (both_are _ _ (e set_on_first_spawn) (both_are _ _ (e set_on_link) (e set_on_first_link)))))))))

alike : (a b : Bool) → (a || not b) ≡ true → (b || not a) ≡ true → a ≡ b
alike true true e f = refl
alike true false e f = cc
alike false true e f = cc
alike false false e f = refl

self_or : (a b : Bool) → a ≡ b → (a || not b) ≡ true
self_or true true e = refl
self_or true false e = refl
self_or false true e = cc
self_or false false e = refl

same-each : (f g : Flags) → same_flags f g ≡ true → (x : Flag) → f x ≡ g x
same-each f g e x =
    let r : (has_all f g ≡ true) × (has_all g f ≡ true) = and_parts _ _ e in
    alike (f x) (g x) (of_each (λ y. f y || not (g y)) r.0 x) (of_each (λ y. g y || not (f y)) r.1 x)

each-same : (f g : Flags) → ((x : Flag) → f x ≡ g x) → same_flags f g ≡ true
each-same f g e = both_are _ _ (all_of (λ y. f y || not (g y)) (λ y. self_or (f y) (g y) (e y))) (all_of (λ y. g y || not (f y)) (λ y. self_or (g y) (f y) (sym (e y))))

not_false : (b : Bool) → not b ≡ false → b ≡ true
not_false true e = refl
not_false false e = cc

-- ---- what `trace` tells

pub trace_tells_a_change : TraceTellsAChange
trace_tells_a_change c n disable enable off on alive is_off is_on =
    let f : Flags = flags_in c.flags n in (
      is_changing f off on,
      ap (λ b. trace_change c (if b then Some n else None) (flags_listed disable) (flags_listed enable)) alive
          ∙ ap (λ o. trace_change c (Some n) o (flags_listed enable)) is_off
          ∙ ap (trace_change c (Some n) (Some off)) is_on,
      (
        λ e x. sym (same-each f (change_flags f off on) (not_false _ e) x),
        λ e. ap not (each-same f (change_flags f off on) (λ x. sym (e x))),
      ),
    )

pub trace_faults : TraceFaults
trace_faults c p disable enable = (none (living_pid c.alive p) (flags_listed disable) (flags_listed enable), faulting (living_pid c.alive p) (flags_listed disable) (flags_listed enable))
  where
    none : (n : Option ℕ) (off on : Option Flags) → trace_change c n off on ≡ None → (n ≡ None) ⊎ ((off ≡ None) ⊎ (on ≡ None))
    none None off on e = inl refl
    none (Some n) None on e = inr (inl refl)
    none (Some n) (Some off) None e = inr (inr refl)
    none (Some n) (Some off) (Some on) e = absurd (cc e)

    faulting : (n : Option ℕ) (off on : Option Flags) → (n ≡ None) ⊎ ((off ≡ None) ⊎ (on ≡ None)) → trace_change c n off on ≡ None
    faulting None off on e = refl
    faulting (Some n) None on e = refl
    faulting (Some n) (Some off) None e = refl
    faulting (Some n) (Some off) (Some on) (inl e) = absurd (cc e)
    faulting (Some n) (Some off) (Some on) (inr (inl e)) = absurd (cc e)
    faulting (Some n) (Some off) (Some on) (inr (inr e)) = absurd (cc e)

or_true : (a b : Bool) → b ≡ true → (a || b) ≡ true
or_true true b e = refl
or_true false b e = e

or_false : (a b : Bool) → b ≡ false → (a || b) ≡ a
or_false true b e = refl
or_false false b e = e

pub clears_before_it_sets : ClearsBeforeItSets
clears_before_it_sets f off on x = (λ e. or_true (f x && not (off x)) (on x) e, λ e. or_false (f x && not (off x)) (on x) e)
