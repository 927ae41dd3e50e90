use Rattle.std.proofs.Common.{◌≡◌, ◌&&◌, Bool, true, false, refl, ap, sym, ◌∙◌}
use mathlib.Core.Bool.{beq}
use Rattle.tn_flags.specs.Views.{flags_of}
use Rattle.tn_flags.specs.declared.flags.Flags.{Flags}
use Rattle.tn_session.proofs.comparison.same_flags.Goals as goal

first : (a b : Bool) → (a && b) ≡ true → a ≡ true
first true b e = refl
first false b e = e

rest : (a b : Bool) → (a && b) ≡ true → b ≡ true
rest true b e = e
rest false b e = absurd (let k : false ≡ true = e in cc)

same : (a b : Bool) → beq a b ≡ true → a ≡ b
same true true e = refl
same true false e = sym e
same false true e = e
same false false e = refl

abbrev flags_from : Bool → Bool → Bool → Bool → Bool → Bool → Bool → Bool → Bool → Bool → Flags
flags_from a b c d e f g h i j = record { send = a; receive = b; call = c; procs = d; silent = e; arity = f; set_on_spawn = g; set_on_first_spawn = h; set_on_link = i; set_on_first_link = j }

-- sets with the same flags
equal : (x y : Flags) → x.send ≡ y.send → x.receive ≡ y.receive → x.call ≡ y.call → x.procs ≡ y.procs → x.silent ≡ y.silent → x.arity ≡ y.arity → x.set_on_spawn ≡ y.set_on_spawn → x.set_on_first_spawn ≡ y.set_on_first_spawn → x.set_on_link ≡ y.set_on_link → x.set_on_first_link ≡ y.set_on_first_link → x ≡ y
equal x y e0 e1 e2 e3 e4 e5 e6 e7 e8 e9 =
    ap (λ z. flags_from z x.receive x.call x.procs x.silent x.arity x.set_on_spawn x.set_on_first_spawn x.set_on_link x.set_on_first_link) e0
    ∙ ap (λ z. flags_from y.send z x.call x.procs x.silent x.arity x.set_on_spawn x.set_on_first_spawn x.set_on_link x.set_on_first_link) e1
    ∙ ap (λ z. flags_from y.send y.receive z x.procs x.silent x.arity x.set_on_spawn x.set_on_first_spawn x.set_on_link x.set_on_first_link) e2
    ∙ ap (λ z. flags_from y.send y.receive y.call z x.silent x.arity x.set_on_spawn x.set_on_first_spawn x.set_on_link x.set_on_first_link) e3
    ∙ ap (λ z. flags_from y.send y.receive y.call y.procs z x.arity x.set_on_spawn x.set_on_first_spawn x.set_on_link x.set_on_first_link) e4
    ∙ ap (λ z. flags_from y.send y.receive y.call y.procs y.silent z x.set_on_spawn x.set_on_first_spawn x.set_on_link x.set_on_first_link) e5
    ∙ ap (λ z. flags_from y.send y.receive y.call y.procs y.silent y.arity z x.set_on_first_spawn x.set_on_link x.set_on_first_link) e6
    ∙ ap (λ z. flags_from y.send y.receive y.call y.procs y.silent y.arity y.set_on_spawn z x.set_on_link x.set_on_first_link) e7
    ∙ ap (λ z. flags_from y.send y.receive y.call y.procs y.silent y.arity y.set_on_spawn y.set_on_first_spawn z x.set_on_first_link) e8
    ∙ ap (λ z. flags_from y.send y.receive y.call y.procs y.silent y.arity y.set_on_spawn y.set_on_first_spawn y.set_on_link z) e9

pub returns : goal.returns
returns c told =
    let one = c.args.one in
    let other = c.args.other in
    let r0 = sym c.eq.ensures ∙ told in
    let r1 = rest _ _ r0 in
    let r2 = rest _ _ r1 in
    let r3 = rest _ _ r2 in
    let r4 = rest _ _ r3 in
    let r5 = rest _ _ r4 in
    let r6 = rest _ _ r5 in
    let r7 = rest _ _ r6 in
    let r8 = rest _ _ r7 in
    let r9 = rest _ _ r8 in
    ap flags_of (equal one other (same one.send other.send (first _ _ r0)) (same one.receive other.receive (first _ _ r1)) (same one.call other.call (first _ _ r2)) (same one.procs other.procs (first _ _ r3)) (same one.silent other.silent (first _ _ r4)) (same one.arity other.arity (first _ _ r5)) (same one.set_on_spawn other.set_on_spawn (first _ _ r6)) (same one.set_on_first_spawn other.set_on_first_spawn (first _ _ r7)) (same one.set_on_link other.set_on_link (first _ _ r8)) (same one.set_on_first_link other.set_on_first_link r9))
