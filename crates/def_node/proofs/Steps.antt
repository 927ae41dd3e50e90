-- Where a living process is, and what its step is.
use Rattle.std.proofs.Common.{◌≡◌, ℕ, ◌+◌, ◌-◌, ◌<◌, Bool, true, false, cond, List, length, slice_get, Option, Some, None, refl, ap, sym, ◌∙◌, arith}
use Rattle.std.specs.Prelude.{nat_le, nat_lt}
use Rattle.std.proofs.lemmas.Bool.Decides.{nat_tests}
use Rattle.def_script.specs.Program.{Function}
use Rattle.def_node.specs.Process.{Process, act}
use Rattle.def_node.specs.Node.{World, idle, place_in, place_of_pid, stepped_at, next_of, next_pid, after_act}

place_some : (o : Option (Option Process)) (k i : ℕ) → place_in o k ≡ Some i → (q : Process) × ((o ≡ Some (Some q)) × (k ≡ i))
place_some None k i e = absurd (let h : None ≡ Some i = e in cc)
place_some (Some None) k i e = absurd (let h : None ≡ Some i = e in cc)
place_some (Some (Some q)) k i e = (q, (refl, let h : Some k ≡ Some i = e in cc))

idle_at : (ks : List Function) (w : World) (k n : ℕ) (o : Option (Option Process)) → place_in o k ≡ None → idle w ≡ stepped_at ks w k n o
idle_at ks w k n None e = refl
idle_at ks w k n (Some None) e = refl
idle_at ks w k n (Some (Some q)) e = absurd (let h : Some k ≡ None = e in cc)

from_hundred : (n i : ℕ) → nat_le 100 n ≡ true → n - 100 ≡ i → n ≡ 100 + i
from_hundred n i le e = grind (arith, nat_tests)

here_if : (w : World) (n i : ℕ) (b : Bool) → nat_le 100 n ≡ b → cond b (place_in (slice_get w.slots (n - 100)) (n - 100)) None ≡ Some i
    → (q : Process) × ((slice_get w.slots i ≡ Some (Some q)) × ((n ≡ 100 + i) × ((ks : List Function) → after_act w i n (act ks n (next_pid w) q) ≡ next_of ks w n)))
here_if w n i false le e = absurd (let h : None ≡ Some i = e in cc)
here_if w n i true le e =
    let p = place_some (slice_get w.slots (n - 100)) (n - 100) i e in
    let q = p.0 in (
      q,
      (
        ap (slice_get w.slots) (sym p.1.1) ∙ p.1.0,
        (
          from_hundred n i le p.1.1,
          λ ks. sym (ap (λ b. cond b (stepped_at ks w (n - 100) n (slice_get w.slots (n - 100))) (idle w)) le
              ∙ ap (stepped_at ks w (n - 100) n) p.1.0 ∙ ap (λ j. after_act w j n (act ks n (next_pid w) q)) p.1.1),
        ),
      ),
    )

-- a living process stands at its place, and the step is its act
pub living_here : (w : World) (n i : ℕ) → place_of_pid w n ≡ Some i
    → (q : Process) × ((slice_get w.slots i ≡ Some (Some q)) × ((n ≡ 100 + i) × ((ks : List Function) → after_act w i n (act ks n (next_pid w) q) ≡ next_of ks w n)))
living_here w n i e = here_if w n i (nat_le 100 n) refl e

nowhere_if : (ks : List Function) (w : World) (n : ℕ) (b : Bool) → cond b (place_in (slice_get w.slots (n - 100)) (n - 100)) None ≡ None
    → idle w ≡ cond b (stepped_at ks w (n - 100) n (slice_get w.slots (n - 100))) (idle w)
nowhere_if ks w n false e = refl
nowhere_if ks w n true e = idle_at ks w (n - 100) n (slice_get w.slots (n - 100)) e

pub living_nowhere : (ks : List Function) (w : World) (n : ℕ) → place_of_pid w n ≡ None → idle w ≡ next_of ks w n
living_nowhere ks w n e = nowhere_if ks w n (nat_le 100 n) e

pid_if : (b : Bool) (n c : ℕ) → cond b (Some n) None ≡ Some c → b ≡ true
pid_if false n c e = absurd (let h : None ≡ Some c = e in cc)
pid_if true n c e = refl

lt_true : (a b : ℕ) → nat_lt a b ≡ true → a < b
lt_true a b e = grind (arith, nat_tests)

-- a spawn has a pid only where fewer than 64 processes were started
pub pid_left : (w : World) (c : ℕ) → next_pid w ≡ Some c → length w.slots < 64
pid_left w c e = lt_true (length w.slots) 64 (pid_if (nat_lt (length w.slots) 64) (100 + length w.slots) c e)
