-- Lemmas on one write among several, and on what is taken of a reader.
use Rattle.std.proofs.Common.{◌≡◌, ◌≢◌, ℕ, ◌+◌, ◌-◌, ◌≤◌, ◌||◌, Bool, true, false, List, [], ◌∷◌, ◌++◌, take, drop, length, Option, Ok, sym, subst, arith, rules, length-append}
use Rattle.std.proofs.Math.Nat.{min-le_left}
use Rattle.std.proofs.Math.Seq.{take-add}
use Rattle.std.proofs.lemmas.List.{take_rest, length-take}
use Rattle.std.proofs.KnownBytes.{Appends-trans, Consumes-trans}
use Rattle.std.specs.Io.KnownBytes.{Appends, Consumes}
use Rattle.tn_text.specs.Watch.{failed_write}
use Rattle.tn_run.specs.Ends.{full, TakesFront}

-- the first w bytes, and then n of the others, are the first w + n
pub Appends-next : (a b c : Option (List ℕ)) (output : List ℕ) (w n : ℕ) → Appends a b (take w output)
    → Appends b c (take n (take (length output - w) (drop w output))) → Appends a c (take (w + n) output)
Appends-next a b c output w n before now =
    let rest = subst (λ l. Appends b c (take n l)) (take_rest output w) now in
    subst (Appends a c) (sym (take-add w n output)) (Appends-trans a b c _ _ before rest)

-- a write that took a byte has not failed
pub failed_write-took : (E : Type 0) (old new : Bool) (n : ℕ) (buf : List ℕ) → n ≢ 0 → new ≡ (old || failed_write {E = E} (Ok n) buf) → new ≡ old
failed_write-took E true new n buf some e = e
failed_write-took E false new n [] some e = e
failed_write-took E false new n (b ∷ buf) some e = search rules

-- a read takes some bytes more
pub taken_after : (a b c : Option (List ℕ)) (text more : List ℕ) (n : ℕ) → Consumes a b text → Consumes b c (take n more) → length text + n ≤ full → TakesFront a c
taken_after a b c text more n h k short = record {
  bytes = text ++ take n more;
  consumed = Consumes-trans a b c text (take n more) h k;
  within = omega (arith, short, length-append text (take n more), length-take n more, min-le_left n (length more));
}
