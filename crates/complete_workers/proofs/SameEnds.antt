-- Readers and writers that tell their bytes are left the same.
use Rattle.std.proofs.Common.{◌≡◌, ◌∙◌, ◌≢◌, ◌⊎◌, inl, inr, ℕ, ◌<◌, ◌≤◌, nat_lt, Bool, true, false, List, [], ◌++◌, length, take, drop, Option, Some, None, IsSome, Result, Ok, Err, IfOk, IfErr, OnOk, OnErr, IsErrOf, refl, sym, ap, ap₂, subst, arith, append-nil}
use Rattle.std.proofs.lemmas.Bool.Decides.{nat_tests}
use Rattle.std.proofs.lemmas.List.{drop_all, drop_at, take_all, take_at}
use Rattle.std.specs.Io.KnownBytes.{Appends}
use Rattle.std.specs.declared.vec.Vec.{Vec}
use Rattle.tn_run.specs.declared.fault.RunFault.{RunFault}
use Rattle.tn_run.specs.declared.fault.RunFault.TheVariants.{Read, Write, OutOfMemory}
use Rattle.tn_run.specs.Ends.{TakesText, WritesFront, full}
use Rattle.complete_runs.proofs.Both.{both_if_ok}
use Rattle.complete_workers.specs.Ends.{EndAlike, error_of}

pub none_some : {X P : Type 0} (x : X) → None ≡ Some x → P
none_some x e = cc

pub not_told : {P : Type 0} → IsSome {T = List ℕ} None → P
not_told h = let e : false ≡ true = h in cc

pub the_same : {X : Type 0} (x y : X) → Some x ≡ Some y → x ≡ y
the_same x y e = cc

-- what holds of the one fault holds of the other
pub as_other : {X E : Type 0} (P : E → Type 0) (r q : Result X E) → EndAlike r q → IfErr r P → IfErr q P
as_other P (Ok x) (Ok y) e h = tt
as_other P (Ok x) (Err d) e h = none_some d e
as_other P (Err d) (Ok y) e h = tt
as_other P (Err d) (Err f) e h = subst P (the_same d f e) h

-- what goes by the fault is the same
pub same_by : {E V : Type 0} (f : V → Option E → V) (was was' now now' : V) (x y : Option E) → was ≡ was' → now ≡ f was x → now' ≡ f was' y → x ≡ y → now ≡ now'
same_by f was was' now now' x y e h i same = h ∙ ap₂ f e same ∙ sym i

-- ---- what is read

under_or_at : (n m : ℕ) → n ≤ m → (n < m) ⊎ (n ≡ m)
under_or_at n m h =
    elim (nat_lt n m) as (λ b. nat_lt n m ≡ b → (n < m) ⊎ (n ≡ m)) [ true ↦ λ e. inl (grind (arith, nat_tests, e)) | false ↦ λ e. inr (grind (arith, nat_tests, e, h)) ] refl

-- the text is the front of the bytes, and the rest is left
split_at : (xs text rest : List ℕ) → xs ≡ text ++ rest → length text ≤ full → (length text < full → rest ≡ []) → (length text < full) ⊎ (length text ≡ full) → (text ≡ take full xs) × (rest ≡ drop full xs)
split_at xs text rest e within whole (inl short) =
    let none : rest ≡ [] = whole short in
    let same : xs ≡ text = e ∙ ap (λ l. text ++ l) none ∙ append-nil text in
    let size : length xs ≤ full = omega (arith, ap length same, within) in
    (sym (take_all full xs size ∙ same), none ∙ sym (drop_all full xs size))
split_at xs text rest e within whole (inr long) = (sym (ap (take full) e ∙ take_at text rest full long), sym (ap (drop full) e ∙ drop_at text rest full long))

pub taken_is : (xs : List ℕ) (new : Option (List ℕ)) (text : List ℕ) → TakesText (Some xs) new text → (text ≡ take full xs) × (new ≡ Some (drop full xs))
taken_is xs None text h = absurd h.consumed
taken_is xs (Some rest) text h =
    let parts = split_at xs text rest h.consumed h.within h.whole (under_or_at (length text) full h.within) in
    (parts.0, ap Some parts.1)

same_taken : (old other new new' : Option (List ℕ)) (text text' : List ℕ) → old ≡ other → IsSome old → TakesText old new text → TakesText other new' text' → (text ≡ text') × (new ≡ new')
same_taken None other new new' text text' e some h i = not_told some
same_taken (Some xs) other new new' text text' e some h i =
    let one = taken_is xs new text h in
    let two = taken_is xs new' text' (subst (λ o. TakesText o new' text') (sym e) i) in
    (one.0 ∙ sym two.0, one.1 ∙ sym two.1)

pub same_text : {A : Type 0} (old other new new' : Option (List ℕ)) (r q : Result (Vec ℕ A) RunFault) → old ≡ other → IfOk r (λ v. TakesText old new v.items) → IfOk q (λ v. TakesText other new' v.items)
    → IsSome old → IfOk r (λ v. IfOk q (λ w. v.items ≡ w.items))
same_text old other new new' r q e h i some =
    both_if_ok (λ v. TakesText old new v.items) (λ v. TakesText other new' v.items) (λ v w. v.items ≡ w.items) (λ v w k l. (same_taken old other new new' v.items w.items e some k l).0) r q h i

pub same_left : {A : Type 0} (old other new new' : Option (List ℕ)) (r q : Result (Vec ℕ A) RunFault) → old ≡ other → IfOk r (λ v. TakesText old new v.items) → IfOk q (λ v. TakesText other new' v.items)
    → IsSome old → OnOk r (OnOk q (new ≡ new'))
same_left old other new new' r q e h i some =
    both_if_ok (λ v. TakesText old new v.items) (λ v. TakesText other new' v.items) (λ v w. new ≡ new') (λ v w k l. (same_taken old other new new' v.items w.items e some k l).1) r q h i

-- whether a read has failed, then
abbrev read_failed : Bool → Option RunFault → Bool
read_failed was None = was
read_failed was (Some Read) = true
read_failed was (Some (Write n)) = was
read_failed was (Some OutOfMemory) = was

read_failed_is : {X : Type 0} (was now : Bool) (r : Result X RunFault) → OnOk r (now ≡ was) → (IsErrOf r Read → now ≡ true) → (IsErrOf r OutOfMemory → now ≡ was) → IfErr r (λ e. (n : ℕ) → e ≢ Write n) → now ≡ read_failed was (error_of r)
read_failed_is was now (Ok x) h i k none = h
read_failed_is was now (Err Read) h i k none = i refl
read_failed_is was now (Err (Write n)) h i k none = absurd (none n refl)
read_failed_is was now (Err OutOfMemory) h i k none = k refl

pub same_read_failed : {X : Type 0} (was was' now now' : Bool) (r q : Result X RunFault) → was ≡ was'
    → OnOk r (now ≡ was) → (IsErrOf r Read → now ≡ true) → (IsErrOf r OutOfMemory → now ≡ was) → IfErr r (λ e. (n : ℕ) → e ≢ Write n)
    → OnOk q (now' ≡ was') → (IsErrOf q Read → now' ≡ true) → (IsErrOf q OutOfMemory → now' ≡ was') → IfErr q (λ e. (n : ℕ) → e ≢ Write n)
    → EndAlike r q → now ≡ now'
same_read_failed was was' now now' r q e h i k l h' i' k' l' same =
    same_by read_failed was was' now now' (error_of r) (error_of q) e (read_failed_is was now r h i k l) (read_failed_is was' now' q h' i' k' l') same

-- ---- what is written

pub appended : (was bytes : List ℕ) (new : Option (List ℕ)) → Appends (Some was) new bytes → new ≡ Some (was ++ bytes)
appended was bytes None h = absurd h
appended was bytes (Some now) h = ap Some h

-- what the writer tells, then
abbrev written_by : List ℕ → List ℕ → Option RunFault → List ℕ
written_by was output None = was ++ output
written_by was output (Some Read) = was
written_by was output (Some (Write n)) = was ++ take n output
written_by was output (Some OutOfMemory) = was

-- the fault is of a write, which took so many bytes
abbrev Front : Option (List ℕ) → Option (List ℕ) → List ℕ → RunFault → Type 0
Front old new output e = (n : ℕ) × (e ≡ Write n) × WritesFront old new output n

written_is : (was output : List ℕ) (new : Option (List ℕ)) (r : Result (Unit {0}) RunFault) → OnOk r (Appends (Some was) new output) → IfErr r (λ e. Front (Some was) new output e) → new ≡ Some (written_by was output (error_of r))
written_is was output new (Ok done) h i = appended was output new h
written_is was output new (Err e) h i = appended was (take i.0 output) new i.2.gained ∙ ap (λ x. Some (written_by was output (Some x))) (sym i.1)

pub same_written : (old other new new' : Option (List ℕ)) (output output' : List ℕ) (r q : Result (Unit {0}) RunFault) → old ≡ other → output ≡ output'
    → OnOk r (Appends old new output) → IfErr r (λ e. Front old new output e) → OnOk q (Appends other new' output') → IfErr q (λ e. Front other new' output' e)
    → IsSome old → EndAlike r q → new ≡ new'
same_written None other new new' output output' r q e f h i k l some same = not_told some
same_written (Some was) None new new' output output' r q e f h i k l some same = none_some was (sym e)
same_written (Some was) (Some was') new new' output output' r q e f h i k l some same =
    written_is was output new r h i
    ∙ ap (λ x. Some (written_by was output x)) same
    ∙ ap₂ (λ x y. Some (written_by x y (error_of q))) (the_same was was' e) f
    ∙ sym (written_is was' output' new' q k l)

abbrev write_failed : Bool → Option RunFault → Bool
write_failed was None = was
write_failed was (Some fault) = true

write_failed_is : (was now : Bool) (r : Result (Unit {0}) RunFault) → OnOk r (now ≡ was) → OnErr r (now ≡ true) → now ≡ write_failed was (error_of r)
write_failed_is was now (Ok done) h i = h
write_failed_is was now (Err e) h i = i

pub same_write_failed : (was was' now now' : Bool) (r q : Result (Unit {0}) RunFault) → was ≡ was' → OnOk r (now ≡ was) → OnErr r (now ≡ true) → OnOk q (now' ≡ was') → OnErr q (now' ≡ true)
    → EndAlike r q → now ≡ now'
same_write_failed was was' now now' r q e h i k l same =
    same_by write_failed was was' now now' (error_of r) (error_of q) e (write_failed_is was now r h i) (write_failed_is was' now' q k l) same
