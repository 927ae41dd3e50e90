-- A reader's answers, where the reading and the refusal of a text are one.
use Rattle.std.proofs.Common.{◌≡◌, ◌<◌, ◌≤◌, ℕ, List, length, Result, Ok, Err, refl, ap, arith}
use Rattle.def_text.specs.Faults.{FaultKind, misplaced, too_deep, too_large}
use Rattle.def_text.specs.Spelling.{LENGTH}
use Rattle.tn_text.specs.declared.fault.TextFault.{TextFault}
use Rattle.tn_text.specs.declared.fault.TextFault.TheVariants.{TooLong, Token as NoToken, TooDeep, TooLarge, OutOfMemory}
use Rattle.complete_terms.specs.Answers.{IsRefusedMemory, FaultsAlike, AreAlike}

-- a text is read as one value, or refused in one way, and never both; either only where it is short enough
pub record IsDetermined {V : Type 0} (bytes : List ℕ) (S : V → Type 0) (R : FaultKind → ℕ → Type 0) : Type 0 where
  pub one : (x y : V) → S x → S y → x ≡ y
  pub refused : (x : V) (kind : FaultKind) (at : ℕ) → S x → R kind at → ⊥
  pub once : (kind other : FaultKind) (at there : ℕ) → R kind at → R other there → (kind ≡ other) × (at ≡ there)
  pub short : (x : V) → S x → length bytes ≤ LENGTH
  pub short_too : (kind : FaultKind) (at : ℕ) → R kind at → length bytes ≤ LENGTH

-- the fault is the refusal
abbrev pub IsRefusalBy : List ℕ → (FaultKind → ℕ → Type 0) → TextFault → Type 0
IsRefusalBy bytes R TooLong = LENGTH < length bytes
IsRefusalBy bytes R (NoToken at) = R misplaced at
IsRefusalBy bytes R (TooDeep at) = R too_deep at
IsRefusalBy bytes R (TooLarge at) = R too_large at
IsRefusalBy bytes R OutOfMemory = Unit {0}

-- a text isn't both too long and short enough
pub long_and_short : {P : Type 0} (n : ℕ) → LENGTH < n → n ≤ LENGTH → P
long_and_short n h k = absurd (omega arith)

pub faults_alike : {V : Type 0} (bytes : List ℕ) (S : V → Type 0) (R : FaultKind → ℕ → Type 0) → IsDetermined bytes S R →
    (f g : TextFault) → IsRefusalBy bytes R f → IsRefusalBy bytes R g → FaultsAlike f g
faults_alike bytes S R d OutOfMemory g p q = tt
faults_alike bytes S R d TooLong OutOfMemory p q = tt
faults_alike bytes S R d TooLong TooLong p q = refl
faults_alike bytes S R d TooLong (NoToken b) p q = long_and_short (length bytes) p (d.short_too misplaced b q)
faults_alike bytes S R d TooLong (TooDeep b) p q = long_and_short (length bytes) p (d.short_too too_deep b q)
faults_alike bytes S R d TooLong (TooLarge b) p q = long_and_short (length bytes) p (d.short_too too_large b q)
faults_alike bytes S R d (NoToken a) OutOfMemory p q = tt
faults_alike bytes S R d (NoToken a) TooLong p q = long_and_short (length bytes) q (d.short_too misplaced a p)
faults_alike bytes S R d (NoToken a) (NoToken b) p q = ap NoToken (d.once misplaced misplaced a b p q).1
faults_alike bytes S R d (NoToken a) (TooDeep b) p q = let e = (d.once misplaced too_deep a b p q).0 in cc
faults_alike bytes S R d (NoToken a) (TooLarge b) p q = let e = (d.once misplaced too_large a b p q).0 in cc
faults_alike bytes S R d (TooDeep a) OutOfMemory p q = tt
faults_alike bytes S R d (TooDeep a) TooLong p q = long_and_short (length bytes) q (d.short_too too_deep a p)
faults_alike bytes S R d (TooDeep a) (NoToken b) p q = let e = (d.once too_deep misplaced a b p q).0 in cc
faults_alike bytes S R d (TooDeep a) (TooDeep b) p q = ap TooDeep (d.once too_deep too_deep a b p q).1
faults_alike bytes S R d (TooDeep a) (TooLarge b) p q = let e = (d.once too_deep too_large a b p q).0 in cc
faults_alike bytes S R d (TooLarge a) OutOfMemory p q = tt
faults_alike bytes S R d (TooLarge a) TooLong p q = long_and_short (length bytes) q (d.short_too too_large a p)
faults_alike bytes S R d (TooLarge a) (NoToken b) p q = let e = (d.once too_large misplaced a b p q).0 in cc
faults_alike bytes S R d (TooLarge a) (TooDeep b) p q = let e = (d.once too_large too_deep a b p q).0 in cc
faults_alike bytes S R d (TooLarge a) (TooLarge b) p q = ap TooLarge (d.once too_large too_large a b p q).1

-- a text that is read has no refusal
pub read_or_refused : {V : Type 0} (bytes : List ℕ) (S : V → Type 0) (R : FaultKind → ℕ → Type 0) → IsDetermined bytes S R →
    (x : V) (f : TextFault) → S x → IsRefusalBy bytes R f → IsRefusedMemory f
read_or_refused bytes S R d x OutOfMemory p q = tt
read_or_refused bytes S R d x TooLong p q = long_and_short (length bytes) q (d.short x p)
read_or_refused bytes S R d x (NoToken a) p q = d.refused x misplaced a p q
read_or_refused bytes S R d x (TooDeep a) p q = d.refused x too_deep a p q
read_or_refused bytes S R d x (TooLarge a) p q = d.refused x too_large a p q

-- the answer is what the text is read as, or its refusal
abbrev pub IsAnswerBy : {X V : Type 0} → List ℕ → (X → V) → (V → Type 0) → (FaultKind → ℕ → Type 0) → Result X TextFault → Type 0
IsAnswerBy bytes view S R (Ok x) = S (view x)
IsAnswerBy bytes view S R (Err f) = IsRefusalBy bytes R f

-- then two answers are alike
pub answers_alike : {X V : Type 0} (bytes : List ℕ) (view : X → V) (S : V → Type 0) (R : FaultKind → ℕ → Type 0) → IsDetermined bytes S R →
    (r s : Result X TextFault) → IsAnswerBy bytes view S R r → IsAnswerBy bytes view S R s → AreAlike view r s
answers_alike bytes view S R d (Ok x) (Ok y) p q = d.one (view x) (view y) p q
answers_alike bytes view S R d (Ok x) (Err g) p q = read_or_refused bytes S R d (view x) g p q
answers_alike bytes view S R d (Err f) (Ok y) p q = read_or_refused bytes S R d (view y) f q p
answers_alike bytes view S R d (Err f) (Err g) p q = faults_alike bytes S R d f g p q
