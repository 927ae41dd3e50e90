-- Two answers of one run within a bound.
use Rattle.std.proofs.Common.{◌≡◌, ◌∙◌, ◌<◌, ◌≤◌, ℕ, Result, Ok, Err, IfOk, OnOk, IsErrOf, refl, sym, ap, arith}
use Rattle.complete_scripts.specs.Agreement.{Agree, answer_of}
use Rattle.complete_runs.specs.Alike.{transcript_fault_seen}
use Rattle.tn_trace.specs.declared.transcript_fault.TranscriptFault.{TranscriptFault}
use Rattle.tn_trace.specs.declared.transcript_fault.TranscriptFault.TheVariants.{TooLong, OutOfMemory}

-- the answer is seen as this, where a run has so many bytes of listings, and these are at most as many as it may have
pub record IsWithin {X Y : Type 0} (see : X → Y) (value : Y) (bytes most : ℕ) (r : Result X TranscriptFault) : Type 0 where
  pub run : IfOk r (λ x. see x ≡ value)
  pub within : OnOk r (bytes ≤ most)
  pub long : IsErrOf r TooLong → most < bytes

pub agree_within : {X Y : Type 0} (see : X → Y) (one other : Y) (bytes same most : ℕ) (r q : Result X TranscriptFault) → one ≡ other → bytes ≡ same
    → IsWithin see one bytes most r → IsWithin see other same most q → Agree (answer_of see transcript_fault_seen r) (answer_of see transcript_fault_seen q)
agree_within see one other bytes same most (Ok x) (Ok y) values sizes h i = ap Ok (h.run ∙ values ∙ sym i.run)
agree_within see one other bytes same most (Ok x) (Err TooLong) values sizes h i = let long = i.long refl in absurd (omega (arith, h.within, sizes, long))
agree_within see one other bytes same most (Ok x) (Err OutOfMemory) values sizes h i = tt
agree_within see one other bytes same most (Err TooLong) (Ok y) values sizes h i = let long = h.long refl in absurd (omega (arith, i.within, sizes, long))
agree_within see one other bytes same most (Err TooLong) (Err TooLong) values sizes h i = refl
agree_within see one other bytes same most (Err TooLong) (Err OutOfMemory) values sizes h i = tt
agree_within see one other bytes same most (Err OutOfMemory) q values sizes h i = tt
