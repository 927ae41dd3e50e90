use Rattle.std.proofs.Common.{◌≡◌, ℕ, List, ◌++◌, take}
use Rattle.def_script.specs.Program.{Program}
use Rattle.def_script.specs.Script.{creations}
use Rattle.def_run.specs.Listing.{messages, listings_text}
use Rattle.tn_program.specs.Views.{program_of}
use Rattle.tn_trace.specs.Transcripts.{TranscriptValue, transcript_of}
use Rattle.tn_listing.proofs.OutputLemmas.{IsRestFrom}
use Rattle.tn_listing.proofs.output.append_listings.Given as goal

pub record Listed (p : Program) (number : ℕ) (before now : List ℕ) (whole left : TranscriptValue) : Type 0 where
  pub text : (picks : List ℕ) → whole ≡ transcript_of p picks → now ≡ before ++ listings_text (λ s. messages s p picks) (take number (creations p.commands))
  pub rest : IsRestFrom number left whole

abbrev pub invariant-loop-number : goal.invariant-loop-number
invariant-loop-number g l = Listed (program_of l.program) l.number l.initial.text.items l.text.items l.initial.transcript l.transcript
