-- Which program a text is run as, or how it is refused (own).
use Rattle.std.specs.Prelude.{ℕ, List, Result, Ok, Err}
use Rattle.def_script.specs.Script.{IsScript, IsRefused}
use Rattle.tn_program.specs.declared.parts.Program as code
use Rattle.tn_program.specs.Views.{program_of}
use Rattle.tn_refusal.specs.Refusals.{refusal_of}
use Rattle.tn_refusal.specs.declared.refusal.Denial.{Denial}
use Rattle.tn_refusal.specs.declared.refusal.Denial.TheVariants.{Refused, OutOfMemory}

-- the program that the text is run as, or its refusal; a lack of memory says nothing of the text
abbrev pub IsAccepted : {A : Type 0} → List ℕ → Result (code.Program A) Denial → Type 0
IsAccepted bytes (Ok p) = IsScript bytes (program_of p)
IsAccepted bytes (Err (Refused r)) = IsRefused bytes (refusal_of r)
IsAccepted bytes (Err OutOfMemory) = Unit {0}
