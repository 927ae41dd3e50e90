-- What a text spells that is to be a pattern.
-- Depends on the terms that texts spell, and on patterns.
use Rattle.std.specs.Prelude.{◌≡◌, ℕ, List, Ok, Err}
use Rattle.def_term.specs.Tree.{Tree}
use Rattle.def_text.specs.Spelling.{Spells}
use Rattle.def_spec.specs.Matching.{Pattern, in_list, and_pattern, no_patterns}
use Rattle.def_spec.specs.Reading.{Reads, SpecFault, pattern_of, then_read}
use Rattle.tn_message_pattern.specs.declared.reading.PatternReading.{PatternReading}
use Rattle.tn_message_pattern.specs.declared.reading.PatternReading.TheVariants as readings
use Rattle.tn_spec.specs.Views.{pattern_seen}
use Rattle.tn_term.specs.Views.{tree_of}
use Rattle.tn_text.specs.Answers.{IsTextRefusal}
use Rattle.tn_text.specs.declared.fault.TextFault.{TextFault}
use Rattle.tn_text.specs.declared.fault.TextFault.TheVariants as faults

-- the head of a list with this one element
abbrev pub head_of_one : Tree → Reads Pattern
head_of_one t = then_read (pattern_of t) (λ p. Ok (in_list (and_pattern p no_patterns)))

-- the pattern that a term is, or that it is none
abbrev pub IsTermReading : {A : Type 0} → Tree → PatternReading A → Type 0
IsTermReading t (readings.Pattern m) = (tree_of m.term ≡ t) × (pattern_of t ≡ Ok (pattern_seen m.pattern))
IsTermReading t (readings.NoTerm fault) = ⊥
IsTermReading t readings.NoPattern = (e : SpecFault) × (pattern_of t ≡ Err e)

-- the text spells no term, for this reason
abbrev pub IsNoTerm : List ℕ → TextFault → Type 0
IsNoTerm bytes faults.OutOfMemory = ⊥
IsNoTerm bytes fault = IsTextRefusal bytes fault

-- the pattern that a text spells, or why it spells none
abbrev pub IsPatternReading : {A : Type 0} → List ℕ → PatternReading A → Type 0
IsPatternReading bytes (readings.NoTerm fault) = IsNoTerm bytes fault
IsPatternReading bytes reading = (t : Tree) × Spells bytes t × IsTermReading t reading
