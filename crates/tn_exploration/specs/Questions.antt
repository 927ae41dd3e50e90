-- The patterns that texts spell.
-- Depends on the terms that texts spell, and on patterns.
use Rattle.std.specs.Prelude.{◌≡◌, ◌⊎◌, ℕ, List, [], ◌∷◌, ◌++◌, map, Ok, Err, codes}
use Rattle.std.specs.List.{Contains}
use Rattle.def_term.specs.Tree.{Tree}
use Rattle.def_text.specs.Spelling.{Spells}
use Rattle.def_spec.specs.Reading.{SpecFault, pattern_of}
use Rattle.def_explore.specs.Words as words
use Rattle.tn_message_pattern.specs.Questions.{pattern_question_seen}
use Rattle.tn_message_pattern.specs.Readings.{IsNoTerm}
use Rattle.tn_message_pattern.specs.declared.message_pattern.MessagePattern.{MessagePattern}
use Rattle.tn_message_pattern.specs.declared.message_pattern.PatternQuestion.{PatternQuestion}
use Rattle.tn_spec.specs.Views.{pattern_seen}
use Rattle.tn_term.specs.Views.{tree_of}
use Rattle.tn_text.specs.declared.fault.TextFault.{TextFault}
use Rattle.tn_text.specs.declared.fault.TextFault.TheVariants as faults
use Rattle.tn_trace.specs.Slots.{EachPair}
use Rattle.tn_exploration.specs.declared.questions.QuestionsFault.{QuestionsFault}
use Rattle.tn_exploration.specs.declared.questions.QuestionsFault.TheVariants.{NoPattern, OutOfMemory}

-- the text spells this pattern, of which this is demanded
pub record IsQuestionOf (d : words.Demand) (text : List ℕ) (q : words.PatternQuestion) : Type 0 where
  pub spelled : Spells text q.term
  pub pattern : pattern_of q.term ≡ Ok q.pattern
  pub demand : q.demand ≡ d

-- the text spells the term of this pattern
pub record IsPatternOf {A : Type 0} (text : List ℕ) (a : MessagePattern A) : Type 0 where
  pub spelled : Spells text (tree_of a.term)
  pub pattern : pattern_of (tree_of a.term) ≡ Ok (pattern_seen a.pattern)

-- it comes after those before
abbrev pub AddsQuestion : {A : Type 0} → words.Demand → List ℕ → (old new : List (PatternQuestion A)) → Type 0
AddsQuestion d text old new = (q : words.PatternQuestion) × IsQuestionOf d text q × (map pattern_question_seen new ≡ map pattern_question_seen old ++ q ∷ [])

-- those that these texts spell do
abbrev pub AddsQuestions : {A : Type 0} → words.Demand → List (List ℕ) → (old new : List (PatternQuestion A)) → Type 0
AddsQuestions d texts old new = (qs : List words.PatternQuestion) × EachPair (IsQuestionOf d) texts qs × (map pattern_question_seen new ≡ map pattern_question_seen old ++ qs)

-- why a text spells no term
abbrev pub no_term_words : TextFault → List ℕ
no_term_words faults.TooLong = codes "it has more than 1048576 bytes"
no_term_words (faults.Token at) = codes "it spells no term: its variables are '_' and '$1', in quotes"
no_term_words (faults.TooDeep at) = codes "it nests too deep"
no_term_words (faults.TooLarge at) = codes "a part of it is past a limit"
no_term_words faults.OutOfMemory = codes "out of memory"

-- why a term is no pattern
abbrev pub no_pattern_words : List ℕ
no_pattern_words = codes "an atom of $ and a number in it is no variable"

-- the text spells no pattern, for this reason
abbrev pub IsNoPattern : (text reason : List ℕ) → Type 0
IsNoPattern text reason =
    ((fault : TextFault) × IsNoTerm text fault × (reason ≡ no_term_words fault)) ⊎ ((t : Tree) × Spells text t × ((e : SpecFault) × (pattern_of t ≡ Err e)) × (reason ≡ no_pattern_words))

-- the text is said to spell none, for its reason; refused memory says nothing of it
abbrev pub IsQuestionFault : List ℕ → QuestionsFault → Type 0
IsQuestionFault text (NoPattern it reason) = (it.now ≡ text) × IsNoPattern text reason.now
IsQuestionFault text OutOfMemory = Unit {0}

-- that is so of one of these texts
abbrev pub IsTextsFault : List (List ℕ) → QuestionsFault → Type 0
IsTextsFault texts (NoPattern it reason) = Contains texts it.now × IsNoPattern it.now reason.now
IsTextsFault texts OutOfMemory = Unit {0}
