-- Patterns of texts, one after another.
use Rattle.std.proofs.Common.{◌≡◌, ◌∙◌, ℕ, ◌+◌, ◌<◌, ◌≤◌, List, [], ◌∷◌, ◌++◌, length, map, take, get_or, Bor, refl, sym, ap, subst, append-nil, append_assoc}
use Rattle.std.proofs.lemmas.List.{take_more, take_all, map-append, length-map, get_or-map}
use Rattle.std.proofs.lemmas.List.Elements.{Contains-get_or}
use Rattle.std.specs.List.{Contains}
use Rattle.def_explore.specs.Words as words
use Rattle.def_text.specs.Spelling.{Spells}
use Rattle.def_spec.specs.Reading.{pattern_of}
use Rattle.tn_term.specs.Views.{tree_of}
use Rattle.tn_message_pattern.specs.Questions.{demand_seen, pattern_question_seen}
use Rattle.tn_message_pattern.specs.Readings.{IsPatternReading}
use Rattle.tn_message_pattern.specs.declared.message_pattern.Demand.{Demand}
use Rattle.tn_message_pattern.specs.declared.message_pattern.MessagePattern.{MessagePattern}
use Rattle.tn_message_pattern.specs.declared.reading.PatternReading.{PatternReading}
use Rattle.tn_message_pattern.specs.declared.reading.PatternReading.TheVariants as readings
use Rattle.tn_message_pattern.specs.declared.message_pattern.PatternQuestion.{PatternQuestion}
use Rattle.tn_trace.specs.Slots.{EachPair}
use Rattle.tn_exploration.specs.Questions.{AddsQuestion, AddsQuestions, IsPatternOf, IsQuestionOf, IsQuestionFault, IsTextsFault, IsNoPattern}
use Rattle.tn_exploration.specs.declared.questions.QuestionsFault.{QuestionsFault}
use Rattle.tn_exploration.specs.declared.questions.QuestionsFault.TheVariants.{NoPattern, OutOfMemory}

pair_last : {T S : Type 0} (P : T → S → Type 0) (ts : List T) (ss : List S) (t : T) (s : S) → EachPair P ts ss → P t s → EachPair P (ts ++ t ∷ []) (ss ++ s ∷ [])
pair_last P [] [] t s h p = (p, tt)
pair_last P [] (s' ∷ ss) t s h p = absurd h
pair_last P (t' ∷ ts) [] t s h p = absurd h
pair_last P (t' ∷ ts) (s' ∷ ss) t s h p = (h.0, pair_last P ts ss t s h.1 p)

pub no_texts : {A : Type 0} (d : words.Demand) (old : List (PatternQuestion A)) → AddsQuestions d [] old old
no_texts d old = ([], tt, sym (append-nil (map pattern_question_seen old)))

pub text_more : {A : Type 0} (d : words.Demand) (texts : List (Bor (List ℕ))) (i : ℕ) (none : Bor (List ℕ)) (old now new : List (PatternQuestion A)) → i < length texts
    → AddsQuestions d (map (λ t. t.now) (take i texts)) old now → AddsQuestion d (get_or texts i none).now now new → AddsQuestions d (map (λ t. t.now) (take (i + 1) texts)) old new
text_more d texts i none old now new below (qs, are, so_far) (q, is_question, more) = (
  qs ++ q ∷ [],
  subst (λ ts. EachPair (IsQuestionOf d) ts (qs ++ q ∷ [])) (sym (ap (map (λ t. t.now)) (take_more texts i none below) ∙ map-append (λ t. t.now) (take i texts) (get_or texts i none ∷ [])))
      (pair_last (IsQuestionOf d) (map (λ t. t.now) (take i texts)) qs (get_or texts i none).now q are is_question),
  more ∙ ap (λ xs. xs ++ q ∷ []) so_far ∙ append_assoc (map pattern_question_seen old) qs (q ∷ []),
)

pub all_texts : {A : Type 0} (d : words.Demand) (texts : List (Bor (List ℕ))) (i : ℕ) (old new : List (PatternQuestion A)) → length texts ≤ i
    → AddsQuestions d (map (λ t. t.now) (take i texts)) old new → AddsQuestions d (map (λ t. t.now) texts) old new
all_texts d texts i old new past so_far = subst (λ ts. AddsQuestions d (map (λ t. t.now) ts) old new) (take_all i texts past) so_far

-- one of the texts
pub text_there : (texts : List (Bor (List ℕ))) (i : ℕ) (none : Bor (List ℕ)) → i < length texts → Contains (map (λ t. t.now) texts) (get_or texts i none).now
text_there texts i none below =
    subst (Contains (map (λ t. t.now) texts)) (get_or-map (λ (t : Bor (List ℕ)). t.now) texts i none none.now below)
    (Contains-get_or (map (λ t. t.now) texts) i none.now (subst (λ n. i < n) (sym (length-map texts (λ t. t.now))) below))

pub fault_of_one : (texts : List (Bor (List ℕ))) (i : ℕ) (none : Bor (List ℕ)) (e : QuestionsFault) → i < length texts → IsQuestionFault (get_or texts i none).now e → IsTextsFault (map (λ t. t.now) texts) e
fault_of_one texts i none (NoPattern it reason) below (same, why) =
    (subst (Contains (map (λ t. t.now) texts)) (sym same) (text_there texts i none below), subst (λ text. IsNoPattern text reason.now) (sym same) why)
fault_of_one texts i none OutOfMemory below is = tt

-- the pattern that a text spells
pub pattern_read : {A : Type 0} (text bytes : List ℕ) (reading : PatternReading A) (pattern : MessagePattern A) → bytes ≡ text → reading ≡ readings.Pattern pattern → IsPatternReading bytes reading → IsPatternOf text pattern
pattern_read {A} text bytes reading pattern same is given = read (subst (IsPatternReading bytes) is given)
  where
    read : IsPatternReading bytes (readings.Pattern pattern) → IsPatternOf text pattern
    read (t, spelled, is_read) = record {
      spelled = subst (λ b. Spells b (tree_of pattern.term)) same (subst (Spells bytes) (sym is_read.0) spelled);
      pattern = ap pattern_of is_read.0 ∙ is_read.1;
    }

-- it comes after the others
pub question_added : {A : Type 0} (text : List ℕ) (pattern : MessagePattern A) (demand : Demand) (old new : List (PatternQuestion A)) → IsPatternOf text pattern
    → new ≡ old ++ record { pattern = pattern; demand = demand } ∷ [] → AddsQuestion (demand_seen demand) text old new
question_added {A} text pattern demand old new is longer = (
  pattern_question_seen {A = A} (record { pattern = pattern; demand = demand }),
  record { spelled = is.spelled; pattern = is.pattern; demand = refl },
  ap (map pattern_question_seen) longer ∙ map-append pattern_question_seen old (record { pattern = pattern; demand = demand } ∷ []),
)
