-- What is asked about patterns, as the definitions have it.
-- Depends on words.
use Rattle.def_explore.specs.Words as words
use Rattle.tn_message_pattern.specs.declared.message_pattern.Demand.{Demand}
use Rattle.tn_message_pattern.specs.declared.message_pattern.Demand.TheVariants.{Any, Always, Never, Sometimes}
use Rattle.tn_message_pattern.specs.declared.message_pattern.PatternQuestion.{PatternQuestion}
use Rattle.tn_spec.specs.Views.{pattern_seen}
use Rattle.tn_term.specs.Views.{tree_of}

abbrev pub demand_seen : Demand → words.Demand
demand_seen Any = words.any_word
demand_seen Always = words.only_always
demand_seen Never = words.only_never
demand_seen Sometimes = words.only_sometimes

abbrev pub pattern_question_seen : {A : Type 0} → PatternQuestion A → words.PatternQuestion
pattern_question_seen q = record { term = tree_of q.pattern.term; pattern = pattern_seen q.pattern.pattern; demand = demand_seen q.demand }
