use Rattle.std.proofs.Common.{map, take}
use Rattle.tn_exploration.specs.Questions.{AddsQuestions}
use Rattle.tn_message_pattern.specs.Questions.{demand_seen}
use Rattle.tn_exploration.proofs.questions.add_questions.Given as goal

abbrev pub invariant-loop-text : goal.invariant-loop-text
invariant-loop-text g l = AddsQuestions (demand_seen l.demand) (map (λ t. t.now) (take l.text-index l.texts)) l.fn.questions.items l.questions.items
