use Rattle.tn_exploration.proofs.TextQuestions.{question_added}
use Rattle.tn_exploration.proofs.questions.add_question.Goals as goal

pub returns-clause-added : goal.returns-clause-added
returns-clause-added g c = question_added {A = g.row.A.Denot} c.args.text.now c.in_ok-pattern.pattern c.args.demand c.args.questions.now.items c.push.new.self.items c.in_ok-pattern.ensures.pattern c.in-Ok.ensures.items
