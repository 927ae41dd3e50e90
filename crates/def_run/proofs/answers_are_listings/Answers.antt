use Rattle.def_run.proofs.Answers.{move_adds, answer_numbered, answers_are_listings}
use Rattle.def_run.proofs.answers_are_listings.Goals as goal

pub returns : goal.returns
returns c = record { adds = move_adds; numbered = answer_numbered; all = answers_are_listings }
