use Rattle.std.proofs.Common.{◌≡◌, map, take}
use Rattle.def_script.specs.Script.{creations}
use Rattle.tn_program.specs.Views.{program_of}
use Rattle.tn_answers.specs.AnswerViews.{session_name_seen}
use Rattle.tn_search.specs.Sessions.{elements_at}
use Rattle.tn_exploration.proofs.sessions.names_at.Given as goal

abbrev pub invariant-loop-place : goal.invariant-loop-place
invariant-loop-place g l = map session_name_seen l.names.items ≡ elements_at (take l.place-index l.places) (creations (program_of l.program).commands)
