use Rattle.std.proofs.Common.{◌≡◌, ◌++◌, OnOk, map, subst}
use Rattle.def_explore.specs.Output.{session_texts}
use Rattle.tn_messages.specs.MessageViews.{trees_seen}
use Rattle.tn_answers.specs.AnswerViews.{session_name_seen}
use Rattle.tn_answers.proofs.entry.put_total.Goals as goal

pub returns : goal.returns
returns g c = subst (λ xs. OnOk c.put_sessions.result (c.put_sessions.new.out.items ≡ c.args.out.now.items ++ session_texts (map session_name_seen c.args.sessions.now) (map trees_seen xs))) c.deref.ensures.value c.put_sessions.ensures
