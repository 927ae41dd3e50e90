use Rattle.std.proofs.Common.{◌≡◌, ◌∙◌, ◌++◌, OnOk, map, flat_map, ap, sym, subst}
use Rattle.def_explore.specs.Output.{session_texts}
use Rattle.tn_messages.specs.MessageViews.{lists_seen}
use Rattle.tn_answers.specs.AnswerViews.{session_name_seen, processes_listed}
use Rattle.tn_answers.proofs.Parts.{lists_seen_twice}
use Rattle.tn_answers.proofs.entry.put_by_process.Goals as goal

pub returns : goal.returns
returns g c =
    subst (λ mss. OnOk c.put_sessions.result (c.put_sessions.new.out.items ≡ c.args.out.now.items ++ session_texts (map session_name_seen c.args.sessions.now) mss))
    (ap (map processes_listed) c.deref.ensures.value ∙ sym (lists_seen_twice lists_seen (flat_map (λ ms. ms)) c.args.listings.now.items)) c.put_sessions.ensures
