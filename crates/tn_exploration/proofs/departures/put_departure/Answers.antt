use Rattle.std.proofs.Common.{◌≡◌, ℕ, List, ◌++◌, OnOk, codes, map, subst, sym}
use Rattle.def_departure.specs.Departures.{departure_text, first_name, last_move_text}
use Rattle.tn_program.specs.Views.{program_of}
use Rattle.tn_answers.specs.AnswerViews.{session_name_seen}
use Rattle.tn_answers.specs.SearchAnswers.{form_seen}
use Rattle.tn_exploration.specs.Searches.{departure_seen}
use Rattle.tn_exploration.proofs.DepartureRuns.{after_heading, line_departure}
use Rattle.tn_exploration.proofs.departures.put_departure.Goals as goal

pub returns-in-Plain : goal.returns-in-Plain
returns-in-Plain g c =
    let p = program_of c.args.program.now in
    let ss = map (session_name_seen {A = g.row.A.Denot}) c.args.names.now in
    let old = c.args.text.now.items in
    let new = c.put_last_move.new.text.items in
    let heading = codes "== explained\n" in
    let last : List ℕ → List ℕ = λ js. last_move_text (first_name ss) p js in
    let more = after_heading c.put_last_move.result new old heading (last c.deref.result.now) c.put_last_move.ensures in
    let own = subst (λ js. OnOk c.put_last_move.result (new ≡ old ++ (heading ++ last js))) c.deref.ensures.value more in
    let text = line_departure c.args.form ss p c.in-Some.journal.items c.in-Plain.is in
    subst (λ d. OnOk c.put_last_move.result (new ≡ old ++ departure_text (form_seen c.args.form) ss p (departure_seen d))) (sym c.in-Some.is)
    (subst (λ xs. OnOk c.put_last_move.result (new ≡ old ++ xs)) text own)
