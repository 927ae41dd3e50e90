use Rattle.std.proofs.Common.{◌∙◌, List, ◌++◌, ap, append_assoc, map, refl, subst}
use Rattle.def_term.specs.Names.{Name}
use Rattle.def_script.specs.Script.{creations}
use Rattle.def_departure.specs.Departures.{departure_text}
use Rattle.tn_program.specs.Views.{program_of}
use Rattle.tn_answers.specs.AnswerViews.{session_name_seen}
use Rattle.tn_answers.specs.SearchAnswers.{form_seen, search_question_seen}
use Rattle.tn_search.specs.Sessions.{elements_at}
use Rattle.tn_search.specs.States.{is_by_process}
use Rattle.tn_exploration.specs.Searches.{IsAnswerBy, departure_seen, search_text_seen}
use Rattle.tn_exploration.proofs.searches.put_search.Goals as goal

pub returns : goal.returns
returns g c =
    let q = c.args.request.now in
    let p = program_of c.args.program.now in
    let r = c.in_ok-answer.field-0 in
    let d = departure_seen r.departure in
    let asked = search_question_seen q.question in
    let b = is_by_process q.order in
    let old = c.args.text.now.items in
    let text = r.answer.text.items in
    let sessions = elements_at c.args.places.now (creations p.commands) in
    let explained = λ (ss : List (Name × Name)). departure_text (form_seen q.form) ss p d in
    let names_are = ap (map (session_name_seen {A = g.row.A.Denot})) c.deref-3.ensures.value ∙ c.in_ok-names.ensures in
    let own = subst (λ ns. IsAnswerBy q.random (form_seen q.form) (map (session_name_seen {A = g.row.A.Denot}) ns) asked b q.reduces p c.args.before.now c.args.places.now q.max_states (search_text_seen r.answer) d) c.deref.ensures.value c.in_ok-answer.ensures in
    let grown = c.in_ok-extend_from_slice.ensures.items ∙ ap (λ xs. old ++ xs) c.deref-2.ensures.value in (
      text ++ explained sessions,
      (
        text,
        d,
        subst (λ ss. IsAnswerBy q.random (form_seen q.form) ss asked b q.reduces p c.args.before.now c.args.places.now q.max_states (search_text_seen r.answer) d) c.in_ok-names.ensures own,
        refl,
      ),
      c.in_ok-put_departure.ensures ∙ ap (λ xs. xs ++ explained (map session_name_seen c.deref-3.result.now)) grown
          ∙ append_assoc old text (explained (map session_name_seen c.deref-3.result.now)) ∙ ap (λ ss. old ++ (text ++ explained ss)) names_are,
    )
