use Rattle.std.proofs.Common.{◌≤◌, ◌∙◌, ◌-◌, ◌<◌, [], ◌∷◌, List, length, unwrap_or, vec_len, ap, arith}
use Rattle.std.specs.Prelude.{slice_get}
use Rattle.def_session.specs.State.{Mark, marks_at, with_marks}
use Rattle.tn_session.specs.Views.{mark_kind_seen, newest_first, marks_seen, state_seen}
use Rattle.tn_session.proofs.MarkLemmas.{changed_at, newest, is_beyond, unchanged_beyond}
use Rattle.tn_session.proofs.state.State.mark.Goals as goal

pub returns-in_ok-push-clause-state : goal.returns-in_ok-push-clause-state
returns-in_ok-push-clause-state g c =
    let s = c.args.self.now in
    let reached = c.reach.new.marks in
    let old = c.index_mut.result.now in
    let whole = reached.ok.0 in
    let below : c.place_of-place.result < length reached.items = omega (arith, whole, c.len.ensures, c.if-place-len.true) in
    let m : Mark = record { depth = c.args.depth; kind = mark_kind_seen c.args.kind } in
    let f : List Mark → List Mark = λ ms. m ∷ ms in
    ap (λ ms. record (state_seen s) { marks = ms })
    (changed_at f reached.items c.place_of-place.result (c.args.pid - 100) old c.push.new.self below c.index_mut.ensures.value c.place_of-place.ensures
    (ap newest_first c.in_ok-push.ensures.items ∙ newest old.items _))
    ∙ ap (λ ms. with_marks (record (state_seen s) { marks = ms }) c.args.pid (f (marks_at (record (state_seen s) { marks = ms }) c.args.pid))) c.in_ok-reach.ensures.seen

pub returns-else-place-len-clause-state : goal.returns-else-place-len-clause-state
returns-else-place-len-clause-state g c =
    let s = c.args.self.now in
    let reached = c.reach.new.marks in
    let place = c.place_of-place.result in
    let whole = reached.ok.0 in
    let m : Mark = record { depth = c.args.depth; kind = mark_kind_seen c.args.kind } in
    let f : List Mark → List Mark = λ ms. m ∷ ms in
    let past : length reached.items ≤ place = omega (arith, whole, c.len.ensures, c.if-place-len.false) in
    let outside : vec_len reached ≤ place = omega (arith, c.len.ensures, c.if-place-len.false) in
    let beyond : 64 ≤ place = is_beyond place (vec_len reached) c.in_ok-reach.ensures.reached outside in
    ap (λ ms. record (state_seen s) { marks = ms }) (unchanged_beyond reached.items place (c.args.pid - 100) (f (unwrap_or (slice_get (marks_seen reached.items) (c.args.pid - 100)) [])) past beyond c.place_of-place.ensures)
    ∙ ap (λ ms. with_marks (record (state_seen s) { marks = ms }) c.args.pid (f (marks_at (record (state_seen s) { marks = ms }) c.args.pid))) c.in_ok-reach.ensures.seen
