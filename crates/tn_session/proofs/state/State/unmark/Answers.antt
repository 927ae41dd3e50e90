use Rattle.std.proofs.Common.{◌≤◌, ◌<◌, ◌∙◌, ◌-◌, ◌==◌, Bool, not, filter, length, refl, ap, arith}
use Rattle.def_session.specs.State.{Mark}
use Rattle.tn_session.specs.Views.{newest_first, state_seen}
use Rattle.tn_session.proofs.MarkLemmas.{changed_at, filter_newest, unchanged_past}
use Rattle.tn_session.proofs.state.State.unmark.Goals as goal

pub returns-then-place-len-clause-state : goal.returns-then-place-len-clause-state
returns-then-place-len-clause-state g c =
    let s = c.args.self.now in
    let stays : Mark → Bool = λ m. not (m.depth == c.args.depth) in
    let marks = s.marks in
    let old = c.index_mut.result.now in
    let whole = marks.ok.0 in
    let below : c.place_of-place.result < length marks.items = omega (arith, whole, c.len.ensures, c.if-place-len.true) in
    ap (λ ms. record (state_seen s) { marks = ms })
    (changed_at (filter stays) marks.items c.place_of-place.result (c.args.pid - 100) old c.drop_marks.new.marks below c.index_mut.ensures.value c.place_of-place.ensures
    (ap newest_first c.drop_marks.ensures ∙ filter_newest stays old.items))

pub returns-else-place-len-clause-state : goal.returns-else-place-len-clause-state
returns-else-place-len-clause-state g c =
    let s = c.args.self.now in
    let stays : Mark → Bool = λ m. not (m.depth == c.args.depth) in
    let marks = s.marks in
    let whole = marks.ok.0 in
    let past : length marks.items ≤ c.place_of-place.result = omega (arith, whole, c.len.ensures, c.if-place-len.false) in
    ap (λ ms. record (state_seen s) { marks = ms })
    (unchanged_past (filter stays) marks.items c.place_of-place.result (c.args.pid - 100) refl past c.place_of-place.ensures)
