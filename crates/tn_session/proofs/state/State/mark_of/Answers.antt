use Rattle.std.proofs.Common.{◌∙◌, ◌-◌, ◌<◌, ◌≤◌, ◌≡◌, length, get_or, sym, ap, arith}
use Rattle.def_session.specs.State.{kind_among}
use Rattle.tn_session.specs.Views.{newest_first}
use Rattle.tn_session.proofs.MarkLemmas.{marks_there, none_there}
use Rattle.tn_session.proofs.state.State.mark_of.Goals as goal

pub returns-in-Some : goal.returns-in-Some
returns-in-Some g c =
    let ms = c.args.self.now.marks.items in
    let place = c.place_of.result in
    let m = c.in-Some.marks.now in
    let same = ap length c.deref.ensures.value in
    let within = c.in-Some.ensures.lookup.3.0 in
    let below : place < length ms = omega (arith, same, within) in
    let is : m ≡ get_or ms place m = c.in-Some.ensures.lookup.1 ∙ ap (λ xs. get_or xs place m) c.deref.ensures.value in
    c.kind_among.ensures ∙ ap (λ xs. kind_among (newest_first xs) c.args.depth) c.deref-in-Some.ensures.value
    ∙ ap (λ xs. kind_among xs c.args.depth) (marks_there ms place (c.args.pid - 100) m below is c.place_of.ensures)

pub returns-in-None : goal.returns-in-None
returns-in-None g c =
    let ms = c.args.self.now.marks.items in
    let place = c.place_of.result in
    let same = ap length c.deref.ensures.value in
    let without = c.in-None.ensures.lookup.3 in
    let past : length ms ≤ place = omega (arith, same, without) in
    sym (ap (λ xs. kind_among xs c.args.depth) (none_there ms place (c.args.pid - 100) past c.place_of.ensures))
