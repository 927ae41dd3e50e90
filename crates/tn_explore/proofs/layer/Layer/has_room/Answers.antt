use Rattle.std.proofs.Common.{true, ◌≡◌, ◌<◌, ◌∙◌, length, ap, arith, refl}
use Rattle.std.specs.Prelude.{slice_get}
use Rattle.tn_explore.proofs.Layers.{room_at}
use Rattle.tn_explore.proofs.layer.Layer.has_room.Goals as goal

pub returns : goal.returns
returns g c =
    let J = g.S.SearchState.journal in
    let s = c.in-Some.state.now in
    let v = c.in_ok-journal.journal in
    let long : length v.items ≡ length (J s) = ap length c.in_ok-journal.ensures in
    let short : length (J s) < 65536 = omega (arith, long, c.if-made-ge-JOURNAL.false, c.len-made.ensures, v.ok.0) in
    room_at J c.args.self.now.states.items s true (c.in-Some.ensures.value ∙ ap (λ xs. slice_get xs 0) c.deref.ensures.value) ((λ _. short), (λ _. refl))
