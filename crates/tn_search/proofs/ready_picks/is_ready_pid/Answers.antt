use Rattle.std.proofs.Common.{◌≡◌, ◌∙◌, length, map, refl, ap, arith}
use Rattle.std.proofs.lemmas.List.{length-map}
use Rattle.std.proofs.lemmas.Option.{slice_get-map, slice_get_read}
use Rattle.std.specs.Option.{option_map}
use Rattle.tn_script.specs.Views.{functions_of}
use Rattle.tn_node.specs.Worlds.{slot_of}
use Rattle.tn_search.proofs.ReadyPicks.{unready_past, ready_at}
use Rattle.tn_search.proofs.ready_picks.is_ready_pid.Goals as goal

pub returns-then-place-slots : goal.returns-then-place-slots
returns-then-place-slots g c =
    let long : length (map slot_of c.args.slots.now) ≡ length c.args.slots.now = length-map c.args.slots.now slot_of in
    unready_past (functions_of c.args.functions.now) (map slot_of c.args.slots.now) c.args.pid (omega (arith, long, c.if-place-slots.true))

pub returns : goal.returns
returns g c =
    let slot = c.index-slots-place.result in
    let at = slice_get-map slot_of c.args.slots.now _ ∙ ap (option_map slot_of) (slice_get_read c.args.slots.now (length c.args.slots.now) _ slot refl (omega (arith, c.if-place-slots.false)) c.index-slots-place.is) in
    ready_at (functions_of c.args.functions.now) (map slot_of c.args.slots.now) c.args.pid (slot_of slot) c.is_ready.result (omega (arith, c.if-pid-lt-FIRST_PID.false)) at c.is_ready.ensures
