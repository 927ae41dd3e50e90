use Rattle.std.proofs.Common.{arith}
use Rattle.def_script.specs.Script.{creations}
use Rattle.tn_program.specs.Views.{program_of}
use Rattle.tn_exploration.proofs.Places.{place_more, all_places}
use Rattle.tn_exploration.proofs.sessions.places_of.Goals as goal

pub loop-place-preserved : goal.loop-place-preserved
loop-place-preserved g c =
    let l = c.loop-place in
    place_more _ (creations (program_of c.args.program.now).commands) l.place l.places.items c.add_place.new.places.items (omega arith) c.in_ok-add_place.ensures l.invariant

pub returns : goal.returns
returns g c =
    let l = c.loop-place in
    all_places _ (creations (program_of c.args.program.now).commands) l.place l.places.items (omega arith) l.invariant
