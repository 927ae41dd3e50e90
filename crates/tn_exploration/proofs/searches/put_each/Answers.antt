use Rattle.tn_program.specs.Views.{program_of}
use Rattle.tn_exploration.proofs.Explorations.{no_searches, place_search_more, all_searches}
use Rattle.tn_exploration.proofs.searches.put_each.Goals as goal

pub loop-place-init : goal.loop-place-init
loop-place-init g c = no_searches c.args.request.now (program_of c.args.program.now) c.args.before.now c.args.text.now.items

pub loop-place-preserved : goal.loop-place-preserved
loop-place-preserved g c =
    let l = c.loop-place in
    let q = c.args.request.now in
    let p = program_of c.args.program.now in
    let before = c.args.before.now in
    let places = c.args.places.now in
    let old = c.args.text.now.items in
    let new = c.put_one.new.text.items in
    place_search_more q p before places l.place-index old l.text.items new l.all c.in_ok-one.one c.both-all.result c.both-all.ensures.settled c.both-all.ensures.unmet c.loop-place-test.true l.invariant c.in_ok-one.ensures

pub returns : goal.returns
returns g c =
    let l = c.loop-place in
    all_searches c.args.request.now (program_of c.args.program.now) c.args.before.now c.args.places.now l.place-index c.args.text.now.items l.text.items l.all c.loop-place-test.false l.invariant
