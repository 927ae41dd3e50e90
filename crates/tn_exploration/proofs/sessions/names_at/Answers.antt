use Rattle.std.proofs.Common.{map}
use Rattle.def_script.specs.Script.{creations}
use Rattle.tn_program.specs.Views.{program_of}
use Rattle.tn_answers.specs.AnswerViews.{session_name_seen}
use Rattle.tn_exploration.proofs.Places.{name_more, all_names}
use Rattle.tn_exploration.proofs.sessions.names_at.Goals as goal

pub loop-place-preserved : goal.loop-place-preserved
loop-place-preserved g c =
    let l = c.loop-place in
    name_more c.args.places.now (creations (program_of c.args.program.now).commands) l.place-index (map session_name_seen l.names.items) (map session_name_seen c.add_name.new.names.items) c.loop-place-test.true c.in_ok-add_name.ensures l.invariant

pub returns : goal.returns
returns g c =
    let l = c.loop-place in
    all_names c.args.places.now (creations (program_of c.args.program.now).commands) l.place-index (map session_name_seen l.names.items) c.loop-place-test.false l.invariant
