use Rattle.std.proofs.Common.{◌++◌, ◌∷◌, [], get_or, take, subst}
use Rattle.std.proofs.lemmas.List.{take_all}
use Rattle.tn_program.specs.Views.{program_of}
use Rattle.tn_trace.specs.Within.{EndsWithin}
use Rattle.tn_trace.specs.declared.run.Extent.TheVariants.{All}
use Rattle.tn_trace.proofs.Within.{all_follow, ends_none, ends_of, picks_one_more, picks_stop}
use Rattle.tn_trace.proofs.run.Run.take_within.Goals as goal

pub loop-pick-init : goal.loop-pick-init
loop-pick-init g c = record {
  taken = λ limit before run few. ends_none g.O.Observer.sees g.O.Observer.adds (g.B.Bound.exceeds c.args.bound.now) (program_of c.args.program.now) limit before c.args.self.now c.args.out.now run few;
  reaches = g.met.O.Observer.stays c.args.out.now;
}

pub loop-pick-preserved : goal.loop-pick-preserved
loop-pick-preserved g c =
    let p = program_of c.args.program.now in
    let l = c.loop-pick in
    let sees = g.O.Observer.sees in
    let adds = g.O.Observer.adds in
    let exceeds = g.B.Bound.exceeds c.args.bound.now in
    let first = c.args.self.now in
    let new = c.step_within.new.self in
    let picks = c.args.picks.now in
    record {
      taken = λ limit before run few.
          let was = l.invariant.taken limit before run few in
          let here = before ++ take l.pick-index picks in
          let now = c.in_ok-step_within.ensures.taken limit here (all_follow sees adds exceeds p limit before (take l.pick-index picks) first l.self c.args.out.now l.out was) was.bounded in
          picks_one_more sees adds exceeds p limit All before picks l.pick-index 0 first l.self new c.args.out.now l.out c.step_within.new.out c.loop-pick-test.true was
          (subst (EndsWithin sees adds exceeds p limit here (get_or picks l.pick-index 0 ∷ []) l.self new l.out c.step_within.new.out) c.in-All.is now);
      reaches = g.met.O.Observer.reaches_on c.args.out.now l.out c.step_within.new.out l.invariant.reaches c.step_within.ensures.reaches;
    }

pub returns-in-TooMuch-clause-taken : goal.returns-in-TooMuch-clause-taken
returns-in-TooMuch-clause-taken g c = λ limit before run few.
    let p = program_of c.args.program.now in
    let l = c.loop-pick in
    let sees = g.O.Observer.sees in
    let adds = g.O.Observer.adds in
    let exceeds = g.B.Bound.exceeds c.args.bound.now in
    let first = c.args.self.now in
    let new = c.step_within.new.self in
    let picks = c.args.picks.now in
    let was = l.invariant.taken limit before run few in
    let here = before ++ take l.pick-index picks in
    let now = c.in_ok-step_within.ensures.taken limit here (all_follow sees adds exceeds p limit before (take l.pick-index picks) first l.self c.args.out.now l.out was) was.bounded in
    picks_stop sees adds exceeds p limit before picks l.pick-index 0 first l.self new c.args.out.now l.out c.step_within.new.out c.loop-pick-test.true was
    (subst (EndsWithin sees adds exceeds p limit here (get_or picks l.pick-index 0 ∷ []) l.self new l.out c.step_within.new.out) c.in-TooMuch.is now)

pub returns-clause-taken : goal.returns-clause-taken
returns-clause-taken g c = λ limit before run few.
    let l = c.loop-pick in
    let picks = c.args.picks.now in
    ends_of g.O.Observer.sees g.O.Observer.adds (g.B.Bound.exceeds c.args.bound.now) (program_of c.args.program.now) limit All before (take l.pick-index picks) picks c.args.self.now l.self c.args.out.now l.out
    (take_all l.pick-index picks c.loop-pick-test.false) (l.invariant.taken limit before run few)
