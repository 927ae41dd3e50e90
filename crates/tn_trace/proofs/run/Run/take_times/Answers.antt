use Rattle.std.proofs.Common.{◌≡◌, ◌++◌, length, ap, subst, arith}
use Rattle.def_run.specs.Laws.{repeat_picks}
use Rattle.tn_program.specs.Views.{program_of}
use Rattle.tn_trace.specs.Within.{EndsWithin}
use Rattle.tn_trace.specs.declared.run.Extent.TheVariants.{All}
use Rattle.tn_trace.proofs.Within.{all_follow, ends_none, ends_of, times_one_more, times_rest, times_stop}
use Rattle.tn_trace.proofs.run.Run.take_times.Goals as goal

pub loop-turn-init : goal.loop-turn-init
loop-turn-init g c = record {
  taken = λ limit before run few. ends_none g.O.Observer.sees g.O.Observer.adds (g.B.Bound.exceeds c.args.bound.now) (program_of c.args.program.now) limit before c.args.self.now c.args.out.now run few;
  reaches = g.met.O.Observer.stays c.args.out.now;
}

pub loop-turn-preserved : goal.loop-turn-preserved
loop-turn-preserved g c =
    let p = program_of c.args.program.now in
    let l = c.loop-turn in
    let sees = g.O.Observer.sees in
    let adds = g.O.Observer.adds in
    let exceeds = g.B.Bound.exceeds c.args.bound.now in
    let first = c.args.self.now in
    let new = c.take_within.new.self in
    let once = c.args.once.now in
    record {
      taken = λ limit before run few.
          let was = l.invariant.taken limit before run few in
          let here = before ++ repeat_picks once l.turn in
          let now = c.in_ok-take_within.ensures.taken limit here (all_follow sees adds exceeds p limit before (repeat_picks once l.turn) first l.self c.args.out.now l.out was) was.bounded in
          times_one_more sees adds exceeds p limit All before once l.turn first l.self new c.args.out.now l.out c.take_within.new.out was
          (subst (EndsWithin sees adds exceeds p limit here once l.self new l.out c.take_within.new.out) c.in-All.is now);
      reaches = g.met.O.Observer.reaches_on c.args.out.now l.out c.take_within.new.out l.invariant.reaches c.take_within.ensures.reaches;
    }

pub returns-in-TooMuch-clause-taken : goal.returns-in-TooMuch-clause-taken
returns-in-TooMuch-clause-taken g c = λ limit before run few.
    let p = program_of c.args.program.now in
    let l = c.loop-turn in
    let sees = g.O.Observer.sees in
    let adds = g.O.Observer.adds in
    let exceeds = g.B.Bound.exceeds c.args.bound.now in
    let first = c.args.self.now in
    let new = c.take_within.new.self in
    let once = c.args.once.now in
    let was = l.invariant.taken limit before run few in
    let here = before ++ repeat_picks once l.turn in
    let now = c.in_ok-take_within.ensures.taken limit here (all_follow sees adds exceeds p limit before (repeat_picks once l.turn) first l.self c.args.out.now l.out was) was.bounded in
    times_stop sees adds exceeds p limit before once l.turn c.args.count first l.self new c.args.out.now l.out c.take_within.new.out c.loop-turn-test.true was
    (subst (EndsWithin sees adds exceeds p limit here once l.self new l.out c.take_within.new.out) c.in-TooMuch.is now)

pub returns-then-after-before-clause-taken : goal.returns-then-after-before-clause-taken
returns-then-after-before-clause-taken g c = λ limit before run few.
    let p = program_of c.args.program.now in
    let l = c.loop-turn in
    let sees = g.O.Observer.sees in
    let adds = g.O.Observer.adds in
    let exceeds = g.B.Bound.exceeds c.args.bound.now in
    let first = c.args.self.now in
    let new = c.take_within.new.self in
    let once = c.args.once.now in
    let below = c.loop-turn-test.true in
    let old_len : c.len-before.result ≡ length l.self.journal.items = omega (arith, c.len-before.ensures, l.self.journal.ok.0) in
    let new_len : c.len-after.result ≡ length new.journal.items = omega (arith, c.len-after.ensures, new.journal.ok.0) in
    let same : length new.journal.items ≡ length l.self.journal.items = omega (arith, old_len, new_len, c.if-after-before.true) in
    let was = l.invariant.taken limit before run few in
    let here = before ++ repeat_picks once l.turn in
    let now = c.in_ok-take_within.ensures.taken limit here (all_follow sees adds exceeds p limit before (repeat_picks once l.turn) first l.self c.args.out.now l.out was) was.bounded in
    times_rest sees adds exceeds p limit before once l.turn c.args.count first l.self new c.args.out.now l.out c.take_within.new.out (omega (arith, below)) same was
    (subst (EndsWithin sees adds exceeds p limit here once l.self new l.out c.take_within.new.out) c.in-All.is now)

pub returns-clause-taken : goal.returns-clause-taken
returns-clause-taken g c = λ limit before run few.
    let l = c.loop-turn in
    let once = c.args.once.now in
    let past = c.loop-turn-test.false in
    let within = l.auto.turn-end in
    let all : l.turn ≡ c.args.count = omega arith in
    ends_of g.O.Observer.sees g.O.Observer.adds (g.B.Bound.exceeds c.args.bound.now) (program_of c.args.program.now) limit All before (repeat_picks once l.turn) (repeat_picks once c.args.count) c.args.self.now l.self c.args.out.now l.out
    (ap (repeat_picks once) all) (l.invariant.taken limit before run few)
