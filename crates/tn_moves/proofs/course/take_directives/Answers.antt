use Rattle.std.proofs.Common.{◌++◌, ap, get_or, take, subst}
use Rattle.std.proofs.lemmas.List.{take_all}
use Rattle.tn_program.specs.Views.{program_of}
use Rattle.tn_trace.specs.Within.{EndsWithin}
use Rattle.tn_trace.specs.declared.run.Extent.TheVariants.{All}
use Rattle.tn_trace.proofs.Within.{all_follow, ends_none, ends_of}
use Rattle.tn_moves.specs.Drives.{tries_for, tries_of}
use Rattle.tn_moves.specs.declared.directive.Directive.TheVariants.{Times}
use Rattle.tn_moves.proofs.Drives.{directive_more, directives_stop}
use Rattle.tn_moves.proofs.course.take_directives.Goals as goal

pub loop-directive-init : goal.loop-directive-init
loop-directive-init g c = record {
  taken = λ limit before is few. ends_none g.O.Observer.sees g.O.Observer.adds (g.B.Bound.exceeds c.args.bound.now) (program_of c.args.program.now) limit before c.args.run.now c.args.out.now is few;
  reaches = g.met.O.Observer.stays c.args.out.now;
}

pub loop-directive-preserved : goal.loop-directive-preserved
loop-directive-preserved g c =
    let p = program_of c.args.program.now in
    let l = c.loop-directive in
    let t = c.args.tries in
    let sees = g.O.Observer.sees in
    let adds = g.O.Observer.adds in
    let exceeds = g.B.Bound.exceeds c.args.bound.now in
    let first = c.args.run.now in
    let new = c.take_directive.new.run in
    let ds = c.args.directives.now in
    record {
      taken = λ limit before is few.
          let was = l.invariant.taken limit before is few in
          let here = before ++ tries_of t (take l.directive-index ds) in
          let now = c.in_ok-take_directive.ensures.taken limit here (all_follow sees adds exceeds p limit before (tries_of t (take l.directive-index ds)) first l.run c.args.out.now l.out was) was.bounded in
          directive_more sees adds exceeds p limit t before ds l.directive-index (Times 0 0) first l.run new c.args.out.now l.out c.take_directive.new.out c.loop-directive-test.true All was
          (subst (EndsWithin sees adds exceeds p limit here (tries_for t (get_or ds l.directive-index (Times 0 0))) l.run new l.out c.take_directive.new.out) c.in-All.is now);
      reaches = g.met.O.Observer.reaches_on c.args.out.now l.out c.take_directive.new.out l.invariant.reaches c.take_directive.ensures.reaches;
    }

pub returns-in-TooMuch-clause-taken : goal.returns-in-TooMuch-clause-taken
returns-in-TooMuch-clause-taken g c = λ limit before is few.
    let p = program_of c.args.program.now in
    let l = c.loop-directive in
    let t = c.args.tries in
    let sees = g.O.Observer.sees in
    let adds = g.O.Observer.adds in
    let exceeds = g.B.Bound.exceeds c.args.bound.now in
    let first = c.args.run.now in
    let new = c.take_directive.new.run in
    let ds = c.args.directives.now in
    let was = l.invariant.taken limit before is few in
    let here = before ++ tries_of t (take l.directive-index ds) in
    let now = c.in_ok-take_directive.ensures.taken limit here (all_follow sees adds exceeds p limit before (tries_of t (take l.directive-index ds)) first l.run c.args.out.now l.out was) was.bounded in
    directives_stop sees adds exceeds p limit t before ds l.directive-index (Times 0 0) first l.run new c.args.out.now l.out c.take_directive.new.out c.loop-directive-test.true was
    (subst (EndsWithin sees adds exceeds p limit here (tries_for t (get_or ds l.directive-index (Times 0 0))) l.run new l.out c.take_directive.new.out) c.in-TooMuch.is now)

pub returns-clause-taken : goal.returns-clause-taken
returns-clause-taken g c = λ limit before is few.
    let l = c.loop-directive in
    let ds = c.args.directives.now in
    ends_of g.O.Observer.sees g.O.Observer.adds (g.B.Bound.exceeds c.args.bound.now) (program_of c.args.program.now) limit All before (tries_of c.args.tries (take l.directive-index ds)) (tries_of c.args.tries ds) c.args.run.now l.run c.args.out.now l.out
    (ap (tries_of c.args.tries) (take_all l.directive-index ds c.loop-directive-test.false)) (l.invariant.taken limit before is few)
