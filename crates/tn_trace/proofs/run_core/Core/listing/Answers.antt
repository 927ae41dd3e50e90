use Rattle.tn_trace.proofs.CoreLemmas.{not_spent, listed, unlisted}
use Rattle.tn_trace.proofs.run_core.Core.listing.Goals as goal

pub returns-in-Some-get-clause-listing : goal.returns-in-Some-get-clause-listing
returns-in-Some-get-clause-listing g c =
    listed c.self.inside.program c.self.inside.run c.in-Some.run' c.args.self.now c.self.view_is c.self.invariant c.in-Some.is c.args.session c.deref.result.now c.in-Some-get.slot.now c.deref-in-Some-get.result c.if-session-eq0.false c.deref.ensures.value c.in-Some-get.ensures.lookup.3.0 c.in-Some-get.ensures.lookup.1 c.deref-in-Some-get.ensures.value

pub returns-in-None-clause-listing : goal.returns-in-None-clause-listing
returns-in-None-clause-listing g c =
    unlisted c.self.inside.program c.self.inside.run c.in-Some.run' c.args.self.now c.self.view_is c.self.invariant c.in-Some.is c.args.session c.deref.result.now c.if-session-eq0.false c.deref.ensures.value c.in-None.ensures.lookup.3

pub returns-in-Some-get-clause-spent : goal.returns-in-Some-get-clause-spent
returns-in-Some-get-clause-spent g c = not_spent c.self.inside.program c.self.inside.run c.in-Some.run' c.args.self.now c.self.view_is c.self.invariant c.in-Some.is

pub returns-in-None-clause-spent : goal.returns-in-None-clause-spent
returns-in-None-clause-spent g c = not_spent c.self.inside.program c.self.inside.run c.in-Some.run' c.args.self.now c.self.view_is c.self.invariant c.in-Some.is
