use Rattle.std.proofs.Common.{◌∙◌, ◌++◌, codes, ap, ap₂}
use Rattle.def_explain.specs.ReasonTexts.{bodies_text}
use Rattle.def_trap.specs.Actions.{action_name}
use Rattle.tn_spec.specs.Views.{action_of}
use Rattle.tn_text.proofs.Growth.{grows_on}
use Rattle.tn_verdict.proofs.Pieces.{behind, after_ok, read_as, put_ok, grown_by, grown_or_not}
use Rattle.tn_verdict.proofs.SpecReasonTexts.{action_is_bare}
use Rattle.tn_verdict.proofs.spec_reason_texts.put_place.Goals as goal

pub returns-clause-ok : goal.returns-clause-ok
returns-clause-ok g c =
    let a = action_of c.args.action in
    let o = c.args.out.now.items in
    let first = c.extend_from_slice.new.self.items in
    let next = c.extend_from_slice-2.new.self.items in
    let last = c.extend_from_slice-3.new.self.items in
    let done = c.extend_from_slice-3.result in
    let places = c.bodies.ensures ∙ ap₂ bodies_text c.is_in_bodies-sends.ensures c.is_in_bodies-receives.ensures in
    after_ok done o (action_name a ++ codes " stands in ") _ next last
    (behind o (action_name a) (codes " stands in ") first next (c.in_ok-extend_from_slice.ensures.items ∙ ap (λ l. o ++ l) (c.action_text.ensures ∙ action_is_bare a)) c.in_ok-extend_from_slice-2.ensures.items)
    (read_as done next c.bodies.result.now _ last places (put_ok done next c.bodies.result.now last c.extend_from_slice-3.ensures.items))

pub returns-clause-grows : goal.returns-clause-grows
returns-clause-grows g c =
    let o = c.args.out.now.items in
    let first = c.extend_from_slice.new.self.items in
    let next = c.extend_from_slice-2.new.self.items in
    let last = c.extend_from_slice-3.new.self.items in
    grows_on (grown_by o c.action_text.result.now first c.in_ok-extend_from_slice.ensures.items)
    (grows_on (grown_by first (codes " stands in ") next c.in_ok-extend_from_slice-2.ensures.items)
    (grown_or_not c.extend_from_slice-3.result next c.bodies.result.now last c.extend_from_slice-3.ensures.items))
