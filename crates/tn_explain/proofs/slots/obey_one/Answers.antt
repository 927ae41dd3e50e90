use Rattle.std.proofs.Common.{◌∙◌, sym, ap, subst}
use Rattle.std.specs.Option.{option_map}
use Rattle.std.proofs.lemmas.Result.{on_ok_weaker}
use Rattle.tn_term.specs.Views.{tree_of, alive_of}
use Rattle.tn_flags.specs.Views.{command_of}
use Rattle.tn_command_reason.specs.CommandReasons.{command_reasons_seen}
use Rattle.tn_explain.specs.CommandDifferences.{differences_seen}
use Rattle.tn_explain.specs.LineParts.{reply_lines, uncounted_lines}
use Rattle.tn_explain.proofs.LineTexts.{more}
use Rattle.tn_explain.proofs.OneSession.{track, tracked, Obeyed, obeys_none, obeys_asked, obeys_only}
use Rattle.tn_explain.proofs.slots.obey_one.Goals as goal

pub returns-then-not-is_asked_of-clause-ok : goal.returns-then-not-is_asked_of-clause-ok
returns-then-not-is_asked_of-clause-ok g c = λ o fs s h.
    let step = c.args.step.now in
    let living = alive_of c.args.order.now.living in
    let old = c.args.slot.now in
    let k = command_of c.args.order.now.command.now in
    obeys_only step o living s old h k c.args.out.now.items (option_map tree_of c.in_ok-obey.field-0) c.obey.new.self (sym c.is_asked_of.ensures ∙ c.if-not-is_asked_of.true)
    (c.in_ok-obey.ensures o (track step o living s old h) fs (tracked step o living s old h))

pub returns-in_ok-put_command_line-in-Some-clause-ok : goal.returns-in_ok-put_command_line-in-Some-clause-ok
returns-in_ok-put_command_line-in-Some-clause-ok g c = λ o fs s h.
    let step = c.args.step.now in
    let living = alive_of c.args.order.now.living in
    let old = c.args.slot.now in
    let k = command_of c.args.order.now.command.now in
    let q = command_reasons_seen c.in_ok-why.why in
    let x = differences_seen c.in_ok-difference.difference in
    on_ok_weaker c.put_command_difference.result
    (λ made. obeys_asked step o living s old h k c.args.out.now.items (tree_of c.in-Some.reply) q x c.obey-2.new.self c.put_command_difference.new.out.items
    (sym c.is_asked_of.ensures ∙ c.if-not-is_asked_of.false)
    (subst (Obeyed step o living s old h k c.args.out.now.items c.obey-2.new.self) (ap (option_map tree_of) c.in-Some.is) (c.in_ok-reply.ensures o (track step o living s old h) fs (tracked step o living s old h)))
    (c.in_ok-why.ensures o fs s h) (c.in_ok-difference.ensures o fs s h)
    (more c.obey-2.new.self.name (reply_lines (tree_of c.in-Some.reply) q) (uncounted_lines x) c.args.out.now.items c.put_command_line.new.out.items c.put_command_difference.new.out.items c.in_ok-put_command_line-in-Some.ensures.ok made))
    c.put_command_difference.ensures.ok

pub returns-in-None-clause-ok : goal.returns-in-None-clause-ok
returns-in-None-clause-ok g c = λ o fs s h.
    let step = c.args.step.now in
    let living = alive_of c.args.order.now.living in
    let old = c.args.slot.now in
    let k = command_of c.args.order.now.command.now in
    obeys_none step o living s old h k c.args.out.now.items c.obey-2.new.self
    (subst (Obeyed step o living s old h k c.args.out.now.items c.obey-2.new.self) (ap (option_map tree_of) c.in-None.is) (c.in_ok-reply.ensures o (track step o living s old h) fs (tracked step o living s old h)))
