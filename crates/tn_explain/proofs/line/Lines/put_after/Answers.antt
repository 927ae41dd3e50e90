use Rattle.std.proofs.Common.{[], sym, ap}
use Rattle.tn_flags.specs.Views.{event_of}
use Rattle.tn_session.specs.Looks.{look_seen}
use Rattle.tn_explain.specs.Lines.{PutsLines}
use Rattle.tn_explain.specs.LineParts.{lines_after}
use Rattle.tn_explain.proofs.LineTexts.{nothing, other, by_each}
use Rattle.tn_explain.proofs.line.Lines.put_after.Goals as goal

pub returns-in-Sent-clause-ok : goal.returns-in-Sent-clause-ok
returns-in-Sent-clause-ok g c = λ h.
    let n = c.args.self.now.name.now in
    let o = c.args.out.now.items in
    let s = look_seen c.args.look.now in
    let none = nothing n o in
    by_each (PutsLines n (lines_after s (event_of c.args.event.now)) o o)
    (λ x. other n [] _ o o (sym (ap (λ e. lines_after s (event_of e)) x.4)) none)
    (λ x. other n [] _ o o (sym (ap (λ e. lines_after s (event_of e)) x.3)) none)
    (λ x. other n [] _ o o (sym (ap (λ e. lines_after s (event_of e)) x.4)) none)
    (λ x. other n [] _ o o (sym (ap (λ e. lines_after s (event_of e)) x.4)) none)
    (λ x. other n [] _ o o (sym (ap (λ e. lines_after s (event_of e)) x.2)) none)
    (λ x. other n [] _ o o (sym (ap (λ e. lines_after s (event_of e)) x.2)) none)
    (λ x. other n [] _ o o (sym (ap (λ e. lines_after s (event_of e)) x.2)) none)
    (λ x. other n [] _ o o (sym (ap (λ e. lines_after s (event_of e)) x.2)) none)
    c.in-Sent.is

pub returns-in-Sent-2-clause-ok : goal.returns-in-Sent-2-clause-ok
returns-in-Sent-2-clause-ok g c = λ h.
    let n = c.args.self.now.name.now in
    let o = c.args.out.now.items in
    let s = look_seen c.args.look.now in
    let none = nothing n o in
    by_each (PutsLines n (lines_after s (event_of c.args.event.now)) o o)
    (λ x. other n [] _ o o (sym (ap (λ e. lines_after s (event_of e)) x.4)) none)
    (λ x. other n [] _ o o (sym (ap (λ e. lines_after s (event_of e)) x.3)) none)
    (λ x. other n [] _ o o (sym (ap (λ e. lines_after s (event_of e)) x.4)) none)
    (λ x. other n [] _ o o (sym (ap (λ e. lines_after s (event_of e)) x.4)) none)
    (λ x. other n [] _ o o (sym (ap (λ e. lines_after s (event_of e)) x.2)) none)
    (λ x. other n [] _ o o (sym (ap (λ e. lines_after s (event_of e)) x.2)) none)
    (λ x. other n [] _ o o (sym (ap (λ e. lines_after s (event_of e)) x.2)) none)
    (λ x. other n [] _ o o (sym (ap (λ e. lines_after s (event_of e)) x.2)) none)
    c.in-Sent.is

pub returns-in-Sent-3-clause-ok : goal.returns-in-Sent-3-clause-ok
returns-in-Sent-3-clause-ok g c = λ h.
    let n = c.args.self.now.name.now in
    let o = c.args.out.now.items in
    let s = look_seen c.args.look.now in
    let none = nothing n o in
    by_each (PutsLines n (lines_after s (event_of c.args.event.now)) o o)
    (λ x. other n [] _ o o (sym (ap (λ e. lines_after s (event_of e)) x.4)) none)
    (λ x. other n [] _ o o (sym (ap (λ e. lines_after s (event_of e)) x.3)) none)
    (λ x. other n [] _ o o (sym (ap (λ e. lines_after s (event_of e)) x.4)) none)
    (λ x. other n [] _ o o (sym (ap (λ e. lines_after s (event_of e)) x.4)) none)
    (λ x. other n [] _ o o (sym (ap (λ e. lines_after s (event_of e)) x.2)) none)
    (λ x. other n [] _ o o (sym (ap (λ e. lines_after s (event_of e)) x.2)) none)
    (λ x. other n [] _ o o (sym (ap (λ e. lines_after s (event_of e)) x.2)) none)
    (λ x. other n [] _ o o (sym (ap (λ e. lines_after s (event_of e)) x.2)) none)
    c.in-Sent.is

pub returns-in-Sent-4-clause-ok : goal.returns-in-Sent-4-clause-ok
returns-in-Sent-4-clause-ok g c = λ h.
    let n = c.args.self.now.name.now in
    let o = c.args.out.now.items in
    let s = look_seen c.args.look.now in
    let none = nothing n o in
    by_each (PutsLines n (lines_after s (event_of c.args.event.now)) o o)
    (λ x. other n [] _ o o (sym (ap (λ e. lines_after s (event_of e)) x.4)) none)
    (λ x. other n [] _ o o (sym (ap (λ e. lines_after s (event_of e)) x.3)) none)
    (λ x. other n [] _ o o (sym (ap (λ e. lines_after s (event_of e)) x.4)) none)
    (λ x. other n [] _ o o (sym (ap (λ e. lines_after s (event_of e)) x.4)) none)
    (λ x. other n [] _ o o (sym (ap (λ e. lines_after s (event_of e)) x.2)) none)
    (λ x. other n [] _ o o (sym (ap (λ e. lines_after s (event_of e)) x.2)) none)
    (λ x. other n [] _ o o (sym (ap (λ e. lines_after s (event_of e)) x.2)) none)
    (λ x. other n [] _ o o (sym (ap (λ e. lines_after s (event_of e)) x.2)) none)
    c.in-Sent.is

pub returns-in-Sent-5-clause-ok : goal.returns-in-Sent-5-clause-ok
returns-in-Sent-5-clause-ok g c = λ h.
    let n = c.args.self.now.name.now in
    let o = c.args.out.now.items in
    let s = look_seen c.args.look.now in
    let none = nothing n o in
    by_each (PutsLines n (lines_after s (event_of c.args.event.now)) o o)
    (λ x. other n [] _ o o (sym (ap (λ e. lines_after s (event_of e)) x.4)) none)
    (λ x. other n [] _ o o (sym (ap (λ e. lines_after s (event_of e)) x.3)) none)
    (λ x. other n [] _ o o (sym (ap (λ e. lines_after s (event_of e)) x.4)) none)
    (λ x. other n [] _ o o (sym (ap (λ e. lines_after s (event_of e)) x.4)) none)
    (λ x. other n [] _ o o (sym (ap (λ e. lines_after s (event_of e)) x.2)) none)
    (λ x. other n [] _ o o (sym (ap (λ e. lines_after s (event_of e)) x.2)) none)
    (λ x. other n [] _ o o (sym (ap (λ e. lines_after s (event_of e)) x.2)) none)
    (λ x. other n [] _ o o (sym (ap (λ e. lines_after s (event_of e)) x.2)) none)
    c.in-Sent.is

pub returns-in-Sent-6-clause-ok : goal.returns-in-Sent-6-clause-ok
returns-in-Sent-6-clause-ok g c = λ h.
    let n = c.args.self.now.name.now in
    let o = c.args.out.now.items in
    let s = look_seen c.args.look.now in
    let none = nothing n o in
    by_each (PutsLines n (lines_after s (event_of c.args.event.now)) o o)
    (λ x. other n [] _ o o (sym (ap (λ e. lines_after s (event_of e)) x.4)) none)
    (λ x. other n [] _ o o (sym (ap (λ e. lines_after s (event_of e)) x.3)) none)
    (λ x. other n [] _ o o (sym (ap (λ e. lines_after s (event_of e)) x.4)) none)
    (λ x. other n [] _ o o (sym (ap (λ e. lines_after s (event_of e)) x.4)) none)
    (λ x. other n [] _ o o (sym (ap (λ e. lines_after s (event_of e)) x.2)) none)
    (λ x. other n [] _ o o (sym (ap (λ e. lines_after s (event_of e)) x.2)) none)
    (λ x. other n [] _ o o (sym (ap (λ e. lines_after s (event_of e)) x.2)) none)
    (λ x. other n [] _ o o (sym (ap (λ e. lines_after s (event_of e)) x.2)) none)
    c.in-Sent.is

pub returns-in-Sent-7-clause-ok : goal.returns-in-Sent-7-clause-ok
returns-in-Sent-7-clause-ok g c = λ h.
    let n = c.args.self.now.name.now in
    let o = c.args.out.now.items in
    let s = look_seen c.args.look.now in
    let none = nothing n o in
    by_each (PutsLines n (lines_after s (event_of c.args.event.now)) o o)
    (λ x. other n [] _ o o (sym (ap (λ e. lines_after s (event_of e)) x.4)) none)
    (λ x. other n [] _ o o (sym (ap (λ e. lines_after s (event_of e)) x.3)) none)
    (λ x. other n [] _ o o (sym (ap (λ e. lines_after s (event_of e)) x.4)) none)
    (λ x. other n [] _ o o (sym (ap (λ e. lines_after s (event_of e)) x.4)) none)
    (λ x. other n [] _ o o (sym (ap (λ e. lines_after s (event_of e)) x.2)) none)
    (λ x. other n [] _ o o (sym (ap (λ e. lines_after s (event_of e)) x.2)) none)
    (λ x. other n [] _ o o (sym (ap (λ e. lines_after s (event_of e)) x.2)) none)
    (λ x. other n [] _ o o (sym (ap (λ e. lines_after s (event_of e)) x.2)) none)
    c.in-Sent.is

pub returns-in-Sent-8-clause-ok : goal.returns-in-Sent-8-clause-ok
returns-in-Sent-8-clause-ok g c = λ h.
    let n = c.args.self.now.name.now in
    let o = c.args.out.now.items in
    let s = look_seen c.args.look.now in
    let none = nothing n o in
    by_each (PutsLines n (lines_after s (event_of c.args.event.now)) o o)
    (λ x. other n [] _ o o (sym (ap (λ e. lines_after s (event_of e)) x.4)) none)
    (λ x. other n [] _ o o (sym (ap (λ e. lines_after s (event_of e)) x.3)) none)
    (λ x. other n [] _ o o (sym (ap (λ e. lines_after s (event_of e)) x.4)) none)
    (λ x. other n [] _ o o (sym (ap (λ e. lines_after s (event_of e)) x.4)) none)
    (λ x. other n [] _ o o (sym (ap (λ e. lines_after s (event_of e)) x.2)) none)
    (λ x. other n [] _ o o (sym (ap (λ e. lines_after s (event_of e)) x.2)) none)
    (λ x. other n [] _ o o (sym (ap (λ e. lines_after s (event_of e)) x.2)) none)
    (λ x. other n [] _ o o (sym (ap (λ e. lines_after s (event_of e)) x.2)) none)
    c.in-Sent.is
