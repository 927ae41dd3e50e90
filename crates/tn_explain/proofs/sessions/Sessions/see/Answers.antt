use Rattle.std.proofs.Common.{◌≡◌, ◌∙◌, length, sym, ap, arith}
use Rattle.std.proofs.lemmas.Bool.{eqb-true, eqb-false}
use Rattle.std.proofs.lemmas.Result.{on_ok_weaker}
use Rattle.tn_flags.specs.Views.{event_of}
use Rattle.tn_explain.proofs.MoveLines.{no_items, nothing_seen, something_seen}
use Rattle.tn_explain.proofs.sessions.Sessions.see.Goals as goal

pub returns-then-is_empty-clause-ok : goal.returns-then-is_empty-clause-ok
returns-then-is_empty-clause-ok g c = λ o ss h.
    let events = c.args.events.now in
    let fits = events.ok.0 in
    let zero : events.len ≡ 0 = eqb-true events.len 0 (sym c.is_empty.ensures ∙ c.if-is_empty.true) in
    let none : length events.items ≡ 0 = omega arith in
    on_ok_weaker c.put_nothing.result (λ written. nothing_seen event_of c.args.step.now o ss events.items c.args.self.now c.args.out.now.items c.put_nothing.new.out.items (no_items events.items none) h written) c.put_nothing.ensures.ok

pub returns-else-is_empty-clause-ok : goal.returns-else-is_empty-clause-ok
returns-else-is_empty-clause-ok g c = λ o ss h.
    let events = c.args.events.now in
    let fits = events.ok.0 in
    on_ok_weaker c.tell_all.result
    (λ made. something_seen event_of c.args.step.now o ss events.items c.tell_all.new.self c.args.out.now.items c.tell_all.new.out.items
    (λ e. let size : length events.items ≡ 0 = ap length e in let zero : events.len ≡ 0 = omega arith in eqb-false events.len 0 (sym c.is_empty.ensures ∙ c.if-is_empty.false) zero) made)
    (c.tell_all.ensures.ok o ss h)
