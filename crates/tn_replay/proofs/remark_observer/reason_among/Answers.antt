use Rattle.std.proofs.Common.{◌≡◌, ◌∙◌, ◌<◌, ◌≤◌, true, false, length, sym, ap, ap₂, arith}
use Rattle.std.specs.Str.{bytes_eq}
use Rattle.def_script.specs.Program.{session_of}
use Rattle.def_explain.specs.CommandReasons.{command_reason}
use Rattle.tn_flags.specs.Views.{command_of}
use Rattle.tn_replay.proofs.Remarks.{named_here, named_later, not_named}
use Rattle.tn_replay.proofs.remark_observer.reason_among.Goals as goal

pub returns-then-eq : goal.returns-then-eq
returns-then-eq g c = λ o fs living ss h.
    let k = command_of c.args.command.now in
    let slots = c.args.slots.now in
    let slot = c.index-slot.result.now in
    let v_len = slots.ok.0 in
    let last = c.len-place-end.ensures in
    let test = c.loop-place-test.true in
    let below : c.loop-place.place < length slots.items = omega (arith, v_len, last, test) in
    let named : bytes_eq (session_of k) slot.name ≡ true = ap₂ bytes_eq (sym (c.text.ensures.text ∙ c.session.ensures)) (sym c.text-in-loop-place.ensures.text) ∙ sym c.eq.ensures ∙ c.if-eq.true in
    let t = named_here o living (session_of k) ss slots.items c.loop-place.place slot h below c.index-slot.ensures named (c.loop-place.invariant o living ss h) in
    c.in_ok-command_reason.ensures o fs living t.0.1 t.1.session ∙ ap (λ s. command_reason o s k) t.2

pub loop-place-preserved : goal.loop-place-preserved
loop-place-preserved g c = λ o living ss h.
    let k = command_of c.args.command.now in
    let slots = c.args.slots.now in
    let slot = c.index-slot.result.now in
    let v_len = slots.ok.0 in
    let last = c.len-place-end.ensures in
    let test = c.loop-place-test.true in
    let below : c.loop-place.place < length slots.items = omega (arith, v_len, last, test) in
    let other : bytes_eq (session_of k) slot.name ≡ false = ap₂ bytes_eq (sym (c.text.ensures.text ∙ c.session.ensures)) (sym c.text-in-loop-place.ensures.text) ∙ sym c.eq.ensures ∙ c.if-eq.false in
    named_later o living (session_of k) ss slots.items c.loop-place.place slot h below c.index-slot.ensures other (c.loop-place.invariant o living ss h)

pub returns : goal.returns
returns g c = λ o fs living ss h.
    let k = command_of c.args.command.now in
    let slots = c.args.slots.now in
    let v_len = slots.ok.0 in
    let last = c.len-place-end.ensures in
    let test = c.loop-place-test.false in
    let past : length slots.items ≤ c.loop-place.place = omega (arith, v_len, last, test) in
    c.absent_reason.ensures ∙ ap (λ s. command_reason o s k) (not_named o living (session_of k) ss slots.items c.loop-place.place h past (c.loop-place.invariant o living ss h))
