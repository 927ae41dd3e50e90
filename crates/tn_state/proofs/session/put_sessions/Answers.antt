use Rattle.std.proofs.Common.{◌≡◌, ◌∙◌, ◌++◌, ◌≤◌, length, refl, sym, ap, subst, arith}
use Rattle.std.specs.Option.{option_map}
use Rattle.def_script.specs.Script.{creations}
use Rattle.tn_program.specs.Variables.{name_pair}
use Rattle.tn_state.specs.Sessions.{IsSlotAfter, asked_in, program_in, text_where_asked}
use Rattle.tn_state.proofs.SessionLemmas.{as_many, no_session, one_session, slot_at}
use Rattle.tn_state.proofs.session.put_sessions.Goals as goal

pub loop-place-init : goal.loop-place-init
loop-place-init g c = λ items h shown. refl

pub loop-place-preserved : goal.loop-place-preserved
loop-place-preserved g c = λ items h shown.
    let l = c.loop-place in
    let x = c.args.context.now in
    let p = program_in x in
    let slot = c.index-slots-place.result in
    let s = name_pair c.in-Some.names in
    let named = sym c.session_at.ensures ∙ ap (option_map name_pair) c.in-Some.is in
    let at = slot_at p items c.args.slots.now l.place s slot h named c.loop-place-test.true c.index-slots-place.is in
    let own = subst (λ n. (n, s.1) ≡ s) (sym at.0) refl in
    one_session (text_where_asked (asked_in x) p items) (creations p.commands) l.place s l.out.items c.put_asked.new.out.items _ named (l.invariant items h shown)
    (c.in_ok-put_asked.ensures items (subst (λ n. IsSlotAfter p items n slot) (sym at.0) at.1) shown ∙ ap (λ k. l.out.items ++ text_where_asked (asked_in x) p items k) own)

pub returns : goal.returns
returns g c = λ items h shown.
    let l = c.loop-place in
    let x = c.args.context.now in
    let p = program_in x in
    let many : length (creations p.commands) ≡ length c.args.slots.now = as_many _ h.0 items 1 (creations p.commands) c.args.slots.now h.1 in
    let past : length (creations p.commands) ≤ l.place = omega (arith, many, c.loop-place-test.false) in
    no_session (text_where_asked (asked_in x) p items) (creations p.commands) l.place l.out.items _ past (l.invariant items h shown)
