use Rattle.std.proofs.Common.{◌<◌, ◌≤◌, ◌∙◌, length, refl, sym, ap, arith}
use Rattle.std.specs.Option.{option_map}
use Rattle.std.proofs.Math.ListN.{length-set}
use Rattle.tn_term.specs.Views.{tree_of, alive_of}
use Rattle.tn_flags.specs.Views.{command_of}
use Rattle.tn_trace.specs.Tracks.{with_command, reply_from}
use Rattle.tn_trace.specs.Slots.{IsTracked}
use Rattle.tn_trace.proofs.Places.{up_to_none, up_to_all, all_dropped, each_mapped, place_here, newer_is, reply_here}
use Rattle.tn_trace.proofs.sessions.obey_each.Goals as goal

pub loop-place-init : goal.loop-place-init
loop-place-init g c = (
  refl,
  λ o ts fs h. (
    up_to_none (λ t s. IsTracked g.K.MessageSink.keeps o (alive_of c.args.living) (with_command o (command_of c.args.command.now) t) s) (IsTracked g.K.MessageSink.keeps o (alive_of c.args.living)) ts c.args.slots.now.items h,
    refl,
  ),
)

pub loop-place-preserved : goal.loop-place-preserved
loop-place-preserved g c =
    let l = c.loop-place in
    let k = command_of c.args.command.now in
    let living = alive_of c.args.living in
    let v_len = c.args.slots.now.ok.0 in
    let last = c.len-place-end.ensures in
    let below : l.place < length l.slots.items = omega (arith, v_len, last, l.invariant.0) in (
      length-set l.slots.items l.place c.obey.new.self ∙ l.invariant.0,
      λ o ts fs h.
          let inv = l.invariant.1 o ts fs h in
          let here = place_here (λ t s. IsTracked g.K.MessageSink.keeps o living (with_command o k t) s) (IsTracked g.K.MessageSink.keeps o living) l.place ts l.slots.items c.index_mut.result.now c.obey.new.self below c.index_mut.ensures.value inv.0 in
          let own = c.in_ok-own.ensures o here.here fs here.before in (
            here.after own.0,
            reply_here o k l.place ts here.here (option_map tree_of l.reply) (option_map tree_of c.newer-reply.result) _ here.back (c.newer-reply.ensures ∙ newer_is (option_map tree_of c.in_ok-own.own) _ _ (option_map tree_of l.reply) own.1) inv.1,
          ),
    )

pub returns-clause-sessions : goal.returns-clause-sessions
returns-clause-sessions g c = λ o ts fs h.
    let l = c.loop-place in
    let k = command_of c.args.command.now in
    let living = alive_of c.args.living in
    let v_len = c.args.slots.now.ok.0 in
    let last = c.len-place-end.ensures in
    let past = c.loop-place-test.false in
    let all : length l.slots.items ≤ l.place = omega (arith, v_len, last, l.invariant.0) in
    each_mapped (IsTracked g.K.MessageSink.keeps o living) (with_command o k) ts l.slots.items
    (up_to_all (λ t s. IsTracked g.K.MessageSink.keeps o living (with_command o k t) s) (IsTracked g.K.MessageSink.keeps o living) l.place ts l.slots.items all (l.invariant.1 o ts fs h).0)

pub returns-clause-reply : goal.returns-clause-reply
returns-clause-reply g c = λ o ts fs h.
    let l = c.loop-place in
    let k = command_of c.args.command.now in
    let living = alive_of c.args.living in
    let v_len = c.args.slots.now.ok.0 in
    let last = c.len-place-end.ensures in
    let past = c.loop-place-test.false in
    let all : length l.slots.items ≤ l.place = omega (arith, v_len, last, l.invariant.0) in
    sym (ap (reply_from o k (option_map tree_of l.reply)) (all_dropped (λ t s. IsTracked g.K.MessageSink.keeps o living (with_command o k t) s) (IsTracked g.K.MessageSink.keeps o living) l.place ts l.slots.items all (l.invariant.1 o ts fs h).0))
    ∙ (l.invariant.1 o ts fs h).1
