use Rattle.std.proofs.Common.{◌≡◌, ◌+◌, min, ap, sym, subst, [], ◌∙◌, length, arith}
use Rattle.std.specs.Prelude.{vec_len}
use Rattle.std.proofs.lemmas.Bool.{eqb-true}
use Rattle.def_run.specs.Run.{start}
use Rattle.def_run.proofs.Replay.{moves_again}
use Rattle.tn_explore.specs.Searches.{AreAt, answer_entries}
use Rattle.tn_explore.proofs.Searches.{Before, first_at, before_all, before_next, tried_layer, explored, explored_part, no_more_layers, empty_is}
use Rattle.tn_explore.proofs.Layers.{full_layer, room_left, left_where_full}
use Rattle.tn_explore.proofs.search.explore.Goals as goal

pub loop-init : goal.loop-init
loop-init g c = λ a is_of filters whole is.
    let J = g.S.SearchState.journal in
    let I = (g.S.SearchState.is_of c.args.context.now) in
    let first = c.args.first in
    let here = first_at J I c.args.choice.now.leaves_out a first is_of is (moves_again a.program.functions (start a.program) a.before) in
    let none = subst (AreAt J I a (length (J first))) (sym c.new-layer.ensures) tt in
    let adds = c.in_ok-add.ensures c.args.context.now a (length (J first)) none here in
    let counted : c.len-states.result ≡ length c.add.new.self.states.items = omega (arith, c.add.new.self.states.ok.0, c.len-states.ensures) in
    subst (λ es. Before J I c.args.choice.now.leaves_out a 0 c.add.new.self.states.items (answer_entries g.S.SearchState.kept_seen es) c.len-states.result) (sym c.new-answers.ensures.empty) (before_all J I c.args.choice.now.leaves_out a first c.add.new.self.states.items c.len-states.result is adds.at adds.has counted (omega (arith, c.add.new.self.states.ok.0, c.len-states.ensures)))

pub returns-then-is_empty : goal.returns-then-is_empty
returns-then-is_empty g c = record {
  some = λ a is_of filters whole is.
      let counted : length c.loop.layer.states.items ≡ vec_len c.loop.layer.states = omega (arith, c.loop.layer.states.ok.0) in
      let e : c.loop.layer.states.items ≡ [] = empty_is c.loop.layer.states.items (vec_len c.loop.layer.states) counted (eqb-true (vec_len c.loop.layer.states) 0 (sym c.is_empty.ensures ∙ c.if-is_empty.true)) in
      explored g.S.SearchState.journal (g.S.SearchState.is_of c.args.context.now) c.args.choice.now.leaves_out a c.loop.counter c.loop.layer.states.items (answer_entries g.S.SearchState.kept_seen c.loop.answers.entries) c.args.max_states c.loop.states e (c.loop.invariant a is_of filters whole is);
  none = tt;
  full = tt;
}

pub returns : goal.returns
returns g c = record { some = λ a is_of filters whole is. absurd (no_more_layers g.S.SearchState.journal (g.S.SearchState.is_of c.args.context.now) c.args.choice.now.leaves_out a c.loop.counter c.loop.layer.states.items (answer_entries g.S.SearchState.kept_seen c.loop.answers.entries) c.loop.states c.loop-test.false (c.loop.invariant a is_of filters whole is)); none = tt; full = tt }

pub returns-then-not-is_complete : goal.returns-then-not-is_complete
returns-then-not-is_complete g c = record {
  some = λ a is_of filters whole is.
      let J = g.S.SearchState.journal in
      let I = (g.S.SearchState.is_of c.args.context.now) in
      let b = c.loop.invariant a is_of filters whole is in
      let layer = c.loop.layer.states.items in
      let new = c.try_layer.new.next.states.items in
      let old = answer_entries g.S.SearchState.kept_seen c.loop.answers.entries in
      let es = answer_entries g.S.SearchState.kept_seen c.try_layer.new.answers.entries in
      let room = c.saturating_sub-room.result in
      let done = c.in_ok-is_complete.is_complete in
      let tried = tried_layer J I c.args.choice.now.leaves_out a c.loop.counter layer c.into_states.result.items new old es c.loop.states room done b (ap (λ v. v.items) c.into_states.ensures) (λ depth tried at have. c.in_ok-is_complete.ensures a depth tried filters whole c.new-next.ensures at have) in
      let sum : c.saturating_add-met.result ≡ min (c.loop.states + length new) 18446744073709551615 = omega (arith, c.saturating_add-met.ensures, c.len.ensures, c.try_layer.new.next.states.ok.0) in
      explored_part J I c.args.choice.now.leaves_out a c.loop.counter layer new old es c.args.max_states c.loop.states room c.saturating_add-met.result done b c.if-not-is_complete.true tried sum c.saturating_sub-room.ensures (omega (arith, c.ranges.max_states.fits));
  none = tt;
  full = tt;
}

pub loop-preserved : goal.loop-preserved
loop-preserved g c = λ a is_of filters whole is.
    let J = g.S.SearchState.journal in
    let I = (g.S.SearchState.is_of c.args.context.now) in
    let b = c.loop.invariant a is_of filters whole is in
    let layer = c.loop.layer.states.items in
    let new = c.try_layer.new.next.states.items in
    let old = answer_entries g.S.SearchState.kept_seen c.loop.answers.entries in
    let es = answer_entries g.S.SearchState.kept_seen c.try_layer.new.answers.entries in
    let room = c.saturating_sub-room.result in
    let done = c.in_ok-is_complete.is_complete in
    let tried = tried_layer J I c.args.choice.now.leaves_out a c.loop.counter layer c.into_states.result.items new old es c.loop.states room done b (ap (λ v. v.items) c.into_states.ensures) (λ depth tried at have. c.in_ok-is_complete.ensures a depth tried filters whole c.new-next.ensures at have) in
    let sum : c.saturating_add-met.result ≡ min (c.loop.states + length new) 18446744073709551615 = omega (arith, c.saturating_add-met.ensures, c.len.ensures, c.try_layer.new.next.states.ok.0) in
    let counted : length layer ≡ vec_len c.loop.layer.states = omega (arith, c.loop.layer.states.ok.0) in
    let has_room = room_left J I c.args.choice.now.leaves_out a b.depth layer c.in_ok-full.full b.at c.in_ok-full.ensures c.if-full.false in
    before_next J I c.args.choice.now.leaves_out a c.loop.counter layer new old es c.loop.states room c.saturating_add-met.result (vec_len c.loop.layer.states) done b c.if-not-is_complete.false counted (sym c.is_empty.ensures ∙ c.if-is_empty.false) has_room tried sum

pub returns-then-full : goal.returns-then-full
returns-then-full g c =
    let J = g.S.SearchState.journal in
    let left = c.args.choice.now.leaves_out in
    let layer = c.loop.layer.states.items in
    let said = c.in_ok-full.ensures in
    record {
      some = tt;
      none = left_where_full J left layer c.in_ok-full.full said c.if-full.true;
      full = λ a is_of filters whole is.
          let b = c.loop.invariant a is_of filters whole is in
          full_layer J (g.S.SearchState.is_of c.args.context.now) left a b.depth layer c.in_ok-full.full b.at said c.if-full.true;
    }
