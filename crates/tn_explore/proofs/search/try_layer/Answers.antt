use Rattle.std.proofs.Common.{rules, ◌+◌, ◌<◌, ◌≤◌, ◌≡◌, [], ◌∷◌, ◌++◌, ◌∙◌, length, take, arith, ap, sym, subst}
use Rattle.tn_explore.specs.Searches.{IsAt, AreAt}
use Rattle.tn_explore.proofs.Lists.{each_at, next_at, one_more_off, all_off}
use Rattle.tn_explore.proofs.Searches.{layer_starts, layer_goes_on, layer_stops, layer_ends}
use Rattle.tn_explore.proofs.search.try_layer.Goals as goal

pub loop-init : goal.loop-init
loop-init g c = record {
  rest = c.from-rest.ensures.0;
  tried = λ a depth tried filters whole none ats have. (subst (AreAt g.S.SearchState.journal (g.S.SearchState.is_of c.args.context.now) a (depth + 1)) (sym none) tt, layer_starts g.S.SearchState.journal (g.S.SearchState.is_of c.args.context.now) c.args.choice.now.leaves_out a depth tried c.args.states.items c.args.next.now.states.items _ none have);
}

pub loop-preserved : goal.loop-preserved
loop-preserved g c =
    let xs = c.args.states.items in
    let i = c.loop.counter in
    let s = c.in-Some.state in
    let rest = c.pop_front.new.self.items in
    let below : i < length xs = omega (arith, c.loop-test.true, c.len-count.ensures, c.args.states.ok.0) in
    let off : take i xs ++ s ∷ rest ≡ xs = ap (λ ys. take i xs ++ ys) (sym c.in-Some.ensures.items) ∙ c.loop.invariant.rest in
    record {
      rest = one_more_off xs i s rest below off;
      tried = λ a depth tried filters whole none ats have.
          let J = g.S.SearchState.journal in
          let I = (g.S.SearchState.is_of c.args.context.now) in
          let inv = c.loop.invariant.tried a depth tried filters whole none ats have in
          let is = next_at xs i s s rest below off in
          let here = subst (IsAt J I a depth) (sym is) (each_at (IsAt J I a depth) xs i s below ats) in
          let one = c.in_ok-try_state.ensures a depth filters whole inv.0 here in
          (one.at, layer_goes_on J I c.args.choice.now.leaves_out a depth tried xs i s c.loop.next.states.items c.try_state.new.next.states.items _ _ below is here one inv.1);
    }

pub returns-then-len-room : goal.returns-then-len-room
returns-then-len-room g c = λ a depth tried filters whole none ats have.
    let inv = c.loop.invariant.tried a depth tried filters whole none ats have in
    let full : c.args.room ≤ length c.loop.next.states.items = omega (arith, c.if-len-room.true, c.len.ensures, c.loop.next.states.ok.0) in
    layer_stops g.S.SearchState.journal (g.S.SearchState.is_of c.args.context.now) c.args.choice.now.leaves_out a depth tried c.args.states.items c.loop.counter c.loop.next.states.items _ c.args.room full inv.0 inv.1

pub returns-in_default : goal.returns-in_default
returns-in_default g c = λ a depth tried filters whole none ats have.
    let inv = c.loop.invariant.tried a depth tried filters whole none ats have in
    let empty : c.loop.rest.items ≡ [] = search rules in
    let past = all_off c.args.states.items c.loop.counter c.loop.rest.items empty c.loop.invariant.rest in
    layer_ends g.S.SearchState.journal (g.S.SearchState.is_of c.args.context.now) c.args.choice.now.leaves_out a depth tried c.args.states.items c.loop.counter c.loop.next.states.items _ c.args.room past inv.0 inv.1

pub returns : goal.returns
returns g c = λ a depth tried filters whole none ats have.
    let inv = c.loop.invariant.tried a depth tried filters whole none ats have in
    let past : length c.args.states.items ≤ c.loop.counter = omega (arith, c.loop-test.false, c.len-count.ensures, c.args.states.ok.0) in
    layer_ends g.S.SearchState.journal (g.S.SearchState.is_of c.args.context.now) c.args.choice.now.leaves_out a depth tried c.args.states.items c.loop.counter c.loop.next.states.items _ c.args.room past inv.0 inv.1
