use Rattle.std.proofs.Common.{rules, ap, sym, subst, ◌∙◌, ◌≡◌, true, slice_index_or, false}
use Rattle.crossbeam_deque.specs.Injected.{injector_view}
use Rattle.def_turns.specs.Slots.{is_slot}
use Rattle.tn_pool.specs.Rows.{row_place}
use Rattle.tn_pool.proofs.Moves.{gives}
use Rattle.tn_pool.proofs.Rows.{held_one, held_gives}
use Rattle.tn_pool.proofs.turns.TurnEnd.give_turn.Goals as goal

pub push_as-requires-clause-rule : goal.push_as-requires-clause-rule
push_as-requires-clause-rule g c =
    let at = c.place-at.ensures.0 ∙ ap row_place c.pick.ensures.value in
    let t : slice_index_or c.self.inside.held (row_place c.args.token) false ≡ true = ap (λ k. slice_index_or c.self.inside.held k false) (sym at) ∙ c.if-not-self-at.false in
    let s : is_slot c.args.token ≡ true = subst (λ k. is_slot k ≡ true) c.pick.ensures.value c.pick.ensures.slot in
    gives _ _ _ (held_one c.self.inside.held (injector_view c.self.inside.pass).held c.args.token c.self.invariant.1 s t)

pub invariant_of-self-2 : goal.invariant_of-self-2
invariant_of-self-2 g c =
    let s : is_slot c.args.token ≡ true = subst (λ k. is_slot k ≡ true) c.pick.ensures.value c.pick.ensures.slot in (
      search rules,
      rw (c.place-at.ensures.0, c.pick.ensures.value) (held_gives c.self.inside.held (injector_view c.self.inside.pass).held (injector_view c.push_as.new.pass).held c.args.token c.self.invariant.1 s c.in_ok-push_as.ensures.rule.0),
    )
