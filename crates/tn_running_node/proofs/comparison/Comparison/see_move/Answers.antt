use Rattle.std.proofs.Common.{◌≡◌, ◌∙◌, length, map, sym, arith}
use Rattle.std.proofs.lemmas.Bool.{eqb-true, eqb-false}
use Rattle.def_run.specs.Run.{event_item}
use Rattle.def_running_node.specs.NodeComparisons.{at_pick}
use Rattle.tn_flags.specs.Views.{event_of}
use Rattle.tn_node.specs.Outlooks.{outlook_seen}
use Rattle.tn_running_node.proofs.Moves.{begins_move, shows_none, shows_some, of_none, of_some}
use Rattle.tn_running_node.proofs.comparison.Comparison.see_move.Goals as goal

pub returns-then-is_empty-clause-ok : goal.returns-then-is_empty-clause-ok
returns-then-is_empty-clause-ok g c = λ o d h.
    let events = c.args.events.now in
    let fits = events.ok.0 in
    let zero : events.len ≡ 0 = eqb-true events.len 0 (sym c.is_empty.ensures ∙ c.if-is_empty.true) in
    let none : length events.items ≡ 0 = omega arith in
    let begun = begins_move o d c.args.self.now c.begin_move.new.self c.args.pick h c.begin_move.ensures in
    shows_none o c.args.outlook c.args.pick d c.see_own_link.new.self (map event_item (map event_of events.items)) c.args.out.now c.see_own_link.new.out c.in_ok-kinds.kinds (of_none event_item event_of events.items none) (c.in_ok-kinds.ensures.ok o (at_pick c.args.pick d) begun)

pub returns-clause-ok : goal.returns-clause-ok
returns-clause-ok g c = λ o d h.
    let events = c.args.events.now in
    let fits = events.ok.0 in
    let begun = begins_move o d c.args.self.now c.begin_move.new.self c.args.pick h c.begin_move.ensures in
    shows_some o (outlook_seen c.args.outlook) c.args.pick d c.see_events.new.self (map event_item (map event_of events.items)) c.args.out.now c.see_events.new.out c.in_ok-kinds-2.kinds
    (of_some event_item event_of events.items (λ none. let zero : events.len ≡ 0 = omega (arith, none) in eqb-false events.len 0 (sym c.is_empty.ensures ∙ c.if-is_empty.false) zero)) (c.in_ok-kinds-2.ensures.ok o (at_pick c.args.pick d) begun)
