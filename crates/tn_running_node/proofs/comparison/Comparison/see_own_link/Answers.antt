use Rattle.std.proofs.Common.{ap}
use Rattle.std.specs.Option.{option_map}
use Rattle.tn_flags.specs.Views.{event_of}
use Rattle.tn_process.specs.Outlooks.{own_link_seen}
use Rattle.tn_running_node.proofs.OwnLinkLines.{no_own_link, own_link_seen_each}
use Rattle.tn_running_node.proofs.comparison.Comparison.see_own_link.Goals as goal

pub returns-in_default-clause-ok : goal.returns-in_default-clause-ok
returns-in_default-clause-ok g c = λ o d h. no_own_link o c.args.pick c.args.outlook d c.args.self.now c.args.out.now c.none.result h (ap (option_map own_link_seen) c.in_default.is) c.none.ensures.differs c.none.ensures.open_lines

pub returns-clause-ok : goal.returns-clause-ok
returns-clause-ok g c = λ o d h.
    own_link_seen_each o c.args.pick c.args.outlook d c.args.self.now c.see_own_link_each.new.pairs (event_of c.own_link_event-event.result) (own_link_seen c.in-Some.own_link) c.args.out.now c.see_own_link_each.new.out c.in_ok-kinds.kinds h (ap (option_map own_link_seen) c.in-Some.is)
    c.own_link_event-event.ensures (c.in_ok-kinds.ensures.ok o d.run.alive d.sessions c.args.pick (own_link_seen c.in-Some.own_link) c.own_link_event-event.ensures h.pairs)
