use Rattle.std.proofs.Common.{◌∙◌, sym, ap, refl, map}
use Rattle.tn_flags.specs.Views.{event_of}
use Rattle.tn_running_node.specs.Views.{node_run_seen}
use Rattle.tn_running_node.proofs.OwnLinkPairs.{saw_own_link}
use Rattle.tn_running_node.proofs.Phases.{own_link_elsewhere, own_pair_elsewhere}
use Rattle.tn_running_node.proofs.pair.SessionPair.see_own_link.Goals as goal

pub returns-then-not-branch-clause-ok : goal.returns-then-not-branch-clause-ok
returns-then-not-branch-clause-ok g c = λ o living d p x own h. record {
  pair = own_pair_elsewhere o living (node_run_seen c.args.run.now) d c.args.self.now (sym c.if-not-branch.true ∙ c.in_ok-is_live.ensures o living d h) h;
  lines = own_link_elsewhere (node_run_seen c.args.run.now) d (event_of c.args.event.now) c.args.out.now c.args.out.now c.none.result refl (sym c.if-not-branch.true ∙ c.in_ok-is_live.ensures o living d h) c.none.ensures.differs c.none.ensures.open_lines;
}

pub returns-clause-ok : goal.returns-clause-ok
returns-clause-ok g c = λ o living d p x own h.
    saw_own_link c.args.run.now (event_of c.args.event.now) c.args.self.now o living d p x own h c.in-Some.there c.see_as_here.new.self c.new-lines_here.result c.in_ok-lines_there.lines_there c.in-Some.is c.in_ok-lines_there.ensures
    c.in_ok-kinds.kinds c.args.out.now c.put_lines.new.out (sym c.if-not-branch.false ∙ c.in_ok-is_live.ensures o living d h) (ap (map _) c.new-lines_here.ensures.items) c.in_ok-kinds.ensures.ok
