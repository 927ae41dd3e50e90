use Rattle.std.proofs.Common.{◌∙◌, ap, sym}
use Rattle.tn_program.specs.Views.{program_of}
use Rattle.tn_node.specs.Nodes.{slots_in}
use Rattle.tn_search.specs.ReadyPicks.{is_ready_in, may_move_by}
use Rattle.tn_search.proofs.ReadyPicks.{by_process}
use Rattle.tn_search.proofs.ready_picks.may_move_by.Goals as goal

pub returns-then-pick-eq0 : goal.returns-then-pick-eq0
returns-then-pick-eq0 g c = c.has_command_left.ensures ∙ ap (may_move_by (program_of c.args.program.now) c.args.node.now) (sym c.if-pick-eq0.true)

pub returns : goal.returns
returns g c =
    c.is_ready_in.ensures
    ∙ ap (λ ks. is_ready_in ks (slots_in c.args.node.now) c.args.pick) c.functions.ensures
    ∙ by_process (program_of c.args.program.now) c.args.node.now c.args.pick c.if-pick-eq0.false
