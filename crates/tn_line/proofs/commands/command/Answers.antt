use Rattle.std.proofs.Common.{◌≡◌, codes, []}
use Rattle.std.proofs.lemmas.Result.{IfOk-weaker}
use Rattle.clap.specs.Built.{subcommand_names}
use Rattle.tn_line.specs.Line.{RUN, REPLAY, EXPLAIN, STATE, DRAW, ROUND, WORKERS, TRIAL, FUN_ARGUMENTS, EXPLORE_ARGUMENTS, COMPARE_ARGUMENTS}
use Rattle.tn_line.proofs.Names.{command_made}
use Rattle.tn_line.proofs.commands.command.Goals as goal

pub returns : goal.returns
returns c =
    let bare : subcommand_names c.in_ok-command.command ≡ [] = c.in_ok-command.ensures in
    let zeroth = command_made [] (codes "run") RUN c.in_ok-command.command c.in_ok-command-2.command c.run.result bare
    c.run.ensures c.in_ok-command-2.ensures in
    let first = command_made _ (codes "replay") REPLAY c.in_ok-command-2.command c.in_ok-command-3.command c.replay.result zeroth
    c.replay.ensures.arguments c.in_ok-command-3.ensures in
    let second = command_made _ (codes "round") ROUND c.in_ok-command-3.command c.in_ok-command-4.command c.round.result first
    c.round.ensures c.in_ok-command-4.ensures in
    let third = command_made _ (codes "workers") WORKERS c.in_ok-command-4.command c.in_ok-command-5.command c.workers.result second
    c.workers.ensures c.in_ok-command-5.ensures in
    let fourth = command_made _ (codes "explain") EXPLAIN c.in_ok-command-5.command c.in_ok-command-6.command c.explain.result third
    c.explain.ensures.arguments c.in_ok-command-6.ensures in
    let fifth = command_made _ (codes "state") STATE c.in_ok-command-6.command c.in_ok-command-7.command c.state.result fourth
    c.state.ensures.arguments c.in_ok-command-7.ensures in
    let sixth = command_made _ (codes "draw") DRAW c.in_ok-command-7.command c.in_ok-command-8.command c.draw.result fifth
    c.draw.ensures.arguments c.in_ok-command-8.ensures in
    let seventh = command_made _ (codes "spec") TRIAL c.in_ok-command-8.command c.in_ok-command-9.command c.spec.result sixth
    c.spec.ensures c.in_ok-command-9.ensures in
    let eighth = command_made _ (codes "fun") FUN_ARGUMENTS c.in_ok-command-9.command c.in_ok-command-10.command c.fun.result seventh
    c.fun.ensures c.in_ok-command-10.ensures in
    let ninth = command_made _ (codes "explore") EXPLORE_ARGUMENTS c.in_ok-command-10.command c.in_ok-command-11.command c.explore.result eighth
    c.explore.ensures c.in_ok-command-11.ensures in
    let tenth = command_made _ (codes "compare") COMPARE_ARGUMENTS c.in_ok-command-11.command c.in_ok-command-12.command c.compare.result ninth
    c.compare.ensures c.in_ok-command-12.ensures in
    IfOk-weaker c.with_subcommand-12.result _ _
    (λ new added. command_made _ (codes "serve") [] c.in_ok-command-12.command new c.serve.result tenth c.serve.ensures added)
    c.with_subcommand-12.ensures
