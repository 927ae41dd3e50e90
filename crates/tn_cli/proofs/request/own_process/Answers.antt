use Rattle.std.proofs.Common.{◌≡◌, [], unwrap_or, codes, subst, rules}
use Rattle.tn_cli.specs.Requests.{argument, NamesNoProcess}
use Rattle.tn_cli.proofs.request.own_process.Goals as goal

pub returns-in-None-clause-refused : goal.returns-in-None-clause-refused
returns-in-None-clause-refused c =
    let same : c.unwrap_or-text.result.now ≡ unwrap_or (argument c.args.matches.now (codes "me")) [] = search rules in
    subst NamesNoProcess same c.in-None.ensures.none
