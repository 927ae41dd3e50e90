use Rattle.std.proofs.Common.{[], map, option_to_list, sym, ap}
use Rattle.std.specs.Option.{option_map}
use Rattle.def_explain.specs.Accounts.{differs}
use Rattle.tn_difference.specs.Differences.{difference_seen}
use Rattle.tn_explain.proofs.LineTexts.{nothing, other}
use Rattle.tn_explain.proofs.line.Lines.put_event_difference.Goals as goal

pub returns-in-None-clause-ok : goal.returns-in-None-clause-ok
returns-in-None-clause-ok g c =
    let n = c.args.self.now.name.now in
    let o = c.args.out.now.items in
    other n [] _ o o (sym (ap (λ x. map differs (option_to_list (option_map difference_seen x))) c.in-None.is)) (nothing n o)
