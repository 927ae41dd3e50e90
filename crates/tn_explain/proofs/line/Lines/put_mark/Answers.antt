use Rattle.std.proofs.Common.{[], sym, ap}
use Rattle.std.specs.Option.{option_map}
use Rattle.def_explain.specs.Accounts.{marked_lines}
use Rattle.tn_session.specs.Views.{mark_kind_seen}
use Rattle.tn_explain.proofs.LineTexts.{nothing, other}
use Rattle.tn_explain.proofs.line.Lines.put_mark.Goals as goal

pub returns-in-None-clause-ok : goal.returns-in-None-clause-ok
returns-in-None-clause-ok g c =
    let n = c.args.self.now.name.now in
    let o = c.args.out.now.items in
    other n [] _ o o (sym (ap (λ k. marked_lines (option_map mark_kind_seen k)) c.in-None.is)) (nothing n o)
