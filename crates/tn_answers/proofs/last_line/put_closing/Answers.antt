use Rattle.std.proofs.Common.{◌≡◌, ◌++◌, OnOk, sym, subst}
use Rattle.def_explore.specs.Output.{closing_line}
use Rattle.tn_answers.proofs.last_line.put_closing.Goals as goal

pub returns-else-is_complete : goal.returns-else-is_complete
returns-else-is_complete g c =
    subst (λ b. OnOk c.put_incomplete.result (c.put_incomplete.new.out.items ≡ c.args.out.now.items ++ closing_line c.args.states c.args.listings b)) (sym c.if-is_complete.false) (c.put_incomplete.ensures c.args.listings)
