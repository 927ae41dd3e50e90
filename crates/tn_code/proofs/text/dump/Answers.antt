use Rattle.std.proofs.Common.{◌≡◌, ◌∙◌, Ok, Err, OnErr}
use Rattle.tn_code.proofs.Growth.{cut-back}
use Rattle.tn_code.proofs.text.dump.Goals as goal

pub returns-then-is_err-clause-err : goal.returns-then-is_err-clause-err
returns-then-is_err-clause-err g c =
    let back : c.truncate.new.self.items ≡ c.args.out.now.items =
    cut-back c.len-len.result c.args.out.now.items c.put_code-done.new.out.items c.truncate.new.self.items (c.len-len.ensures ∙ c.args.out.now.ok.0) c.put_code-done.ensures c.truncate.ensures.items in
    elim c.put_code-done.result as (λ r. OnErr r (c.truncate.new.self.items ≡ c.args.out.now.items)) [ Ok x ↦ tt | Err e ↦ back ]
