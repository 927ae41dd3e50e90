use Rattle.std.proofs.Common.{◌≡◌, true, arith}
use Rattle.std.proofs.lemmas.List.{take_rest}
use Rattle.tn_fun.specs.States.{open_parts_seen}
use Rattle.tn_fun.proofs.Operands.{string_put}
use Rattle.tn_fun.proofs.operand.put_string.Goals as goal

pub returns : goal.returns
returns g c =
    let bytes = c.args.bytes.now in
    let v = c.args.token in
    let count = rw (take_rest bytes v.from) at c.codes_len-codes.ensures.value in
    let placed : c.args.placed ≡ true = c.if-not-placed.false in
    string_put bytes v c.args.placed c.new.result.items c.codes_len-codes.result (open_parts_seen bytes c.args.parts.items) placed count (omega arith) c.new.ensures.items
