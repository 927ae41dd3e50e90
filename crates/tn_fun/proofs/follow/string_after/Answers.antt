use Rattle.std.proofs.Common.{arith}
use Rattle.std.proofs.lemmas.List.{take_rest}
use Rattle.tn_fun.specs.States.{open_parts_seen}
use Rattle.tn_fun.proofs.Operands.{string_more, strings_large}
use Rattle.tn_fun.proofs.follow.string_after.Goals as goal

pub returns-then-codes-gt-MAX_LIST : goal.returns-then-codes-gt-MAX_LIST
returns-then-codes-gt-MAX_LIST g c = λ pattern at.
    let bytes = c.args.bytes.now in
    let v = c.args.token in
    let this = rw (take_rest bytes v.from) at c.codes_len.ensures.value in
    strings_large bytes pattern at c.args.first v c.args.others.items c.args.codes c.codes_len.result c.saturating_add-codes.result (open_parts_seen bytes c.args.parts.items) c.requires.counted this c.saturating_add-codes.ensures (omega (arith, c.if-codes-gt-MAX_LIST.true))

pub returns : goal.returns
returns g c = λ pattern at.
    let bytes = c.args.bytes.now in
    let v = c.args.token in
    let this = rw (take_rest bytes v.from) at c.codes_len.ensures.value in
    string_more bytes pattern at c.args.first v c.args.others.items c.args.codes c.codes_len.result c.saturating_add-codes.result (open_parts_seen bytes c.args.parts.items) c.requires.counted this c.push.new.self.items c.saturating_add-codes.ensures (omega (arith, c.if-codes-gt-MAX_LIST.false)) c.in_ok-push.ensures.items
