use Rattle.std.proofs.Common.{◌≡◌, ◌+◌, ◌-◌, ◌<◌, length, take, drop, ap, sym, arith, refl, length-drop}
use Rattle.std.proofs.lemmas.Bool.{eqb-false}
use Rattle.std.proofs.lemmas.List.{take_rest}
use Rattle.def_fun.specs.Tokens.{bad}
use Rattle.tn_fun.specs.declared.token.Kind.TheVariants.{Bad}
use Rattle.tn_fun.specs.declared.token.Token.{Token}
use Rattle.tn_fun.specs.Tokens.{fun_token_seen}
use Rattle.tn_fun.proofs.SpanLists.{spans_found, found_front, bad_front, some_there}
use Rattle.tn_fun.proofs.lexer.next_at.Goals as goal

pub returns-in-Some-clause-next : goal.returns-in-Some-clause-next
returns-in-Some-clause-next c =
    let bytes = c.args.bytes.now in
    let from = c.args.at + c.gap_len.result in
    let there = drop from bytes in
    let kind = c.in-Some.kind in
    let len = c.in-Some.len in
    let value = rw (take_rest bytes c.args.at) at c.gap_len.ensures.value in
    let found = rw (take_rest bytes from) at c.in-Some.ensures.value in
    let empty = rw (take_rest bytes from) at c.if-is_empty.ensures in
    let no_end = eqb-false (length there) 0 (sym empty) in
    let some : 0 < length there = omega (arith, no_end) in
    let same : len ≡ from + len - from = omega arith in
    spans_found bytes c.args.at _ (fun_token_seen kind (take len there) there) len (ap (λ k. c.args.at + k) value) refl some (found_front there kind len found) (ap (λ n. fun_token_seen kind (take n there) there) same)

pub returns-in-Some-clause-within : goal.returns-in-Some-clause-within
returns-in-Some-clause-within c =
    let bytes = c.args.bytes.now in
    let from = c.args.at + c.gap_len.result in
    let there = drop from bytes in
    let found = rw (take_rest bytes from) at c.in-Some.ensures.value in
    let fits = rw (take_rest bytes from) at c.in-Some.ensures.fits in
    let gap_fits = rw (take_rest bytes c.args.at) at c.gap_len.ensures.fits in
    let empty = rw (take_rest bytes from) at c.if-is_empty.ensures in
    let no_end = eqb-false (length there) 0 (sym empty) in
    let some = some_there there _ c.in-Some.len (omega (arith, no_end)) (found_front there c.in-Some.kind c.in-Some.len found) in
    record { start = omega arith; some = omega (arith, some); fits = omega (arith, fits, gap_fits, length-drop from bytes, length-drop c.args.at bytes) }

pub returns-in-None-clause-next : goal.returns-in-None-clause-next
returns-in-None-clause-next c =
    let bytes = c.args.bytes.now in
    let from = c.args.at + c.gap_len.result in
    let there = drop from bytes in
    let value = rw (take_rest bytes c.args.at) at c.gap_len.ensures.value in
    let gap_fits = rw (take_rest bytes c.args.at) at c.gap_len.ensures.fits in
    let found = rw (take_rest bytes from) at c.in-None.ensures.value in
    let empty = rw (take_rest bytes from) at c.if-is_empty.ensures in
    let no_end = eqb-false (length there) 0 (sym empty) in
    let some : 0 < length there = omega (arith, no_end) in
    let to : length bytes ≡ from + length there = omega (arith, gap_fits, length-drop from bytes, length-drop c.args.at bytes) in
    let v : Token = record { kind = Bad; from = from; to = length bytes } in
    spans_found bytes c.args.at v bad (length there) (ap (λ k. c.args.at + k) value) to some (bad_front there found) refl
