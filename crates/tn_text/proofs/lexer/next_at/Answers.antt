use Rattle.std.proofs.Common.{◌+◌, ◌≤◌, length, drop, arith, length-drop}
use Rattle.std.proofs.lemmas.List.{take_rest}
use Rattle.tn_text.proofs.Listing.{stood}
use Rattle.tn_text.proofs.lexer.next_at.Goals as goal

pub returns-in-Some : goal.returns-in-Some
returns-in-Some c =
    let bytes = c.args.bytes.now in
    let at = c.args.at in
    let gap = c.gap_len.result in
    let value = rw (take_rest bytes at) at c.gap_len.ensures.value in
    let fits = rw (take_rest bytes at) at c.gap_len.ensures.fits in
    let found = rw (take_rest bytes (at + gap)) at c.in-Some.ensures.found in
    let within : c.in-Some.len ≤ length (drop (at + gap) bytes) = found.0 in
    stood bytes at gap c.in-Some.len c.in-Some.kind value (omega (arith, within, fits, length-drop at bytes, length-drop (at + gap) bytes)) within found.1
