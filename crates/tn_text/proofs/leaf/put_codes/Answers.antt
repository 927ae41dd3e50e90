use Rattle.std.proofs.Common.{Ok, subst, arith}
use Rattle.def_term.specs.Tree.{list}
use Rattle.def_text.specs.Grammar.{of_codes}
use Rattle.def_text.specs.Reading.{put}
use Rattle.tn_text.specs.Stack.{frames_of, StepsReading}
use Rattle.tn_text.proofs.Frames.{frames_length}
use Rattle.tn_text.proofs.Leaves.{fits_here, large_here, deep_here, codes_flat, string_fits, string_large}
use Rattle.tn_text.proofs.leaf.put_codes.Goals as goal

pub returns-then-len-ge-MAX_DEPTH : goal.returns-then-len-ge-MAX_DEPTH
returns-then-len-ge-MAX_DEPTH g c = λ printable.
    let s = c.args.codes.now in
    let size = c.args.frames.ok.0 in
    deep_here (list (of_codes s)) (frames_of c.args.frames.items) (omega (arith, size, frames_length c.args.frames.items, codes_flat s))

pub returns-then-codes-gt-MAX_LIST : goal.returns-then-codes-gt-MAX_LIST
returns-then-codes-gt-MAX_LIST g c = λ printable.
    let s = c.args.codes.now in
    let size = c.args.frames.ok.0 in
    large_here (list (of_codes s)) (frames_of c.args.frames.items) (omega (arith, size, frames_length c.args.frames.items, codes_flat s)) (string_large s (omega arith))

pub returns-in-Ok : goal.returns-in-Ok
returns-in-Ok g c = λ printable.
    let s = c.args.codes.now in
    let fs = frames_of c.args.frames.items in
    let size = c.args.frames.ok.0 in
    fits_here c.put_term.result (list (of_codes s)) fs (omega (arith, size, frames_length c.args.frames.items, codes_flat s)) (string_fits s (omega arith) printable)
    (subst (λ t. StepsReading c.put_term.result (Ok (put t fs))) c.in-Ok.ensures c.put_term.ensures)
