use Rattle.std.proofs.Common.{◌≡◌, ◌<◌, ◌++◌, length, decimal, slice_index_or, map, take, ◌+◌, ◌∙◌, ap, rules, arith}
use Rattle.std.specs.List.{join_with_byte}
use Rattle.tn_listing.proofs.WrittenLemmas.{first_step, next_step}
use Rattle.tn_listing.proofs.picks.put_picks.Goals as goal
use Rattle.tn_listing.proofs.picks.put_picks.Goals.{then-i-gt0+in_ok-push, else-i-gt0}

pub loop-i-preserved : goal.loop-i-preserved
loop-i-preserved g c =
    let bytes : c.as_bytes.result.now ≡ decimal (slice_index_or c.args.picks.now c.loop-i.i 0) = c.as_bytes.ensures.value ∙ c.format.ensures.text in
    let inside : c.loop-i.i < length c.args.picks.now = search rules in
    let after : c.extend_from_slice.new.self.items ≡ c.if-i-gt0.text.items ++ c.as_bytes.result.now = c.in_ok-extend_from_slice.ensures.items in
    let written : c.extend_from_slice.new.self.items ≡ c.args.text.now.items ++ join_with_byte 32 (map decimal (take (c.loop-i.i + 1) c.args.picks.now)) = elim c.if-i-gt0.branch [
      | then-i-gt0+in_ok-push w ↦ next_step c.args.text.now.items c.loop-i.text.items _ c.as_bytes.result.now c.extend_from_slice.new.self.items c.args.picks.now c.loop-i.i
          (omega arith) inside c.loop-i.invariant.written (ap (λ o. o.items) w.text-is ∙ w.in_ok-push.ensures.items) bytes after
      | else-i-gt0 w ↦ first_step c.args.text.now.items c.if-i-gt0.text.items c.as_bytes.result.now c.extend_from_slice.new.self.items c.args.picks.now c.loop-i.i
          (omega arith) inside (ap (λ o. o.items) w.text-is ∙ c.loop-i.invariant.written) bytes after
    ] in
    record { written = written; grows = record { added = join_with_byte 32 (map decimal (take (c.loop-i.i + 1) c.args.picks.now)); whole = written } }
