use Rattle.std.proofs.Common.{refl}
use Rattle.tn_formats.proofs.Appends.{after_seven, greatest_written}
use Rattle.tn_formats.specs.Values.{line_seen}
use Rattle.tn_formats.proofs.summary.put_longest.Goals as goal

pub returns : goal.returns
returns g c =
    greatest_written (line_seen c.args.longest) c.args.out.now.items _ c.push.new.self.items c.if-number-eq0.false refl
    (after_seven _ _ _ _ _ _ _ _ _ _ _ _ _ _ _ c.in_ok-extend_from_slice.ensures.items c.in_ok-write_decimal.ensures.ok c.in_ok-extend_from_slice-2.ensures.items c.in_ok-write_decimal-2.ensures.ok
    c.in_ok-extend_from_slice-3.ensures.items c.in_ok-extend_from_slice-4.ensures.items c.in_ok-push.ensures.items)
