use Rattle.std.proofs.Common.{rules, ◌≡◌, length}
use Rattle.tn_verdict.proofs.EffectTexts.{keeps_flags}
use Rattle.tn_verdict.proofs.effects.put_change.Goals as goal

pub returns-in_ok-extend_from_slice-clause-ok : goal.returns-in_ok-extend_from_slice-clause-ok
returns-in_ok-extend_from_slice-clause-ok g c =
    let same : length c.put_flags-2.new.out.items ≡ length c.write_pid.new.out.items = search rules in
    keeps_flags c.args.out.now.items _ _ _ c.write_pid.new.out.items c.put_flags.new.out.items c.put_flags-2.new.out.items
    c.in_ok-write_pid.ensures.ok c.in_ok-put_flags.ensures.ok c.in_ok-put_flags-2.ensures.ok
    c.extend_from_slice.new.self.items same c.in_ok-extend_from_slice.ensures.items
