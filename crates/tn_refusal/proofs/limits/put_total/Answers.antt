use Rattle.std.proofs.Common.{◌∙◌, ◌++◌, codes, decimal, append_assoc}
use Rattle.tn_refusal.proofs.Writes.{after_ok, grown, put_ok}
use Rattle.tn_refusal.proofs.limits.put_total.Goals as goal

pub returns : goal.returns
returns g c =
    let o = c.args.out.now.items in
    let first = c.put_number.new.out.items in
    let next = c.extend_from_slice.new.self.items in
    let last = c.extend_from_slice-2.new.self.items in
    let number = decimal c.args.total in
    let what = c.args.what.now in
    let done = c.extend_from_slice-2.result in
    after_ok done o ((codes ": " ++ number) ++ what) (codes " up to here") next last
    (c.in_ok-extend_from_slice.ensures.items ∙ grown o (codes ": " ++ number) first what (c.in_ok-put_number.ensures ∙ append_assoc o (codes ": ") number))
    (put_ok done next (codes " up to here") last c.extend_from_slice-2.ensures.items)
