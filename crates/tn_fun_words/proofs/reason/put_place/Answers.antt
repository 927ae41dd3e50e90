use Rattle.std.proofs.Common.{suc, codes, decimal, flat_map}
use Rattle.tn_verdict.specs.MismatchTexts.{level_text}
use Rattle.tn_verdict.proofs.Pieces.{put_ok}
use Rattle.tn_fun_words.proofs.Reasons.{four_ok}
use Rattle.tn_fun_words.proofs.reason.put_place.Goals as goal

pub returns : goal.returns
returns g c =
    let done = c.extend_from_slice-2.result in
    four_ok done c.args.out.now.items (codes "the head doesn't match at element ") (decimal (suc c.args.count)) (flat_map level_text c.args.place.now) (codes ": ")
    c.extend_from_slice.new.self.items c.write_next.new.out.items c.put_elements.new.out.items c.extend_from_slice-2.new.self.items
    c.in_ok-extend_from_slice.ensures.items c.in_ok-write_next.ensures.ok c.in_ok-put_elements.ensures
    (put_ok done c.put_elements.new.out.items (codes ": ") c.extend_from_slice-2.new.self.items c.extend_from_slice-2.ensures.items)
