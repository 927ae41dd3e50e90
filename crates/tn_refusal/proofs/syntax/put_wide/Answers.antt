use Rattle.std.proofs.Common.{◌∙◌, ◌++◌, codes, decimal, ap₂}
use Rattle.def_wording.specs.PlaceTexts.{spot_text}
use Rattle.tn_refusal.proofs.Writes.{after_ok, grown, read_as}
use Rattle.tn_refusal.proofs.syntax.put_wide.Goals as goal

pub returns : goal.returns
returns g c =
    let o = c.args.out.now.items in
    let first = c.extend_from_slice.new.self.items in
    let next = c.put_place.new.out.items in
    let last = c.put_number.new.out.items in
    let done = c.put_number.result in
    let words = c.wide_words.result.now in
    let spot = spot_text c.args.text.now c.args.opened.at in
    let on = codes " goes on after element " in
    read_as done o (((words ++ spot) ++ on) ++ decimal c.element_count.result) _ last (ap₂ (λ w n. ((w ++ spot) ++ on) ++ decimal n) c.wide_words.ensures c.element_count.ensures)
    (after_ok done o ((words ++ spot) ++ on) (decimal c.element_count.result) (next ++ on) last
    (grown o (words ++ spot) next on (c.in_ok-put_place.ensures ∙ grown o words first spot c.in_ok-extend_from_slice.ensures.items)) c.put_number.ensures)
