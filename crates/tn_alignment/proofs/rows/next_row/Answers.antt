use Rattle.std.proofs.Common.{◌≡◌, ◌+◌, [], ◌∷◌, ◌++◌, length, get_or, refl, arith, sym, ap, ◌∙◌, length-append}
use Rattle.tn_alignment.specs.Tables.{back, best, line_texts, most_common}
use Rattle.tn_alignment.proofs.Cells.{none_empty}
use Rattle.tn_alignment.proofs.CellSteps.{cell_more, cell_within, next_cell, texts_at, texts_length}
use Rattle.tn_alignment.proofs.rows.next_row.Goals as goal

pub loop-place-init : goal.loop-place-init
loop-place-init g c =
    let of_first = back (line_texts c.args.first.now) (c.args.at + 1) in
    let items : c.push.new.self.items ≡ 0 ∷ [] = c.in_ok-push.ensures.items ∙ ap (λ l. l ++ 0 ∷ []) c.new-row.ensures.items in
    record {
      size = ap length items;
      cells = λ k h. ap (λ r. get_or r k 0) items
          ∙ cell_more [] 0 0 (λ j. most_common of_first (back (line_texts c.args.second.now) j)) refl (λ j l. absurd (omega arith)) (sym (none_empty of_first)) k h;
      last = sym (none_empty of_first);
    }

pub best-left-requires : goal.best-left-requires
best-left-requires g c =
    omega (
      arith,
      texts_length c.args.first.now,
      texts_length c.args.second.now,
      cell_within (line_texts c.args.first.now) (line_texts c.args.second.now) c.args.at c.args.below.now c.loop-place.place
          (omega (arith, texts_length c.args.first.now)) (omega (arith, texts_length c.args.second.now)) c.requires.below,
    )

pub loop-place-preserved : goal.loop-place-preserved
loop-place-preserved g c =
    let first = line_texts c.args.first.now in
    let second = line_texts c.args.second.now in
    let of_first = back first (c.args.at + 1) in
    let below = c.args.below.now in
    let place = c.loop-place.place in
    let value : c.best-left.result ≡ most_common of_first (back second (place + 1)) =
    c.best-left.ensures
    ∙ ap (best (get_or below (place + 1) 0) c.loop-place.left (get_or below place 0)) (c.eq.ensures ∙ texts_at c.args.first.now c.args.second.now c.args.at place _ _ c.requires.place c.loop-place-test.true)
    ∙ next_cell first second c.args.at place [] below c.loop-place.left (omega (arith, texts_length c.args.first.now)) (omega (arith, texts_length c.args.second.now))
    c.requires.below c.loop-place.invariant.last in
    record {
      size = ap length c.in_ok-push-2.ensures.items ∙ length-append c.loop-place.row.items (c.best-left.result ∷ []) ∙ ap (λ n. n + 1) c.loop-place.invariant.size;
      cells = λ k h. ap (λ r. get_or r k 0) c.in_ok-push-2.ensures.items
          ∙ cell_more c.loop-place.row.items c.best-left.result (place + 1) (λ j. most_common of_first (back second j)) c.loop-place.invariant.size
          c.loop-place.invariant.cells value k h;
      last = value;
    }
