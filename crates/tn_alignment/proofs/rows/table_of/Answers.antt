use Rattle.std.proofs.Common.{◌≡◌, ◌+◌, ◌≤◌, ℕ, List, [], ◌∷◌, ◌++◌, length, get_or, arith, sym, ap, subst, ◌∙◌, length-append, Vec}
use Rattle.tn_alignment.specs.Tables.{IsRow, line_texts}
use Rattle.tn_alignment.proofs.CellSteps.{rows_more, texts_length}
use Rattle.tn_alignment.proofs.rows.table_of.Goals as goal

pub loop-at-preserved : goal.loop-at-preserved
loop-at-preserved g c =
    let first = line_texts c.args.first.now in
    let second = line_texts c.args.second.now in
    let items : c.push-in-loop-at.new.self.items ≡ c.loop-at.table.items ++ c.in_ok-row.row ∷ [] = c.in_ok-push-2.ensures.items in
    record {
      height = ap length items ∙ length-append c.loop-at.table.items (c.in_ok-row.row ∷ []) ∙ ap (λ n. n + 1) c.loop-at.invariant.height;
      rows = λ i d h. subst (λ (l : List (Vec ℕ g.row.A.Denot)). IsRow first i second (get_or l i d).items) (sym items)
          (rows_more first second c.loop-at.table.items c.in_ok-row.row (c.loop-at.at + 1) c.loop-at.invariant.height c.loop-at.invariant.rows c.in_ok-row.ensures i d h);
    }

pub returns : goal.returns
returns g c =
    let e : length (line_texts c.args.first.now) ≡ length c.args.first.now = texts_length c.args.first.now in
    let l : length c.args.first.now ≤ c.loop-at.at = c.loop-at-test.false in
    let k = c.loop-at.auto.at-end in
    let at_end : c.loop-at.at ≡ length (line_texts c.args.first.now) = omega arith in
    record {
      height = c.loop-at.invariant.height ∙ ap (λ n. n + 1) at_end;
      rows = λ i d h. c.loop-at.invariant.rows i d (omega arith);
    }
