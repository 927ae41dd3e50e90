use Rattle.std.proofs.Common.{◌≡◌, ℕ, Vec, ◌<◌, length, get_or, arith, sym, subst}
use Rattle.std.proofs.lemmas.Grind.{get_or_default_zero}
use Rattle.tn_alignment.specs.Tables.{IsRow, line_texts}
use Rattle.tn_alignment.proofs.CellSteps.{cell_within, texts_length}
use Rattle.tn_alignment.proofs.steps.Grid.cell.Goals as goal

pub returns-clause-within : goal.returns-clause-within
returns-clause-within g c =
    let first = line_texts c.args.self.now.first.now in
    let second = line_texts c.args.self.now.second.now in
    let row : IsRow first c.args.first second c.index-self-first.result.items =
    subst (λ (v : Vec ℕ g.row.A.Denot). IsRow first c.args.first second v.items) (sym c.index-self-first.is)
    (c.requires.grid.rows c.args.first c.index-self-first.result (omega (arith, texts_length c.args.self.now.first.now))) in
    let there : c.args.second < length c.index-self-first.result.items = omega (arith, row.size, texts_length c.args.self.now.second.now) in
    omega (
      arith,
      c.index.ensures,
      get_or_default_zero c.index-self-first.result.items c.args.second c.index.result.now there,
      subst (λ (v : Vec ℕ g.row.A.Denot). c.index.result.now ≡ get_or v.items c.args.second c.index.result.now) (sym c.index-self-first.is) c.index.ensures,
      cell_within first second c.args.first c.index-self-first.result.items c.args.second
          (omega (arith, texts_length c.args.self.now.first.now)) (omega (arith, texts_length c.args.self.now.second.now)) row,
    )
