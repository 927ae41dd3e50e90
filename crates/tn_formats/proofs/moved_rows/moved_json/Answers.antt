use Rattle.std.proofs.Common.{◌∙◌, map, sym, arith}
use Rattle.def_formats.specs.MovedRows.{moved_json}
use Rattle.tn_formats.proofs.MovedLemmas.{section_written}
use Rattle.tn_formats.proofs.moved_rows.moved_json.Goals as goal

pub loop-rest-preserved-in_ok-out : goal.loop-rest-preserved-in_ok-out
loop-rest-preserved-in_ok-out g c =
    let moves = map (λ m. m.items) c.args.moves.now in (
      section_written moves c.loop-rest.place c.moves_at.result.now c.first_line.result.0.now c.first_line.result.1.now c.loop-rest.rest.now c.loop-rest.out.lines.items c.in_ok-out.out.lines.items (moved_json moves c.args.output.now)
          c.moves_at.ensures (sym c.is_section_head.ensures ∙ c.if-is_section_head.true) c.first_line.ensures.cut c.in_ok-out.ensures c.loop-rest.invariant.0,
      omega (arith, c.loop-rest.invariant.1, c.first_line.ensures.shorter),
    )
