use Rattle.std.proofs.Common.{◌<◌, ◌∙◌, length, sym, refl, ap, arith}
use Rattle.tn_term.specs.Views.{alive_of}
use Rattle.tn_flags.specs.Views.{flags_of, table_of}
use Rattle.tn_session.proofs.LivingFlags.{nothing_changed, living_case, other_case, all_places}
use Rattle.tn_session.proofs.command.change_living.Goals as goal
use Rattle.tn_session.proofs.command.change_living.Goals.{then-has_place, else-has_place}

pub loop-place-init : goal.loop-place-init
loop-place-init c = sym (nothing_changed c.args.on (flags_of c.args.flags) (table_of c.args.table.now))

pub loop-place-preserved : goal.loop-place-preserved
loop-place-preserved c =
    let l = c.loop-place in
    let start = table_of c.args.table.now in
    let below : l.place < length start = omega (arith, c.loop-place-test.true, c.len-place-end.ensures.counted) in
    elim c.if-has_place.branch [
      | then-has_place w ↦ living_case c.args.on (flags_of c.args.flags) (alive_of c.args.alive) start (table_of l.table) l.place below l.invariant _ _ _ _ refl w.of.ensures w.change_flags.ensures (ap table_of w.table-is ∙ w.set.ensures) (sym w.if-has_place.true ∙ c.has_place.ensures)
      | else-has_place w ↦ other_case c.args.on (flags_of c.args.flags) (alive_of c.args.alive) start (table_of l.table) l.place below l.invariant _ (ap table_of w.table-is) (sym w.if-has_place.false ∙ c.has_place.ensures)
    ]

pub returns : goal.returns
returns c =
    let l = c.loop-place in
    l.invariant ∙ all_places c.args.on (flags_of c.args.flags) (alive_of c.args.alive) (table_of c.args.table.now) l.place (omega (arith, c.loop-place-test.false, c.len-place-end.ensures.counted))
