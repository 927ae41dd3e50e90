use Rattle.std.proofs.Common.{◌≡◌, ◌+◌, ◌-◌, ap, sym, ◌∙◌, unwrap_or, below_more, arith}
use Rattle.std.specs.Prelude.{slice_get}
use Rattle.def_spec.specs.Flags.{no_flags}
use Rattle.tn_flags.specs.Views.{table_of}
use Rattle.tn_session.proofs.SamePlaces.{same_by_place}
use Rattle.tn_session.proofs.comparison.same_tables.Goals as goal

pub loop-place-preserved : goal.loop-place-preserved
loop-place-preserved c =
    let i = c.loop-place.place in
    let one = table_of c.args.one.now in
    let other = table_of c.args.other.now in
    let at : (100 + i) - 100 ≡ i = omega arith in
    below_more _ _ c.loop-place.invariant
    (ap (λ n. unwrap_or (slice_get one n) no_flags) (sym at) ∙ sym c.of.ensures ∙ c.same_flags.ensures c.if-not-same_flags.false ∙ c.of-in-loop-place.ensures ∙ ap (λ n. unwrap_or (slice_get other n) no_flags) at)

pub returns : goal.returns
returns c _ =
    let one = c.len.ensures.counted in
    let other = c.len-2.ensures.counted in
    same_by_place no_flags (table_of c.args.one.now) (table_of c.args.other.now) (omega (arith, one, other, c.len.ensures.processes, c.len-2.ensures.processes))
    (λ k below. c.loop-place.invariant k (omega (arith, below, one, c.len.ensures.processes, c.len-2.ensures.processes, c.loop-place-test.false)))
