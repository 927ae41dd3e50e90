use Rattle.std.proofs.Common.{◌≡◌, ◌+◌, ◌-◌, ◌<◌, ◌∷◌, ◌∙◌, ap, arith, length, map, drop}
use Rattle.tn_spec.specs.Views.{clause_seen, dialect_of}
use Rattle.tn_compile.specs.Views.{code_left}
use Rattle.tn_compile.proofs.Sizes.{clause-room}
use Rattle.tn_compile.proofs.Whole.{clauses_here, clauses-more}
use Rattle.tn_compile.proofs.clauses.emit_clauses.Goals as goal

pub emit_clause-requires : goal.emit_clause-requires
emit_clause-requires g c =
    clause-room c.args.clauses.now (c.loop-i.i - 1) c.index-clauses-i.result (omega (arith, c.loop-i.invariant.within, c.loop-i-test.true)) c.index-clauses-i.is c.requires

pub loop-i-preserved : goal.loop-i-preserved
loop-i-preserved g c =
    let ks = c.args.clauses.now in
    let k = clause_seen c.index-clauses-i.result in
    let again : c.loop-i.i - 1 + 1 ≡ c.loop-i.i = omega (arith, c.loop-i-test.true) in
    let below : c.loop-i.i - 1 < length c.args.clauses.now = omega (arith, c.loop-i.invariant.within, c.loop-i-test.true) in
    record {
      within = omega (arith, c.loop-i.invariant.within);
      emitted = clauses-more (dialect_of c.args.dialect) (map clause_seen (drop (c.loop-i.i - 1) ks)) (map clause_seen (drop c.loop-i.i ks)) k (code_left c.args.code.now) (code_left c.loop-i.code) (code_left c.emit_clause.new.code)
          (clauses_here ks (c.loop-i.i - 1) c.index-clauses-i.result below c.index-clauses-i.is ∙ ap (λ n. k ∷ map clause_seen (drop n ks)) again)
          c.loop-i.invariant.emitted c.in_ok-emit_clause.ensures.emitted;
    }
