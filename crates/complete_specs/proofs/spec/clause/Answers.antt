use Rattle.std.proofs.Common.{ap, sym}
use Rattle.def_spec.specs.Reading.{clause_of}
use Rattle.tn_spec.specs.Views.{clause_seen, dialect_of}
use Rattle.complete_specs.proofs.Readings.{read_alike}
use Rattle.complete_specs.proofs.spec.clause.Goals as goal

pub returns : goal.returns
returns g c = read_alike clause_seen _ _ c.clause.result c.clause-2.result (ap (clause_of (dialect_of c.args.dialect)) (sym c.requires)) c.clause.ensures c.clause-2.ensures
