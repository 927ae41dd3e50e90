use Rattle.def_spec.specs.Flags.{no_flags}
use Rattle.tn_flags.specs.Views.{flags_of}
use Rattle.tn_flags.proofs.Tables.{here_is, past_is}
use Rattle.tn_flags.proofs.table.FlagTable.of.Goals as goal

pub returns-in-None : goal.returns-in-None
returns-in-None c = past_is flags_of c.args.self.now.flags c.place_of.result _ no_flags _ c.in-None.ensures.lookup.3 c.place_of.ensures c.none.ensures

pub returns-in-Some : goal.returns-in-Some
returns-in-Some c = here_is flags_of c.args.self.now.flags c.place_of.result _ c.in-Some.flags.now no_flags c.in-Some.ensures.lookup.3.0 c.in-Some.ensures.lookup.1 c.place_of.ensures
