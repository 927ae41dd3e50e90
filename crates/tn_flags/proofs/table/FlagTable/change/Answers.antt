use Rattle.std.proofs.Common.{◌∙◌, ap}
use Rattle.def_spec.specs.Flags.{union, without, with_flags_in}
use Rattle.tn_flags.specs.Views.{flags_of, table_of}
use Rattle.tn_flags.proofs.table.FlagTable.change.Goals as goal

pub returns : goal.returns
returns c =
    c.set.ensures
    ∙ ap (with_flags_in (table_of c.args.self.now) c.args.pid)
    (c.join-flags.ensures ∙ ap (λ f. union f (flags_of c.args.on)) (c.without.ensures ∙ ap (λ f. without f (flags_of c.args.off)) c.of.ensures))
