use Rattle.std.proofs.Common.{◌∙◌, sym, ap, if◌then◌else◌}
use Rattle.def_spec.specs.Flags.{union, without, only, silent_flag, flags_in, with_flags_in}
use Rattle.tn_flags.specs.Views.{flags_of, table_of}
use Rattle.tn_flags.specs.declared.flags.TheConstants.{SILENT}
use Rattle.tn_flags.proofs.Silence.{silent_only}
use Rattle.tn_flags.proofs.table.FlagTable.silence.Goals as goal

pub returns-then-on : goal.returns-then-on
returns-then-on c =
    let t = table_of c.args.self.now in
    let f = flags_in t c.args.pid in
    c.set.ensures
    ∙ ap (with_flags_in t c.args.pid) (c.join.ensures ∙ ap (λ h. union h (flags_of SILENT)) c.of-flags.ensures ∙ ap (union f) silent_only
    ∙ ap (λ b. if b then union f (only silent_flag) else without f (only silent_flag)) (sym c.if-on.true))

pub returns-else-on : goal.returns-else-on
returns-else-on c =
    let t = table_of c.args.self.now in
    let f = flags_in t c.args.pid in
    c.set-else-on.ensures
    ∙ ap (with_flags_in t c.args.pid) (c.without.ensures ∙ ap (λ h. without h (flags_of SILENT)) c.of-flags.ensures ∙ ap (without f) silent_only
    ∙ ap (λ b. if b then union f (only silent_flag) else without f (only silent_flag)) (sym c.if-on.false))
