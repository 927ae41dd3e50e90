use Rattle.std.proofs.Common.{sym, ◌∙◌}
use Rattle.tn_term.specs.Views.{mfa_seen}
use Rattle.tn_index.proofs.Functions.{same_function, same_flag}
use Rattle.tn_index.proofs.entry.find.Goals as goal

pub returns-then-entry-exported-clause-its : goal.returns-then-entry-exported-clause-its
returns-then-entry-exported-clause-its g c =
    (same_function (mfa_seen c.in_ok-entry.entry.now.function) (mfa_seen c.args.function.now) (sym c.same.ensures ∙ c.if-same.true), same_flag c.in_ok-entry.entry.now.exported c.args.exported c.if-entry-exported.true)
