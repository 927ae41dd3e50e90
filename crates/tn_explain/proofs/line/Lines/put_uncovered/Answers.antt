use Rattle.std.proofs.Common.{◌++◌, codes, refl}
use Rattle.def_explain.specs.Accounts.{said}
use Rattle.def_explain.specs.ReasonTexts.{mfa_text}
use Rattle.tn_term.specs.Views.{mfa_seen}
use Rattle.tn_explain.proofs.LineTexts.{line, both}
use Rattle.tn_explain.proofs.line.Lines.put_uncovered.Goals as goal

pub returns-clause-ok : goal.returns-clause-ok
returns-clause-ok g c = record {
  text =
      line c.args.self.now.name.now (said (codes "no setting for " ++ mfa_text (mfa_seen c.args.mfa.now))) _ _ _ _ c.in_ok-begin.ensures.ok
      (both _ _ _ _ _ c.in_ok-extend_from_slice.ensures.items c.in_ok-put_function.ensures.ok) c.in_ok-push.ensures.items;
  effects = refl;
}
