use Rattle.std.proofs.Common.{◌∙◌, refl, ap}
use Rattle.def_script.specs.Program.{entry_mfa}
use Rattle.def_term.specs.Names.{mfa_term}
use Rattle.tn_script.specs.Views.{entry_of}
use Rattle.tn_term.specs.Views.{tree_of}
use Rattle.tn_state.proofs.LineLemmas.{one_term}
use Rattle.tn_state.proofs.process.entry_terms.Goals as goal

pub returns : goal.returns
returns g c =
    let all = c.push.new.self.items in
    one_term tree_of c.new-terms.result.items all c.in_ok-mfa_term.field-0 (mfa_term (entry_mfa (entry_of c.args.entry.now))) all c.new-terms.ensures.items c.in_ok-push.ensures.items refl
    (c.in_ok-mfa_term.ensures ∙ ap mfa_term c.in_ok-mfa.ensures)
