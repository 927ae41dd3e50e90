use Rattle.std.proofs.Common.{◌∙◌, ◌∷◌, [], sym, ap}
use Rattle.def_state.specs.Lines.{terms_line}
use Rattle.def_state.specs.SessionTexts.{match_spec_term}
use Rattle.def_term.specs.Names.{mfa_term}
use Rattle.tn_term.specs.Views.{mfa_seen, tree_of}
use Rattle.tn_text.proofs.Growth.{written_as}
use Rattle.tn_state.specs.NewSettings.{traced_term}
use Rattle.tn_state.proofs.LineLemmas.{two_terms}
use Rattle.tn_state.proofs.settings.put_pattern.Goals as goal

pub returns : goal.returns
returns g c =
    let first = mfa_term (mfa_seen c.args.mfa) in
    let traced = traced_term c.args.local in
    let spec = match_spec_term (tree_of c.args.spec) in
    written_as c.put_line.result c.args.out.now.items c.put_line.new.out.items
    (sym (ap (λ t. terms_line (t ∷ traced ∷ spec ∷ [])) c.in_ok-function.ensures)
    ∙ sym (ap (λ ts. terms_line (tree_of c.in_ok-function.function ∷ ts))
    (two_terms tree_of c.new-others.result.items c.push.new.self.items c.in_ok-traced_term.field-0 traced c.push-2.new.self.items c.deref.result.now c.in_ok-match_spec_term.field-0 spec
    c.new-others.ensures.items c.in_ok-push.ensures.items c.in_ok-push-2.ensures.items c.deref.ensures.value c.in_ok-traced_term.ensures c.in_ok-match_spec_term.ensures)))
    c.put_line.ensures
