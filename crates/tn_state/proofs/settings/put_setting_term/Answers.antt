use Rattle.std.proofs.Common.{◌∙◌, ◌∷◌, [], sym, ap}
use Rattle.def_state.specs.Lines.{terms_line}
use Rattle.def_state.specs.SessionTexts.{match_spec_term}
use Rattle.tn_term.specs.Views.{tree_of}
use Rattle.tn_text.proofs.Growth.{written_as}
use Rattle.tn_state.proofs.LineLemmas.{one_term}
use Rattle.tn_state.proofs.settings.put_setting_term.Goals as goal

pub returns : goal.returns
returns g c =
    let spec = match_spec_term (tree_of c.args.spec) in
    written_as c.put_line.result c.args.out.now.items c.put_line.new.out.items
    (sym (ap (λ t. terms_line (t ∷ spec ∷ [])) c.in_ok-first.ensures)
    ∙ sym (ap (λ ts. terms_line (tree_of c.in_ok-first.first ∷ ts))
    (one_term tree_of c.new-others.result.items c.push.new.self.items c.in_ok-match_spec_term.field-0 spec c.deref.result.now c.new-others.ensures.items c.in_ok-push.ensures.items c.deref.ensures.value
    c.in_ok-match_spec_term.ensures)))
    c.put_line.ensures
