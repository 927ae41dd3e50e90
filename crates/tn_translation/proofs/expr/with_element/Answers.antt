use Rattle.std.proofs.Common.{◌≡◌, [], ◌∷◌, ◌++◌, rules, ap, sym, ◌∙◌}
use Rattle.std.specs.Option.{option_map}
use Rattle.tn_term.specs.Views.{tree_of}
use Rattle.tn_translation.specs.Values.{translated_seen, constant_after}
use Rattle.tn_translation.proofs.Elements.{terms_more, constants_more}
use Rattle.tn_translation.proofs.Values.{row_more}
use Rattle.tn_translation.proofs.expr.with_element.Goals as goal

pub returns : goal.returns
returns g c = λ xs are.
    let x = translated_seen c.args.element in
    let grown : c.push.new.self.items ≡ c.args.elements.terms.items ++ c.args.element.term ∷ [] = search rules in
    record {
      terms = row_more c.args.elements.terms c.push.new.self c.args.element.term grown ∙ ap (λ ts. ts ++ x.becomes ∷ []) are.terms ∙ sym (terms_more xs x);
      constants = c.in_ok-constants.ensures ∙ ap (λ o. constant_after o (option_map tree_of c.args.element.constant)) are.constants ∙ sym (constants_more xs x);
    }
