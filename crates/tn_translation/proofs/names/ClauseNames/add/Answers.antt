use Rattle.std.proofs.Common.{◌≡◌, [], ◌∷◌, ◌++◌, rules, refl, ap, sym, ◌∙◌}
use Rattle.def_fun.specs.Variables.{variable_kind, of_no_head}
use Rattle.tn_translation.specs.Names.{clause_names_seen, variable_kind_seen}
use Rattle.tn_translation.proofs.NamesGrow.{new_name, old_name}
use Rattle.tn_translation.proofs.Values.{unbound_seen, names_pushed}
use Rattle.tn_translation.proofs.names.ClauseNames.add.Goals as goal

pub returns-in_ok-push-in-Unbound-clause-numbers : goal.returns-in_ok-push-in-Unbound-clause-numbers
returns-in_ok-push-in-Unbound-clause-numbers g c =
    let ns = clause_names_seen c.args.self.now in
    let name = c.args.name.items in
    let same : c.deref.result.now ≡ name = search rules in
    let kind : variable_kind ns name ≡ of_no_head = ap (variable_kind ns) (sym same) ∙ sym c.kind_of.ensures ∙ ap variable_kind_seen c.in-Unbound.is in
    let grown : c.push.new.self.items ≡ c.args.self.now.numbers.items ++ c.args.name ∷ [] = search rules in
    names_pushed c.args.self.now.numbers c.push.new.self c.args.name grown ∙ sym (new_name ns name kind)

pub returns-in_default : goal.returns-in_default
returns-in_default g c =
    let ns = clause_names_seen c.args.self.now in
    let name = c.args.name.items in
    let same : c.deref.result.now ≡ name = search rules in
    record { whole = refl; numbers = sym (old_name ns name (λ e. c.in_default.not-Unbound (unbound_seen c.kind_of.result (c.kind_of.ensures ∙ ap (variable_kind ns) same ∙ e)))) }
