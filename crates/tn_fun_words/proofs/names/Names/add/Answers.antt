use Rattle.std.proofs.Common.{◌∙◌, [], ◌∷◌, ◌++◌, ◌||◌, cond, refl, sym, ap}
use Rattle.std.specs.Str.{bytes_eq}
use Rattle.def_term.specs.Text.{is_among}
use Rattle.def_fun.specs.Variables.{ANY, is_of_whole}
use Rattle.tn_fun_words.specs.Views.{head_names_seen}
use Rattle.tn_fun_words.proofs.NameLists.{one_pushed}
use Rattle.tn_fun_words.proofs.names.Names.add.Goals as goal

pub returns-then-is_known : goal.returns-then-is_known
returns-then-is_known g c =
    let ns = head_names_seen c.args.self.now in
    let s = c.args.name.items in
    let known = ap (λ z. is_of_whole ns.of_whole z || (bytes_eq z ANY || is_among ns.numbers z)) (sym c.deref.ensures.value) ∙ sym c.is_known.ensures ∙ c.if-is_known.true in
    record { whole = refl; numbers = sym (ap (λ b. cond b ns.numbers (ns.numbers ++ s ∷ [])) known) }

pub returns-clause-numbers : goal.returns-clause-numbers
returns-clause-numbers g c =
    let ns = head_names_seen c.args.self.now in
    let s = c.args.name.items in
    let other = ap (λ z. is_of_whole ns.of_whole z || (bytes_eq z ANY || is_among ns.numbers z)) (sym c.deref.ensures.value) ∙ sym c.is_known.ensures ∙ c.if-is_known.false in
    one_pushed c.args.self.now.numbers.items c.push.new.self.items c.args.name c.in_ok-push.ensures.items ∙ sym (ap (λ b. cond b ns.numbers (ns.numbers ++ s ∷ [])) other)
