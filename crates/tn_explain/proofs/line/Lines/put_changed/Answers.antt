use Rattle.std.proofs.Common.{◌≡◌, ◌∙◌, ◌++◌, codes, ap}
use Rattle.def_spec.specs.Flags.{without, flags_by_name}
use Rattle.def_explain.specs.Texts.{said_of_each}
use Rattle.def_explain.specs.Accounts.{line_where, changed_text}
use Rattle.tn_flags.specs.Views.{flags_of}
use Rattle.tn_explain.proofs.LineTexts.{other, on_ok}
use Rattle.tn_explain.proofs.line.Lines.put_changed.Goals as goal

pub returns-clause-ok : goal.returns-clause-ok
returns-clause-ok g c =
    let n = c.args.self.now.name.now in
    let lost = c.without.result in
    let got = c.without-2.result in
    let text : c.deref.result.now ≡ changed_text c.args.pid (flags_of c.args.flags.old) (flags_of c.args.flags.new) =
    c.deref.ensures.value ∙ c.in_ok-put_flags-2.ensures.ok
    ∙ ap (λ x. x ++ said_of_each (codes " gets ") (flags_of got) flags_by_name) (c.in_ok-put_flags.ensures.ok ∙ ap (λ x. x ++ said_of_each (codes " loses ") (flags_of lost) flags_by_name) c.new-changed.ensures.items)
    ∙ ap (λ f. said_of_each (codes " loses ") f flags_by_name ++ said_of_each (codes " gets ") (flags_of got) flags_by_name) c.without.ensures
    ∙ ap (λ f. said_of_each (codes " loses ") (without (flags_of c.args.flags.old) (flags_of c.args.flags.new)) flags_by_name ++ said_of_each (codes " gets ") f flags_by_name) c.without-2.ensures in
    on_ok c.put_of_process.result _ _ (λ made. other n _ _ _ _ (ap (line_where c.args.pid) text) made) c.put_of_process.ensures.ok
