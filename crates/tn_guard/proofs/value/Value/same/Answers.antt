use Rattle.std.proofs.Common.{◌∙◌, sym, ap}
use Rattle.def_term.specs.Tree.{atom}
use Rattle.def_term.specs.Order.{same}
use Rattle.tn_guard.specs.Views.{value_seen}
use Rattle.tn_guard.proofs.Same.{same-swap}
use Rattle.tn_guard.proofs.Views.{value_seen_word}
use Rattle.tn_guard.proofs.value.Value.same.Goals as goal

pub returns-in-AtomConst : goal.returns-in-AtomConst
returns-in-AtomConst g c =
    let other = value_seen c.args.other in
    c.is_word.ensures
    ∙ same-swap other (atom c.text.result.now)
    ∙ ap (λ t. same t other) (c.text.ensures.seen ∙ sym (ap value_seen c.in-AtomConst.is ∙ value_seen_word _ _))
