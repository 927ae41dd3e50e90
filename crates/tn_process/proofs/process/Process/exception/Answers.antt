use Rattle.std.proofs.Common.{◌≡◌, [], ◌∷◌, false, ap, ap₂, sym, ◌∙◌, rules}
use Rattle.def_term.specs.Tree.{tuple, of_elements}
use Rattle.tn_flags.specs.declared.class.Class.TheVariants.{Throw}
use Rattle.tn_flags.specs.Views.{class_of}
use Rattle.tn_term.specs.SharedTree.{shared_tree}
use Rattle.tn_process.specs.Views.{process_seen}
use Rattle.tn_process.proofs.Exceptions.{uncaught}
use Rattle.tn_process.proofs.process.Process.exception.Goals as goal

pub returns-then-not-is_caught : goal.returns-then-not-is_caught
returns-then-not-is_caught g c =
    let throw : c.args.class ≡ Throw = search rules in
    let none : c.is_caught.result ≡ false = search rules in
    let t = shared_tree {A = g.row.A.Denot} c.args.value in
    uncaught (process_seen c.args.self.now).frames (class_of c.args.class) t (shared_tree {A = g.row.A.Denot} c.in_ok-value.value) (ap class_of throw) (sym c.is_caught.ensures ∙ none)
    (c.in_ok-value.ensures ∙ c.in_ok-tagged.ensures ∙ ap₂ (λ w u. tuple (of_elements (w ∷ u ∷ []))) c.in_ok-word.ensures (c.in_ok-held.ensures ∙ c.term.ensures))
