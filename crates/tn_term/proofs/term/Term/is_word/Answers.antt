use Rattle.std.proofs.Common.{◌∙◌, ap}
use Rattle.tn_term.specs.Views.{tree_of}
use Rattle.tn_term.proofs.Views.{tree_of_atom}
use Rattle.tn_term.proofs.Words.{word_test}
use Rattle.tn_term.proofs.term.Term.is_word.Goals as goal

pub returns-in-Atom : goal.returns-in-Atom
returns-in-Atom g c = word_test c.in-Atom.name c.args.text.now c.text.result.now _ c.eq.result (ap tree_of c.in-Atom.is ∙ tree_of_atom _ _) c.text.ensures.text c.eq.ensures
