use Rattle.std.proofs.Common.{ap, refl}
use Rattle.tn_term.proofs.Words.{word_test}
use Rattle.tn_guard.specs.Views.{shape_seen}
use Rattle.tn_guard.proofs.shape.Shape.is_word.Goals as goal

pub returns-in-Atom : goal.returns-in-Atom
returns-in-Atom g c = word_test _ c.args.text.now _ _ c.eq.result (ap shape_seen c.in-Atom.is) refl c.eq.ensures
