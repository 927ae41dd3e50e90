-- Whether a message matches, and whether one would.
use Rattle.std.proofs.Common.{◌≡◌, ◌∙◌, Bool, List, [], ◌++◌, ap, append-nil}
use Rattle.def_term.specs.Tree.{Tree, tuple, of_elements}
use Rattle.def_spec.specs.Matching.{Pattern}
use Rattle.def_explore.specs.Words.{is_match}

-- a message without a last element
pub without_last : (a : Pattern) (b : Bool) (t : Tree) (ts last : List Tree) → last ≡ [] → t ≡ tuple (of_elements (ts ++ last)) → b ≡ is_match a t → b ≡ is_match a (tuple (of_elements ts))
without_last a b t ts last none is h = h ∙ ap (is_match a) (is ∙ ap (λ l. tuple (of_elements (ts ++ l))) none ∙ ap (λ l. tuple (of_elements l)) (append-nil ts))
