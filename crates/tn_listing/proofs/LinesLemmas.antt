-- Lines one after another.
use Rattle.std.proofs.Common.{◌≡◌, ◌∙◌, ℕ, ◌+◌, ◌<◌, List, ◌++◌, length, drop, map, get_or, sym, ap, append_assoc}
use Rattle.std.proofs.lemmas.List.{drop_more}
use Rattle.def_term.specs.Tree.{Tree}
use Rattle.def_run.specs.Listing.{line_of, lines_of}

-- one more line
pub next_line : {X : Type 0} (g : X → Tree) (xs : List X) (i : ℕ) (x : X) (now after whole : List ℕ) → i < length xs → x ≡ get_or xs i x
    → now ++ lines_of (map g (drop i xs)) ≡ whole → after ≡ now ++ line_of (g x) → after ++ lines_of (map g (drop (i + 1) xs)) ≡ whole
next_line g xs i x now after whole below is so_far made =
    ap (λ l. l ++ lines_of (map g (drop (i + 1) xs))) made
    ∙ append_assoc now (line_of (g x)) (lines_of (map g (drop (i + 1) xs)))
    ∙ ap (λ y. now ++ (line_of (g y) ++ lines_of (map g (drop (i + 1) xs)))) is
    ∙ ap (λ ys. now ++ lines_of (map g ys)) (sym (drop_more xs i x below))
    ∙ so_far
