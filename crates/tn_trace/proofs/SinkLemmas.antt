-- One more message, as a term and as text.
use Rattle.std.proofs.Common.{◌≡◌, ◌∙◌, ℕ, List, [], ◌∷◌, ◌++◌, map, refl, sym, ap, append_assoc, append-nil}
use Rattle.std.proofs.lemmas.Grind.{flat_map-append}
use Rattle.def_term.specs.Tree.{Tree}
use Rattle.def_term.specs.Text.{w}
use Rattle.def_run.specs.Listing.{lines_of, line_of}

pub mapped_more : {X Y : Type 0} (f : X → Y) (xs : List X) (x : X) → map f (xs ++ x ∷ []) ≡ map f xs ++ f x ∷ []
mapped_more f [] x = refl
mapped_more f (y ∷ xs) x = ap (λ ys. f y ∷ ys) (mapped_more f xs x)

-- one more element, seen as y
pub one_more_seen : {X Y : Type 0} (f : X → Y) (old new : List X) (x : X) (y : Y) (ys : List Y) → new ≡ old ++ x ∷ [] → f x ≡ y → map f old ≡ ys → map f new ≡ ys ++ y ∷ []
one_more_seen f old new x y ys added is so_far = ap (map f) added ∙ mapped_more f old x ∙ ap (λ zs. zs ++ f x ∷ []) so_far ∙ ap (λ z. ys ++ z ∷ []) is

-- one more line
pub one_more_line : (old written new : List ℕ) (t : Tree) (ts : List Tree) → written ≡ old ++ w t → new ≡ written ++ 10 ∷ [] → old ≡ lines_of ts → new ≡ lines_of (ts ++ t ∷ [])
one_more_line old written new t ts text feed so_far =
    feed
    ∙ ap (λ l. l ++ 10 ∷ []) text
    ∙ append_assoc old (w t) (10 ∷ [])
    ∙ ap (λ l. l ++ line_of t) so_far
    ∙ sym (flat_map-append line_of ts (t ∷ []) ∙ ap (λ l. lines_of ts ++ l) (append-nil (line_of t)))
