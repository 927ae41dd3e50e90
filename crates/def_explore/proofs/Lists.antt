-- One of several, and each of them.
use Rattle.std.proofs.Common.{inl, inr, List, [], ◌∷◌, ◌++◌}
use Rattle.def_explore.specs.Lists.{OneOf, EachOf}

pub one_also : {X : Type 0} (P Q : X → Type 0) (xs : List X) → ((x : X) → P x → Q x) → OneOf P xs → OneOf Q xs
one_also P Q [] f h = absurd h
one_also P Q (x ∷ xs) f (inl h) = inl (f x h)
one_also P Q (x ∷ xs) f (inr h) = inr (one_also P Q xs f h)

pub one_before : {X : Type 0} (P : X → Type 0) (xs ys : List X) → OneOf P xs → OneOf P (xs ++ ys)
one_before P [] ys h = absurd h
one_before P (x ∷ xs) ys (inl h) = inl h
one_before P (x ∷ xs) ys (inr h) = inr (one_before P xs ys h)

pub one_after : {X : Type 0} (P : X → Type 0) (xs ys : List X) → OneOf P ys → OneOf P (xs ++ ys)
one_after P [] ys h = h
one_after P (x ∷ xs) ys h = inr (one_after P xs ys h)

pub each_also : {X : Type 0} (P Q : X → Type 0) (xs : List X) → ((x : X) → P x → Q x) → EachOf P xs → EachOf Q xs
each_also P Q [] f h = tt
each_also P Q (x ∷ xs) f h = (f x h.0, each_also P Q xs f h.1)

pub each_both : {X : Type 0} (P : X → Type 0) (xs ys : List X) → EachOf P xs → EachOf P ys → EachOf P (xs ++ ys)
each_both P [] ys h k = k
each_both P (x ∷ xs) ys h k = (h.0, each_both P xs ys h.1 k)

-- one of them has both
pub one_both : {X : Type 0} (P Q : X → Type 0) (xs : List X) → EachOf P xs → OneOf Q xs → (x : X) × P x × Q x
one_both P Q [] h k = absurd k
one_both P Q (x ∷ xs) h (inl k) = (x, h.0, k)
one_both P Q (x ∷ xs) h (inr k) = one_both P Q xs h.1 k
