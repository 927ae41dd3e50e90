-- Where the test says it, the same is kept, and nowhere else.
use Rattle.std.proofs.Common.{◌≡◌, Bool, true, false, List, [], ◌∷◌, refl, ap, ◌∙◌}
use Rattle.std.specs.Prelude.{◌&&◌, ◌||◌}
use Rattle.std.specs.List.{list_any}
use Rattle.std.specs.Cmp.Lexicographic.{pointwise}
use Rattle.std.proofs.lemmas.Bool.{and_parts}
use Rattle.def_term.specs.Order.{same}
use Rattle.def_term.proofs.Same.{same-is, same-self}
use Rattle.def_explore.specs.Lists.{EachOf}
use Rattle.def_explore.specs.Rests.{KeptMessages, kept_messages, kept_by_process}
use Rattle.def_explore.specs.Answers.{RestEntry}
use Rattle.def_random_run.specs.RandomEntries.{keep_same}

-- the test of elements says it, and so does that of lists
record Tells {X : Type 0} (test : X → X → Bool) : Type 0 where
  is : (x y : X) → test x y ≡ true → x ≡ y
  itself : (x : X) → test x x ≡ true

lists_are : {X : Type 0} (test : X → X → Bool) → Tells test → (xs ys : List X) → pointwise test xs ys ≡ true → xs ≡ ys
lists_are test tells [] [] h = refl
lists_are test tells [] (y ∷ ys) h = cc
lists_are test tells (x ∷ xs) [] h = cc
lists_are test tells (x ∷ xs) (y ∷ ys) h =
    let both = and_parts (test x y) (pointwise test xs ys) h in
    λ i. tells.is x y both.0 i ∷ lists_are test tells xs ys both.1 i

lists_themselves : {X : Type 0} (test : X → X → Bool) → Tells test → (xs : List X) → pointwise test xs xs ≡ true
lists_themselves test tells [] = refl
lists_themselves test tells (x ∷ xs) = ap (λ b. b && pointwise test xs xs) (tells.itself x) ∙ lists_themselves test tells xs

lists_tell : {X : Type 0} (test : X → X → Bool) → Tells test → Tells (pointwise test)
lists_tell test tells = record { is = lists_are test tells; itself = lists_themselves test tells }

terms_tell : Tells same
terms_tell = record { is = same-is; itself = same-self }

messages_tell : Tells (pointwise (pointwise same))
messages_tell = lists_tell (pointwise same) (lists_tell same terms_tell)

pub keep_same_is : (m n : KeptMessages) → keep_same m n ≡ true → m ≡ n
keep_same_is (kept_messages mss) (kept_messages nss) h = ap kept_messages (messages_tell.is mss nss h)
keep_same_is (kept_by_process msss) (kept_by_process nsss) h = ap kept_by_process (lists_are (pointwise (pointwise same)) messages_tell msss nsss h)
keep_same_is (kept_messages mss) (kept_by_process nsss) h = cc
keep_same_is (kept_by_process msss) (kept_messages nss) h = cc

pub keep_same_itself : (m : KeptMessages) → keep_same m m ≡ true
keep_same_itself (kept_messages mss) = messages_tell.itself mss
keep_same_itself (kept_by_process msss) = lists_themselves (pointwise (pointwise same)) messages_tell msss

-- where none of the entries keeps it by the test, none does
pub none_keeps : (m : KeptMessages) (es : List RestEntry) → list_any (λ f. keep_same m f.kept) es ≡ false → EachOf (λ f. f.kept ≡ m → ⊥) es
none_keeps m [] h = tt
none_keeps m (e ∷ es) h = by_first (keep_same m e.kept) refl h (none_keeps m es)
  where
    by_first : (b : Bool) → keep_same m e.kept ≡ b → b || list_any (λ f. keep_same m f.kept) es ≡ false → (list_any (λ f. keep_same m f.kept) es ≡ false → EachOf (λ f. f.kept ≡ m → ⊥) es) → EachOf (λ f. f.kept ≡ m → ⊥) (e ∷ es)
    by_first true is none later = cc
    by_first false is none later = (λ same_kept. let itself : keep_same m e.kept ≡ true = ap (keep_same m) same_kept ∙ keep_same_itself m in absurd (cc), later none)
