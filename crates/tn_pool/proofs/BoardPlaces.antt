-- The places of a board.
use Rattle.std.proofs.Common.{◌≡◌, ◌∙◌, ℕ, zero, suc, ◌<◌, List, [], ◌∷◌, length, map, slice_index_or, Option, Some, None, true, All, sym, ap, refl, subst, arith}
use Rattle.std.specs.Option.{is_some}
use Rattle.std.specs.Prelude.{IfSome}
use Rattle.tn_pool.specs.Boards.{HasPlace}

pub if_some : {X P : Type 0} (found : Option X) → (is_some found ≡ true → P) → IfSome found (λ _. P)
if_some None h = tt
if_some (Some x) h = h refl

at_map : {X : Type 0} (size : X → ℕ) (rows : List X) (number : ℕ) (d : X) → number < length rows → slice_index_or (map size rows) number 0 ≡ size (slice_index_or rows number d)
at_map size [] number d inside = absurd (omega arith)
at_map size (row ∷ rows) zero d inside = refl
at_map size (row ∷ rows) (suc number) d inside = at_map size rows number d (omega arith)

-- the row of the session's number has that many places
pub placed : {X : Type 0} (size : X → ℕ) (rows : List X) (session number index : ℕ) (d row : X) → session ≡ suc number → number < length rows → row ≡ slice_index_or rows number d → index < size row → HasPlace (map size rows) session index
placed size rows session number index d row numbered inside is within =
    let there : size row ≡ slice_index_or (map size rows) number 0 = ap size is ∙ sym (at_map size rows number d inside) in
    subst (λ s. HasPlace (map size rows) s index) (sym numbered) (omega (arith, within, there))

-- what holds of each row's places holds of each session's
pub all_rows : {X : Type 0} (size : X → ℕ) (rows : List X) (lines : ℕ) → All (λ row. size row ≡ lines) rows → All (λ places. places ≡ lines) (map size rows)
all_rows size [] lines each k d inside = absurd (omega arith)
all_rows size (row ∷ rows) lines each zero d inside = each zero row (omega arith)
all_rows size (row ∷ rows) lines each (suc k) d inside = all_rows size rows lines (λ i e within. each (suc i) e (omega arith)) k d (omega arith)
