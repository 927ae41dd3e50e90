-- Lists that are the same at each place.
use Rattle.std.proofs.Common.{◌≡◌, ℕ, ◌-◌, ◌<◌, ◌≤◌, suc, List, [], ◌∷◌, ◌++◌, length, map, replicate, unwrap_or, refl, ap₂, sym, ap, ◌∙◌, arith}
use Rattle.def_session.specs.State as definition
use Rattle.std.proofs.lemmas.List.{length-map, length-append, length-replicate}
use Rattle.std.specs.Prelude.{slice_get}
use Rattle.std.specs.declared.vec.Vec.{Vec}
use Rattle.tn_session.specs.Views.{process_marks_seen, marks_seen}
use Rattle.tn_session.specs.declared.state.Mark.{Mark}

pub same_by_place : {X : Type 0} (d : X) (xs ys : List X) → length xs ≡ length ys → ((k : ℕ) → k < length xs → unwrap_or (slice_get xs k) d ≡ unwrap_or (slice_get ys k) d) → xs ≡ ys
same_by_place d [] [] size here = refl
same_by_place d [] (y ∷ ys) size here = absurd (omega (arith, size))
same_by_place d (x ∷ xs) [] size here = absurd (omega (arith, size))
same_by_place d (x ∷ xs) (y ∷ ys) size here =
    ap₂ (λ z zs. z ∷ zs) (here 0 (omega arith)) (same_by_place d xs ys (omega (arith, size)) (λ k below. here (suc k) (omega (arith, below))))

-- there are marks of 64 processes
pub marks_of_64 : {A : Type 0} (ms : List (Vec Mark A)) → length ms ≤ 64 → length (marks_seen ms) ≡ 64
marks_of_64 ms few =
    let none : List definition.Mark = [] in
    let whole = length-append (map process_marks_seen ms) (replicate (64 - length ms) none) in
    let there = length-map ms process_marks_seen in
    let others = length-replicate (64 - length ms) none in
    omega (arith, few, whole, there, others)

-- processes with the same marks, where the others have none
pub same_marks_seen : {A : Type 0} (ms ns : List (Vec Mark A)) → map process_marks_seen ms ≡ map process_marks_seen ns → marks_seen ms ≡ marks_seen ns
same_marks_seen ms ns e =
    let sizes : length ms ≡ length ns = sym (length-map ms process_marks_seen) ∙ ap length e ∙ length-map ns process_marks_seen in
    ap₂ (λ xs n. xs ++ replicate (64 - n) []) e sizes
