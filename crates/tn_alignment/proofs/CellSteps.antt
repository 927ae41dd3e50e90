-- A row of the table, cell by cell.
use Rattle.std.proofs.Common.{◌≡◌, ◌∙◌, sym, ap, subst, ℕ, ◌≤◌, ◌<◌, ◌+◌, List, [], ◌∷◌, ◌++◌, length, get_or, arith, below_more}
use Rattle.std.proofs.lemmas.List.{get_or-map}
use Rattle.std.proofs.lemmas.Grind.{common_steps}
use Rattle.std.proofs.Math.ListN.{get_or-append}
use Rattle.std.proofs.Math.Seq.{get_or-append_seam}
use Rattle.std.specs.Borrow.{Bor}
use Rattle.std.specs.declared.vec.Vec.{Vec}
use Rattle.std.specs.Str.{bytes_eq}
use Rattle.tn_alignment.specs.Tables.{back, best, most_common, IsRow, line_texts}
use Rattle.tn_alignment.proofs.Cells.{back_more, common_within}

-- one cell more at the end
pub cell_more : (row : List ℕ) (v n : ℕ) (cell : ℕ → ℕ) → length row ≡ n → ((k : ℕ) → k < n → get_or row k 0 ≡ cell k) → v ≡ cell n
    → (k : ℕ) → k < n + 1 → get_or (row ++ v ∷ []) k 0 ≡ cell k
cell_more row v n cell size cells here =
    below_more (λ k. get_or (row ++ v ∷ []) k 0 ≡ cell k) n
    (λ k h. let e : get_or row k 0 ≡ cell k = cells k h in grind (arith, common_steps))
    (grind (arith, common_steps))

-- the cell of one line more of both lists
pub next_cell : (first second : List (List ℕ)) (at place : ℕ) (d : List ℕ) (below : List ℕ) (left : ℕ) → at < length first → place < length second
    → IsRow first at second below → left ≡ most_common (back first (at + 1)) (back second place)
    → best (get_or below (place + 1) 0) left (get_or below place 0) (bytes_eq (get_or first at d) (get_or second place d))
    ≡ most_common (back first (at + 1)) (back second (place + 1))
next_cell first second at place d below left in_first in_second row is_left =
    let x : List ℕ = get_or first at d in
    let y : List ℕ = get_or second place d in
    let one : get_or below (place + 1) 0 ≡ most_common (back first at) (back second (place + 1)) = row.cells (place + 1) (omega arith) in
    let corner : get_or below place 0 ≡ most_common (back first at) (back second place) = row.cells place (omega arith) in
    let of_first : back first (at + 1) ≡ x ∷ back first at = back_more first at d in_first in
    let of_second : back second (place + 1) ≡ y ∷ back second place = back_more second place d in_second in
    ap (λ n. best n left (get_or below place 0) (bytes_eq x y)) (one ∙ ap (most_common (back first at)) of_second)
    ∙ ap (λ n. best (most_common (back first at) (y ∷ back second place)) n (get_or below place 0) (bytes_eq x y)) (is_left ∙ ap (λ l. most_common l (back second place)) of_first)
    ∙ ap (λ n. best (most_common (back first at) (y ∷ back second place)) (most_common (x ∷ back first at) (back second place)) n (bytes_eq x y)) corner
    ∙ sym (ap (λ l. most_common l (back second (place + 1))) of_first ∙ ap (most_common (x ∷ back first at)) of_second)

-- the texts of lines, by place
pub text_at : (lines : List (Bor (List ℕ))) (n : ℕ) (d : Bor (List ℕ)) → n < length lines → get_or (line_texts lines) n d.now ≡ (get_or lines n d).now
text_at lines n d h = get_or-map (λ l. l.now) lines n d d.now h

-- no cell is past the number of lines of the first list
pub cell_within : (first second : List (List ℕ)) (at : ℕ) (row : List ℕ) (k : ℕ) → at ≤ length first → k ≤ length second → IsRow first at second row → get_or row k 0 ≤ at
cell_within first second at row k in_first in_second is =
    let e : get_or row k 0 ≡ most_common (back first at) (back second k) = is.cells k in_second in
    let h : most_common (back first at) (back second k) ≤ length (back first at) = common_within (back first at) (back second k) in
    let l : length (back first at) ≤ at = grind (arith, common_steps) in
    omega arith

-- there are as many
pub texts_length : (lines : List (Bor (List ℕ))) → length (line_texts lines) ≡ length lines
texts_length lines = grind (arith, common_steps)

-- the texts of the lines at two places
pub texts_at : (first second : List (Bor (List ℕ))) (at place : ℕ) (one other : Bor (List ℕ)) → at < length first → place < length second
    → bytes_eq (get_or first at one).now (get_or second place other).now
    ≡ bytes_eq (get_or (line_texts first) at []) (get_or (line_texts second) place [])
texts_at first second at place one other in_first in_second =
    let e : get_or (line_texts first) at [] ≡ (get_or first at one).now = get_or-map (λ l. l.now) first at one [] in_first in
    let f : get_or (line_texts second) place [] ≡ (get_or second place other).now = get_or-map (λ l. l.now) second place other [] in_second in
    ap (λ l. bytes_eq l (get_or second place other).now) (sym e) ∙ ap (bytes_eq (get_or (line_texts first) at [])) (sym f)

-- one row more at the end of a table
pub rows_more : {A : Type 0} (first second : List (List ℕ)) (table : List (Vec ℕ A)) (row : Vec ℕ A) (n : ℕ) → length table ≡ n
    → ((i : ℕ) (d : Vec ℕ A) → i < n → IsRow first i second (get_or table i d).items) → IsRow first n second row.items
    → (i : ℕ) (d : Vec ℕ A) → i < n + 1 → IsRow first i second (get_or (table ++ row ∷ []) i d).items
rows_more {A} first second table row n size rows here i d =
    below_more (λ k. IsRow first k second (get_or (table ++ row ∷ []) k d).items) n
    (λ k l. let h : k < length table = omega arith in
    subst (λ (v : Vec ℕ A). IsRow first k second v.items) (sym (get_or-append table (row ∷ []) d k h)) (rows k d l))
    (let at_end : get_or (table ++ row ∷ []) n d ≡ row = ap (λ k. get_or (table ++ row ∷ []) k d) (sym size) ∙ get_or-append_seam table row [] d in
    subst (λ (v : Vec ℕ A). IsRow first n second v.items) (sym at_end) here)
    i
