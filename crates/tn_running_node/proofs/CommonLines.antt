-- The lines that both have at the beginning, and those after them.
use Rattle.std.proofs.Common.{◌≡◌, ◌∙◌, ℕ, zero, suc, ◌+◌, ◌<◌, Bool, true, false, ◌||◌, if◌then◌else◌, List, [], ◌∷◌, ◌++◌, length, map, drop, get_or, refl, sym, ap, append-nil, append_assoc, arith}
use Rattle.std.specs.Prelude.{flat_map, slice_get, Option, Some, None, codes}
use Rattle.std.specs.Option.{is_some}
use Rattle.std.specs.Str.{bytes_eq}
use Rattle.std.specs.declared.vec.Vec.{Vec}
use Rattle.def_term.specs.Text.{atom_text}
use Rattle.def_running_node.specs.NodeRuns.{NodeLine, lacks, adds, lines_between, lines_by_openness}
use Rattle.def_running_node.specs.NodeComparisons.{lines_with_name, named_line_text, lines_differ, lines_are_open}
use Rattle.tn_running_node.specs.Lines.{is_line, common_from, named_text, text_of_lines, PutsBothLines}
use Rattle.tn_running_node.specs.declared.lines.LineKinds.{LineKinds}
use Rattle.tn_running_node.proofs.LineLoops.{here_and_after}

-- ---- the loop

module _ {X : Type 0} (g : X → List ℕ) (xs : List X) (n : ℕ) (x : X) (ns : List (List ℕ)) (total : ℕ) (below : n < length xs) (is : x ≡ get_or xs n x) (so_far : common_from n (drop n (map g xs)) ns + n ≡ total) where
  here : (if is_line (slice_get ns n) (g x) then suc (common_from (suc n) (drop (n + 1) (map g xs)) ns) else zero) + n ≡ total
  here = ap (λ ms. common_from n ms ns + n) (sym (here_and_after g xs n x below is)) ∙ so_far

  pub stops_here : is_line (slice_get ns n) (g x) ≡ false → n ≡ total
  stops_here other = let start : n ≡ 0 + n = omega arith in start ∙ ap (λ b. (if b then suc (common_from (suc n) (drop (n + 1) (map g xs)) ns) else zero) + n) (sym other) ∙ here

  pub goes_on_here : is_line (slice_get ns n) (g x) ≡ true → common_from (n + 1) (drop (n + 1) (map g xs)) ns + (n + 1) ≡ total
  goes_on_here same =
      let one : n + 1 ≡ suc n = omega arith in
      let k = common_from (suc n) (drop (n + 1) (map g xs)) ns in
      let moved : k + (n + 1) ≡ suc k + n = omega arith in
      ap (λ j. common_from j (drop (n + 1) (map g xs)) ns + (n + 1)) one ∙ moved ∙ ap (λ b. (if b then suc k else zero) + n) (sym same) ∙ here

-- ---- what is between

-- the line at a place, and those from it on
at-none : (ns : List (List ℕ)) (i : ℕ) → slice_get ns i ≡ None → drop i ns ≡ []
at-none [] zero h = refl
at-none [] (suc i) h = refl
at-none (n ∷ ns) zero h = cc h
at-none (n ∷ ns) (suc i) h = at-none ns i h

at-some : (ns : List (List ℕ)) (i : ℕ) (n : List ℕ) → slice_get ns i ≡ Some n → drop i ns ≡ n ∷ drop (suc i) ns
at-some [] zero n h = cc h
at-some [] (suc i) n h = cc h
at-some (m ∷ ns) zero n h = cc h
at-some (m ∷ ns) (suc i) n h = at-some ns i n h

-- those that one has and the other hasn't
abbrev apart : (ms ns : List (List ℕ)) → (i k : ℕ) → List NodeLine
apart ms ns i k = map lacks (drop k ms) ++ map adds (drop (i + k) ns)

none-common : (ms : List (List ℕ)) (ns : List (List ℕ)) (i : ℕ) (ds : List (List ℕ)) → drop i ns ≡ ds → map lacks ms ++ map adds ds ≡ apart ms ns i 0
none-common ms ns i ds is = let same : i ≡ i + 0 = omega arith in ap (λ es. map lacks ms ++ map adds es) (sym is ∙ ap (λ j. drop j ns) same)

mutual-step : (m : List ℕ) (ms ns : List (List ℕ)) (i : ℕ) (n : List ℕ) (b : Bool) → bytes_eq m n ≡ b → drop i ns ≡ n ∷ drop (suc i) ns → lines_between ms (drop (suc i) ns) ≡ apart ms ns (suc i) (common_from (suc i) ms ns)
    → (if b then lines_between ms (drop (suc i) ns) else map lacks (m ∷ ms) ++ map adds (n ∷ drop (suc i) ns)) ≡ apart (m ∷ ms) ns i (if b then suc (common_from (suc i) ms ns) else zero)
mutual-step m ms ns i n true same is rest =
    let k = common_from (suc i) ms ns in
    let moved : suc i + k ≡ i + suc k = omega arith in
    rest ∙ ap (λ j. map lacks (drop k ms) ++ map adds (drop j ns)) moved
mutual-step m ms ns i n false same is rest = none-common (m ∷ ms) ns i (n ∷ drop (suc i) ns) is

between-by : (m : List ℕ) (ms ns : List (List ℕ)) (i : ℕ) (o : Option (List ℕ)) → slice_get ns i ≡ o → lines_between ms (drop (suc i) ns) ≡ apart ms ns (suc i) (common_from (suc i) ms ns)
    → lines_between (m ∷ ms) (drop i ns) ≡ apart (m ∷ ms) ns i (if is_line o m then suc (common_from (suc i) ms ns) else zero)
between-by m ms ns i None e rest = ap (lines_between (m ∷ ms)) (at-none ns i e) ∙ sym (append-nil (map lacks (m ∷ ms))) ∙ none-common (m ∷ ms) ns i [] (at-none ns i e)
between-by m ms ns i (Some n) e rest = ap (lines_between (m ∷ ms)) (at-some ns i n e) ∙ mutual-step m ms ns i n (bytes_eq m n) refl (at-some ns i n e) rest

pub between_from : (ms ns : List (List ℕ)) (i : ℕ) → lines_between ms (drop i ns) ≡ apart ms ns i (common_from i ms ns)
between_from [] ns i = none-common [] ns i (drop i ns) refl
between_from (m ∷ ms) ns i = between-by m ms ns i (slice_get ns i) refl (between_from ms ns (suc i)) ∙ ap (λ o. apart (m ∷ ms) ns i (if is_line o m then suc (common_from (suc i) ms ns) else zero)) refl

pub between_whole : (ms ns : List (List ℕ)) (k : ℕ) → k ≡ common_from 0 ms ns → lines_between ms ns ≡ map lacks (drop k ms) ++ map adds (drop k ns)
between_whole ms ns k count =
    let start : 0 + k ≡ k = omega arith in
    between_from ms ns 0 ∙ ap (apart ms ns 0) (sym count) ∙ ap (λ j. map lacks (drop k ms) ++ map adds (drop j ns)) start

-- ---- texts

text-lacks : (name a : List ℕ) → named_line_text (name, lacks a) ≡ named_text name (codes "- ") a
text-lacks name a = ap (λ l. l ++ 10 ∷ []) (sym (append_assoc (codes "  " ++ atom_text name ++ codes ": ") (codes "- ") a))

text-adds : (name a : List ℕ) → named_line_text (name, adds a) ≡ named_text name (codes "+ ") a
text-adds name a = ap (λ l. l ++ 10 ∷ []) (sym (append_assoc (codes "  " ++ atom_text name ++ codes ": ") (codes "+ ") a))

lacks-text : (name : List ℕ) (xs : List (List ℕ)) (rest : List NodeLine) → text_of_lines name (map lacks xs ++ rest) ≡ flat_map (named_text name (codes "- ")) xs ++ text_of_lines name rest
lacks-text name [] rest = refl
lacks-text name (a ∷ xs) rest =
    ap (λ l. l ++ text_of_lines name (map lacks xs ++ rest)) (text-lacks name a) ∙ ap (λ l. named_text name (codes "- ") a ++ l) (lacks-text name xs rest)
    ∙ sym (append_assoc (named_text name (codes "- ") a) (flat_map (named_text name (codes "- ")) xs) (text_of_lines name rest))

adds-text : (name : List ℕ) (xs : List (List ℕ)) → text_of_lines name (map adds xs) ≡ flat_map (named_text name (codes "+ ")) xs
adds-text name [] = refl
adds-text name (a ∷ xs) = ap (λ l. l ++ text_of_lines name (map adds xs)) (text-adds name a) ∙ ap (λ l. named_text name (codes "+ ") a ++ l) (adds-text name xs)

-- after some bytes
text-between : (name : List ℕ) (ms ns : List (List ℕ)) (out now next : List ℕ) (k : ℕ) → k ≡ common_from 0 ms ns → now ≡ out ++ flat_map (named_text name (codes "- ")) (drop k ms) → next ≡ now ++ flat_map (named_text name (codes "+ ")) (drop k ns)
    → next ≡ out ++ text_of_lines name (lines_between ms ns)
text-between name ms ns out now next k count first second =
    let minus = flat_map (named_text name (codes "- ")) (drop k ms) in
    let plus = flat_map (named_text name (codes "+ ")) (drop k ns) in
    second ∙ ap (λ l. l ++ plus) first ∙ append_assoc out minus plus
    ∙ ap (λ l. out ++ (minus ++ l)) (sym (adds-text name (drop k ns))) ∙ ap (λ l. out ++ l) (sym (lacks-text name (drop k ms) (map adds (drop k ns))))
    ∙ ap (λ ls. out ++ text_of_lines name ls) (sym (between_whole ms ns k count))

-- ---- whether there is one

adds-differ : (name : List ℕ) (xs : List (List ℕ)) (k : ℕ) → lines_differ (lines_with_name name (map adds (drop k xs))) ≡ is_some (slice_get xs k)
adds-differ name [] zero = refl
adds-differ name [] (suc k) = refl
adds-differ name (a ∷ xs) zero = refl
adds-differ name (a ∷ xs) (suc k) = adds-differ name xs k

lacks-differ : (name : List ℕ) (xs ys : List (List ℕ)) (k : ℕ) → lines_differ (lines_with_name name (map lacks (drop k xs) ++ map adds ys)) ≡ (is_some (slice_get xs k) || lines_differ (lines_with_name name (map adds ys)))
lacks-differ name [] ys zero = refl
lacks-differ name [] ys (suc k) = refl
lacks-differ name (a ∷ xs) ys zero = refl
lacks-differ name (a ∷ xs) ys (suc k) = lacks-differ name xs ys k

between-differ : (name : List ℕ) (ms ns : List (List ℕ)) (k : ℕ) → k ≡ common_from 0 ms ns → lines_differ (lines_with_name name (lines_between ms ns)) ≡ (is_some (slice_get ms k) || is_some (slice_get ns k))
between-differ name ms ns k count =
    ap (λ ls. lines_differ (lines_with_name name ls)) (between_whole ms ns k count) ∙ lacks-differ name ms (drop k ns) k ∙ ap (λ b. is_some (slice_get ms k) || b) (adds-differ name ns k)

adds-closed : (name : List ℕ) (xs : List (List ℕ)) → lines_are_open (lines_with_name name (map adds xs)) ≡ false
adds-closed name [] = refl
adds-closed name (a ∷ xs) = adds-closed name xs

lacks-closed : (name : List ℕ) (xs ys : List (List ℕ)) → lines_are_open (lines_with_name name (map lacks xs ++ map adds ys)) ≡ false
lacks-closed name [] ys = adds-closed name ys
lacks-closed name (a ∷ xs) ys = lacks-closed name xs ys

between-closed : (name : List ℕ) (ms ns : List (List ℕ)) (k : ℕ) → k ≡ common_from 0 ms ns → lines_are_open (lines_with_name name (lines_between ms ns)) ≡ false
between-closed name ms ns k count = ap (λ ls. lines_are_open (lines_with_name name ls)) (between_whole ms ns k count) ∙ lacks-closed name (drop k ms) (drop k ns)

-- ---- all of it

puts-between : {A : Type 0} (name : List ℕ) (ms ns : List (List ℕ)) (out now next : Vec ℕ A) (k : ℕ) (kinds : LineKinds) → k ≡ common_from 0 ms ns → now.items ≡ out.items ++ flat_map (named_text name (codes "- ")) (drop k ms)
    → next.items ≡ now.items ++ flat_map (named_text name (codes "+ ")) (drop k ns) → kinds.differs ≡ (is_some (slice_get ms k) || is_some (slice_get ns k)) → kinds.is_open ≡ false → PutsBothLines name (lines_between ms ns) out next kinds
puts-between name ms ns out now next k kinds count first second differs closed = record {
  written = text-between name ms ns out.items now.items next.items k count first second;
  differs = differs ∙ sym (between-differ name ms ns k count);
  open_lines = closed ∙ sym (between-closed name ms ns k count);
}

pub puts_where : {A : Type 0} (name : List ℕ) (was is : Bool) (ms ns : List (List ℕ)) (out now next : Vec ℕ A) (k : ℕ) (kinds : LineKinds) → was ≡ true → is ≡ true → k ≡ common_from 0 ms ns
    → now.items ≡ out.items ++ flat_map (named_text name (codes "- ")) (drop k ms) → next.items ≡ now.items ++ flat_map (named_text name (codes "+ ")) (drop k ns)
    → kinds.differs ≡ (is_some (slice_get ms k) || is_some (slice_get ns k)) → kinds.is_open ≡ false → PutsBothLines name (lines_by_openness was is ms ns) out next kinds
puts_where name true true ms ns out now next k kinds w i count first second differs closed = puts-between name ms ns out now next k kinds count first second differs closed
puts_where name true false ms ns out now next k kinds w i count first second differs closed = cc i
puts_where name false is ms ns out now next k kinds w i count first second differs closed = cc w
