-- Rows that are written one after another.
use Rattle.std.proofs.Common.{◌≡◌, ◌∙◌, ℕ, zero, suc, ◌+◌, ◌<◌, ◌≤◌, List, [], ◌∷◌, ◌++◌, length, drop, map, get_or, min, Some, refl, sym, ap, append_assoc, append-nil, arith, add-one, subst, flat_map, true, false}
use Rattle.std.proofs.lemmas.Grind.{flat_map-append}
use Rattle.std.proofs.lemmas.Bool.{eqb-true}
use Rattle.std.proofs.lemmas.List.Folds.{flat_map-map}
use Rattle.std.specs.Prelude.{slice_get, ◌==◌, Bool}
use Rattle.std.specs.declared.vec.Vec.{Vec}
use Rattle.std.proofs.lemmas.List.{drop_more, drop_all, get_or_default}
use Rattle.json.specs.Json.{Json}
use Rattle.json.specs.Print.{print}
use Rattle.json.specs.Token.{Token, end_object}
use Rattle.json.specs.Tree.{json_tokens}
use Rattle.json.specs.Written.{Written}
use Rattle.def_term.specs.Names.{Name}
use Rattle.def_term.specs.Tree.{Tree}
use Rattle.def_explore.specs.Rests.{kept_messages}
use Rattle.def_explore.specs.Answers.{RestEntry}
use Rattle.def_formats.specs.JsonRows.{json_line, json_lines, numbered_rows}
use Rattle.def_explore.specs.Output.{kept_listings}
use Rattle.def_explore.specs.Words.{PatternQuestion}
use Rattle.def_compare.specs.AnswerRows.{asked_row, pattern_row, search_rows, listed_rows, listing_row, sessions_rows, entry_rows, entries_rows}
use Rattle.tn_explore.specs.Searches.{answer_entries}
use Rattle.tn_formats.specs.Tokens.{GainsTokens}
use Rattle.tn_messages.specs.MessageViews.{kept_seen}
use Rattle.tn_messages.specs.declared.kept_listings.KeptListings.{KeptListings}
use Rattle.tn_comparison.proofs.Entries.{entry_is}
use Rattle.tn_answers.proofs.Parts.{before_rest}

-- ---- one row

-- a row's line, by its tokens
pub row_is : (lines before : List ℕ) (ts : List Token) (row : Json) → before ≡ [] → ts ++ end_object ∷ [] ≡ json_tokens row → lines ++ ((before ++ print (ts ++ end_object ∷ [])) ++ 10 ∷ []) ≡ lines ++ json_line row
row_is lines before ts row none same = (λ i. lines ++ ((none i ++ print (same i)) ++ 10 ∷ []))

-- the tokens of a member come after those before it, and before the rest
pub member_after : (old new : Written) (ms rest whole : List Token) → GainsTokens old new ms → old.tokens ++ (ms ++ rest) ≡ whole → new.tokens ++ rest ≡ whole
member_after old new ms rest whole gains is = ap (λ x. x ++ rest) gains.tokens ∙ append_assoc old.tokens ms rest ∙ is

-- the first token of an object comes before the rest
pub object_begun : (ts rest whole : List Token) (t : Token) → ts ≡ t ∷ [] → t ∷ rest ≡ whole → ts ++ rest ≡ whole
object_begun ts rest whole t is same = ap (λ x. x ++ rest) is ∙ same

-- the same tokens
pub gains_same : (old new : Written) (ms ns : List Token) → ms ≡ ns → GainsTokens old new ms → GainsTokens old new ns
gains_same old new ms ns same gains = subst (GainsTokens old new) same gains

-- ---- several

-- the lines of rows after others
pub lines_after : (rs qs : List Json) → json_lines (rs ++ qs) ≡ json_lines rs ++ json_lines qs
lines_after rs qs = flat_map-append json_line rs qs

-- one more row, with its number
pub row_more : {X : Type 0} (row : ℕ → List ℕ → Json) (f : X → List ℕ) (xs : List X) (i : ℕ) (x : X) (now after whole : List ℕ) → i < length xs → x ≡ get_or xs i x → now ++ json_lines (numbered_rows row (i + 1) (map f (drop i xs))) ≡ whole
    → after ≡ now ++ json_line (row (i + 1) (f x)) → after ++ json_lines (numbered_rows row (i + 1 + 1) (map f (drop (i + 1) xs))) ≡ whole
row_more row f xs i x now after whole below is so_far made =
    let rest : ℕ → List ℕ = λ k. json_lines (numbered_rows row k (map f (drop (i + 1) xs))) in
    ap (λ l. l ++ rest (i + 1 + 1)) made
    ∙ append_assoc now (json_line (row (i + 1) (f x))) (rest (i + 1 + 1))
    ∙ ap (λ y. now ++ (json_line (row (i + 1) (f y)) ++ rest (i + 1 + 1))) is
    ∙ ap (λ k. now ++ (json_line (row (i + 1) (f (get_or xs i x))) ++ rest k)) (add-one (i + 1))
    ∙ ap (λ ys. now ++ json_lines (numbered_rows row (i + 1) (map f ys))) (sym (drop_more xs i x below))
    ∙ so_far

pub rows_end : {X : Type 0} (row : ℕ → List ℕ → Json) (f : X → List ℕ) (xs : List X) (i : ℕ) (now whole : List ℕ) → length xs ≤ i → now ++ json_lines (numbered_rows row (i + 1) (map f (drop i xs))) ≡ whole → now ≡ whole
rows_end row f xs i now whole past so_far = sym (append-nil now) ∙ ap (λ ys. now ++ json_lines (numbered_rows row (i + 1) (map f ys))) (sym (drop_all i xs past)) ∙ so_far

-- ---- sessions

module _ {S L : Type 0} (seen : S → Name × Name) (listed : L → List Tree) (ss : List S) (ls : List L) where
  -- what is written from this place on
  abbrev pub rows_from : ℕ → List ℕ
  rows_from i = json_lines (sessions_rows (map seen (drop i ss)) (map listed (drop i ls)))

  pub session_rows_more : (i : ℕ) (s : S) (l : L) (now after whole : List ℕ) → i < length ss → i < length ls → s ≡ get_or ss i s → l ≡ get_or ls i l → now ++ rows_from i ≡ whole
      → after ≡ now ++ json_lines (listed_rows (seen s) (listed l)) → after ++ rows_from (i + 1) ≡ whole
  session_rows_more i s l now after whole below also is same so_far made =
      let rest : List ℕ = rows_from (i + 1) in
      ap (λ x. x ++ rest) made
      ∙ append_assoc now (json_lines (listed_rows (seen s) (listed l))) rest
      ∙ ap (λ x. now ++ x) (sym (lines_after (listed_rows (seen s) (listed l)) (sessions_rows (map seen (drop (i + 1) ss)) (map listed (drop (i + 1) ls)))))
      ∙ ap (λ (x : S). now ++ json_lines (sessions_rows (seen x ∷ map seen (drop (i + 1) ss)) (listed l ∷ map listed (drop (i + 1) ls)))) is
      ∙ ap (λ (x : L). now ++ json_lines (sessions_rows (seen (get_or ss i s) ∷ map seen (drop (i + 1) ss)) (listed x ∷ map listed (drop (i + 1) ls)))) same
      ∙ ap (λ (xs : List S). now ++ json_lines (sessions_rows (map seen xs) (listed (get_or ls i l) ∷ map listed (drop (i + 1) ls)))) (sym (drop_more ss i s below))
      ∙ ap (λ (xs : List L). now ++ json_lines (sessions_rows (map seen (drop i ss)) (map listed xs))) (sym (drop_more ls i l also))
      ∙ so_far

no_rows_left : (xs : List (Name × Name)) → sessions_rows xs [] ≡ []
no_rows_left [] = refl
no_rows_left (x ∷ xs) = refl

none_left : {S L : Type 0} (seen : S → Name × Name) (listed : L → List Tree) (ss : List S) (ls : List L) (i : ℕ) → min (length ss) (length ls) ≤ i → rows_from seen listed ss ls i ≡ []
none_left seen listed [] ls zero past = refl
none_left seen listed [] ls (suc i) past = refl
none_left seen listed (s ∷ ss) [] zero past = refl
none_left seen listed (s ∷ ss) [] (suc i) past = ap json_lines (no_rows_left (map seen (drop i ss)))
none_left seen listed (s ∷ ss) (l ∷ ls) zero past = absurd (omega arith)
none_left seen listed (s ∷ ss) (l ∷ ls) (suc i) past = none_left seen listed ss ls i (omega arith)

pub all_sessions_rows : {S L : Type 0} (seen : S → Name × Name) (listed : L → List Tree) (ss : List S) (ls : List L) (i : ℕ) (now whole : List ℕ) → min (length ss) (length ls) ≤ i → now ++ rows_from seen listed ss ls i ≡ whole → now ≡ whole
all_sessions_rows seen listed ss ls i now whole past so_far = sym (append-nil now) ∙ ap (λ x. now ++ x) (sym (none_left seen listed ss ls i past)) ∙ so_far

-- ---- entries

entry_rows_more : (ss : List (Name × Name)) (count : ℕ) (es : List RestEntry) (i : ℕ) (e : RestEntry) (now after whole : List ℕ) → i < length es → e ≡ get_or es i e → now ++ json_lines (entries_rows ss count (i + 1) (drop i es)) ≡ whole
    → after ≡ now ++ json_lines (entry_rows ss count (i + 1) e) → after ++ json_lines (entries_rows ss count (i + 1 + 1) (drop (i + 1) es)) ≡ whole
entry_rows_more ss count es i e now after whole below is so_far made =
    let rest : ℕ → List Json = λ k. entries_rows ss count k (drop (i + 1) es) in
    ap (λ x. x ++ json_lines (rest (i + 1 + 1))) made
    ∙ append_assoc now (json_lines (entry_rows ss count (i + 1) e)) (json_lines (rest (i + 1 + 1)))
    ∙ ap (λ x. now ++ x) (sym (lines_after (entry_rows ss count (i + 1) e) (rest (i + 1 + 1))))
    ∙ ap (λ (x : RestEntry). now ++ json_lines (entry_rows ss count (i + 1) x ++ rest (i + 1 + 1))) is
    ∙ ap (λ k. now ++ json_lines (entry_rows ss count (i + 1) (get_or es i e) ++ rest k)) (add-one (i + 1))
    ∙ ap (λ (xs : List RestEntry). now ++ json_lines (entries_rows ss count (i + 1) xs)) (sym (drop_more es i e below))
    ∙ so_far

no_entry : RestEntry
no_entry = record { kept = kept_messages []; journal = [] }

entry_there : (es : List RestEntry) (i : ℕ) (d : RestEntry) → i < length es → slice_get es i ≡ Some (get_or es i d)
entry_there [] i d below = absurd (omega arith)
entry_there (e ∷ es) zero d below = refl
entry_there (e ∷ es) (suc i) d below = entry_there es i d (omega arith)

-- where what is written are the rows of whichever entry is there
pub entry_rows_at_more : (ss : List (Name × Name)) (count : ℕ) (es : List RestEntry) (i : ℕ) (now after whole : List ℕ) → i < length es → now ++ json_lines (entries_rows ss count (i + 1) (drop i es)) ≡ whole
    → ((e : RestEntry) → slice_get es i ≡ Some e → after ≡ now ++ json_lines (entry_rows ss count (i + 1) e)) → after ++ json_lines (entries_rows ss count (i + 1 + 1) (drop (i + 1) es)) ≡ whole
entry_rows_at_more ss count es i now after whole below so_far made =
    entry_rows_more ss count es i (get_or es i no_entry) now after whole below (get_or_default es i no_entry (get_or es i no_entry) below) so_far (made (get_or es i no_entry) (entry_there es i no_entry below))

pub entries_rows_end : (ss : List (Name × Name)) (count : ℕ) (es : List RestEntry) (i : ℕ) (now whole : List ℕ) → length es ≤ i → now ++ json_lines (entries_rows ss count (i + 1) (drop i es)) ≡ whole → now ≡ whole
entries_rows_end ss count es i now whole past so_far = sym (append-nil now) ∙ ap (λ (xs : List RestEntry). now ++ json_lines (entries_rows ss count (i + 1) xs)) (sym (drop_all i es past)) ∙ so_far

-- the rows of an entry that is there
pub entry_rows_written : {A : Type 0} (ss : List (Name × Name)) (count n : ℕ) (pairs : List (KeptListings A × Vec ℕ A)) (i : ℕ) (kept : KeptListings A) (journal : Vec ℕ A) (picks now mid after : List ℕ) (e : RestEntry) → Some (kept, journal) ≡ slice_get pairs i
    → slice_get (answer_entries kept_seen pairs) i ≡ Some e → picks ≡ journal.items → mid ≡ now ++ json_line (listing_row n count picks) → after ≡ mid ++ json_lines (sessions_rows ss (kept_listings (kept_seen kept))) → after ≡ now ++ json_lines (entry_rows ss count n e)
entry_rows_written ss count n pairs i kept journal picks now mid after e is at same first then =
    before_rest now (json_line (listing_row n count picks)) mid (json_lines (sessions_rows ss (kept_listings (kept_seen kept)))) after first then
    ∙ ap (λ (x : RestEntry). now ++ json_lines (entry_rows ss count n x)) ((λ i. record { kept = kept_seen kept; journal = same i }) ∙ entry_is pairs i (kept, journal) e (sym is) at)

-- what was explored after the rows before it
pub with_explored : (none mid after : List ℕ) (rs : List Json) (row : Json) → none ≡ [] → mid ≡ none ++ json_lines rs → after ≡ mid ++ json_line row → after ≡ json_lines (rs ++ row ∷ [])
with_explored none mid after rs row is first then =
    then ∙ ap (λ x. x ++ json_line row) (first ∙ ap (λ x. x ++ json_lines rs) is) ∙ ap (λ x. json_lines rs ++ x) (sym (append-nil (json_line row))) ∙ sym (lines_after rs (row ∷ []))

-- rows of what is seen of the elements of a list
pub seen_rows : {X Y : Type 0} (row : Y → Json) (view : X → Y) (xs : List X) → flat_map (λ x. json_line (row (view x))) xs ≡ json_lines (map row (map view xs))
seen_rows row view xs = sym (flat_map-map json_line row (map view xs) ∙ flat_map-map (λ y. json_line (row y)) view xs)

-- rows after rows
pub rows_after : (none first then : List ℕ) (a b : List ℕ) (rs qs : List Json) → first ≡ none ++ a → then ≡ first ++ b → a ≡ json_lines rs → b ≡ json_lines qs → then ≡ none ++ json_lines (rs ++ qs)
rows_after none first then a b rs qs one other is are =
    other ∙ ap (λ x. x ++ b) one ∙ append_assoc none a b ∙ (λ i. none ++ (is i ++ are i)) ∙ ap (λ x. none ++ x) (sym (lines_after rs qs))

-- one row is a list of rows
pub one_row : (row : Json) → json_line row ≡ json_lines (row ∷ [])
one_row row = sym (append-nil (json_line row))

nonempty : {X : Type 0} (x : X) (xs : List X) → true ≡ (length (x ∷ xs) == 0) → ⊥
nonempty x xs is = omega (arith, eqb-true (length (x ∷ xs)) 0 (sym is))

-- without a question the rows are those of the entries
pub no_question_rows : {X : Type 0} (view : X → PatternQuestion) (xs : List X) (ss : List (Name × Name)) (es : List RestEntry) (whole : Bool) → true ≡ (length xs == 0) → search_rows ss [] es whole ≡ search_rows ss (map view xs) es whole
no_question_rows view [] ss es whole is = refl
no_question_rows view (x ∷ xs) ss es whole is = absurd (nonempty x xs is)

-- else those of the sessions and of the questions
pub some_question_rows : {X : Type 0} (view : X → PatternQuestion) (xs : List X) (ss : List (Name × Name)) (es : List RestEntry) (whole : Bool) → false ≡ (length xs == 0) → map asked_row ss ++ map (pattern_row es whole) (map view xs) ≡ search_rows ss (map view xs) es whole
some_question_rows view [] ss es whole is = cc
some_question_rows view (x ∷ xs) ss es whole is = refl
