-- Texts of the elements of a list, one after another.
use Rattle.std.proofs.Common.{◌≡◌, ◌∙◌, Bool, ℕ, zero, suc, ◌+◌, ◌<◌, ◌≤◌, List, [], ◌∷◌, ◌++◌, length, drop, map, flat_map, get_or, min, Some, None, refl, sym, ap, append_assoc, append-nil, arith, add-one}
use Rattle.std.proofs.lemmas.Grind.{flat_map-append}
use Rattle.std.specs.Prelude.{slice_get}
use Rattle.std.specs.declared.vec.Vec.{Vec}
use Rattle.std.proofs.lemmas.List.{drop_more, drop_all, get_or_default, length-map}
use Rattle.def_term.specs.Names.{Name}
use Rattle.def_term.specs.Tree.{Tree}
use Rattle.def_run.specs.Listing.{header_line, lines_of}
use Rattle.def_explore.specs.Rests.{kept_messages}
use Rattle.def_explore.specs.Answers.{RestEntry}
use Rattle.def_explore.specs.Output.{session_texts}
use Rattle.def_compare.specs.AnswerSummaries.{entry_text_in, entry_texts_in}
use Rattle.tn_explore.specs.Searches.{answer_entry, answer_entries}
use Rattle.tn_messages.specs.MessageViews.{kept_seen}
use Rattle.tn_messages.specs.declared.kept_listings.KeptListings.{KeptListings}
use Rattle.tn_comparison.proofs.Entries.{entry_is}

pub part_more : {X : Type 0} (f : X → List ℕ) (xs : List X) (i : ℕ) (x : X) (now after whole : List ℕ) → i < length xs → x ≡ get_or xs i x → now ++ flat_map f (drop i xs) ≡ whole → after ≡ now ++ f x → after ++ flat_map f (drop (i + 1) xs) ≡ whole
part_more f xs i x now after whole below is so_far made =
    ap (λ l. l ++ flat_map f (drop (i + 1) xs)) made
    ∙ append_assoc now (f x) (flat_map f (drop (i + 1) xs))
    ∙ ap (λ y. now ++ (f y ++ flat_map f (drop (i + 1) xs))) is
    ∙ ap (λ ys. now ++ flat_map f ys) (sym (drop_more xs i x below))
    ∙ so_far

pub all_parts : {X : Type 0} (f : X → List ℕ) (xs : List X) (i : ℕ) (now whole : List ℕ) → length xs ≤ i → now ++ flat_map f (drop i xs) ≡ whole → now ≡ whole
all_parts f xs i now whole past so_far = sym (append-nil now) ∙ ap (λ ys. now ++ flat_map f ys) (sym (drop_all i xs past)) ∙ so_far

-- the parts of lists that are one after another
pub parts_of_lists : {X Y Z : Type 0} (h : Y → List Z) (f : X → List Y) (xs : List X) → flat_map h (flat_map f xs) ≡ flat_map (λ x. flat_map h (f x)) xs
parts_of_lists h f [] = refl
parts_of_lists h f (x ∷ xs) = flat_map-append h (f x) (flat_map f xs) ∙ ap (λ ys. flat_map h (f x) ++ ys) (parts_of_lists h f xs)

-- lists that are seen twice
pub lists_seen_twice : {X Y Z : Type 0} (f : X → Y) (g : Y → Z) (xs : List X) → map g (map f xs) ≡ map (λ x. g (f x)) xs
lists_seen_twice f g [] = refl
lists_seen_twice f g (x ∷ xs) = ap (λ ys. g (f x) ∷ ys) (lists_seen_twice f g xs)

-- ---- sessions

module _ {S L : Type 0} (seen : S → Name × Name) (listed : L → List Tree) (ss : List S) (ls : List L) where
  -- what is written from this place on
  abbrev pub texts_from : ℕ → List ℕ
  texts_from i = session_texts (map seen (drop i ss)) (map listed (drop i ls))

  pub session_more : (i : ℕ) (s : S) (l : L) (now header after whole : List ℕ) → i < length ss → i < length ls → s ≡ get_or ss i s → l ≡ get_or ls i l → now ++ texts_from i ≡ whole
      → header ≡ now ++ header_line (seen s).0 (seen s).1 → after ≡ header ++ lines_of (listed l) → after ++ texts_from (i + 1) ≡ whole
  session_more i s l now header after whole below also is same so_far first then =
      let rest : List ℕ = texts_from (i + 1) in
      ap (λ x. x ++ rest) then
      ∙ append_assoc header (lines_of (listed l)) rest
      ∙ ap (λ x. x ++ (lines_of (listed l) ++ rest)) first
      ∙ append_assoc now (header_line (seen s).0 (seen s).1) (lines_of (listed l) ++ rest)
      ∙ ap (λ x. now ++ x) (sym (append_assoc (header_line (seen s).0 (seen s).1) (lines_of (listed l)) rest))
      ∙ ap (λ (x : S). now ++ session_texts (seen x ∷ map seen (drop (i + 1) ss)) (listed l ∷ map listed (drop (i + 1) ls))) is
      ∙ ap (λ (x : L). now ++ session_texts (seen (get_or ss i s) ∷ map seen (drop (i + 1) ss)) (listed x ∷ map listed (drop (i + 1) ls))) same
      ∙ ap (λ (xs : List S). now ++ session_texts (map seen xs) (listed (get_or ls i l) ∷ map listed (drop (i + 1) ls))) (sym (drop_more ss i s below))
      ∙ ap (λ (xs : List L). now ++ session_texts (map seen (drop i ss)) (map listed xs)) (sym (drop_more ls i l also))
      ∙ so_far

no_listings : (xs : List (Name × Name)) → session_texts xs [] ≡ []
no_listings [] = refl
no_listings (x ∷ xs) = refl

none_left : {S L : Type 0} (seen : S → Name × Name) (listed : L → List Tree) (ss : List S) (ls : List L) (i : ℕ) → min (length ss) (length ls) ≤ i → texts_from seen listed ss ls i ≡ []
none_left seen listed [] ls zero past = refl
none_left seen listed [] ls (suc i) past = refl
none_left seen listed (s ∷ ss) [] zero past = refl
none_left seen listed (s ∷ ss) [] (suc i) past = no_listings (map seen (drop i ss))
none_left seen listed (s ∷ ss) (l ∷ ls) zero past = absurd (omega arith)
none_left seen listed (s ∷ ss) (l ∷ ls) (suc i) past = none_left seen listed ss ls i (omega arith)

pub all_sessions : {S L : Type 0} (seen : S → Name × Name) (listed : L → List Tree) (ss : List S) (ls : List L) (i : ℕ) (now whole : List ℕ) → min (length ss) (length ls) ≤ i → now ++ texts_from seen listed ss ls i ≡ whole → now ≡ whole
all_sessions seen listed ss ls i now whole past so_far = sym (append-nil now) ∙ ap (λ x. now ++ x) (sym (none_left seen listed ss ls i past)) ∙ so_far

-- ---- texts one after another

pub before_rest : (now a next rest last : List ℕ) → next ≡ now ++ a → last ≡ next ++ rest → last ≡ now ++ (a ++ rest)
before_rest now a next rest last first more = more ∙ ap (λ x. x ++ rest) first ∙ append_assoc now a rest

pub seven_parts : (n0 n1 n2 n3 n4 n5 n6 n7 a b c d e f g : List ℕ) → n1 ≡ n0 ++ a → n2 ≡ n1 ++ b → n3 ≡ n2 ++ c → n4 ≡ n3 ++ d → n5 ≡ n4 ++ e → n6 ≡ n5 ++ f → n7 ≡ n6 ++ g → n7 ≡ n0 ++ ((((((a ++ b) ++ c) ++ d) ++ e) ++ f) ++ g)
seven_parts n0 n1 n2 n3 n4 n5 n6 n7 a b c d e f g h1 h2 h3 h4 h5 h6 h7 =
    let s2 : n2 ≡ n0 ++ (a ++ b) = before_rest n0 a n1 b n2 h1 h2 in
    let s3 : n3 ≡ n0 ++ ((a ++ b) ++ c) = before_rest n0 (a ++ b) n2 c n3 s2 h3 in
    let s4 : n4 ≡ n0 ++ (((a ++ b) ++ c) ++ d) = before_rest n0 ((a ++ b) ++ c) n3 d n4 s3 h4 in
    let s5 : n5 ≡ n0 ++ ((((a ++ b) ++ c) ++ d) ++ e) = before_rest n0 (((a ++ b) ++ c) ++ d) n4 e n5 s4 h5 in
    let s6 : n6 ≡ n0 ++ (((((a ++ b) ++ c) ++ d) ++ e) ++ f) = before_rest n0 ((((a ++ b) ++ c) ++ d) ++ e) n5 f n6 s5 h6 in
    before_rest n0 (((((a ++ b) ++ c) ++ d) ++ e) ++ f) n6 g n7 s6 h7

-- ---- entries

pub entry_more : (b : Bool) (ss : List (Name × Name)) (count : ℕ) (es : List RestEntry) (i : ℕ) (e : RestEntry) (now after whole : List ℕ) → i < length es → e ≡ get_or es i e → now ++ entry_texts_in b ss count (i + 1) (drop i es) ≡ whole
    → after ≡ now ++ entry_text_in b ss count (i + 1) e → after ++ entry_texts_in b ss count (i + 1 + 1) (drop (i + 1) es) ≡ whole
entry_more b ss count es i e now after whole below is so_far made =
    ap (λ x. x ++ entry_texts_in b ss count (i + 1 + 1) (drop (i + 1) es)) made
    ∙ append_assoc now (entry_text_in b ss count (i + 1) e) (entry_texts_in b ss count (i + 1 + 1) (drop (i + 1) es))
    ∙ ap (λ (x : RestEntry). now ++ (entry_text_in b ss count (i + 1) x ++ entry_texts_in b ss count (i + 1 + 1) (drop (i + 1) es))) is
    ∙ ap (λ k. now ++ (entry_text_in b ss count (i + 1) (get_or es i e) ++ entry_texts_in b ss count k (drop (i + 1) es))) (add-one (i + 1))
    ∙ ap (λ (xs : List RestEntry). now ++ entry_texts_in b ss count (i + 1) xs) (sym (drop_more es i e below))
    ∙ so_far

no_entry : RestEntry
no_entry = record { kept = kept_messages []; journal = [] }

entry_there : (es : List RestEntry) (i : ℕ) (d : RestEntry) → i < length es → slice_get es i ≡ Some (get_or es i d)
entry_there [] i d below = absurd (omega arith)
entry_there (e ∷ es) zero d below = refl
entry_there (e ∷ es) (suc i) d below = entry_there es i d (omega arith)

-- where what is written is the text of whichever entry is there
pub entry_at_more : (b : Bool) (ss : List (Name × Name)) (count : ℕ) (es : List RestEntry) (i : ℕ) (now after whole : List ℕ) → i < length es → now ++ entry_texts_in b ss count (i + 1) (drop i es) ≡ whole
    → ((e : RestEntry) → slice_get es i ≡ Some e → after ≡ now ++ entry_text_in b ss count (i + 1) e) → after ++ entry_texts_in b ss count (i + 1 + 1) (drop (i + 1) es) ≡ whole
entry_at_more b ss count es i now after whole below so_far made =
    entry_more b ss count es i (get_or es i no_entry) now after whole below (get_or_default es i no_entry (get_or es i no_entry) below) so_far (made (get_or es i no_entry) (entry_there es i no_entry below))

pub entries_end : (b : Bool) (ss : List (Name × Name)) (count : ℕ) (es : List RestEntry) (i : ℕ) (now whole : List ℕ) → length es ≤ i → now ++ entry_texts_in b ss count (i + 1) (drop i es) ≡ whole → now ≡ whole
entries_end b ss count es i now whole past so_far = sym (append-nil now) ∙ ap (λ (xs : List RestEntry). now ++ entry_texts_in b ss count (i + 1) xs) (sym (drop_all i es past)) ∙ so_far

pub never_seen : {A : Type 0} {Q : Type 0} (pairs : List (KeptListings A × Vec ℕ A)) (i : ℕ) (e : RestEntry) → slice_get pairs i ≡ None → slice_get (answer_entries kept_seen pairs) i ≡ Some e → Q
never_seen [] zero e is at = cc
never_seen [] (suc i) e is at = cc
never_seen (p ∷ pairs) zero e is at = cc
never_seen (p ∷ pairs) (suc i) e is at = never_seen pairs i e is at

pub entry_written : {A : Type 0} (b : Bool) (ss : List (Name × Name)) (count n : ℕ) (pairs : List (KeptListings A × Vec ℕ A)) (i : ℕ) (kept : KeptListings A) (journal : Vec ℕ A) (picks now after : List ℕ) (e : RestEntry) → Some (kept, journal) ≡ slice_get pairs i → slice_get (answer_entries kept_seen pairs) i ≡ Some e
    → picks ≡ journal.items → after ≡ now ++ entry_text_in b ss count n (record { kept = kept_seen kept; journal = picks }) → after ≡ now ++ entry_text_in b ss count n e
entry_written b ss count n pairs i kept journal picks now after e is at same made =
    made ∙ ap (λ (x : RestEntry). now ++ entry_text_in b ss count n x) ((λ i. record { kept = kept_seen kept; journal = same i }) ∙ entry_is pairs i (kept, journal) e (sym is) at)

pub count_is : {A : Type 0} (pairs : List (KeptListings A × Vec ℕ A)) (n : ℕ) → n ≡ length pairs → n ≡ length (answer_entries kept_seen pairs)
count_is pairs n is = is ∙ sym (length-map pairs (answer_entry kept_seen))

pub answer_text : (x0 x1 x2 x3 a b : List ℕ) (closing : ℕ → List ℕ) (n m : ℕ) → x0 ≡ [] → x1 ≡ x0 ++ a → x2 ≡ x1 ++ b → x3 ≡ x2 ++ closing n → n ≡ m → x3 ≡ (a ++ b) ++ closing m
answer_text x0 x1 x2 x3 a b closing n m none first second third same =
    let both : x2 ≡ x0 ++ (a ++ b) = before_rest x0 a x1 b x2 first second in
    before_rest x0 (a ++ b) x2 (closing n) x3 both third ∙ ap (λ x. x ++ ((a ++ b) ++ closing n)) none ∙ ap (λ k. (a ++ b) ++ closing k) same
