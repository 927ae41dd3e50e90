-- Places of sessions that are asked for, and the names of the sessions at places.
use Rattle.std.proofs.Common.{◌≡◌, ◌∙◌, ℕ, zero, suc, ◌+◌, ◌<◌, ◌≤◌, Bool, true, false, List, [], ◌∷◌, ◌++◌, length, map, take, get_or, Option, Some, None, if◌then◌else◌, refl, sym, ap, append-nil, append_assoc, add-one, arith}
use Rattle.std.specs.Prelude.{slice_get, option_to_list}
use Rattle.std.proofs.lemmas.List.{take_more, take_all, map-append}
use Rattle.def_term.specs.Names.{Name}
use Rattle.tn_answers.specs.AnswerViews.{session_name_seen}
use Rattle.tn_answers.specs.declared.entry.SessionName.{SessionName}
use Rattle.tn_search.specs.Sessions.{element_at, elements_at}
use Rattle.tn_search.proofs.Places.{elements_more}
use Rattle.tn_exploration.specs.Requests.{is_session_of_request, place_of_request, places_from}

-- ---- one place more

pub none_there : (asked : Option Name) (place : ℕ) (places : List ℕ) (o : Option (Name × Name)) → o ≡ None → places ≡ places ++ place_of_request asked place o
none_there asked place places o none = sym (ap (λ x. places ++ place_of_request asked place x) none ∙ append-nil places)

picked : (b : Bool) (place : ℕ) → b ≡ true → (if b then place ∷ [] else []) ≡ place ∷ []
picked true place is = refl
picked false place is = cc

passed : (b : Bool) (place : ℕ) → b ≡ false → (if b then place ∷ [] else []) ≡ []
passed true place is = cc
passed false place is = refl

pub not_asked : (asked : Option Name) (place : ℕ) (places : List ℕ) (o : Option (Name × Name)) (s : Name × Name) (b : Bool) → o ≡ Some s → b ≡ is_session_of_request asked s.0 → b ≡ false → places ≡ places ++ place_of_request asked place o
not_asked asked place places o s b there says is =
    sym (ap (λ x. places ++ place_of_request asked place x) there ∙ ap (λ xs. places ++ xs) (passed (is_session_of_request asked s.0) place (sym says ∙ is)) ∙ append-nil places)

pub one_asked : (asked : Option Name) (place : ℕ) (old new : List ℕ) (o : Option (Name × Name)) (s : Name × Name) (b : Bool) → o ≡ Some s → b ≡ is_session_of_request asked s.0 → b ≡ true → new ≡ old ++ place ∷ [] → new ≡ old ++ place_of_request asked place o
one_asked asked place old new o s b there says is longer =
    longer ∙ sym (ap (λ x. old ++ place_of_request asked place x) there ∙ ap (λ xs. old ++ xs) (picked (is_session_of_request asked s.0) place (sym says ∙ is)))

-- ---- the first of some places

next_place : (asked : Option Name) (cs : List (Name × Name)) (n i : ℕ) → i < length cs → places_from asked n (take (suc i) cs) ≡ places_from asked n (take i cs) ++ place_of_request asked (n + i) (slice_get cs i)
next_place asked [] n i below = absurd (omega arith)
next_place asked (c ∷ cs) n zero below =
    let same : n ≡ n + 0 = omega arith in
    append-nil (place_of_request asked n (Some c)) ∙ ap (λ k. place_of_request asked k (Some c)) same
next_place asked (c ∷ cs) n (suc i) below =
    let same : suc n + i ≡ n + suc i = omega arith in
    ap (λ xs. place_of_request asked n (Some c) ++ xs) (next_place asked cs (suc n) i (omega arith))
    ∙ sym (append_assoc (place_of_request asked n (Some c)) (places_from asked (suc n) (take i cs)) (place_of_request asked (suc n + i) (slice_get cs i)))
    ∙ ap (λ k. (place_of_request asked n (Some c) ++ places_from asked (suc n) (take i cs)) ++ place_of_request asked k (slice_get cs i)) same

pub place_more : (asked : Option Name) (cs : List (Name × Name)) (i : ℕ) (old new : List ℕ) → i < length cs → new ≡ old ++ place_of_request asked i (slice_get cs i) → old ≡ places_from asked 0 (take i cs) → new ≡ places_from asked 0 (take (i + 1) cs)
place_more asked cs i old new below more so_far =
    let same : i ≡ 0 + i = omega arith in
    more
    ∙ ap (λ xs. xs ++ place_of_request asked i (slice_get cs i)) so_far
    ∙ ap (λ k. places_from asked 0 (take i cs) ++ place_of_request asked k (slice_get cs i)) same
    ∙ sym (ap (λ k. places_from asked 0 (take k cs)) (add-one i) ∙ next_place asked cs 0 i below)

pub all_places : (asked : Option Name) (cs : List (Name × Name)) (i : ℕ) (places : List ℕ) → length cs ≤ i → places ≡ places_from asked 0 (take i cs) → places ≡ places_from asked 0 cs
all_places asked cs i places past so_far = so_far ∙ ap (places_from asked 0) (take_all i cs past)

-- ---- names at places

pub no_name : (place : ℕ) (cs names : List (Name × Name)) → slice_get cs place ≡ None → names ≡ names ++ element_at place cs
no_name place cs names none = sym (ap (λ x. names ++ option_to_list x) none ∙ append-nil names)

pub one_name : (place : ℕ) (cs : List (Name × Name)) (s : Name × Name) (old new : List (Name × Name)) → slice_get cs place ≡ Some s → new ≡ old ++ s ∷ [] → new ≡ old ++ element_at place cs
one_name place cs s old new there longer = longer ∙ sym (ap (λ x. old ++ option_to_list x) there)

pub name_more : (places : List ℕ) (cs : List (Name × Name)) (i : ℕ) (old new : List (Name × Name)) → i < length places → new ≡ old ++ element_at (get_or places i 0) cs → old ≡ elements_at (take i places) cs → new ≡ elements_at (take (i + 1) places) cs
name_more places cs i old new below more so_far =
    more
    ∙ ap (λ xs. xs ++ element_at (get_or places i 0) cs) so_far
    ∙ sym (ap (λ ns. elements_at ns cs) (take_more places i 0 below) ∙ elements_more (take i places) (get_or places i 0) cs)

pub all_names : (places : List ℕ) (cs : List (Name × Name)) (i : ℕ) (names : List (Name × Name)) → length places ≤ i → names ≡ elements_at (take i places) cs → names ≡ elements_at places cs
all_names places cs i names past so_far = so_far ∙ ap (λ ns. elements_at ns cs) (take_all i places past)

pub name_added : {A : Type 0} (old new : List (SessionName A)) (name : SessionName A) (place : ℕ) (cs : List (Name × Name)) (s : Name × Name) → slice_get cs place ≡ Some s → new ≡ old ++ name ∷ [] → name.name ≡ s.0 → name.tracer ≡ s.1
    → map session_name_seen new ≡ map session_name_seen old ++ element_at place cs
name_added old new name place cs s there longer named traced =
    one_name place cs s (map session_name_seen old) (map session_name_seen new) there
    (ap (map session_name_seen) longer ∙ map-append session_name_seen old (name ∷ []) ∙ ap (λ x. map session_name_seen old ++ x ∷ []) (both named traced))
  where
    both : name.name ≡ s.0 → name.tracer ≡ s.1 → session_name_seen name ≡ s
    both e f = λ i. (e i, f i)
