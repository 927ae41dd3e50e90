-- What a move adds stands in the listings, and where.
use Rattle.std.proofs.Common.{◌≡◌, ℕ, zero, suc, ◌+◌, ◌<◌, ◌≤◌, Bool, true, false, cond, List, [], ◌∷◌, ◌++◌, length, map, take, drop, get_or, Option, Some, None, refl, ap, sym, ◌∙◌, subst, arith, append_assoc, length-append, eq-eqb, IsTrue, ◌↔◌}
use Rattle.std.specs.Prelude.{option_to_list, filter, slice_get}
use Rattle.std.proofs.lemmas.Bool.{false≢true}
use Rattle.std.proofs.lemmas.List.{take-append-le, map-append}
use Rattle.std.proofs.Math.Seq.{take-suc}
use Rattle.std.proofs.lemmas.Option.{slice_get-map, slice_get_read, slice_get_past}
use Rattle.std.specs.Option.{option_map}
use Rattle.def_term.specs.Tree.{Tree}
use Rattle.def_term.specs.Names.{Name}
use Rattle.def_script.specs.Program.{Program}
use Rattle.def_script.specs.Script.{creations}
use Rattle.def_script.specs.Exports.{Exports, exports_of}
use Rattle.def_node.specs.Event.{Event}
use Rattle.def_run.specs.Run.{HistoryItem, event_item, command_item, events, moves}
use Rattle.def_run.specs.Listing.{Item, items_of_event, reported_by_all, answers_from, history_by, answer, messages}
use Rattle.def_run.specs.Laws.{is_for, number_items, answers}
use Rattle.def_run.proofs.Answers.{answers_are_listings}
use Rattle.tn_live.specs.declared.entry.ItemPlace.{ItemPlace}
use Rattle.tn_live.specs.Places.{item_place, item_places, reported_at, message_of_place, reported_message}
use Rattle.tn_trace.specs.Cores.{creation_numbered}

-- ---- an answer stays as it is when the journal grows

abbrev answered_in : Program → List ℕ → ℕ → List Item
answered_in p journal k = answers_from (exports_of p) (creations p.commands) (events p (take k journal)) (history_by p (take k journal) (slice_get journal k))

slice_get-before : {A : Type 0} (xs ys : List A) (k : ℕ) → k < length xs → slice_get (xs ++ ys) k ≡ slice_get xs k
slice_get-before [] ys k below = absurd (omega arith)
slice_get-before (x ∷ xs) ys zero below = refl
slice_get-before (x ∷ xs) ys (suc k) below = slice_get-before xs ys k (omega arith)

pub answer_kept : (p : Program) (picks more : List ℕ) (k : ℕ) → moves p picks ≡ picks → moves p (picks ++ more) ≡ picks ++ more → k < length picks → answer p (picks ++ more) k ≡ answer p picks k
answer_kept p picks more k all all' below =
    ap (λ j. answered_in p j k) all'
    ∙ ap (λ t. answers_from (exports_of p) (creations p.commands) (events p t) (history_by p t (slice_get (picks ++ more) k))) (take-append-le k picks more (omega arith))
    ∙ ap (λ x. answers_from (exports_of p) (creations p.commands) (events p (take k picks)) (history_by p (take k picks) x)) (slice_get-before picks more k below)
    ∙ ap (λ j. answered_in p j k) (sym all)

pub places_kept : (p : Program) (picks more : List ℕ) (n : ℕ) → moves p picks ≡ picks → moves p (picks ++ more) ≡ picks ++ more → n ≤ length picks → item_places p (picks ++ more) n ≡ item_places p picks n
places_kept p picks more zero all all' below = refl
places_kept p picks more (suc n) all all' below =
    ap (λ xs. xs ++ map item_place (answer p (picks ++ more) n) ∷ []) (places_kept p picks more n all all' (omega arith))
    ∙ ap (λ xs. item_places p picks n ++ map item_place xs ∷ []) (answer_kept p picks more n all all' (omega arith))

pub places-length : (p : Program) (picks : List ℕ) (n : ℕ) → length (item_places p picks n) ≡ n
places-length p picks zero = refl
places-length p picks (suc n) = length-append (item_places p picks n) (map item_place (answer p picks n) ∷ []) ∙ ap (λ k. k + 1) (places-length p picks n) ∙ omega arith

get_or-before : {A : Type 0} (xs ys : List A) (k : ℕ) (d : A) → k < length xs → get_or (xs ++ ys) k d ≡ get_or xs k d
get_or-before [] ys k d below = absurd (omega arith)
get_or-before (x ∷ xs) ys zero d below = refl
get_or-before (x ∷ xs) ys (suc k) d below = get_or-before xs ys k d (omega arith)

get_or-end : {A : Type 0} (xs : List A) (y : A) (k : ℕ) (d : A) → k ≡ length xs → get_or (xs ++ y ∷ []) k d ≡ y
get_or-end [] y zero d at = refl
get_or-end [] y (suc k) d at = absurd (omega arith)
get_or-end (x ∷ xs) y zero d at = absurd (omega arith)
get_or-end (x ∷ xs) y (suc k) d at = get_or-end xs y k d (omega arith)

-- the places of an answer
pub places_at : (p : Program) (picks : List ℕ) (n k more : ℕ) (d : List ItemPlace) → n ≡ more + suc k → get_or (item_places p picks n) k d ≡ map item_place (answer p picks k)
places_at p picks zero k more d is = absurd (omega arith)
places_at p picks (suc n) k zero d is =
    let same : k ≡ n = omega arith in
    subst (λ j. get_or (item_places p picks (suc n)) j d ≡ map item_place (answer p picks j)) (sym same) (get_or-end (item_places p picks n) (map item_place (answer p picks n)) n d (sym (places-length p picks n)))
places_at p picks (suc n) k (suc more) d is =
    get_or-before (item_places p picks n) (map item_place (answer p picks n) ∷ []) k d (omega (arith, places-length p picks n)) ∙ places_at p picks n k more d (omega arith)

-- ---- each element of a list

abbrev pub Each : {A : Type 0} → (A → Type 0) → List A → Type 0
Each P [] = Unit {0}
Each P (x ∷ xs) = P x × Each P xs

each-append : {A : Type 0} (P : A → Type 0) (xs ys : List A) → Each P xs → Each P ys → Each P (xs ++ ys)
each-append P [] ys f g = g
each-append P (x ∷ xs) ys f g = (f.0, each-append P xs ys f.1 g)

each-first : {A : Type 0} (P : A → Type 0) (xs ys : List A) → Each P (xs ++ ys) → Each P xs
each-first P [] ys f = tt
each-first P (x ∷ xs) ys f = (f.0, each-first P xs ys f.1)

each-second : {A : Type 0} (P : A → Type 0) (xs ys : List A) → Each P (xs ++ ys) → Each P ys
each-second P [] ys f = f
each-second P (x ∷ xs) ys f = each-second P xs ys f.1

each-always : {A I : Type 0} (Q : I → A → Type 0) (xs : List A) → ((i : I) → Each (Q i) xs) → Each (λ x. (i : I) → Q i x) xs
each-always Q [] f = tt
each-always Q (x ∷ xs) f = (λ i. (f i).0, each-always Q xs (λ i. (f i).1))

each-with : {A : Type 0} (P Q R : A → Type 0) (xs : List A) → ((x : A) → P x → Q x → R x) → Each P xs → Each Q xs → Each R xs
each-with P Q R [] go f g = tt
each-with P Q R (x ∷ xs) go f g = (go x f.0 g.0, each-with P Q R xs go f.1 g.1)

each-filter : {A : Type 0} (P : A → Type 0) (test : A → Bool) (xs : List A) → Each P (filter test xs) → Each (λ x. test x ≡ true → P x) xs
each-filter P test [] f = tt
each-filter {A} P test (x ∷ xs) f = go (test x) f (λ h. each-filter P test xs h)
  where
    go : (b : Bool) → Each P (cond b (x ∷ filter test xs) (filter test xs)) → (Each P (filter test xs) → Each (λ y. test y ≡ true → P y) xs) → (b ≡ true → P x) × Each (λ y. test y ≡ true → P y) xs
    go true h rest = (λ t. h.0, rest h.1)
    go false h rest = (λ t. absurd (false≢true t), rest h)

-- ---- sessions of an answer

-- a session that the control list creates
abbrev IsCreated : List (Name × Name) → ℕ → Item → Type 0
IsCreated ss n x = (k : ℕ) × (s : Name × Name) × (x.session ≡ n + k) × (slice_get ss k ≡ Some s)

tells_created : (ss : List (Name × Name)) (s : Name × Name) (n i : ℕ) (r : Option Tree) → Each (IsCreated (s ∷ ss) n) (map (λ m. record { session = n; index = i; message = m }) (option_to_list r))
tells_created ss s n i None = tt
tells_created ss s n i (Some t) = ((0, s, omega arith, refl), tt)

created_later : (ss : List (Name × Name)) (s : Name × Name) (n : ℕ) (xs : List Item) → Each (IsCreated ss (suc n)) xs → Each (IsCreated (s ∷ ss) n) xs
created_later ss s n [] f = tt
created_later ss s n (x ∷ xs) f = ((suc f.0.0, f.0.1, omega (arith, f.0.2), f.0.3), created_later ss s n xs f.1)

told_created : (o : Exports) (n : ℕ) (ss : List (Name × Name)) (past : List HistoryItem) (e : Event) → Each (IsCreated ss n) (reported_by_all o n ss past e)
told_created o n [] past e = tt
told_created o n (s ∷ ss) past e =
    each-append (IsCreated (s ∷ ss) n) (items_of_event o n s.0 past e) (reported_by_all o (suc n) ss past e) (tells_created ss s n _ _) (created_later ss s n _ (told_created o (suc n) ss past e))

answers_created : (o : Exports) (ss : List (Name × Name)) (past items : List HistoryItem) → Each (IsCreated ss 1) (answers_from o ss past items)
answers_created o ss past [] = tt
answers_created o ss past (event_item e ∷ items) =
    each-append (IsCreated ss 1) (reported_by_all o 1 ss past e) (answers_from o ss (past ++ event_item e ∷ []) items) (told_created o 1 ss past e) (answers_created o ss (past ++ event_item e ∷ []) items)
answers_created o ss past (command_item c ∷ items) = answers_created o ss (past ++ command_item c ∷ []) items

-- ---- places of an answer

abbrev StandsIn : List Tree → Item → Type 0
StandsIn ms x = slice_get ms x.index ≡ Some x.message

slice_get-at : {A : Type 0} (xs : List A) (y : A) (ys : List A) (k : ℕ) → k ≡ length xs → slice_get (xs ++ y ∷ ys) k ≡ Some y
slice_get-at [] y ys zero at = refl
slice_get-at [] y ys (suc k) at = absurd (omega arith)
slice_get-at (x ∷ xs) y ys zero at = absurd (omega arith)
slice_get-at (x ∷ xs) y ys (suc k) at = slice_get-at xs y ys k (omega arith)

numbered_stand : (n i : ℕ) (before ms : List Tree) → i ≡ length before → Each (StandsIn (before ++ ms)) (number_items n i ms)
numbered_stand n i before [] at = tt
numbered_stand n i before (m ∷ ms) at = (
  slice_get-at before m ms i at,
  subst (λ w. Each (StandsIn w) (number_items n (suc i) ms)) (append_assoc before (m ∷ []) ms) (numbered_stand n (suc i) (before ++ m ∷ []) ms (omega (arith, length-append before (m ∷ [])))),
)

answers_first : (P : Item → Type 0) (p : Program) (picks : List ℕ) (n k more : ℕ) → n ≡ more + suc k → Each P (answers p picks n) → Each P (answer p picks k)
answers_first P p picks zero k more is f = absurd (omega arith)
answers_first P p picks (suc n) k zero is f =
    let same : k ≡ n = omega arith in subst (λ j. Each P (answer p picks j)) (sym same) (each-second P (answers p picks n) (answer p picks n) f)
answers_first P p picks (suc n) k (suc more) is f = answers_first P p picks n k more (omega arith) (each-first P (answers p picks n) (answer p picks n) f)

record Known (p : Program) : Type 0 where
  pub number : ℕ
  pub session : Name × Name
  pub is : slice_get (creations p.commands) number ≡ Some session

abbrev IsIn : (p : Program) → List ℕ → Known p → Item → Type 0
IsIn p picks s x = is_for (suc s.number) x ≡ true → StandsIn (messages s.session.0 p picks) x

answer_in : (p : Program) (picks : List ℕ) (k more : ℕ) (s : Known p) → length (moves p picks) ≡ more + suc k → Each (IsIn p picks s) (answer p picks k)
answer_in p picks k more s size =
    let all : filter (is_for (suc s.number)) (answers p picks (length (moves p picks))) ≡ number_items (suc s.number) 0 (messages s.session.0 p picks) = answers_are_listings p picks s.number s.session.0 s.session.1 s.is in
    let stand = subst (Each (StandsIn (messages s.session.0 p picks))) (sym all) (numbered_stand (suc s.number) 0 [] (messages s.session.0 p picks) refl) in
    answers_first (IsIn p picks s) p picks (length (moves p picks)) k more size (each-filter (StandsIn (messages s.session.0 p picks)) (is_for (suc s.number)) (answers p picks (length (moves p picks))) stand)

told_back : (p : Program) (picks : List ℕ) (x : Item) → IsCreated (creations p.commands) 1 x → ((s : Known p) → IsIn p picks s x) → reported_at p picks (item_place x) ≡ Some x
told_back p picks x created stands =
    let number : x.session ≡ suc created.0 = omega (arith, created.2) in
    let s : Known p = record { number = created.0; session = created.1; is = created.3 } in
    let found : creation_numbered p x.session ≡ Some created.1 = ap (creation_numbered p) number ∙ created.3 in
    ap (λ o. reported_message (item_place x) (message_of_place p picks x.index o)) found ∙ ap (reported_message (item_place x)) (stands s (eq-eqb x.session (suc created.0) number))

map_told : (p : Program) (picks : List ℕ) (xs : List Item) → Each (λ x. reported_at p picks (item_place x) ≡ Some x) xs → map (reported_at p picks) (map item_place xs) ≡ map Some xs
map_told p picks [] f = refl
map_told p picks (x ∷ xs) f = ap (λ y. y ∷ map (reported_at p picks) (map item_place xs)) f.0 ∙ ap (Some x ∷◌) (map_told p picks xs f.1)

-- the messages that a move adds are those at their places
pub answer_told : (p : Program) (picks : List ℕ) (k more : ℕ) → length (moves p picks) ≡ more + suc k → map (reported_at p picks) (map item_place (answer p picks k)) ≡ map Some (answer p picks k)
answer_told p picks k more size =
    map_told p picks (answer p picks k)
    (each-with (IsCreated (creations p.commands) 1) (λ x. (s : Known p) → IsIn p picks s x) (λ x. reported_at p picks (item_place x) ≡ Some x) (answer p picks k) (told_back p picks)
    (answers_created (exports_of p) (creations p.commands) (events p (take k (moves p picks))) (history_by p (take k (moves p picks)) (slice_get (moves p picks) k))) (each-always (IsIn p picks) (answer p picks k) (λ s. answer_in p picks k more s size)))

-- ---- an item held against a message

abbrev message_or : Tree → Option Item → Tree
message_or t None = t
message_or t (Some x) = x.message

pub told_same : (place : ItemPlace) (x : Item) (o : Option Tree) (t : Tree) (b : Bool) → place.session ≡ x.session → place.index ≡ x.index → Some t ≡ o → IsTrue b ↔ (t ≡ x.message) → IsTrue b ↔ (reported_message place o ≡ Some x)
told_same place x o t b session index is same = (
  λ h.
      let m : t ≡ x.message = same.0 h in
      let whole : record { session = place.session; index = place.index; message = t } ≡ x = λ i. record { session = session i; index = index i; message = m i } in
      ap (reported_message place) (sym is) ∙ ap Some whole,
  λ e. same.1 (ap (message_or t) (ap (reported_message place) is ∙ e)),
)

pub told_none : (place : ItemPlace) (x : Item) (o : Option Tree) → None ≡ o → IsTrue false ↔ (reported_message place o ≡ Some x)
told_none place x o is = (λ h. absurd (false≢true h), λ e. absurd (none_some (ap (reported_message place) is ∙ e)))
  where
    none_some : None ≡ Some x → ⊥
    none_some h = cc

abbrev session_or : ℕ → Option Item → ℕ
session_or d None = d
session_or d (Some x) = x.session

abbrev index_or : ℕ → Option Item → ℕ
index_or d None = d
index_or d (Some x) = x.index

-- an item that is told at a place has its session and index
pub told_session : (place : ItemPlace) (x : Item) (o : Option Tree) → reported_message place o ≡ Some x → place.session ≡ x.session
told_session place x None e = absurd (cc e)
told_session place x (Some m) e = ap (session_or 0) e

pub told_index : (place : ItemPlace) (x : Item) (o : Option Tree) → reported_message place o ≡ Some x → place.index ≡ x.index
told_index place x None e = absurd (cc e)
told_index place x (Some m) e = ap (index_or 0) e

pub nth_is : {A B : Type 0} (f : A → B) (xs : List A) (i : ℕ) (x : A) → i < length xs → x ≡ get_or xs i x → Some (f x) ≡ slice_get (map f xs) i
nth_is f xs i x below at = sym (slice_get-map f xs i ∙ ap (option_map f) (slice_get_read xs (length xs) i x refl below at))

pub nth_none : {A B : Type 0} (f : A → B) (xs : List A) (i : ℕ) → length xs ≤ i → None ≡ slice_get (map f xs) i
nth_none f xs i past = sym (slice_get-map f xs i ∙ ap (option_map f) (slice_get_past xs i past))

-- lists whose elements are told alike
pub some_same : (xs ys : List Item) → map Some xs ≡ map Some ys → xs ≡ ys
some_same [] [] e = refl
some_same [] (y ∷ ys) e = absurd (cc e)
some_same (x ∷ xs) [] e = absurd (cc e)
some_same (x ∷ xs) (y ∷ ys) e = cc (some_same xs ys (cc e))

-- ---- lists that are told alike, one element at a time

pub told_one : {A B C : Type 0} (f : A → C) (h : B → C) (xs : List A) (ys : List B) (i : ℕ) (d : A) (y : B) → i < length xs → i < length ys → y ≡ get_or ys i y → map f xs ≡ map h ys → f (get_or xs i d) ≡ h y
told_one f h [] ys i d y below below' at e = absurd (omega arith)
told_one f h (x ∷ xs) [] i d y below below' at e = absurd (omega arith)
told_one f h (x ∷ xs) (z ∷ ys) zero d y below below' at e = ap (λ c. get_or c 0 (f x)) e ∙ ap h (sym at)
told_one f h (x ∷ xs) (z ∷ ys) (suc i) d y below below' at e = told_one f h xs ys i d y (omega arith) (omega arith) at (ap (drop 1) e)

pub told_next : {A B C : Type 0} (f : A → C) (h : B → C) (xs : List A) (ys : List B) (i : ℕ) (d : A) (y : B) → i < length xs → i < length ys → y ≡ get_or ys i y → map f (take i xs) ≡ map h (take i ys) → f (get_or xs i d) ≡ h y
    → map f (take (i + 1) xs) ≡ map h (take (i + 1) ys)
told_next f h xs ys i d y below below' at before here =
    let next : i + 1 ≡ suc i = omega arith in
    ap (λ k. map f (take k xs)) next
    ∙ ap (map f) (take-suc xs i d below)
    ∙ map-append f (take i xs) (get_or xs i d ∷ [])
    ∙ ap (λ c. c ++ f (get_or xs i d) ∷ []) before
    ∙ ap (λ c. map h (take i ys) ++ c ∷ []) (here ∙ ap h at)
    ∙ sym (map-append h (take i ys) (get_or ys i y ∷ []))
    ∙ ap (map h) (sym (take-suc ys i y below'))
    ∙ ap (λ k. map h (take k ys)) (sym next)
