-- Loops over sessions, place by place.
use Rattle.std.proofs.Common.{◌≡◌, ◌∙◌, ℕ, zero, suc, ◌+◌, ◌<◌, ◌≤◌, List, [], ◌∷◌, ◌++◌, length, map, take, drop, flat_map, get_or, refl, sym, ap, subst, add-one, append-nil, append_assoc, arith}
use Rattle.std.specs.Prelude.{MatchOption, Option, Some, None, if◌then◌else◌, Bool, true, false}
use Rattle.std.proofs.Math.ListN.{set}
use Rattle.def_node.specs.Event.{Event}
use Rattle.def_run.specs.Listing.{Item as DefinedItem}
use Rattle.std.specs.Str.{bytes_eq}
use Rattle.std.proofs.lemmas.List.{drop_more, drop_all}
use Rattle.def_term.specs.Tree.{Tree}
use Rattle.def_script.specs.Program.{Command, session_of}
use Rattle.def_script.specs.Exports.{Exports}
use Rattle.def_session.specs.Commands.{command_done}
use Rattle.tn_trace.specs.Tracks.{Track, with_event, with_events, reported_to, items_of_tracks, reply_from, newer_of, AreMore}
use Rattle.tn_trace.specs.Slots.{EachPair, EachUpTo}

pub up_to_none : {T S : Type 0} (P Q : T → S → Type 0) (ts : List T) (ss : List S) → EachPair Q ts ss → EachUpTo P Q 0 ts ss
up_to_none P Q [] [] h = tt
up_to_none P Q [] (s ∷ ss) h = absurd h
up_to_none P Q (t ∷ ts) [] h = absurd h
up_to_none P Q (t ∷ ts) (s ∷ ss) h = (h.0, up_to_none P Q ts ss h.1)

pub up_to_all : {T S : Type 0} (P Q : T → S → Type 0) (n : ℕ) (ts : List T) (ss : List S) → length ss ≤ n → EachUpTo P Q n ts ss → EachPair P ts ss
up_to_all P Q n [] [] h e = tt
up_to_all P Q n [] (s ∷ ss) h e = absurd e
up_to_all P Q n (t ∷ ts) [] h e = absurd e
up_to_all P Q zero (t ∷ ts) (s ∷ ss) h e = absurd (omega arith)
up_to_all P Q (suc n) (t ∷ ts) (s ∷ ss) h e = (e.0, up_to_all P Q n ts ss (omega arith) e.1)

pub all_taken : {T S : Type 0} (P Q : T → S → Type 0) (n : ℕ) (ts : List T) (ss : List S) → length ss ≤ n → EachUpTo P Q n ts ss → take n ts ≡ ts
all_taken P Q zero [] [] h e = refl
all_taken P Q (suc n) [] [] h e = refl
all_taken P Q n [] (s ∷ ss) h e = absurd e
all_taken P Q n (t ∷ ts) [] h e = absurd e
all_taken P Q zero (t ∷ ts) (s ∷ ss) h e = absurd (omega arith)
all_taken P Q (suc n) (t ∷ ts) (s ∷ ss) h e = ap (λ xs. t ∷ xs) (all_taken P Q n ts ss (omega arith) e.1)

pub all_dropped : {T S : Type 0} (P Q : T → S → Type 0) (n : ℕ) (ts : List T) (ss : List S) → length ss ≤ n → EachUpTo P Q n ts ss → drop n ts ≡ []
all_dropped P Q zero [] [] h e = refl
all_dropped P Q (suc n) [] [] h e = refl
all_dropped P Q n [] (s ∷ ss) h e = absurd e
all_dropped P Q n (t ∷ ts) [] h e = absurd e
all_dropped P Q zero (t ∷ ts) (s ∷ ss) h e = absurd (omega arith)
all_dropped P Q (suc n) (t ∷ ts) (s ∷ ss) h e = all_dropped P Q n ts ss (omega arith) e.1

pub each_mapped : {T S : Type 0} (P : T → S → Type 0) (f : T → T) (ts : List T) (ss : List S) → EachPair (λ t s. P (f t) s) ts ss → EachPair P (map f ts) ss
each_mapped P f [] [] h = tt
each_mapped P f [] (s ∷ ss) h = absurd h
each_mapped P f (t ∷ ts) [] h = absurd h
each_mapped P f (t ∷ ts) (s ∷ ss) h = (h.0, each_mapped P f ts ss h.1)

-- the place that a loop comes to
pub record IsPlace {T S : Type 0} (P Q : T → S → Type 0) (n : ℕ) (ts : List T) (ss : List S) (old new : S) : Type 0 where
  pub here : T
  pub front : take (n + 1) ts ≡ take n ts ++ here ∷ []
  pub back : drop n ts ≡ here ∷ drop (n + 1) ts
  pub before : Q here old
  pub after : P here new → EachUpTo P Q (n + 1) ts (set ss n new)

place_suc : {T S : Type 0} (P Q : T → S → Type 0) (n : ℕ) (ts : List T) (ss : List S) (old new : S) → n < length ss → old ≡ get_or ss n old → EachUpTo P Q n ts ss
    → (t : T) × (take (suc n) ts ≡ take n ts ++ t ∷ []) × (drop n ts ≡ t ∷ drop (suc n) ts) × Q t old × (P t new → EachUpTo P Q (suc n) ts (set ss n new))
place_suc P Q n [] [] old new h is e = absurd (omega arith)
place_suc P Q n [] (s ∷ ss) old new h is e = absurd e
place_suc P Q n (t ∷ ts) [] old new h is e = absurd e
place_suc P Q zero (t ∷ ts) (s ∷ ss) old new h is e = (t, refl, refl, subst (Q t) (sym is) e.0, λ p. (p, e.1))
place_suc P Q (suc n) (t ∷ ts) (s ∷ ss) old new h is e =
    let r = place_suc P Q n ts ss old new (omega arith) is e.1 in
    (r.0, ap (λ xs. t ∷ xs) r.1, r.2, r.3, λ p. (e.0, r.4 p))

pub place_here : {T S : Type 0} (P Q : T → S → Type 0) (n : ℕ) (ts : List T) (ss : List S) (old new : S) → n < length ss → old ≡ get_or ss n old → EachUpTo P Q n ts ss → IsPlace P Q n ts ss old new
place_here P Q n ts ss old new h is e =
    let r = place_suc P Q n ts ss old new h is e in
    record {
      here = r.0;
      front = ap (λ k. take k ts) (add-one n) ∙ r.1;
      back = r.2 ∙ ap (λ k. r.0 ∷ drop k ts) (sym (add-one n));
      before = r.3;
      after = λ p. subst (λ k. EachUpTo P Q k ts (set ss n new)) (sym (add-one n)) (r.4 p);
    }

flat_more : {T X : Type 0} (f : T → List X) (xs : List T) (t : T) → flat_map f (xs ++ t ∷ []) ≡ flat_map f xs ++ f t
flat_more f [] t = append-nil (f t)
flat_more f (x ∷ xs) t = ap (λ ys. f x ++ ys) (flat_more f xs t) ∙ sym (append_assoc (f x) (flat_map f xs) (f t))

-- what one place adds, after those before it
pub more_here : {G T X : Type 0} (Gives : G → List X → Type 0) (f : T → List X) (n : ℕ) (ts : List T) (here : T) (first now next : G) → take (n + 1) ts ≡ take n ts ++ here ∷ []
    → AreMore Gives (flat_map f (take n ts)) first now → AreMore Gives (f here) now next → AreMore Gives (flat_map f (take (n + 1) ts)) first next
more_here Gives f n ts here first now next front a b = λ xs h.
    subst (Gives next) (append_assoc xs (flat_map f (take n ts)) (f here) ∙ ap (λ ys. xs ++ ys) (sym (ap (flat_map f) front ∙ flat_more f (take n ts) here))) (b (xs ++ flat_map f (take n ts)) (a xs h))

pub none_more : {G X : Type 0} (Gives : G → List X → Type 0) (g : G) → AreMore Gives [] g g
none_more Gives g = λ xs h. subst (Gives g) (sym (append-nil xs)) h

pub more_then : {G X : Type 0} (Gives : G → List X → Type 0) (fs bs : List X) (first now next : G) → AreMore Gives fs first now → AreMore Gives bs now next → AreMore Gives (fs ++ bs) first next
more_then Gives fs bs first now next a b = λ xs h. subst (Gives next) (append_assoc xs fs bs) (b (xs ++ fs) (a xs h))

-- some events are reported; what the others add follows
pub record GoesOn {G E : Type 0} (Gives : G → List DefinedItem → Type 0) (v : E → Event) (ts us : List Track) (es : List E) (i : ℕ) (first now : G) : Type 0 where
  pub sessions : with_events (map v es) ts ≡ with_events (map v (drop i es)) us
  pub added : List DefinedItem
  pub given : AreMore Gives added first now
  pub all : items_of_tracks (map v es) ts ≡ added ++ items_of_tracks (map v (drop i es)) us

pub goes_on_init : {G E : Type 0} (Gives : G → List DefinedItem → Type 0) (v : E → Event) (ts : List Track) (es : List E) (g : G) → GoesOn Gives v ts ts es 0 g g
goes_on_init Gives v ts es g = record { sessions = refl; added = []; given = none_more Gives g; all = refl }

pub goes_on_more : {G E : Type 0} (Gives : G → List DefinedItem → Type 0) (v : E → Event) (ts us : List Track) (es : List E) (i : ℕ) (x : E) (first now next : G) → i < length es → x ≡ get_or es i x → AreMore Gives (flat_map (reported_to (v x)) us) now next
    → GoesOn Gives v ts us es i first now → GoesOn Gives v ts (map (with_event (v x)) us) es (i + 1) first next
goes_on_more Gives v ts us es i x first now next below is more so_far =
    let left : drop i es ≡ x ∷ drop (i + 1) es = drop_more es i x below ∙ ap (λ y. y ∷ drop (i + 1) es) (sym is) in
    record {
      sessions = so_far.sessions ∙ ap (λ l. with_events (map v l) us) left;
      added = so_far.added ++ flat_map (reported_to (v x)) us;
      given = more_then Gives so_far.added (flat_map (reported_to (v x)) us) first now next so_far.given more;
      all = so_far.all ∙ ap (λ l. so_far.added ++ items_of_tracks (map v l) us) left ∙ sym (append_assoc so_far.added (flat_map (reported_to (v x)) us) (items_of_tracks (map v (drop (i + 1) es)) (map (with_event (v x)) us)));
    }

pub all_sessions : {G E : Type 0} (Gives : G → List DefinedItem → Type 0) (v : E → Event) (ts us : List Track) (es : List E) (i : ℕ) (first now : G) → length es ≤ i → GoesOn Gives v ts us es i first now → us ≡ with_events (map v es) ts
all_sessions Gives v ts us es i first now past h = sym (h.sessions ∙ ap (λ l. with_events (map v l) us) (drop_all i es past))

pub all_given : {G E : Type 0} (Gives : G → List DefinedItem → Type 0) (v : E → Event) (ts us : List Track) (es : List E) (i : ℕ) (first now : G) → length es ≤ i → GoesOn Gives v ts us es i first now → AreMore Gives (items_of_tracks (map v es) ts) first now
all_given Gives v ts us es i first now past h = subst (λ xs. AreMore Gives xs first now) (sym (h.all ∙ ap (λ l. h.added ++ items_of_tracks (map v l) us) (drop_all i es past) ∙ append-nil h.added)) h.given

-- ---- replies

pub newer_is : (r : Option Tree) (b : Bool) (reply : Tree) (q : Option Tree) → MatchOption r (b ≡ false) (λ t. (b ≡ true) × (t ≡ reply)) → newer_of r q ≡ (if b then Some reply else q)
newer_is None b reply q h = sym (ap (λ x. if x then Some reply else q) h)
newer_is (Some t) b reply q h = ap Some h.1 ∙ sym (ap (λ x. if x then Some reply else q) h.0)

pub reply_here : (o : Exports) (c : Command) (n : ℕ) (ts : List Track) (here : Track) (q q' all : Option Tree) → drop n ts ≡ here ∷ drop (n + 1) ts
    → q' ≡ (if bytes_eq here.name (session_of c) then Some (command_done o here.session c).1 else q) → reply_from o c q (drop n ts) ≡ all → reply_from o c q' (drop (n + 1) ts) ≡ all
reply_here o c n ts here q q' all back made so_far = ap (λ r. reply_from o c r (drop (n + 1) ts)) made ∙ sym (ap (reply_from o c q) back) ∙ so_far
