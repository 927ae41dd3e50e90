-- Sessions at places of the control list: their states, and what is kept of their messages.
use Rattle.std.proofs.Common.{◌≡◌, ◌∙◌, ◌+◌, ◌<◌, ℕ, zero, suc, Bool, List, [], ◌∷◌, ◌++◌, length, map, take, get_or, Option, Some, None, refl, sym, ap, subst, append-nil, append_assoc, arith, ◌≤◌}
use Rattle.std.specs.Prelude.{slice_get, option_to_list, filter}
use Rattle.std.proofs.lemmas.List.{take_more, map-append}
use Rattle.def_term.specs.Alive.{Alive}
use Rattle.def_term.specs.Names.{Name}
use Rattle.def_term.specs.Tree.{Tree}
use Rattle.def_script.specs.Exports.{Exports, exports_of}
use Rattle.def_script.specs.Program.{Program}
use Rattle.def_script.specs.Script.{creations}
use Rattle.def_run.specs.Run.{HistoryItem, events, run_state_of}
use Rattle.def_session.specs.State.{absent_session}
use Rattle.def_run.specs.View.{view, is_own}
use Rattle.def_run.specs.Listing.{messages, messages_from, state_of}
use Rattle.def_explore.specs.Alike.{SessionsAlike}
use Rattle.def_explore.specs.Lists.{EachOf}
use Rattle.def_explore.proofs.Settings.{commands_determine}
use Rattle.tn_messages.specs.MessageViews.{kept_lists}
use Rattle.tn_messages.proofs.SessionLists.{kept_two}
use Rattle.tn_trace.specs.Tracks.{Track, track_after, tracks_from, tracks_of}
use Rattle.tn_trace.specs.Slots.{IsTracked, EachPair}
use Rattle.tn_trace.specs.declared.slot.Slot.{Slot}
use Rattle.tn_search.specs.Sessions.{IsSameTrack, IsSameSlot, AreSameAt, element_at, elements_at, names_at, AreSinksOf, track_messages, AddsKept}

-- ---- the session at a place

-- what is beside an element
pub record IsBeside {T S : Type 0} (P : T → S → Type 0) (n : ℕ) (t : T) (ss : List S) : Type 0 where
  pub other : S
  pub at : slice_get ss n ≡ Some other
  pub so : P t other

pub beside : {T S : Type 0} (P : T → S → Type 0) (n : ℕ) (t : T) (ts : List T) (ss : List S) → EachPair P ts ss → slice_get ts n ≡ Some t → IsBeside P n t ss
beside P zero t [] ss h e = cc
beside P (suc n) t [] ss h e = cc
beside P n t (u ∷ ts) [] h e = absurd h
beside P zero t (u ∷ ts) (s ∷ ss) h e = let is : u ≡ t = cc in record { other = s; at = refl; so = subst (λ x. P x s) is h.0 }
beside P (suc n) t (u ∷ ts) (s ∷ ss) h e = let r = beside P n t ts ss h.1 e in record { other = r.other; at = r.at; so = r.so }

-- that of a session's place is what the session is
pub track_at : (o : Exports) (items : List HistoryItem) (k n : ℕ) (cs : List (Name × Name)) (s : Name × Name) → slice_get cs n ≡ Some s
    → (m : ℕ) × (slice_get (tracks_from o items k cs) n ≡ Some (track_after o items m s.0))
track_at o items k zero [] s e = cc
track_at o items k (suc n) [] s e = cc
track_at o items k zero (c ∷ cs) s e = let is : c ≡ s = cc in (k, ap (λ (x : Name × Name). Some (track_after o items k x.0)) is)
track_at o items k (suc n) (c ∷ cs) s e = track_at o items (suc k) n cs s e

-- a place past the end has none, any other the element there
pub nothing_past : {X : Type 0} (xs : List X) (n : ℕ) → length xs ≤ n → slice_get xs n ≡ None
nothing_past [] zero past = refl
nothing_past [] (suc n) past = refl
nothing_past (x ∷ xs) zero past = absurd (omega arith)
nothing_past (x ∷ xs) (suc n) past = nothing_past xs n (omega arith)

pub element_is : {X : Type 0} (xs : List X) (n : ℕ) (d : X) → n < length xs → d ≡ get_or xs n d → slice_get xs n ≡ Some d
element_is [] n d below is = absurd (omega arith)
element_is (x ∷ xs) zero d below is = ap Some (sym is)
element_is (x ∷ xs) (suc n) d below is = element_is xs n d (omega arith) is

-- ---- the same at a place

pub some_is : {X : Type 0} (x y : X) → Some x ≡ Some y → x ≡ y
some_is x y e = cc

pub none_is_some : {X : Type 0} (x : X) → None ≡ Some x → ⊥
none_is_some x e = cc

pub same_past : {A K : Type 0} (Keeps : K → List Tree → Type 0) (b : Bool) (ones others : List (Slot A K)) (n : ℕ) → length ones ≤ n → AreSameAt Keeps b ones others n
same_past Keeps b ones others n past s t e f = absurd (none_is_some s (sym (nothing_past ones n past) ∙ e))

pub same_past_other : {A K : Type 0} (Keeps : K → List Tree → Type 0) (b : Bool) (ones others : List (Slot A K)) (n : ℕ) → length others ≤ n → AreSameAt Keeps b ones others n
same_past_other Keeps b ones others n past s t e f = absurd (none_is_some t (sym (nothing_past others n past) ∙ f))

pub same_here : {A K : Type 0} (Keeps : K → List Tree → Type 0) (b : Bool) (ones others : List (Slot A K)) (n : ℕ) (s t : Slot A K) → n < length ones → n < length others → s ≡ get_or ones n s → t ≡ get_or others n t → IsSameSlot Keeps b s t → AreSameAt Keeps b ones others n
same_here Keeps b ones others n s t below also one other same u v e f =
    subst (λ x. IsSameSlot Keeps b x v) (some_is s u (sym (element_is ones n s below one) ∙ e))
    (subst (λ x. IsSameSlot Keeps b s x) (some_is t v (sym (element_is others n t also other) ∙ f)) same)

-- ---- both after different picks

module _ {A K : Type 0} (Keeps : K → List Tree → Type 0) (b : Bool) (p : Program) (one other : List ℕ) (living others : Alive) (slots slots' : List (Slot A K))
    (commands : (run_state_of p one).commands ≡ (run_state_of p other).commands) (there : living ≡ others)
    (h : EachPair (IsTracked Keeps (exports_of p) living) (tracks_of p one) slots) (k : EachPair (IsTracked Keeps (exports_of p) others) (tracks_of p other) slots') where
  abbrev IsSame : Name → Type 0
  IsSame s = (state_of (view s p one) ≡ state_of (view s p other)) × (kept_lists b (messages s p one ∷ []) ≡ kept_lists b (messages s p other ∷ []))

  same_at : (n : ℕ) (s : Name × Name) → slice_get (creations p.commands) n ≡ Some s → AreSameAt Keeps b slots slots' n → IsSame s.0
  same_at n s e same =
      let t = track_at (exports_of p) (events p one) 1 n (creations p.commands) s e in
      let u = track_at (exports_of p) (events p other) 1 n (creations p.commands) s e in
      let x = beside (IsTracked Keeps (exports_of p) living) n (track_after (exports_of p) (events p one) t.0 s.0) (tracks_of p one) slots h t.1 in
      let y = beside (IsTracked Keeps (exports_of p) others) n (track_after (exports_of p) (events p other) u.0 s.0) (tracks_of p other) slots' k u.1 in
      let r : IsSameTrack b (track_after (exports_of p) (events p one) t.0 s.0) (track_after (exports_of p) (events p other) u.0 s.0) =
      same x.other y.other x.at y.at (exports_of p) living others (track_after (exports_of p) (events p one) t.0 s.0) (track_after (exports_of p) (events p other) u.0 s.0) there (commands_determine s.0 p one other commands) x.so y.so in
      (r.session, r.kept)

  abbrev AreAlike : List Name → Type 0
  AreAlike ss = SessionsAlike ss p one other × (kept_lists b (map (λ s. messages s p one) ss) ≡ kept_lists b (map (λ s. messages s p other) ss))

  one_more : (s : Name) (ss : List Name) → IsSame s → AreAlike ss → AreAlike (s ∷ ss)
  one_more s ss is r = ((is.0, r.0), kept_two b (messages s p one) (messages s p other) (map (λ x. messages x p one) ss) (map (λ x. messages x p other) ss) is.1 r.1)

  pub alike_at : (places : List ℕ) → EachOf (AreSameAt Keeps b slots slots') places → AreAlike (names_at p places)
  alike_at [] each = (tt, refl)
  alike_at (n ∷ ns) each = go (alike_at ns each.1) (slice_get (creations p.commands) n) refl
    where
      go : AreAlike (names_at p ns) → (o : Option (Name × Name)) → slice_get (creations p.commands) n ≡ o → AreAlike (map (λ (s : Name × Name). s.0) (option_to_list o ++ elements_at ns (creations p.commands)))
      go rest None e = rest
      go rest (Some s) e = one_more s.0 (names_at p ns) (same_at n s e each.0) rest

-- ---- what is kept

pair_last : {T S : Type 0} (P : T → S → Type 0) (ts : List T) (ss : List S) (t : T) (s : S) → EachPair P ts ss → P t s → EachPair P (ts ++ t ∷ []) (ss ++ s ∷ [])
pair_last P [] [] t s h p = (p, tt)
pair_last P [] (x ∷ ss) t s h p = absurd h
pair_last P (y ∷ ts) [] t s h p = absurd h
pair_last P (y ∷ ts) (x ∷ ss) t s h p = (h.0, pair_last P ts ss t s h.1 p)

none_beside : {T S : Type 0} (P : T → S → Type 0) (n : ℕ) (ts : List T) (ss : List S) → EachPair P ts ss → slice_get ss n ≡ None → slice_get ts n ≡ None
none_beside P zero [] [] h e = refl
none_beside P (suc n) [] [] h e = refl
none_beside P n [] (s ∷ ss) h e = absurd h
none_beside P n (t ∷ ts) [] h e = absurd h
none_beside P zero (t ∷ ts) (s ∷ ss) h e = cc
none_beside P (suc n) (t ∷ ts) (s ∷ ss) h e = none_beside P n ts ss h.1 e

some_beside : {T S : Type 0} (P : T → S → Type 0) (n : ℕ) (s : S) (ts : List T) (ss : List S) → EachPair P ts ss → slice_get ss n ≡ Some s → (t : T) × (slice_get ts n ≡ Some t) × P t s
some_beside P zero s [] [] h e = cc
some_beside P (suc n) s [] [] h e = cc
some_beside P n s [] (x ∷ ss) h e = absurd h
some_beside P n s (t ∷ ts) [] h e = absurd h
some_beside P zero s (t ∷ ts) (x ∷ ss) h e = let is : x ≡ s = cc in (t, refl, subst (P t) is h.0)
some_beside P (suc n) s (t ∷ ts) (x ∷ ss) h e = some_beside P n s ts ss h.1 e

pub none_added : {A K : Type 0} (Keeps : K → List Tree → Type 0) (n : ℕ) (slots : List (Slot A K)) (old : List K) → slice_get slots n ≡ None → AddsKept Keeps n slots old old
none_added Keeps n slots old past o living ts mss h kept =
    let none : slice_get ts n ≡ None = none_beside (IsTracked Keeps o living) n ts slots h past in
    subst (λ xs. AreSinksOf Keeps xs old) (sym (ap (λ x. mss ++ track_messages (option_to_list x)) none ∙ append-nil mss)) kept

pub one_added : {A K : Type 0} (Keeps : K → List Tree → Type 0) (n : ℕ) (slots : List (Slot A K)) (slot : Slot A K) (old new : List K) (sink : K) → slice_get slots n ≡ Some slot → new ≡ old ++ sink ∷ []
    → ((ms : List Tree) → Keeps slot.kept ms → Keeps sink ms) → AddsKept Keeps n slots old new
one_added Keeps n slots slot old new sink at longer shares o living ts mss h kept =
    let r = some_beside (IsTracked Keeps o living) n slot ts slots h at in
    subst (λ xs. AreSinksOf Keeps xs new) (sym (ap (λ x. mss ++ track_messages (option_to_list x)) r.1))
    (subst (AreSinksOf Keeps (mss ++ r.0.messages ∷ [])) (sym longer) (pair_last (λ ms k. Keeps k ms) mss old r.0.messages sink kept (shares r.0.messages r.2.kept)))

pub elements_more : {X : Type 0} (ns : List ℕ) (n : ℕ) (xs : List X) → elements_at (ns ++ n ∷ []) xs ≡ elements_at ns xs ++ element_at n xs
elements_more [] n xs = append-nil (element_at n xs)
elements_more (m ∷ ns) n xs = ap (λ ys. element_at m xs ++ ys) (elements_more ns n xs) ∙ sym (append_assoc (element_at m xs) (elements_at ns xs) (element_at n xs))

-- the messages of the sessions at the first of some places
abbrev KeptUpTo : {A K : Type 0} → (K → List Tree → Type 0) → List ℕ → List (Slot A K) → List K → Type 0
KeptUpTo Keeps places slots sinks =
    (o : Exports) (living : Alive) (ts : List Track) → EachPair (IsTracked Keeps o living) ts slots → AreSinksOf Keeps (track_messages (elements_at places ts)) sinks

pub none_kept : {A K : Type 0} (Keeps : K → List Tree → Type 0) (slots : List (Slot A K)) → KeptUpTo Keeps [] slots []
none_kept Keeps slots o living ts h = tt

pub kept_more : {A K : Type 0} (Keeps : K → List Tree → Type 0) (places : List ℕ) (i : ℕ) (slots : List (Slot A K)) (old new : List K) → i < length places → AddsKept Keeps (get_or places i 0) slots old new → KeptUpTo Keeps (take i places) slots old
    → KeptUpTo Keeps (take (i + 1) places) slots new
kept_more Keeps places i slots old new below adds so_far o living ts h =
    subst (λ xs. AreSinksOf Keeps xs new)
    (sym (ap (λ ns. track_messages (elements_at ns ts)) (take_more places i 0 below) ∙ ap track_messages (elements_more (take i places) (get_or places i 0) ts) ∙ map-append (λ (t : Track). t.messages) (elements_at (take i places) ts) (element_at (get_or places i 0) ts)))
    (adds o living ts (track_messages (elements_at (take i places) ts)) h (so_far o living ts h))

-- the messages of the sessions at some places, as the definitions give them
here_messages : (o : Exports) (items : List HistoryItem) (k n : ℕ) (cs : List (Name × Name)) → track_messages (element_at n (tracks_from o items k cs)) ≡ map (λ (s : Name × Name). messages_from o (absent_session o) (filter (is_own s.0) items)) (element_at n cs)
here_messages o items k zero [] = refl
here_messages o items k (suc n) [] = refl
here_messages o items k zero (c ∷ cs) = refl
here_messages o items k (suc n) (c ∷ cs) = here_messages o items (suc k) n cs

map_after : {X Y Z : Type 0} (f : X → Y) (g : Y → Z) (xs : List X) → map g (map f xs) ≡ map (λ x. g (f x)) xs
map_after f g [] = refl
map_after f g (x ∷ xs) = ap (λ ys. g (f x) ∷ ys) (map_after f g xs)

both_messages : (p : Program) (picks places : List ℕ) → track_messages (elements_at places (tracks_of p picks)) ≡ map (λ (s : Name × Name). messages s.0 p picks) (elements_at places (creations p.commands))
both_messages p picks [] = refl
both_messages p picks (n ∷ ns) =
    map-append (λ (t : Track). t.messages) (element_at n (tracks_of p picks)) (elements_at ns (tracks_of p picks))
    ∙ ap (λ xs. xs ++ track_messages (elements_at ns (tracks_of p picks))) (here_messages (exports_of p) (events p picks) 1 n (creations p.commands))
    ∙ ap (λ xs. map (λ (s : Name × Name). messages s.0 p picks) (element_at n (creations p.commands)) ++ xs) (both_messages p picks ns)
    ∙ sym (map-append (λ (s : Name × Name). messages s.0 p picks) (element_at n (creations p.commands)) (elements_at ns (creations p.commands)))

pub messages_at : (p : Program) (picks places : List ℕ) → track_messages (elements_at places (tracks_of p picks)) ≡ map (λ s. messages s p picks) (names_at p places)
messages_at p picks places = both_messages p picks places ∙ sym (map_after (λ (s : Name × Name). s.0) (λ s. messages s p picks) (elements_at places (creations p.commands)))
