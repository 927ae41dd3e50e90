-- The index after a new command.
use Rattle.std.proofs.Common.{◌≡◌, ◌∙◌, ◌+◌, ◌<◌, ◌++◌, ℕ, zero, suc, subst, Bool, true, false, if◌then◌else◌, List, [], ◌∷◌, length, get_or, set, take, drop, map, reverse, Option, Some, None, refl, sym, ap}
use Rattle.std.specs.Prelude.{slice_get}
use Rattle.std.specs.List.{All}
use Rattle.std.proofs.lemmas.List.{reverse-append}
use Rattle.std.proofs.lemmas.List.Edits.{map_over_more}
use Rattle.std.proofs.lemmas.Option.{none-some, slice_get_past, slice_get_read}
use Rattle.std.specs.Option.{option_map}
use Rattle.std.specs.Slice.{IsItemAt}
use Rattle.std.specs.Borrow.{Bor}
use Rattle.std.proofs.lemmas.List.Elements.{All-map, All-weaker}
use Rattle.tn_term.specs.Views.{mfa_seen}
use Rattle.def_term.specs.Names.{Mfa}
use Rattle.tn_index.specs.declared.function_setting.FunctionSetting.{FunctionSetting}
use Rattle.tn_index.specs.declared.entry.Entry.{Entry}
use Rattle.tn_index.specs.Views.{covers}
use Rattle.tn_index.specs.Newest.{newest_setting}
use Rattle.tn_index.specs.Entries.{IsEntryOf, IsUnset, IsAtPlace, IsRight, renew}

-- ---- one more command

-- an element stays where it is when one is added at the end
pub stays : {X : Type 0} (xs : List X) (y x : X) (i : ℕ) → slice_get xs i ≡ Some x → slice_get (xs ++ y ∷ []) i ≡ Some x
stays [] y x i e = absurd (none-some x e)
stays (z ∷ xs) y x zero e = e
stays (z ∷ xs) y x (suc i) e = stays xs y x i e

-- the one at the end is found there
pub at_end : {X : Type 0} (xs : List X) (y : X) → slice_get (xs ++ y ∷ []) (length xs) ≡ Some y
at_end [] y = refl
at_end (z ∷ xs) y = at_end xs y

-- the newest is looked at first
pub newest_first : {S A : Type 0} (ks : List (FunctionSetting S A)) (k : FunctionSetting S A) (f : Mfa) (x : Bool)
    → newest_setting (reverse (ks ++ k ∷ [])) f x ≡ (if covers k f x then Some k else newest_setting (reverse ks) f x)
newest_first {S} {A} ks k f x = ap (λ (js : List (FunctionSetting S A)). newest_setting js f x) (reverse-append ks (k ∷ []))

-- what a look-up by place finds
pub looked_up : {X : Type 0} (xs : List X) (i : ℕ) (r : Option (Bor X)) → IsItemAt xs i r → option_map (λ x. x.now) r ≡ slice_get xs i
looked_up xs i None h = sym (slice_get_past xs i h.3)
looked_up xs i (Some x) h = sym (slice_get_read xs (length xs) i x.now refl h.3.0 h.1)

-- ---- an entry

older_stays : {S A : Type 0} (ks : List (FunctionSetting S A)) (k : FunctionSetting S A) (found : Option (FunctionSetting S A)) (place : Option ℕ)
    → IsAtPlace ks found place → IsAtPlace (ks ++ k ∷ []) found place
older_stays ks k found None h = h
older_stays ks k found (Some i) h = (h.0, h.1, stays ks k h.0 i h.2)

right_by : {S A : Type 0} (ks : List (FunctionSetting S A)) (k : FunctionSetting S A) (e : Entry A) (b : Bool) → b ≡ covers k (mfa_seen e.function) e.exported → IsRight ks e
    → IsRight (ks ++ k ∷ []) (if b then record e { newest = Some (length ks) } else e)
right_by {S} {A} ks k e true is h =
    (k, newest_first ks k (mfa_seen e.function) e.exported ∙ ap (λ (b : Bool). if b then Some k else newest_setting (reverse ks) (mfa_seen e.function) e.exported) (sym is), at_end ks k)
right_by {S} {A} ks k e false is h =
    let same = newest_first ks k (mfa_seen e.function) e.exported ∙ ap (λ (b : Bool). if b then Some k else newest_setting (reverse ks) (mfa_seen e.function) e.exported) (sym is) in
    subst (λ found. IsAtPlace (ks ++ k ∷ []) found e.newest) (sym same) (older_stays ks k _ e.newest h)

pub right_again : {S A : Type 0} (ks : List (FunctionSetting S A)) (k : FunctionSetting S A) (e : Entry A) → IsRight ks e → IsRight (ks ++ k ∷ []) (renew k (length ks) e)
right_again ks k e h = right_by ks k e (covers k (mfa_seen e.function) e.exported) refl h

-- all entries know the newest after a command
pub all_right_again : {S A : Type 0} (ks : List (FunctionSetting S A)) (k : FunctionSetting S A) (es : List (Entry A)) → All (IsRight ks) es
    → All (IsRight (ks ++ k ∷ [])) (map (renew k (length ks)) es)
all_right_again ks k es h =
    All-map (IsRight (ks ++ k ∷ [])) (renew k (length ks)) es (All-weaker (IsRight ks) (λ e. IsRight (ks ++ k ∷ []) (renew k (length ks) e)) (right_again ks k) es h)

-- ---- no command

unset_is_right : {S A : Type 0} (ks : List (FunctionSetting S A)) → ks ≡ [] → (e : Entry A) → IsUnset e → IsRight ks e
unset_is_right {S} {A} ks none e u =
    subst (IsAtPlace ks (newest_setting (reverse ks) (mfa_seen e.function) e.exported)) (sym u)
    (ap (λ (js : List (FunctionSetting S A)). newest_setting (reverse js) (mfa_seen e.function) e.exported) none)

-- entries that none has set are right where there is none
pub unset_right : {S A : Type 0} (ks : List (FunctionSetting S A)) (es : List (Entry A)) → ks ≡ [] → All IsUnset es → All (IsRight ks) es
unset_right {S} {A} ks es none h = All-weaker IsUnset (IsRight ks) (unset_is_right ks none) es h

-- ---- what an entry finds

-- the newest at the entry's place
pub at_its_place : {S A : Type 0} (ks : List (FunctionSetting S A)) (e : Entry A) (f : Mfa) (x : Bool) (i : ℕ) → IsRight ks e → IsEntryOf f x e → e.newest ≡ Some i
    → slice_get ks i ≡ newest_setting (reverse ks) f x
at_its_place {S} {A} ks e f x i right its is =
    let h : IsAtPlace ks (newest_setting (reverse ks) (mfa_seen e.function) e.exported) (Some i) = subst (IsAtPlace ks (newest_setting (reverse ks) (mfa_seen e.function) e.exported)) is right in
    h.2 ∙ sym h.1 ∙ (λ j. newest_setting (reverse ks) (its.0 j) (its.1 j))

-- none where it has no place
pub without_place : {S A : Type 0} (ks : List (FunctionSetting S A)) (e : Entry A) (f : Mfa) (x : Bool) → IsRight ks e → IsEntryOf f x e → e.newest ≡ None
    → None ≡ newest_setting (reverse ks) f x
without_place {S} {A} ks e f x right its is =
    let h : IsAtPlace ks (newest_setting (reverse ks) (mfa_seen e.function) e.exported) None = subst (IsAtPlace ks (newest_setting (reverse ks) (mfa_seen e.function) e.exported)) is right in
    sym h ∙ (λ j. newest_setting (reverse ks) (its.0 j) (its.1 j))

-- ---- entry by entry

-- one more entry
pub one_more_renewed : {S A : Type 0} (k : FunctionSetting S A) (place : ℕ) (xs ys new : List (Entry A)) (i : ℕ) (x : Entry A) (b : Bool) → i < length xs
    → ys ≡ map (renew k place) (take i xs) ++ drop i xs → x ≡ get_or ys i x → b ≡ covers k (mfa_seen x.function) x.exported
    → new ≡ set ys i (if b then record x { newest = Some place } else x) → new ≡ map (renew k place) (take (i + 1) xs) ++ drop (i + 1) xs
one_more_renewed {S} {A} k place xs ys new i x b below so_far at is same =
    same ∙ ap (λ (b : Bool). set ys i (if b then record x { newest = Some place } else x)) is ∙ map_over_more (renew k place) xs ys i x below so_far at
