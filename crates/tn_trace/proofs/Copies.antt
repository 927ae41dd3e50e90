-- Copies side by side with what they are of.
use Rattle.std.proofs.Common.{◌≡◌, ◌∙◌, ℕ, Bool, ◌+◌, ◌<◌, List, [], ◌∷◌, ◌++◌, length, take, get_or, Option, Some, None, sym, ap, subst}
use Rattle.std.proofs.lemmas.List.{take_more}
use Rattle.std.specs.Option.{option_map}
use Rattle.def_term.specs.Alive.{Alive}
use Rattle.def_term.specs.Names.{Mfa}
use Rattle.def_term.specs.Tree.{Tree}
use Rattle.def_script.specs.Exports.{Exports, exports_of}
use Rattle.def_session.specs.State as definition
use Rattle.def_run.specs.Listing.{replies as defined}
use Rattle.tn_term.specs.Views.{alive_of}
use Rattle.tn_session.specs.Sessions.{value_in}
use Rattle.tn_session.specs.declared.session.Session.{Session}
use Rattle.tn_trace.specs.Tracks.{Track, tracks_of}
use Rattle.tn_trace.specs.Slots.{IsSession, IsTracked, EachPair}
use Rattle.tn_trace.specs.Shares.{KeepsAsMuch, IsSlotCopy, IsRecorderCopy}
use Rattle.tn_trace.specs.declared.slot.Slot.{Slot}
use Rattle.tn_trace.specs.declared.recorder.Recorder.{Recorder}

-- the same session, where it is created
session_again : {A : Type 0} (fs : List (Mfa × Bool)) (living : Alive) (s : definition.Session) (old new : Option (Session A)) → option_map value_in new ≡ option_map value_in old → IsSession fs living s old → IsSession fs living s new
session_again fs living s None None same h = h
session_again fs living s None (Some other) same h = cc
session_again fs living s (Some one) None same h = cc
session_again fs living s (Some one) (Some other) same h = some_is same ∙ h
  where
    some_is : Some (value_in other) ≡ Some (value_in one) → value_in other ≡ value_in one
    some_is e = cc

pub slot_again : {A K : Type 0} (Keeps : K → List Tree → Type 0) (old new : Slot A K) → new.number ≡ old.number → new.name ≡ old.name → option_map value_in new.session ≡ option_map value_in old.session → KeepsAsMuch Keeps old.kept new.kept → IsSlotCopy Keeps old new
slot_again Keeps old new number name session kept = λ o living t h. record {
  number = number ∙ h.number;
  name = name ∙ h.name;
  session = session_again o.functions living t.session old.session new.session session h.session;
  kept = kept t.messages h.kept;
}

-- one more of each
pair_last : {T S : Type 0} (P : T → S → Type 0) (ts : List T) (ss : List S) (t : T) (s : S) → EachPair P ts ss → P t s → EachPair P (ts ++ t ∷ []) (ss ++ s ∷ [])
pair_last P [] [] t s h p = (p, tt)
pair_last P [] (x ∷ ss) t s h p = absurd h
pair_last P (y ∷ ts) [] t s h p = absurd h
pair_last P (y ∷ ts) (x ∷ ss) t s h p = (h.0, pair_last P ts ss t s h.1 p)

pub pair_more : {S : Type 0} (P : S → S → Type 0) (ts ss new : List S) (i : ℕ) (t s : S) → i < length ts → t ≡ get_or ts i t → new ≡ ss ++ s ∷ [] → EachPair P (take i ts) ss → P t s → EachPair P (take (i + 1) ts) new
pair_more P ts ss new i t s below is longer h p =
    let more : take (i + 1) ts ≡ take i ts ++ t ∷ [] = take_more ts i t below ∙ ap (λ x. take i ts ++ x ∷ []) (sym is) in
    subst (λ xs. EachPair P xs new) (sym more) (subst (EachPair P (take i ts ++ t ∷ [])) (sym longer) (pair_last P (take i ts) ss t s h p))

-- what is so of each is so of each copy
pair_again : {A K : Type 0} (Keeps : K → List Tree → Type 0) (o : Exports) (living : Alive) (ts : List Track) (ss us : List (Slot A K)) → EachPair (IsTracked Keeps o living) ts ss → EachPair (IsSlotCopy Keeps) ss us → EachPair (IsTracked Keeps o living) ts us
pair_again Keeps o living [] [] [] h c = tt
pair_again Keeps o living [] [] (u ∷ us) h c = absurd c
pair_again Keeps o living [] (s ∷ ss) us h c = absurd h
pair_again Keeps o living (t ∷ ts) [] us h c = absurd h
pair_again Keeps o living (t ∷ ts) (s ∷ ss) [] h c = absurd c
pair_again Keeps o living (t ∷ ts) (s ∷ ss) (u ∷ us) h c = (c.0 o living t h.0, pair_again Keeps o living ts ss us h.1 c.1)

pub recorder_again : {A K : Type 0} (Keeps : K → List Tree → Type 0) (old new : Recorder A K) → new.living ≡ old.living → EachPair (IsSlotCopy Keeps) old.slots.items new.slots.items → KeepsAsMuch Keeps old.replies new.replies → IsRecorderCopy Keeps old new
recorder_again Keeps old new living slots replies = λ p picks h. record {
  sessions = subst (λ l. EachPair (IsTracked Keeps (exports_of p) (alive_of l)) (tracks_of p picks) new.slots.items) (sym living)
      (pair_again Keeps (exports_of p) (alive_of old.living) (tracks_of p picks) old.slots.items new.slots.items h.sessions slots);
  replied = replies (defined p picks) h.replied;
}
