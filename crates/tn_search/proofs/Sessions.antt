-- Sessions of the code that events left in the same state.
use Rattle.std.proofs.Common.{◌≡◌, ◌∙◌, ◌+◌, ◌<◌, ℕ, Bool, true, false, List, [], ◌∷◌, ◌++◌, length, take, get_or, Option, Some, None, IsTrue, refl, sym, ap, subst}
use Rattle.std.specs.Prelude.{is_none, not}
use Rattle.std.specs.Option.{is_some}
use Rattle.std.proofs.lemmas.List.{take_more}
use Rattle.def_term.specs.Tree.{Tree}
use Rattle.def_session.specs.State as definition
use Rattle.def_session.specs.State.{new_session, absent}
use Rattle.def_explore.specs.Lists.{EachOf}
use Rattle.def_explore.specs.Settings.{Settings, settings_in}
use Rattle.tn_session.specs.Sessions.{SessionProcesses, value_in, processes_in, processes_of}
use Rattle.tn_session.specs.declared.session.Session.{Session}
use Rattle.tn_trace.specs.declared.slot.Slot.{Slot}
use Rattle.tn_search.specs.Sessions.{IsSameSession, IsSameSlot}
use Rattle.tn_search.specs.Sinks.{KeepSame}

-- a session of the definitions is its settings and what events change
session_is : (s t : definition.Session) → settings_in s ≡ settings_in t → processes_in s ≡ processes_in t → s ≡ t
session_is s t e f = λ i. record {
  phase = ap (λ (x : Settings). x.phase) e i;
  alive = ap (λ (x : SessionProcesses). x.alive) f i;
  flags = ap (λ (x : SessionProcesses). x.flags) f i;
  new_process_flags = ap (λ (x : Settings). x.new_process_flags) e i;
  functions = ap (λ (x : Settings). x.functions) e i;
  sending = ap (λ (x : Settings). x.sending) e i;
  receiving = ap (λ (x : Settings). x.receiving) e i;
  marks = ap (λ (x : SessionProcesses). x.marks) f i;
}

some_processes : (a b : SessionProcesses) → Some a ≡ Some b → a ≡ b
some_processes a b e = cc

pub both_same : {A : Type 0} (one other : Session A) (b : Bool) → (IsTrue b → processes_of (value_in one) ≡ processes_of (value_in other)) → IsSameSession (Some one) (Some other) b
both_same one other b same says fs living others s t there settings h k =
    session_is s t settings (some_processes (processes_in s) (processes_in t) (sym (ap processes_of h) ∙ same says ∙ ap processes_of k))

pub none_same : (A : Type 0) → IsSameSession {A = A} None None true
none_same A says fs living others s t there settings h k = h ∙ ap (new_session absent) there ∙ sym k

pub not_same : {A : Type 0} (one other : Option (Session A)) → IsSameSession one other false
not_same one other says = absurd (let e : false ≡ true = says in cc)

-- none is there where some isn't
pub none_says : {X : Type 0} (o : Option X) (b : Bool) → is_some o ≡ not b → b ≡ is_none o
none_says o true h = ap not (sym h)
none_says o false h = ap not (sym h)

-- by what both are
pub created_same : {A : Type 0} (first second : Option (Session A)) (one other : Session A) (b : Bool) → first ≡ Some one → second ≡ Some other → (IsTrue b → processes_of (value_in one) ≡ processes_of (value_in other)) → IsSameSession first second b
created_same first second one other b is also same = subst (λ x. IsSameSession x second b) (sym is) (subst (λ x. IsSameSession (Some one) x b) (sym also) (both_same one other b same))

pub absent_same : {A : Type 0} (first second : Option (Session A)) (b : Bool) → first ≡ None → b ≡ is_none second → IsSameSession first second b
absent_same {A} first None b is says = subst (λ x. IsSameSession x None b) (sym is) (subst (IsSameSession {A = A} None None) (sym says) (none_same A))
absent_same first (Some other) b is says = subst (IsSameSession first (Some other)) (sym says) (not_same first (Some other))

pub slot_same : {A K : Type 0} (Keeps : K → List Tree → Type 0) (b : Bool) (one other : Slot A K) → IsSameSession one.session other.session true → KeepSame Keeps b one.kept other.kept true → IsSameSlot Keeps b one other
slot_same Keeps b one other session kept o living others t u there settings h k = record {
  session = session refl o.functions living others t.session u.session there settings h.session k.session;
  kept = kept refl t.messages u.messages h.kept k.kept;
}

-- one more of which it is so
each_last : {X : Type 0} (P : X → Type 0) (xs : List X) (x : X) → EachOf P xs → P x → EachOf P (xs ++ x ∷ [])
each_last P [] x h p = (p, tt)
each_last P (y ∷ xs) x h p = (h.0, each_last P xs x h.1 p)

pub each_more : (P : ℕ → Type 0) (xs : List ℕ) (i : ℕ) → i < length xs → EachOf P (take i xs) → P (get_or xs i 0) → EachOf P (take (i + 1) xs)
each_more P xs i below h p = subst (EachOf P) (sym (take_more xs i 0 below)) (each_last P (take i xs) (get_or xs i 0) h p)
