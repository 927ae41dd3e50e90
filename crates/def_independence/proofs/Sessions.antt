-- An event of a process changes that process's flags, marks and life alone, and depends on them alone, where the settings act on the own process.
use Rattle.std.proofs.Common.{◌≡◌, ℕ, zero, suc, ◌-◌, Bool, true, false, not, ◌||◌, if◌then◌else◌, cond, List, [], ◌∷◌, slice_get, Option, Some, None, refl, ap, sym, ◌∙◌, subst}
use Rattle.std.specs.Prelude.{nat_le, ◌==◌, filter, is_some}
use Rattle.std.specs.Option.{unwrap_or}
use Rattle.std.proofs.Math.ListN.{set}
use Rattle.def_term.specs.Tree.{Tree, pid}
use Rattle.def_term.specs.Names.{Mfa, word}
use Rattle.def_term.specs.Alive.{Alive, with_alive}
use Rattle.def_spec.specs.Flags.{Flag, Flags, no_flags, FlagTable, flags_in, send_flag, receive_flag, call_flag, procs_flag, silent_flag, arity_flag, only, union, without}
use Rattle.def_spec.specs.Expressions.{Effect, gives_message, traces_return, traces_exception, silences, changes, change_flags, flags_by, flags_after}
use Rattle.def_spec.specs.Outcome.{Outcome, no_match, matched, outcome_of}
use Rattle.def_node.specs.Event.{Event, Call, sent, received, called, returned, raised, spawning, spawned, exited, linked, unlinked, getting_linked, getting_unlinked}
use Rattle.def_session.specs.Settings.{FunctionSetting, Setting, off, plain, by, has_among, setting_for}
use Rattle.def_session.specs.State.{MarkKind, Mark, Session, flags_at, marks_at, with_marks, kind_among}
use Rattle.def_session.specs.Messages.{elements_of, process_of, last_message, message_by}
use Rattle.def_session.specs.Session.{effects_of_outcome, evaluated_by, context, is_for_exceptions, where_set, where_marked, effects_of, is_silenced, message_after, all_affected, mark_asked, mark_frame, finish, EventResult, reported_for}
use Rattle.def_independence.specs.OwnEffects.{setting_acts_on_self, functions_act_on_self, session_acts_on_self}
use Rattle.def_independence.proofs.Numbers.{both_true}
use Rattle.def_independence.proofs.Evaluations.{set_alike, IsOwnEffect, AreOwnEffects, after_alike, context_with, OwnOutcome, outcome_same}

-- ---- tables

pub set_twice : {X : Type 0} (xs : List X) (i : ℕ) (a b : X) → set (set xs i a) i b ≡ set xs i b
set_twice [] i a b = refl
set_twice (x ∷ xs) zero a b = refl
set_twice (x ∷ xs) (suc i) a b = ap (λ ys. x ∷ ys) (set_twice xs i a b)

pub set_swap : {X : Type 0} (xs : List X) (i k : ℕ) (a b : X) → (i ≡ k → ⊥) → set (set xs i a) k b ≡ set (set xs k b) i a
set_swap [] i k a b far = refl
set_swap (x ∷ xs) zero zero a b far = absurd (far refl)
set_swap (x ∷ xs) zero (suc k) a b far = refl
set_swap (x ∷ xs) (suc i) zero a b far = refl
set_swap (x ∷ xs) (suc i) (suc k) a b far = ap (λ ys. x ∷ ys) (set_swap xs i k a b (λ e. far (ap suc e)))

pub get_other : {X : Type 0} (xs : List X) (i k : ℕ) (a : X) → (i ≡ k → ⊥) → slice_get (set xs i a) k ≡ slice_get xs k
get_other [] i k a far = refl
get_other (x ∷ xs) zero zero a far = absurd (far refl)
get_other (x ∷ xs) zero (suc k) a far = refl
get_other (x ∷ xs) (suc i) zero a far = refl
get_other (x ∷ xs) (suc i) (suc k) a far = get_other xs i k a (λ e. far (ap suc e))

pub set_same : {X : Type 0} (xs : List X) (i : ℕ) (d : X) → set xs i (unwrap_or (slice_get xs i) d) ≡ xs
set_same [] i d = refl
set_same (x ∷ xs) zero d = refl
set_same (x ∷ xs) (suc i) d = ap (λ ys. x ∷ ys) (set_same xs i d)

set_by : {X : Type 0} (xs ys : List X) (i : ℕ) (d : X) → slice_get xs i ≡ slice_get ys i → set ys i (unwrap_or (slice_get xs i) d) ≡ ys
set_by xs ys i d h = ap (λ o. set ys i (unwrap_or o d)) h ∙ set_same ys i d

-- ---- one process of a session

-- the session with these flags, these marks and this life of the process at a place
abbrev pub touch : ℕ → Session → Flags → List Mark → Bool → Session
touch k s fl ms b = record s { flags = set s.flags k fl; marks = set s.marks k ms; alive = set s.alive k b }

-- both have the same phase and settings, and the same of the process at a place
pub record Like (k : ℕ) (s t : Session) : Type 0 where
  pub phase : s.phase ≡ t.phase
  pub functions : s.functions ≡ t.functions
  pub sending : s.sending ≡ t.sending
  pub receiving : s.receiving ≡ t.receiving
  pub flags : slice_get s.flags k ≡ slice_get t.flags k
  pub marks : slice_get s.marks k ≡ slice_get t.marks k
  pub life : slice_get s.alive k ≡ slice_get t.alive k

pub like_same : (k : ℕ) (s : Session) → Like k s s
like_same k s = record { phase = refl; functions = refl; sending = refl; receiving = refl; flags = refl; marks = refl; life = refl }

pub like_then : (k : ℕ) (s t u : Session) → Like k s t → Like k t u → Like k s u
like_then k s t u h g = record {
  phase = h.phase ∙ g.phase;
  functions = h.functions ∙ g.functions;
  sending = h.sending ∙ g.sending;
  receiving = h.receiving ∙ g.receiving;
  flags = h.flags ∙ g.flags;
  marks = h.marks ∙ g.marks;
  life = h.life ∙ g.life;
}

-- another process is as it was
pub like_touch : (i k : ℕ) (s : Session) (fl : Flags) (ms : List Mark) (b : Bool) → (i ≡ k → ⊥) → Like k s (touch i s fl ms b)
like_touch i k s fl ms b far = record {
  phase = refl;
  functions = refl;
  sending = refl;
  receiving = refl;
  flags = sym (get_other s.flags i k fl far);
  marks = sym (get_other s.marks i k ms far);
  life = sym (get_other s.alive i k b far);
}

pub touch_swap : (i k : ℕ) (s : Session) (fl gl : Flags) (ms ns : List Mark) (b c : Bool) → (i ≡ k → ⊥) → touch k (touch i s fl ms b) gl ns c ≡ touch i (touch k s gl ns c) fl ms b
touch_swap i k s fl gl ms ns b c far = λ j. record s { flags = set_swap s.flags i k fl gl far j; marks = set_swap s.marks i k ms ns far j; alive = set_swap s.alive i k b c far j }

-- what both results are: the sessions with the same of the process at a place, and the same message
pub record Goes (k : ℕ) (s t : Session) (x y : EventResult) : Type 0 where
  pub flags : Flags
  pub marks : List Mark
  pub life : Bool
  pub message : Option Tree
  pub first : x ≡ (touch k s flags marks life, message)
  pub second : y ≡ (touch k t flags marks life, message)

-- the flags, the marks and the life that a process has
abbrev pub flags_of : ℕ → Session → Flags
flags_of k s = unwrap_or (slice_get s.flags k) no_flags

abbrev pub marks_of : ℕ → Session → List Mark
marks_of k s = unwrap_or (slice_get s.marks k) []

abbrev pub life_of : ℕ → Session → Bool
life_of k s = unwrap_or (slice_get s.alive k) false

pub touch_same : (k : ℕ) (s : Session) → touch k s (flags_of k s) (marks_of k s) (life_of k s) ≡ s
touch_same k s = λ i. record s { flags = set_same s.flags k no_flags i; marks = set_same s.marks k [] i; alive = set_same s.alive k false i }

pub touch_by : (k : ℕ) (s t : Session) → Like k s t → touch k t (flags_of k s) (marks_of k s) (life_of k s) ≡ t
touch_by k s t h = λ i. record t { flags = set_by s.flags t.flags k no_flags h.flags i; marks = set_by s.marks t.marks k [] h.marks i; alive = set_by s.alive t.alive k false h.life i }

-- ---- effects

-- the effects, where the event is evaluated, are on the own process
abbrev pub OwnIn : ℕ → Option (List Effect) → Type 0
OwnIn p None = Unit {0}
OwnIn p (Some es) = AreOwnEffects p es

setting_for_own : (ks : List FunctionSetting) (c : Call) → functions_act_on_self ks ≡ true → setting_acts_on_self (setting_for ks c) ≡ true
setting_for_own [] c h = refl
setting_for_own (k ∷ ks) c h = go (has_among k c.mfa c.exported) (k.local || c.named) (setting_for_own ks c (both_true (setting_acts_on_self k.setting) (functions_act_on_self ks) h).1)
  where
    go : (a b : Bool) → setting_acts_on_self (setting_for ks c) ≡ true → setting_acts_on_self (if a then (if b then k.setting else off) else setting_for ks c) ≡ true
    go true true rest = (both_true (setting_acts_on_self k.setting) (functions_act_on_self ks) h).0
    go true false rest = refl
    go false b rest = rest

outcome_own : (p : ℕ) (o : Outcome) → OwnOutcome p o → OwnIn p (effects_of_outcome o)
outcome_own p no_match h = tt
outcome_own p (matched es) h = h

module _ (ml : List Tree) (p : ℕ) (cm : Option Mfa) (al bl : Alive) (fl gl : FlagTable) (lives : slice_get al (p - 100) ≡ slice_get bl (p - 100)) (flagged : slice_get fl (p - 100) ≡ slice_get gl (p - 100)) where
  evaluated_same : (x : Setting) → setting_acts_on_self x ≡ true → (evaluated_by x (context_with ml p cm al fl) ≡ evaluated_by x (context_with ml p cm bl gl)) × OwnIn p (evaluated_by x (context_with ml p cm al fl))
  evaluated_same off h = (refl, tt)
  evaluated_same plain h = (refl, tt)
  evaluated_same (by s) h = (ap effects_of_outcome (outcome_same s.dialect ml p cm al bl fl gl lives flagged s.clauses h).0, outcome_own p (outcome_of s (context_with ml p cm al fl)) (outcome_same s.dialect ml p cm al bl fl gl lives flagged s.clauses h).1)

where_same : (s t : Session) (p : ℕ) (f : Flag) (r q : Option (List Effect)) → slice_get s.flags (p - 100) ≡ slice_get t.flags (p - 100) → r ≡ q → where_set s p f r ≡ where_set t p f q
where_same s t p f r q h e = λ i. if unwrap_or (h i) no_flags f then e i else None

where_own : (s : Session) (p : ℕ) (f : Flag) (r : Option (List Effect)) → OwnIn p r → OwnIn p (where_set s p f r)
where_own s p f r own = go (flags_at s p f)
  where
    go : (b : Bool) → OwnIn p (if b then r else None)
    go true = own
    go false = tt

marked_own : (s : Session) (p : ℕ) (m : Bool) → OwnIn p (where_marked s p m)
marked_own s p true = where_own s p call_flag (Some []) tt
marked_own s p false = tt

effects_same : (e : Event) (s t : Session) → Like (process_of e - 100) s t → session_acts_on_self s ≡ true → (effects_of s e ≡ effects_of t e) × OwnIn (process_of e) (effects_of s e)
effects_same (sent p x to alive) s t h acts =
    let parts : (setting_acts_on_self s.sending ≡ true) × (setting_acts_on_self s.receiving ≡ true) = both_true _ _ (both_true _ _ acts).1 in
    let ts : List Tree = pid to ∷ x ∷ [] in
    let same : (evaluated_by s.sending (context s p ts None) ≡ evaluated_by s.sending (context t p ts None)) × OwnIn p (evaluated_by s.sending (context s p ts None)) =
    evaluated_same ts p None s.alive t.alive s.flags t.flags h.life h.flags s.sending parts.0 in
    (where_same s t p send_flag _ _ h.flags (same.0 ∙ ap (λ x. evaluated_by x (context t p ts None)) h.sending), where_own s p send_flag _ same.1)
effects_same (received p sender x) s t h acts =
    let parts : (setting_acts_on_self s.sending ≡ true) × (setting_acts_on_self s.receiving ≡ true) = both_true _ _ (both_true _ _ acts).1 in
    let ts : List Tree = word "nonode@nohost" ∷ pid sender ∷ x ∷ [] in
    let same : (evaluated_by s.receiving (context s p ts None) ≡ evaluated_by s.receiving (context t p ts None)) × OwnIn p (evaluated_by s.receiving (context s p ts None)) =
    evaluated_same ts p None s.alive t.alive s.flags t.flags h.life h.flags s.receiving parts.1 in
    (where_same s t p receive_flag _ _ h.flags (same.0 ∙ ap (λ x. evaluated_by x (context t p ts None)) h.receiving), where_own s p receive_flag _ same.1)
effects_same (called p c) s t h acts =
    let functions : functions_act_on_self s.functions ≡ true = (both_true _ _ acts).0 in
    let same : (evaluated_by (setting_for s.functions c) (context s p c.args c.caller) ≡ evaluated_by (setting_for s.functions c) (context t p c.args c.caller)) × OwnIn p (evaluated_by (setting_for s.functions c) (context s p c.args c.caller)) =
    evaluated_same c.args p c.caller s.alive t.alive s.flags t.flags h.life h.flags (setting_for s.functions c) (setting_for_own s.functions c functions) in
    (where_same s t p call_flag _ _ h.flags (same.0 ∙ ap (λ (ks : List FunctionSetting). evaluated_by (setting_for ks c) (context t p c.args c.caller)) h.functions), where_own s p call_flag _ same.1)
effects_same (returned p f v depth) s t h acts = (
  λ i. if is_some (kind_among (unwrap_or (h.marks i) []) depth) then (if unwrap_or (h.flags i) no_flags call_flag then Some [] else None) else None,
  marked_own s p (is_some (kind_among (marks_at s p) depth)),
)
effects_same (raised p f c v depth) s t h acts = (
  λ i. if is_for_exceptions (kind_among (unwrap_or (h.marks i) []) depth) then (if unwrap_or (h.flags i) no_flags call_flag then Some [] else None) else None,
  marked_own s p (is_for_exceptions (kind_among (marks_at s p) depth)),
)
effects_same (spawning p child f args) s t h acts = (where_same s t p procs_flag _ _ h.flags refl, where_own s p procs_flag (Some []) tt)
effects_same (spawned p parent f args) s t h acts = (where_same s t p procs_flag _ _ h.flags refl, where_own s p procs_flag (Some []) tt)
effects_same (exited p r) s t h acts = (where_same s t p procs_flag _ _ h.flags refl, where_own s p procs_flag (Some []) tt)
effects_same (linked p q) s t h acts = (where_same s t p procs_flag _ _ h.flags refl, where_own s p procs_flag (Some []) tt)
effects_same (unlinked p q) s t h acts = (where_same s t p procs_flag _ _ h.flags refl, where_own s p procs_flag (Some []) tt)
effects_same (getting_linked p q) s t h acts = (where_same s t p procs_flag _ _ h.flags refl, where_own s p procs_flag (Some []) tt)
effects_same (getting_unlinked p q) s t h acts = (where_same s t p procs_flag _ _ h.flags refl, where_own s p procs_flag (Some []) tt)

-- ---- flags after effects on the own process

module _ (p : ℕ) where
  by_set : (e : Effect) → IsOwnEffect p e → (t : FlagTable) → (f : Flags) × (flags_by p t e ≡ set t (p - 100) f)
  by_set (gives_message x) own t = (unwrap_or (slice_get t (p - 100)) no_flags, sym (set_same t (p - 100) no_flags))
  by_set traces_return own t = (unwrap_or (slice_get t (p - 100)) no_flags, sym (set_same t (p - 100) no_flags))
  by_set traces_exception own t = (unwrap_or (slice_get t (p - 100)) no_flags, sym (set_same t (p - 100) no_flags))
  by_set (silences b) own t = (if b then union (flags_in t p) (only silent_flag) else without (flags_in t p) (only silent_flag), refl)
  by_set (changes n less more) own t = (change_flags (flags_in t n) less more, ap (λ m. set t (m - 100) (change_flags (flags_in t n) less more)) own)

  after_set : (es : List Effect) → AreOwnEffects p es → (t : FlagTable) → flags_after p t es ≡ set t (p - 100) (unwrap_or (slice_get (flags_after p t es) (p - 100)) no_flags)
  after_set [] own t = sym (set_same t (p - 100) no_flags)
  after_set (e ∷ es) own t =
      let one : (f : Flags) × (flags_by p t e ≡ set t (p - 100) f) = by_set e own.0 t in
      let last : Flags = unwrap_or (slice_get (flags_after p (flags_by p t e) es) (p - 100)) no_flags in
      after_set es own.1 (flags_by p t e) ∙ ap (λ (u : FlagTable). set u (p - 100) last) one.1 ∙ set_twice t (p - 100) one.0 last

  after_both : (es : List Effect) → AreOwnEffects p es → (t u : FlagTable) → slice_get t (p - 100) ≡ slice_get u (p - 100)
      → flags_after p u es ≡ set u (p - 100) (unwrap_or (slice_get (flags_after p t es) (p - 100)) no_flags)
  after_both es own t u h = after_set es own u ∙ ap (λ o. set u (p - 100) (unwrap_or o no_flags)) (sym (after_alike p es own t u h))

-- ---- marks, and the end of a process

module _ (p : ℕ) (s t : Session) (like : Like (p - 100) s t) where
  remark : (g : List Mark → List Mark) (fl : Flags) (ms : List Mark) (b : Bool) (m : Option Tree)
      → Goes (p - 100) s t (with_marks (touch (p - 100) s fl ms b) p (g (marks_at (touch (p - 100) s fl ms b) p)), m) (with_marks (touch (p - 100) t fl ms b) p (g (marks_at (touch (p - 100) t fl ms b) p)), m)
  remark g fl ms b m =
      let k : ℕ = p - 100 in
      let now : List Mark = g (unwrap_or (slice_get (set s.marks k ms) k) []) in
      let cell : slice_get (set s.marks k ms) k ≡ slice_get (set t.marks k ms) k = set_alike s.marks t.marks k ms ms like.marks refl in
      let other : set (set t.marks k ms) k (g (unwrap_or (slice_get (set t.marks k ms) k) [])) ≡ set t.marks k now =
      ap (λ o. set (set t.marks k ms) k (g (unwrap_or o []))) (sym cell) ∙ set_twice t.marks k ms now in
      record {
        flags = fl;
        marks = now;
        life = b;
        message = m;
        first = λ i. (record (touch k s fl ms b) { marks = set_twice s.marks k ms now i }, m);
        second = λ i. (record (touch k t fl ms b) { marks = other i }, m);
      }

  ended : nat_le 100 p ≡ true → (r : Tree) (fl : Flags) (ms : List Mark) (b : Bool) (es : List Effect) (m : Option Tree)
      → Goes (p - 100) s t (finish (touch (p - 100) s fl ms b) (exited p r) es, m) (finish (touch (p - 100) t fl ms b) (exited p r) es, m)
  ended big r fl ms b es m =
      let k : ℕ = p - 100 in
      let dead : (al : Alive) → with_alive (set al k b) p false ≡ set al k false = λ al. ap (λ c. cond c (set (set al k b) k false) (set al k b)) big ∙ set_twice al k b false in
      record {
        flags = no_flags;
        marks = [];
        life = false;
        message = m;
        first = λ i. (record s { flags = set_twice s.flags k fl no_flags i; marks = set_twice s.marks k ms [] i; alive = dead s.alive i }, m);
        second = λ i. (record t { flags = set_twice t.flags k fl no_flags i; marks = set_twice t.marks k ms [] i; alive = dead t.alive i }, m);
      }

  asked : (c : Call) (o : Option MarkKind) (fl : Flags) (ms : List Mark) (b : Bool) (m : Option Tree)
      → Goes (p - 100) s t (mark_frame (touch (p - 100) s fl ms b) p c.depth o, m) (mark_frame (touch (p - 100) t fl ms b) p c.depth o, m)
  asked c None fl ms b m = record { flags = fl; marks = ms; life = b; message = m; first = refl; second = refl }
  asked c (Some k) fl ms b m = remark (λ ns. record { depth = c.depth; kind = k } ∷ ns) fl ms b m

finish_goes : (e : Event) → nat_le 100 (process_of e) ≡ true → (s t : Session) → Like (process_of e - 100) s t → (fl : Flags) (ms : List Mark) (b : Bool) (es : List Effect) (m : Option Tree)
    → Goes (process_of e - 100) s t (finish (touch (process_of e - 100) s fl ms b) e es, m) (finish (touch (process_of e - 100) t fl ms b) e es, m)
finish_goes (called p c) big s t like fl ms b es m = asked p s t like c (mark_asked es) fl ms b m
finish_goes (returned p f v depth) big s t like fl ms b es m = remark p s t like (filter (λ k. not (k.depth == depth))) fl ms b m
finish_goes (raised p f c v depth) big s t like fl ms b es m = remark p s t like (filter (λ k. not (k.depth == depth))) fl ms b m
finish_goes (exited p r) big s t like fl ms b es m = ended p s t like big r fl ms b es m
finish_goes (sent p x to alive) big s t like fl ms b es m = record { flags = fl; marks = ms; life = b; message = m; first = refl; second = refl }
finish_goes (received p sender x) big s t like fl ms b es m = record { flags = fl; marks = ms; life = b; message = m; first = refl; second = refl }
finish_goes (spawning p child f args) big s t like fl ms b es m = record { flags = fl; marks = ms; life = b; message = m; first = refl; second = refl }
finish_goes (spawned p parent f args) big s t like fl ms b es m = record { flags = fl; marks = ms; life = b; message = m; first = refl; second = refl }
finish_goes (linked p q) big s t like fl ms b es m = record { flags = fl; marks = ms; life = b; message = m; first = refl; second = refl }
finish_goes (unlinked p q) big s t like fl ms b es m = record { flags = fl; marks = ms; life = b; message = m; first = refl; second = refl }
finish_goes (getting_linked p q) big s t like fl ms b es m = record { flags = fl; marks = ms; life = b; message = m; first = refl; second = refl }
finish_goes (getting_unlinked p q) big s t like fl ms b es m = record { flags = fl; marks = ms; life = b; message = m; first = refl; second = refl }

-- ---- the message

silenced_same : (e : Event) (u v : Session) → flags_at u (process_of e) ≡ flags_at v (process_of e) → is_silenced u e ≡ is_silenced v e
silenced_same (called p c) u v h = ap (λ (f : Flags). f silent_flag) h
silenced_same (returned p f t depth) u v h = ap (λ (f : Flags). f silent_flag) h
silenced_same (raised p f c t depth) u v h = ap (λ (f : Flags). f silent_flag) h
silenced_same (sent p x to alive) u v h = refl
silenced_same (received p sender x) u v h = refl
silenced_same (spawning p child f args) u v h = refl
silenced_same (spawned p parent f args) u v h = refl
silenced_same (exited p r) u v h = refl
silenced_same (linked p q) u v h = refl
silenced_same (unlinked p q) u v h = refl
silenced_same (getting_linked p q) u v h = refl
silenced_same (getting_unlinked p q) u v h = refl

message_same : (e : Event) (es : List Effect) (u v : Session) → flags_at u (process_of e) ≡ flags_at v (process_of e) → message_after u e es ≡ message_after v e es
message_same e es u v h = λ i. if silenced_same e u v h i then None else message_by (last_message es) (elements_of (h i arity_flag) e)

-- ---- one event, once it is inherited

module _ (e : Event) (big : nat_le 100 (process_of e) ≡ true) (s t : Session) (like : Like (process_of e - 100) s t) where
  abbrev Place : ℕ
  Place = process_of e - 100

  reported_goes : (r : Option (List Effect)) → OwnIn (process_of e) r → Goes Place s t (reported_for s e r) (reported_for t e r)
  reported_goes None own =
      subst (λ x. Goes Place s t (finish x e [], None) (finish t e [], None)) (touch_same Place s)
      (subst (λ y. Goes Place s t (finish (touch Place s (flags_of Place s) (marks_of Place s) (life_of Place s)) e [], None) (finish y e [], None)) (touch_by Place s t like)
      (finish_goes e big s t like (flags_of Place s) (marks_of Place s) (life_of Place s) [] None))
  reported_goes (Some es) own =
      let p : ℕ = process_of e in
      let s1 : Session = all_affected p s es in
      let t1 : Session = all_affected p t es in
      let now : Flags = unwrap_or (slice_get (flags_after p s.flags es) Place) no_flags in
      let u : Session = touch Place s now (marks_of Place s) (life_of Place s) in
      let v : Session = touch Place t now (marks_of Place s) (life_of Place s) in
      let from : u ≡ s1 = λ i. record s { flags = sym (after_set p es own s.flags) i; marks = set_same s.marks Place [] i; alive = set_same s.alive Place false i } in
      let to : v ≡ t1 = λ i. record t { flags = sym (after_both p es own s.flags t.flags like.flags) i; marks = set_by s.marks t.marks Place [] like.marks i; alive = set_by s.alive t.alive Place false like.life i } in
      let m : Option Tree = message_after s1 e es in
      let says : message_after s1 e es ≡ message_after t1 e es = message_same e es s1 t1 (ap (λ o. unwrap_or o no_flags) (after_alike p es own s.flags t.flags like.flags)) in
      subst (λ x. Goes Place s t (finish x e es, m) (finish t1 e es, message_after t1 e es)) from
      (subst (λ y. Goes Place s t (finish u e es, m) y) (λ i. let r : EventResult = (finish (to i) e es, says i) in r)
      (finish_goes e big s t like now (marks_of Place s) (life_of Place s) es m))

  -- it goes the same way from both
  pub effects_go : session_acts_on_self s ≡ true → Goes Place s t (reported_for s e (effects_of s e)) (reported_for t e (effects_of t e))
  effects_go acts =
      let same : (effects_of s e ≡ effects_of t e) × OwnIn (process_of e) (effects_of s e) = effects_same e s t like acts in
      subst (λ r. Goes Place s t (reported_for s e (effects_of s e)) (reported_for t e r)) same.0 (reported_goes (effects_of s e) same.1)
