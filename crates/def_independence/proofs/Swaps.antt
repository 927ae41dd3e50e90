-- Events of a process, and events apart from it: whichever come first, both lead to the same session, and show the same of each process.
use Rattle.std.proofs.Common.{◌≡◌, ℕ, Bool, true, false, cond, List, [], ◌∷◌, ◌++◌, Option, Some, None, refl, ap, sym, ◌∙◌, subst, append_assoc, append-nil}
use Rattle.std.specs.Prelude.{nat_le, ◌==◌, filter, option_to_list, if◌then◌else◌}
use Rattle.def_term.specs.Tree.{Tree, pid, tuple, of_elements}
use Rattle.def_term.specs.Order.{same}
use Rattle.def_term.specs.Names.{word}
use Rattle.def_spec.specs.Flags.{arity_flag}
use Rattle.def_spec.specs.Expressions.{Effect}
use Rattle.def_node.specs.Event.{Event, sent, received, called, returned, raised, spawning, spawned, exited, linked, unlinked, getting_linked, getting_unlinked}
use Rattle.def_session.specs.State.{Phase, absent, live, destroyed, Session, flags_at}
use Rattle.def_session.specs.Messages.{elements_of, process_of, last_message, message_by, followed_by}
use Rattle.def_session.specs.Session.{inherit, effects_of, is_silenced, message_after, all_affected, EventResult, reported_for, reported_in, event_reported}
use Rattle.def_explore.specs.Lists.{EachOf}
use Rattle.def_explore.specs.Rests.{is_of_process, each_process}
use Rattle.def_independence.proofs.Numbers.{same_if, other_if, not_same}
use Rattle.def_independence.proofs.Worlds.{IsApart}
use Rattle.def_independence.proofs.Events.{IsOwn, Holds, deaf, Both, both, apart_holds}

-- ---- several events

-- the session after them
abbrev pub ran : Session → List Event → Session
ran s [] = s
ran s (e ∷ es) = ran (event_reported s e).0 es

-- its messages of them
abbrev pub told : Session → List Event → List Tree
told s [] = []
told s (e ∷ es) = option_to_list (event_reported s e).1 ++ told (event_reported s e).0 es

pub ran_both : (s : Session) (es ds : List Event) → ran s (es ++ ds) ≡ ran (ran s es) ds
ran_both s [] ds = refl
ran_both s (e ∷ es) ds = ran_both (event_reported s e).0 es ds

pub told_both : (s : Session) (es ds : List Event) → told s (es ++ ds) ≡ told s es ++ told (ran s es) ds
told_both s [] ds = refl
told_both s (e ∷ es) ds = ap (λ ms. option_to_list (event_reported s e).1 ++ ms) (told_both (event_reported s e).0 es ds) ∙ sym (append_assoc (option_to_list (event_reported s e).1) (told (event_reported s e).0 es) (told (ran s (e ∷ es)) ds))

-- the conditions hold before the events, and after each of them
abbrev pub Calm : ℕ → Session → List Event → Type 0
Calm n s [] = Holds n s
Calm n s (e ∷ es) = Holds n s × Calm n (event_reported s e).0 es

pub calm_first : (n : ℕ) (s : Session) (es : List Event) → Calm n s es → Holds n s
calm_first n s [] h = h
calm_first n s (e ∷ es) h = h.0

-- whichever come first
pub record Crossed (n : ℕ) (s : Session) (es ds : List Event) : Type 0 where
  pub state : ran (ran s es) ds ≡ ran (ran s ds) es
  pub own : told s es ≡ told (ran s ds) es
  pub other : told s ds ≡ told (ran s es) ds
  pub calm : Calm n (ran s ds) es

module _ (n : ℕ) (big : nat_le 100 n ≡ true) where
  one_apart : (es : List Event) → EachOf (IsOwn n) es → (s : Session) → Calm n s es → (d : Event) → IsApart n d → Crossed n s es (d ∷ [])
  one_apart [] own s calm d apart = record { state = refl; own = refl; other = refl; calm = apart_holds n big s calm d apart }
  one_apart (e ∷ es) own s calm d apart =
      let t : Session = (event_reported s e).0 in
      let pair : Both s e d = both n big s calm.0 e d own.0 (calm_first n t es calm.1).1 apart in
      let rest : Crossed n t es (d ∷ []) = one_apart es own.1 t calm.1 d apart in
      let own_rest : told t es ≡ told (event_reported (event_reported s d).0 e).0 es = rest.own ∙ ap (λ z. told z es) pair.state in
      record {
        state = rest.state ∙ ap (λ z. ran z es) pair.state;
        own = λ i. option_to_list (pair.own i) ++ own_rest i;
        other = ap (λ o. option_to_list o ++ []) pair.other ∙ rest.other;
        calm = (apart_holds n big s calm.0 d apart, subst (λ z. Calm n z es) pair.state rest.calm);
      }

  pub all_apart : (ds : List Event) → EachOf (IsApart n) ds → (es : List Event) → EachOf (IsOwn n) es → (s : Session) → Calm n s es → Crossed n s es ds
  all_apart [] apart es own s calm = record { state = refl; own = refl; other = refl; calm = calm }
  all_apart (d ∷ ds) apart es own s calm =
      let t : Session = (event_reported s d).0 in
      let one : Crossed n s es (d ∷ []) = one_apart es own s calm d apart.0 in
      let rest : Crossed n t es ds = all_apart ds apart.1 es own t one.calm in
      record {
        state = ap (λ z. ran z ds) one.state ∙ rest.state;
        own = one.own ∙ rest.own;
        other =
            ap (λ ms. option_to_list (event_reported s d).1 ++ ms) (rest.other ∙ ap (λ z. told z ds) (sym one.state))
            ∙ ap (λ ms. ms ++ told (event_reported (ran s es) d).0 ds) (sym (append-nil (option_to_list (event_reported s d).1)) ∙ one.other ∙ append-nil (option_to_list (event_reported (ran s es) d).1));
        calm = rest.calm;
      }

-- ---- the process of a message

-- the message, where there is one, is of this process alone
abbrev About : ℕ → Option Tree → Type 0
About p None = Unit {0}
About p (Some m) = (x : ℕ) → is_of_process x m ≡ (p == x)

elements_begin : (short : Bool) (e : Event) → (ts : List Tree) × (elements_of short e ≡ word "trace" ∷ pid (process_of e) ∷ ts)
elements_begin short (sent p x to true) = (_, refl)
elements_begin short (sent p x to false) = (_, refl)
elements_begin short (received p sender x) = (_, refl)
elements_begin short (called p c) = (_, refl)
elements_begin short (returned p f v depth) = (_, refl)
elements_begin short (raised p f c v depth) = (_, refl)
elements_begin short (spawning p child f args) = (_, refl)
elements_begin short (spawned p parent f args) = (_, refl)
elements_begin short (exited p r) = (_, refl)
elements_begin short (linked p q) = (_, refl)
elements_begin short (unlinked p q) = (_, refl)
elements_begin short (getting_linked p q) = (_, refl)
elements_begin short (getting_unlinked p q) = (_, refl)

by_about : (o : Option Tree) (p : ℕ) (ts : List Tree) → About p (message_by o (word "trace" ∷ pid p ∷ ts))
by_about None p ts = λ x. refl
by_about (Some t) p ts = go (same t (word "true")) (same t (word "false"))
  where
    go : (b c : Bool) → About p (if b then Some (tuple (of_elements (word "trace" ∷ pid p ∷ ts))) else if c then None else Some (tuple (of_elements (followed_by (word "trace" ∷ pid p ∷ ts) t))))
    go true c = λ x. refl
    go false true = tt
    go false false = λ x. refl

after_about : (s : Session) (e : Event) (es : List Effect) → About (process_of e) (message_after s e es)
after_about s e es = go (is_silenced s e)
  where
    short : Bool
    short = flags_at s (process_of e) arity_flag

    go : (b : Bool) → About (process_of e) (if b then None else message_by (last_message es) (elements_of (flags_at s (process_of e) arity_flag) e))
    go true = tt
    go false =
        subst (λ ts. About (process_of e) (message_by (last_message es) ts)) (sym (elements_begin (flags_at s (process_of e) arity_flag) e).1)
        (by_about (last_message es) (process_of e) (elements_begin (flags_at s (process_of e) arity_flag) e).0)

for_about : (s : Session) (e : Event) (r : Option (List Effect)) → About (process_of e) (reported_for s e r).1
for_about s e None = tt
for_about s e (Some es) = after_about (all_affected (process_of e) s es) e es

event_about : (s : Session) (e : Event) → About (process_of e) (event_reported s e).1
event_about s e = go s.phase
  where
    go : (ph : Phase) → About (process_of e) (reported_in ph s e).1
    go absent = tt
    go destroyed = tt
    go live = for_about (inherit s e) e (effects_of (inherit s e) e)

-- ---- what is kept of each process

none_about : (x p : ℕ) → (p ≡ x → ⊥) → (o : Option Tree) → About p o → filter (is_of_process x) (option_to_list o) ≡ []
none_about x p other None h = refl
none_about x p other (Some m) h = ap (λ b. cond b (m ∷ []) []) (h x ∙ not_same p x other)

filter_both : (f : Tree → Bool) (xs ys : List Tree) → filter f (xs ++ ys) ≡ filter f xs ++ filter f ys
filter_both f [] ys = refl
filter_both f (x ∷ xs) ys = go (f x) (filter_both f xs ys)
  where
    go : (b : Bool) → filter f (xs ++ ys) ≡ filter f xs ++ filter f ys → cond b (x ∷ filter f (xs ++ ys)) (filter f (xs ++ ys)) ≡ cond b (x ∷ filter f xs) (filter f xs) ++ filter f ys
    go true h = ap (λ zs. x ∷ zs) h
    go false h = h

own_process : (n : ℕ) (e : Event) → IsOwn n e → process_of e ≡ n
own_process n (called p c) h = h
own_process n (returned p f t depth) h = h
own_process n (raised p f c t depth) h = h
own_process n e h = absurd h

own_told : (n x : ℕ) → (n ≡ x → ⊥) → (es : List Event) → EachOf (IsOwn n) es → (s : Session) → filter (is_of_process x) (told s es) ≡ []
own_told n x other [] own s = refl
own_told n x other (e ∷ es) own s =
    filter_both (is_of_process x) (option_to_list (event_reported s e).1) (told (event_reported s e).0 es)
    ∙ ap (λ ms. ms ++ filter (is_of_process x) (told (event_reported s e).0 es)) (none_about x (process_of e) (λ k. other (sym (own_process n e own.0) ∙ k)) (event_reported s e).1 (event_about s e))
    ∙ own_told n x other es own.1 (event_reported s e).0

-- of an event apart the process has no message
apart_silent : (n : ℕ) (s : Session) → Holds n s → (d : Event) → IsApart n d → filter (is_of_process n) (option_to_list (event_reported s d).1) ≡ []
apart_silent n s holds (received p sender x) large = go (p == n) refl
  where
    go : (b : Bool) → p == n ≡ b → filter (is_of_process n) (option_to_list (event_reported s (received p sender x)).1) ≡ []
    go true e =
        subst (λ k. filter (is_of_process n) (option_to_list (event_reported s (received k sender x)).1) ≡ []) (sym (same_if p n e))
        (ap (λ (r : EventResult). filter (is_of_process n) (option_to_list r.1)) (deaf s n sender x holds.1))
    go false e = none_about n p (other_if p n e) (event_reported s (received p sender x)).1 (event_about s (received p sender x))
apart_silent n s holds (sent p x to alive) other = none_about n p other.1 (event_reported s (sent p x to alive)).1 (event_about s (sent p x to alive))
apart_silent n s holds (called p c) other = none_about n p other.1 (event_reported s (called p c)).1 (event_about s (called p c))
apart_silent n s holds (returned p f t depth) other = none_about n p other.1 (event_reported s (returned p f t depth)).1 (event_about s (returned p f t depth))
apart_silent n s holds (raised p f c t depth) other = none_about n p other.1 (event_reported s (raised p f c t depth)).1 (event_about s (raised p f c t depth))
apart_silent n s holds (spawning p child f args) other = none_about n p other.1 (event_reported s (spawning p child f args)).1 (event_about s (spawning p child f args))
apart_silent n s holds (spawned p parent f args) other = none_about n p other.0.1 (event_reported s (spawned p parent f args)).1 (event_about s (spawned p parent f args))
apart_silent n s holds (exited p r) other = none_about n p other.1 (event_reported s (exited p r)).1 (event_about s (exited p r))
apart_silent n s holds (linked p q) other = none_about n p other.1 (event_reported s (linked p q)).1 (event_about s (linked p q))
apart_silent n s holds (unlinked p q) other = none_about n p other.1 (event_reported s (unlinked p q)).1 (event_about s (unlinked p q))
apart_silent n s holds (getting_linked p q) other = absurd other
apart_silent n s holds (getting_unlinked p q) other = absurd other

apart_told : (n : ℕ) → nat_le 100 n ≡ true → (ds : List Event) → EachOf (IsApart n) ds → (s : Session) → Holds n s → filter (is_of_process n) (told s ds) ≡ []
apart_told n big [] apart s holds = refl
apart_told n big (d ∷ ds) apart s holds =
    filter_both (is_of_process n) (option_to_list (event_reported s d).1) (told (event_reported s d).0 ds)
    ∙ ap (λ ms. ms ++ filter (is_of_process n) (told (event_reported s d).0 ds)) (apart_silent n s holds d apart.0)
    ∙ apart_told n big ds apart.1 (event_reported s d).0 (apart_holds n big s holds d apart.0)

-- two lists of which the test passes in one alone
turned_if : (f : Tree → Bool) (xs ys : List Tree) → filter f xs ≡ [] → filter f (xs ++ ys) ≡ filter f (ys ++ xs)
turned_if f xs ys none =
    filter_both f xs ys ∙ ap (λ zs. zs ++ filter f ys) none ∙ sym (append-nil (filter f ys)) ∙ ap (λ zs. filter f ys ++ zs) (sym none) ∙ sym (filter_both f ys xs)

after_if : (f : Tree → Bool) (ms xs ys : List Tree) → filter f xs ≡ filter f ys → filter f (ms ++ xs) ≡ filter f (ms ++ ys)
after_if f ms xs ys h = filter_both f ms xs ∙ ap (λ zs. filter f ms ++ zs) h ∙ sym (filter_both f ms ys)

each_same : (ns : List ℕ) (xs ys : List Tree) → ((x : ℕ) → filter (is_of_process x) xs ≡ filter (is_of_process x) ys) → each_process ns xs ≡ each_process ns ys
each_same [] xs ys h = refl
each_same (n ∷ ns) xs ys h = λ i. h n i ∷ each_same ns xs ys h i

-- the messages of both, after others, are the same of each process, whichever come first
pub turned : (n : ℕ) → nat_le 100 n ≡ true → (es ds : List Event) → EachOf (IsOwn n) es → EachOf (IsApart n) ds → (s : Session) → Holds n s → (ns : List ℕ) (ms : List Tree)
    → each_process ns (ms ++ (told s ds ++ told s es)) ≡ each_process ns (ms ++ (told s es ++ told s ds))
turned n big es ds own apart s holds ns ms =
    each_same ns (ms ++ (told s ds ++ told s es)) (ms ++ (told s es ++ told s ds)) (λ x. after_if (is_of_process x) ms (told s ds ++ told s es) (told s es ++ told s ds) (go x (n == x) refl))
  where
    go : (x : ℕ) (b : Bool) → n == x ≡ b → filter (is_of_process x) (told s ds ++ told s es) ≡ filter (is_of_process x) (told s es ++ told s ds)
    go x true e = turned_if (is_of_process x) (told s ds) (told s es) (subst (λ k. filter (is_of_process k) (told s ds) ≡ []) (same_if n x e) (apart_told n big ds apart s holds))
    go x false e = sym (turned_if (is_of_process x) (told s es) (told s ds) (own_told n x (other_if n x e) es own s))
