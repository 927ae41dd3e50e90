-- Picks that lead to the same state go on alike.
use Rattle.std.proofs.Common.{◌≡◌, ℕ, ◌+◌, List, [], ◌∷◌, ◌++◌, length, Bool, true, false, refl, sym, ap, ◌∙◌, arith, subst, append-nil, cond}
use Rattle.std.specs.Prelude.{map, filter}
use Rattle.def_term.specs.Tree.{Tree}
use Rattle.def_term.specs.Names.{Name}
use Rattle.def_script.specs.Program.{Program}
use Rattle.def_script.specs.Exports.{exports_of}
use Rattle.def_session.specs.State.{Session, absent_session}
use Rattle.def_run.specs.Run.{HistoryItem, RunState, start, run_state_of, pick_step, history_from, run_state_after, events, moves}
use Rattle.def_run.specs.View.{is_own, view}
use Rattle.def_run.specs.Listing.{messages, messages_from, session_after, state_of}
use Rattle.def_run.specs.Laws.{IsIdleAfter}
use Rattle.def_run.proofs.Appends.{shown-append, place-append, own-append, messages-append, state-append}
use Rattle.def_run.proofs.Replay.{room_spent, events_again, place_again}
use Rattle.def_run.proofs.Runs.{idle_place, idle_shown}
use Rattle.def_explore.specs.Rests.{RunQuestion, all_messages, by_process, KeptMessages, kept_messages, kept_by_process, is_of_process, each_process, all_pids, kept_of}
use Rattle.def_explore.specs.Alike.{SessionsAlike, IsStateAlike}
use Rattle.def_explore.specs.Laws.{AlikeGoesOn, AlikeAreIdleAlike, AlikeHaveMovedAlike, IdleIsAlike, MovesAreAlike}

-- ---- what comes after some picks

-- what a session sees of more picks
abbrev pub own_more : Name → Program → RunState → List ℕ → List HistoryItem
own_more s p place more = filter (is_own s) (history_from p.functions place more)

pub own_items : (s : Name) (p : Program) (a more : List ℕ) → filter (is_own s) (events p (a ++ more)) ≡ filter (is_own s) (events p a) ++ own_more s p (run_state_of p a) more
own_items s p a more = ap (filter (is_own s)) (shown-append p.functions (start p) a more) ∙ own-append s (events p a) (history_from p.functions (run_state_of p a) more)

-- the messages that it adds
abbrev pub more_messages : Program → Session → List HistoryItem → List Tree
more_messages p x items = messages_from (exports_of p) x items

pub messages_on : (s : Name) (p : Program) (a more : List ℕ) → messages s p (a ++ more) ≡ messages s p a ++ more_messages p (state_of (view s p a)) (own_more s p (run_state_of p a) more)
messages_on s p a more =
    ap (messages_from (exports_of p) (absent_session (exports_of p))) (own_items s p a more)
    ∙ messages-append (exports_of p) (absent_session (exports_of p)) (filter (is_own s) (events p a)) (own_more s p (run_state_of p a) more)

pub state_on : (s : Name) (p : Program) (a more : List ℕ) → state_of (view s p (a ++ more)) ≡ session_after (exports_of p) (state_of (view s p a)) (own_more s p (run_state_of p a) more)
state_on s p a more =
    ap (session_after (exports_of p) (absent_session (exports_of p))) (own_items s p a more)
    ∙ state-append (exports_of p) (absent_session (exports_of p)) (filter (is_own s) (events p a)) (own_more s p (run_state_of p a) more)

-- ---- what is kept

-- the two agree on these names
abbrev pub Agree : List Name → (f g : Name → List Tree) → Type 0
Agree [] f g = Unit {0}
Agree (s ∷ ss) f g = (f s ≡ g s) × Agree ss f g

agree_all : (ss : List Name) (f g : Name → List Tree) → ((s : Name) → f s ≡ g s) → Agree ss f g
agree_all [] f g h = tt
agree_all (s ∷ ss) f g h = (h s, agree_all ss f g h)

map_agree : (ss : List Name) (f g : Name → List Tree) → Agree ss f g → map f ss ≡ map g ss
map_agree [] f g h = refl
map_agree (s ∷ ss) f g h = λ i. h.0 i ∷ map_agree ss f g h.1 i

split_agree : (ns : List ℕ) (ss : List Name) (f g : Name → List Tree) → Agree ss f g → map (λ s. each_process ns (f s)) ss ≡ map (λ s. each_process ns (g s)) ss
split_agree ns [] f g h = refl
split_agree ns (s ∷ ss) f g h = λ i. each_process ns (h.0 i) ∷ split_agree ns ss f g h.1 i

kept_agree : (q : RunQuestion) (ss : List Name) (f g : Name → List Tree) → Agree ss f g → kept_of q ss f ≡ kept_of q ss g
kept_agree all_messages ss f g h = ap kept_messages (map_agree ss f g h)
kept_agree by_process ss f g h = ap kept_by_process (split_agree all_pids ss f g h)

-- the first of several, and the others
abbrev pub first_of_all : {X : Type 0} → X → List X → X
first_of_all d [] = d
first_of_all d (x ∷ xs) = x

abbrev others : {X : Type 0} → List X → List X
others [] = []
others (x ∷ xs) = xs

agree_by_map : (ss : List Name) (f g : Name → List Tree) → map f ss ≡ map g ss → Agree ss f g
agree_by_map [] f g h = tt
agree_by_map (s ∷ ss) f g h = (ap (first_of_all []) h, agree_by_map ss f g (ap others h))

agree_more : (ss : List Name) (f g x : Name → List Tree) → Agree ss f g → Agree ss (λ s. f s ++ x s) (λ s. g s ++ x s)
agree_more [] f g x h = tt
agree_more (s ∷ ss) f g x h = (ap (λ ms. ms ++ x s) h.0, agree_more ss f g x h.1)

-- the messages of a process are those before and those that are added
kept-append : (f : Tree → Bool) (xs ys : List Tree) → filter f (xs ++ ys) ≡ filter f xs ++ filter f ys
kept-append f [] ys = refl
kept-append f (x ∷ xs) ys = go (f x) (kept-append f xs ys)
  where
    go : (b : Bool) → filter f (xs ++ ys) ≡ filter f xs ++ filter f ys → cond b (x ∷ filter f (xs ++ ys)) (filter f (xs ++ ys)) ≡ cond b (x ∷ filter f xs) (filter f xs) ++ filter f ys
    go true h = ap (λ zs. x ∷ zs) h
    go false h = h

split_more : (ns : List ℕ) (xs ys zs : List Tree) → each_process ns xs ≡ each_process ns ys → each_process ns (xs ++ zs) ≡ each_process ns (ys ++ zs)
split_more [] xs ys zs h = refl
split_more (n ∷ ns) xs ys zs h =
    let same : filter (is_of_process n) xs ≡ filter (is_of_process n) ys = ap (first_of_all []) h in
    let one : filter (is_of_process n) (xs ++ zs) ≡ filter (is_of_process n) (ys ++ zs) =
    kept-append (is_of_process n) xs zs ∙ ap (λ ms. ms ++ filter (is_of_process n) zs) same ∙ sym (kept-append (is_of_process n) ys zs) in
    λ i. one i ∷ split_more ns xs ys zs (ap others h) i

all_split_more : (ns : List ℕ) (ss : List Name) (f g x : Name → List Tree) → map (λ s. each_process ns (f s)) ss ≡ map (λ s. each_process ns (g s)) ss
    → map (λ s. each_process ns (f s ++ x s)) ss ≡ map (λ s. each_process ns (g s ++ x s)) ss
all_split_more ns [] f g x h = refl
all_split_more ns (s ∷ ss) f g x h = λ i. split_more ns (f s) (g s) (x s) (ap (first_of_all []) h) i ∷ all_split_more ns ss f g x (ap others h) i

abbrev split_kept : KeptMessages → List (List (List Tree))
split_kept (kept_messages ms) = []
split_kept (kept_by_process ms) = ms

abbrev messages_kept : KeptMessages → List (List Tree)
messages_kept (kept_messages ms) = ms
messages_kept (kept_by_process ms) = []

-- the same messages more keep what is kept the same
kept_grows : (q : RunQuestion) (ss : List Name) (f g x : Name → List Tree) → kept_of q ss f ≡ kept_of q ss g → kept_of q ss (λ s. f s ++ x s) ≡ kept_of q ss (λ s. g s ++ x s)
kept_grows all_messages ss f g x h =
    ap kept_messages (map_agree ss (λ s. f s ++ x s) (λ s. g s ++ x s) (agree_more ss f g x (agree_by_map ss f g (ap messages_kept h))))
kept_grows by_process ss f g x h = ap kept_by_process (all_split_more all_pids ss f g x (ap split_kept h))

-- ---- alike

module _ (q : RunQuestion) (ss : List Name) (p : Program) where
  pub alike_same : (a b : List ℕ) → a ≡ b → IsStateAlike q ss p a b
  alike_same a b h = subst (IsStateAlike q ss p a) h (itself a)
    where
      all_same : (ts : List Name) (a : List ℕ) → SessionsAlike ts p a a
      all_same [] a = tt
      all_same (s ∷ ts) a = (refl, all_same ts a)

      itself : (a : List ℕ) → IsStateAlike q ss p a a
      itself a = record { place = refl; sessions = all_same ss a; kept = refl }

  sessions_then : (ts : List Name) (a b c : List ℕ) → SessionsAlike ts p a b → SessionsAlike ts p b c → SessionsAlike ts p a c
  sessions_then [] a b c h k = tt
  sessions_then (s ∷ ts) a b c h k = (h.0 ∙ k.0, sessions_then ts a b c h.1 k.1)

  pub alike_then : (a b c : List ℕ) → IsStateAlike q ss p a b → IsStateAlike q ss p b c → IsStateAlike q ss p a c
  alike_then a b c h k = record { place = h.place ∙ k.place; sessions = sessions_then ss a b c h.sessions k.sessions; kept = h.kept ∙ k.kept }

  sessions_back : (ts : List Name) (a b : List ℕ) → SessionsAlike ts p a b → SessionsAlike ts p b a
  sessions_back [] a b h = tt
  sessions_back (s ∷ ts) a b h = (sym h.0, sessions_back ts a b h.1)

  pub alike_back : (a b : List ℕ) → IsStateAlike q ss p a b → IsStateAlike q ss p b a
  alike_back a b h = record { place = sym h.place; sessions = sessions_back ss a b h.sessions; kept = sym h.kept }

  module _ (a b more : List ℕ) where
    sessions_on : (ts : List Name) → run_state_of p a ≡ run_state_of p b → SessionsAlike ts p a b → SessionsAlike ts p (a ++ more) (b ++ more)
    sessions_on [] place h = tt
    sessions_on (s ∷ ts) place h = (
      state_on s p a more ∙ (λ i. session_after (exports_of p) (h.0 i) (own_more s p (place i) more)) ∙ sym (state_on s p b more),
      sessions_on ts place h.1,
    )

    -- what is added to the messages of a session after picks
    abbrev added : List ℕ → Name → List Tree
    added c s = more_messages p (state_of (view s p c)) (own_more s p (run_state_of p c) more)

    added_alike : (ts : List Name) → run_state_of p a ≡ run_state_of p b → SessionsAlike ts p a b → Agree ts (λ s. messages s p b ++ added a s) (λ s. messages s p b ++ added b s)
    added_alike [] place h = tt
    added_alike (s ∷ ts) place h = (λ i. messages s p b ++ more_messages p (h.0 i) (own_more s p (place i) more), added_alike ts place h.1)

    pub goes_on : IsStateAlike q ss p a b → IsStateAlike q ss p (a ++ more) (b ++ more)
    goes_on h = record {
      place = place-append p.functions (start p) a more ∙ ap (λ x. run_state_after p.functions x more) h.place ∙ sym (place-append p.functions (start p) b more);
      sessions = sessions_on ss h.place h.sessions;
      kept =
          kept_agree q ss (λ s. messages s p (a ++ more)) (λ s. messages s p a ++ added a s) (agree_all ss _ _ (λ s. messages_on s p a more))
          ∙ kept_grows q ss (λ s. messages s p a) (λ s. messages s p b) (added a) h.kept
          ∙ kept_agree q ss (λ s. messages s p b ++ added a s) (λ s. messages s p b ++ added b s) (added_alike ss h.place h.sessions)
          ∙ sym (kept_agree q ss (λ s. messages s p (b ++ more)) (λ s. messages s p b ++ added b s) (agree_all ss _ _ (λ s. messages_on s p b more)));
    }

  pub by_events : (ts : List Name) (a b : List ℕ) → events p a ≡ events p b → SessionsAlike ts p a b
  by_events [] a b shown = tt
  by_events (s ∷ ts) a b shown = (λ i. session_after (exports_of p) (absent_session (exports_of p)) (filter (is_own s) (shown i)), by_events ts a b shown)

  -- an idle pick leads nowhere else
  pub still : (a : List ℕ) (pick : ℕ) → IsIdleAfter p a pick → IsStateAlike q ss p (a ++ pick ∷ []) a
  still a pick h =
      let shown : events p (a ++ pick ∷ []) ≡ events p a = idle_shown p a pick [] h ∙ ap (events p) (append-nil a) in
      record {
        place = idle_place p a pick h;
        sessions = by_events ss (a ++ pick ∷ []) a shown;
        kept = λ i. kept_of q ss (λ s. messages_from (exports_of p) (absent_session (exports_of p)) (filter (is_own s) (shown i)));
      }

pub alike_goes_on : AlikeGoesOn
alike_goes_on q ss p a b more h = goes_on q ss p a b more h

pub idle_alike : AlikeAreIdleAlike
idle_alike q ss p a b pick h k = ap (λ x. (pick_step p.functions x pick).moved) h.place ∙ k

pub moved_alike : AlikeHaveMovedAlike
moved_alike q ss p a b h =
    let x : length (moves p a) + (run_state_of p a).room ≡ 65536 = room_spent p.functions (start p) a in
    let y : length (moves p b) + (run_state_of p b).room ≡ 65536 = room_spent p.functions (start p) b in
    let same : (run_state_of p a).room ≡ (run_state_of p b).room = ap (λ z. z.room) h.place in
    omega arith

pub moves_alike : MovesAreAlike
moves_alike q ss p a =
    let shown : events p a ≡ events p (moves p a) = sym (events_again p a) in
    record {
      place = sym (place_again p.functions (start p) a);
      sessions = by_events q ss p ss a (moves p a) shown;
      kept = λ i. kept_of q ss (λ s. messages_from (exports_of p) (absent_session (exports_of p)) (filter (is_own s) (shown i)));
    }

pub idle_is_alike : IdleIsAlike
idle_is_alike q ss p a pick h = still q ss p a pick h
