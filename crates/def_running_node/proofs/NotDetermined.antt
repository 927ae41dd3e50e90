-- What isn't determined is so for the rest of a run, and has no line in it.
use Rattle.std.proofs.Common.{◌⊎◌, ◌≡◌, inl, inr, ℕ, Bool, true, false, not, ◌&&◌, ◌||◌, is_some, List, [], ◌∷◌, ◌++◌, map, flat_map, Option, Some, None, option_to_list, bytes_eq, refl, ap, ap₂, ◌∙◌, if◌then◌else◌}
use Rattle.std.specs.List.{AllByRecursion}
use Rattle.std.proofs.lemmas.Bool.{or_left, or_right, and_left, and_right}
use Rattle.std.proofs.lemmas.Slice.Eq.{bytes_eq-Decides}
use Rattle.def_term.specs.Names.{Name}
use Rattle.def_term.specs.Alive.{is_alive}
use Rattle.def_script.specs.Program.{Command, session_of}
use Rattle.def_script.specs.Exports.{Exports}
use Rattle.def_node.specs.Event.{Event, sent, received, called, returned, raised, spawning, spawned, exited, linked, unlinked, getting_linked, getting_unlinked}
use Rattle.def_outlook.specs.Outlook.{Outlook, OwnLink}
use Rattle.def_session.specs.State.{Phase, absent, live, destroyed}
use Rattle.def_session.specs.Commands.{command_done}
use Rattle.def_session.specs.Session.{event_reported}
use Rattle.def_run.specs.Run.{HistoryItem, event_item, command_item}
use Rattle.def_running_node.specs.NodeReplies.{node_command}
use Rattle.def_running_node.specs.NodeRuns.{is_limit, goes_on_with, NodeRun, may_move, at_move, run_after, opens, hides, NodeLine, is_open, lines_by_openness}
use Rattle.def_running_node.specs.NodeComparisons.{SessionPair, Comparison, texts, determined_in, pair_after_in, lines_of_event_in, reply_texts, pair_after_command, lines_of_command, own_link_event, pair_after_own_link_in, pair_after_own_link, lines_of_own_link_in, lines_of_own_link, NamedLine, lines_with_name, after_item, lines_of_item, after_items, lines_of_items, at_pick, after_pick, lines_of_move, items_of}
use Rattle.def_running_node.specs.Laws.{ErrorThatGoesOn, messages_here, messages_there, WasDetermined, IsOpening, OpeningHasOneLine, EventHasLinesBetween, OpeningIsNotDetermined, IsNotDetermined, HasNoLineOf, NotDeterminedInMove, NotDeterminedInMoves, NoLaterLineInMove, NoLaterLineInMoves, CommandInOpenRun, OwnLinkInOpenRun, RunIsNotDeterminedAgain, NoDifferenceInLaterMoves}
use Rattle.def_running_node.proofs.LinesBetween.{lines_are_between}

-- ---- an event

-- the lines of a live session, by what was determined and what is
live-lines : (r q : NodeRun) (l : Outlook) (s : SessionPair) (e : Event) → WasDetermined s →
    lines_of_event_in s.here.phase r q l s e
    ≡ lines_by_openness true (q.is_determined && (not (opens s.there.session e) && not (hides s.there.session l e))) (texts (messages_here s e)) (texts (messages_there r l s e))
live-lines r q l s e h =
    ap (λ x. lines_of_event_in x r q l s e) h.lives
    ∙ ap (λ b. lines_by_openness b (b && (q.is_determined && (not (opens s.there.session e) && not (hides s.there.session l e)))) (texts (messages_here s e)) (texts (messages_there r l s e)))
    h.of_session

-- some of it isn't
is-opening : (q : NodeRun) (l : Outlook) (s : SessionPair) (e : Event) → IsOpening q l s e → (q.is_determined && (not (opens s.there.session e) && not (hides s.there.session l e))) ≡ false
is-opening q l s e (inl h) = and_left q.is_determined _ h
is-opening q l s e (inr (inl h)) = and_right q.is_determined _ (and_left (not (opens s.there.session e)) _ (ap not h))
is-opening q l s e (inr (inr h)) = and_right q.is_determined _ (and_right (not (opens s.there.session e)) _ (ap not h))

-- all of it is
is-no-opening : (q : NodeRun) (l : Outlook) (s : SessionPair) (e : Event) → (IsOpening q l s e → ⊥) → (q.is_determined && (not (opens s.there.session e) && not (hides s.there.session l e))) ≡ true
is-no-opening q l s e h = go q.is_determined (opens s.there.session e) (hides s.there.session l e) (λ k. h (inl k)) (λ k. h (inr (inl k))) (λ k. h (inr (inr k)))
  where
    go : (a b c : Bool) → (a ≡ false → ⊥) → (b ≡ true → ⊥) → (c ≡ true → ⊥) → (a && (not b && not c)) ≡ true
    go true false false f g k = refl
    go false b c f g k = absurd (f refl)
    go true true c f g k = absurd (g refl)
    go true false true f g k = absurd (k refl)

pub opening_has_one_line : OpeningHasOneLine
opening_has_one_line r q l s e h k =
    live-lines r q l s e h ∙ ap (λ b. lines_by_openness true b (texts (messages_here s e)) (texts (messages_there r l s e))) (is-opening q l s e k)

pub event_has_lines_between : EventHasLinesBetween
event_has_lines_between r q l s e h k =
    (lines_are_between (texts (messages_here s e)) (texts (messages_there r l s e)) (lines_of_event_in s.here.phase r q l s e)).1
    (live-lines r q l s e h ∙ ap (λ b. lines_by_openness true b (texts (messages_here s e)) (texts (messages_there r l s e))) (is-no-opening q l s e k))

pub opening_is_not_determined : OpeningIsNotDetermined
opening_is_not_determined q l s e h k = ap (λ x. (pair_after_in x q l s e).is_determined) h ∙ and_right s.is_determined _ (is-opening q l s e k)

-- ---- a session that isn't determined

-- one that is of the name
abbrev NotDeterminedAs : Name → SessionPair → Type 0
NotDeterminedAs n s = s.name ≡ n → s.is_determined ≡ false

after-event : (n : Name) (x : Phase) (q : NodeRun) (l : Outlook) (s : SessionPair) (e : Event) → NotDeterminedAs n s → NotDeterminedAs n (pair_after_in x q l s e)
after-event n absent q l s e h = h
after-event n destroyed q l s e h = h
after-event n live q l s e h = λ k. and_left s.is_determined _ (h k)

after-command : (n : Name) (o : Exports) (r : NodeRun) (s : SessionPair) (k : Command) → NotDeterminedAs n s → NotDeterminedAs n (pair_after_command o r s k)
after-command n o r s k h = go (bytes_eq s.name (session_of k))
  where
    go : (b : Bool) → NotDeterminedAs n (if b then record s { here = (command_done o s.here k).0; there = record s.there { session = (node_command o s.there.session k).0 }; is_determined = determined_in r s } else s)
    go true = λ e. and_left s.is_determined _ (h e)
    go false = h

after-own-link : (n : Name) (r : NodeRun) (s : SessionPair) (x : Option OwnLink) → NotDeterminedAs n s → NotDeterminedAs n (pair_after_own_link r s x)
after-own-link n r s None h = h
after-own-link n r s (Some x) h = go s.here.phase
  where
    go : (y : Phase) → NotDeterminedAs n (pair_after_own_link_in y r s)
    go absent = h
    go destroyed = h
    go live = λ e. and_left s.is_determined _ (h e)

each-after : (n : Name) (f : SessionPair → SessionPair) → ((s : SessionPair) → NotDeterminedAs n s → NotDeterminedAs n (f s)) → (ss : List SessionPair)
    → AllByRecursion (NotDeterminedAs n) ss → AllByRecursion (NotDeterminedAs n) (map f ss)
each-after n f g [] h = tt
each-after n f g (s ∷ ss) h = (g s h.0, each-after n f g ss h.1)

after-one : (o : Exports) (l : Outlook) (n : Name) (c : Comparison) (x : HistoryItem) → IsNotDetermined n c → IsNotDetermined n (after_item o l c x)
after-one o l n c (event_item e) h = each-after n (λ s. pair_after_in s.here.phase (run_after c.run l e) l s e) (λ s k. after-event n s.here.phase (run_after c.run l e) l s e k) c.sessions h
after-one o l n c (command_item k) h = each-after n (λ s. pair_after_command o c.run s k) (λ s g. after-command n o c.run s k g) c.sessions h

pub not_determined_in_move : NotDeterminedInMove
not_determined_in_move o l n c [] h = h
not_determined_in_move o l n c (x ∷ xs) h = not_determined_in_move o l n (after_item o l c x) xs (after-one o l n c x h)

after-a-pick : (o : Exports) (l : Outlook) (n : Name) (pick : ℕ) (c : Comparison) (xs : List HistoryItem) → IsNotDetermined n c → IsNotDetermined n (after_pick o l pick c xs)
after-a-pick o l n pick c [] h = each-after n (λ s. pair_after_own_link (at_move c.run pick) s l.own_link) (λ s k. after-own-link n (at_move c.run pick) s l.own_link k) c.sessions h
after-a-pick o l n pick c (x ∷ xs) h = not_determined_in_move o l n (at_pick pick c) (x ∷ xs) h

pub not_determined_in_moves : NotDeterminedInMoves
not_determined_in_moves o n c [] h = h
not_determined_in_moves o n c (m ∷ hs) h =
    not_determined_in_moves o n (after_pick o m.outlook m.pick c (items_of m)) hs (after-a-pick o m.outlook n m.pick c (items_of m) h)

-- ---- its lines

-- it has none
abbrev HasNoneAs : Name → (SessionPair → List NodeLine) → SessionPair → Type 0
HasNoneAs n f s = s.name ≡ n → f s ≡ []

-- where the session isn't determined, nothing is between
not-determined : (b c : Bool) (ms ns : List (List ℕ)) → b ≡ false → lines_by_openness b c ms ns ≡ []
not-determined b c ms ns h = ap (λ x. lines_by_openness x c ms ns) h

none-of-event : (n : Name) (x : Phase) (r q : NodeRun) (l : Outlook) (s : SessionPair) (e : Event) → NotDeterminedAs n s → s.name ≡ n → lines_of_event_in x r q l s e ≡ []
none-of-event n absent r q l s e h k = refl
none-of-event n destroyed r q l s e h k = refl
none-of-event n live r q l s e h k = not-determined s.is_determined _ _ _ (h k)

by-name : (b : Bool) {ls : List NodeLine} → ls ≡ [] → (if b then ls else []) ≡ []
by-name true g = g
by-name false g = refl

none-of-command : (n : Name) (o : Exports) (r : NodeRun) (s : SessionPair) (k : Command) → NotDeterminedAs n s → s.name ≡ n → lines_of_command o r s k ≡ []
none-of-command n o r s k h e = by-name (bytes_eq s.name (session_of k)) (not-determined s.is_determined _ _ _ (h e))

none-of-own-link : (n : Name) (r : NodeRun) (s : SessionPair) (p : ℕ) (x : Option OwnLink) → NotDeterminedAs n s → s.name ≡ n → lines_of_own_link r s p x ≡ []
none-of-own-link n r s p None h e = refl
none-of-own-link n r s p (Some x) h e = go s.here.phase
  where
    go : (y : Phase) → lines_of_own_link_in y r s (own_link_event p x) ≡ []
    go absent = refl
    go destroyed = refl
    go live = not-determined s.is_determined _ _ _ (h e)

-- lines after the name of another
of-others : (n m : Name) (ls : List NodeLine) → (m ≡ n → ls ≡ []) → HasNoLineOf n (lines_with_name m ls)
of-others n m [] h = tt
of-others n m (x ∷ ls) h = (λ e. let none : x ∷ ls ≡ [] = h e in absurd (cc none), of-others n m ls (λ e. let none : x ∷ ls ≡ [] = h e in absurd (cc none)))

-- those of two lists
of-both : (n : Name) (a b : List NamedLine) → HasNoLineOf n a → HasNoLineOf n b → HasNoLineOf n (a ++ b)
of-both n [] b h k = k
of-both n (x ∷ a) b h k = (h.0, of-both n a b h.1 k)

of-each : (n : Name) (f : SessionPair → List NodeLine) → ((s : SessionPair) → NotDeterminedAs n s → HasNoneAs n f s) → (ss : List SessionPair)
    → AllByRecursion (NotDeterminedAs n) ss → HasNoLineOf n (flat_map (λ s. lines_with_name s.name (f s)) ss)
of-each n f g [] h = tt
of-each n f g (s ∷ ss) h = of-both n (lines_with_name s.name (f s)) _ (of-others n s.name (f s) (g s h.0)) (of-each n f g ss h.1)

none-of-one : (o : Exports) (l : Outlook) (n : Name) (c : Comparison) (x : HistoryItem) → IsNotDetermined n c → HasNoLineOf n (lines_of_item o l c x)
none-of-one o l n c (event_item e) h =
    of-each n (λ s. lines_of_event_in s.here.phase c.run (run_after c.run l e) l s e) (λ s k. none-of-event n s.here.phase c.run (run_after c.run l e) l s e k) c.sessions h
none-of-one o l n c (command_item k) h = of-each n (λ s. lines_of_command o c.run s k) (λ s g. none-of-command n o c.run s k g) c.sessions h

pub no_later_line_in_move : NoLaterLineInMove
no_later_line_in_move o l n c [] h = tt
no_later_line_in_move o l n c (x ∷ xs) h = of-both n (lines_of_item o l c x) _ (none-of-one o l n c x h) (no_later_line_in_move o l n (after_item o l c x) xs (after-one o l n c x h))

none-of-move : (o : Exports) (l : Outlook) (n : Name) (pick : ℕ) (c : Comparison) (xs : List HistoryItem) → IsNotDetermined n c → HasNoLineOf n (lines_of_move o l pick c xs)
none-of-move o l n pick c [] h =
    of-each n (λ s. lines_of_own_link (at_move c.run pick) s pick l.own_link) (λ s k. none-of-own-link n (at_move c.run pick) s pick l.own_link k) c.sessions h
none-of-move o l n pick c (x ∷ xs) h = no_later_line_in_move o l n (at_pick pick c) (x ∷ xs) h

pub no_later_line_in_moves : NoLaterLineInMoves
no_later_line_in_moves o n c [] h = tt
no_later_line_in_moves o n c (m ∷ hs) h = (
  none-of-move o m.outlook n m.pick c (items_of m) h,
  no_later_line_in_moves o n (after_pick o m.outlook m.pick c (items_of m)) hs (after-a-pick o m.outlook n m.pick c (items_of m) h),
)

-- ---- a run that isn't determined

by-life : (b : Bool) (x y : NodeRun) → x.is_determined ≡ false → y.is_determined ≡ false → (if b then x else y).is_determined ≡ false
by-life true x y h k = h
by-life false x y h k = k

-- whatever happens in it
run-after-event : (r : NodeRun) (l : Outlook) (e : Event) → r.is_determined ≡ false → (run_after r l e).is_determined ≡ false
run-after-event r l (exited p reason) h = and_left r.is_determined _ h
run-after-event r l (getting_unlinked p q) h = and_left r.is_determined _ h
run-after-event r l (linked p q) h = by-life (is_alive r.alive q) _ _ (and_left r.is_determined _ h) (and_left r.is_determined _ h)
run-after-event r l (spawned p parent f args) h = and_left r.is_determined _ h
run-after-event r l (sent p x to alive) h = and_left r.is_determined _ h
run-after-event r l (received p sender x) h = and_left r.is_determined _ h
run-after-event r l (called p c) h = and_left r.is_determined _ h
run-after-event r l (returned p f v d) h = and_left r.is_determined _ h
run-after-event r l (raised p f c v d) h = and_left r.is_determined _ h
run-after-event r l (spawning p child f args) h = and_left r.is_determined _ h
run-after-event r l (unlinked p q) h = and_left r.is_determined _ h
run-after-event r l (getting_linked p q) h = and_left r.is_determined _ h

run-after-one : (o : Exports) (l : Outlook) (c : Comparison) (x : HistoryItem) → c.run.is_determined ≡ false → (after_item o l c x).run.is_determined ≡ false
run-after-one o l c (event_item e) h = run-after-event c.run l e h
run-after-one o l c (command_item k) h = h

run-after-items : (o : Exports) (l : Outlook) (c : Comparison) (xs : List HistoryItem) → c.run.is_determined ≡ false → (after_items o l c xs).run.is_determined ≡ false
run-after-items o l c [] h = h
run-after-items o l c (x ∷ xs) h = run-after-items o l (after_item o l c x) xs (run-after-one o l c x h)

run-at-move : (r : NodeRun) (pick : ℕ) → r.is_determined ≡ false → (at_move r pick).is_determined ≡ false
run-at-move r pick h = and_left r.is_determined (may_move r.signals pick) h

run-after-pick : (o : Exports) (l : Outlook) (pick : ℕ) (c : Comparison) (xs : List HistoryItem) → c.run.is_determined ≡ false → (after_pick o l pick c xs).run.is_determined ≡ false
run-after-pick o l pick c [] h = run-at-move c.run pick h
run-after-pick o l pick c (x ∷ xs) h = run-after-items o l (at_pick pick c) (x ∷ xs) (run-at-move c.run pick h)

pub run_is_not_determined_again : RunIsNotDeterminedAgain
run_is_not_determined_again o c [] h = h
run_is_not_determined_again o c (m ∷ hs) h = run_is_not_determined_again o (after_pick o m.outlook m.pick c (items_of m)) hs (run-after-pick o m.outlook m.pick c (items_of m) h)

-- ---- its lines

-- the line that says that something isn't determined, or none
abbrev AreOpen : List NodeLine → Type 0
AreOpen ls = AllByRecursion (λ l. l ≡ is_open) ls

open-or-none : (a b : Bool) (ms ns : List (List ℕ)) → b ≡ false → AreOpen (lines_by_openness a b ms ns)
open-or-none false b ms ns h = tt
open-or-none true false ms ns h = (refl, tt)
open-or-none true true ms ns h = absurd (cc h)

open-after-event : (x : Phase) (r q : NodeRun) (l : Outlook) (s : SessionPair) (e : Event) → q.is_determined ≡ false → AreOpen (lines_of_event_in x r q l s e)
open-after-event absent r q l s e h = tt
open-after-event destroyed r q l s e h = tt
open-after-event live r q l s e h = open-or-none s.is_determined _ _ _ (and_right s.is_determined _ (and_left q.is_determined _ h))

open-by-name : (b : Bool) (ls : List NodeLine) → AreOpen ls → AreOpen (if b then ls else [])
open-by-name true ls g = g
open-by-name false ls g = tt

open-after-command : (o : Exports) (r : NodeRun) (s : SessionPair) (k : Command) → r.is_determined ≡ false → AreOpen (lines_of_command o r s k)
open-after-command o r s k h = open-by-name (bytes_eq s.name (session_of k)) _ (open-or-none s.is_determined _ _ _ (and_right s.is_determined _ h))

open-after-own-link : (r : NodeRun) (s : SessionPair) (p : ℕ) (x : Option OwnLink) → r.is_determined ≡ false → AreOpen (lines_of_own_link r s p x)
open-after-own-link r s p None h = tt
open-after-own-link r s p (Some x) h = go s.here.phase
  where
    go : (y : Phase) → AreOpen (lines_of_own_link_in y r s (own_link_event p x))
    go absent = tt
    go destroyed = tt
    go live = open-or-none s.is_determined _ _ _ (and_right s.is_determined _ h)

-- of each session
abbrev AreOpenOfEach : List NamedLine → Type 0
AreOpenOfEach ls = AllByRecursion (λ l. l.1 ≡ is_open) ls

open-with-name : (n : Name) (ls : List NodeLine) → AreOpen ls → AreOpenOfEach (lines_with_name n ls)
open-with-name n [] h = tt
open-with-name n (x ∷ ls) h = (h.0, open-with-name n ls h.1)

open-of-both : (a b : List NamedLine) → AreOpenOfEach a → AreOpenOfEach b → AreOpenOfEach (a ++ b)
open-of-both [] b h k = k
open-of-both (x ∷ a) b h k = (h.0, open-of-both a b h.1 k)

open-of-each : (f : SessionPair → List NodeLine) → ((s : SessionPair) → AreOpen (f s)) → (ss : List SessionPair) → AreOpenOfEach (flat_map (λ s. lines_with_name s.name (f s)) ss)
open-of-each f g [] = tt
open-of-each f g (s ∷ ss) = open-of-both (lines_with_name s.name (f s)) _ (open-with-name s.name (f s) (g s)) (open-of-each f g ss)

open-of-one : (o : Exports) (l : Outlook) (c : Comparison) (x : HistoryItem) → c.run.is_determined ≡ false → AreOpenOfEach (lines_of_item o l c x)
open-of-one o l c (event_item e) h =
    open-of-each (λ s. lines_of_event_in s.here.phase c.run (run_after c.run l e) l s e)
    (λ s. open-after-event s.here.phase c.run (run_after c.run l e) l s e (run-after-event c.run l e h)) c.sessions
open-of-one o l c (command_item k) h = open-of-each (λ s. lines_of_command o c.run s k) (λ s. open-after-command o c.run s k h) c.sessions

open-of-items : (o : Exports) (l : Outlook) (c : Comparison) (xs : List HistoryItem) → c.run.is_determined ≡ false → AreOpenOfEach (lines_of_items o l c xs)
open-of-items o l c [] h = tt
open-of-items o l c (x ∷ xs) h = open-of-both (lines_of_item o l c x) _ (open-of-one o l c x h) (open-of-items o l (after_item o l c x) xs (run-after-one o l c x h))

open-of-move : (o : Exports) (l : Outlook) (pick : ℕ) (c : Comparison) (xs : List HistoryItem) → c.run.is_determined ≡ false → AreOpenOfEach (lines_of_move o l pick c xs)
open-of-move o l pick c [] h =
    open-of-each (λ s. lines_of_own_link (at_move c.run pick) s pick l.own_link) (λ s. open-after-own-link (at_move c.run pick) s pick l.own_link (run-at-move c.run pick h)) c.sessions
open-of-move o l pick c (x ∷ xs) h = open-of-items o l (at_pick pick c) (x ∷ xs) (run-at-move c.run pick h)

pub no_difference_in_later_moves : NoDifferenceInLaterMoves
no_difference_in_later_moves o c [] h = tt
no_difference_in_later_moves o c (m ∷ hs) h = (
  open-of-move o m.outlook m.pick c (items_of m) h,
  no_difference_in_later_moves o (after_pick o m.outlook m.pick c (items_of m)) hs (run-after-pick o m.outlook m.pick c (items_of m) h),
)

-- ---- a session in a run that isn't determined

pub command_in_open_run : CommandInOpenRun
command_in_open_run o r s k own ends is =
    let here : List (List ℕ) = reply_texts (command_done o s.here k).1 in
    let there : List (List ℕ) = reply_texts (node_command o s.there.session k).1 in
    let named : bytes_eq s.name (session_of k) ≡ true = (bytes_eq-Decides s.name (session_of k)).1 own in (
      ap (λ b. (if b then record s { here = (command_done o s.here k).0; there = record s.there { session = (node_command o s.there.session k).0 }; is_determined = determined_in r s } else s).is_determined) named
          ∙ and_right s.is_determined _ ends,
      ap (λ b. if b then lines_by_openness s.is_determined (determined_in r s) here there else []) named
          ∙ ap₂ (λ a b. lines_by_openness a b here there) is (and_right s.is_determined _ ends),
    )

pub own_link_in_open_run : OwnLinkInOpenRun
own_link_in_open_run r s p x h ends =
    let there : List (List ℕ) = texts (option_to_list (event_reported s.there.session (own_link_event p x)).1) in (
      ap (λ y. (pair_after_own_link_in y r s).is_determined) h.lives ∙ and_right s.is_determined _ ends,
      ap (λ y. lines_of_own_link_in y r s (own_link_event p x)) h.lives
          ∙ ap₂ (λ a b. lines_by_openness a b [] there) h.of_session (and_right s.is_determined _ ends),
    )

pub error_that_goes_on : ErrorThatGoesOn
error_that_goes_on r l p x y h why = and_right r.is_determined _ (ap not (ap (λ o. goes_on_with o l.caught_at) h ∙ go (is_limit y) (is_some l.caught_at) why))
  where
    go : (a b : Bool) → (a ≡ true) ⊎ (b ≡ true) → (a || b) ≡ true
    go a b (inl k) = or_left a b k
    go a b (inr k) = or_right a b k
