-- The lines of one session alone are its lines among those of all sessions.
use Rattle.std.proofs.Common.{◌≡◌, ℕ, Bool, true, false, cond, List, [], ◌∷◌, ◌++◌, map, flat_map, filter, Option, Some, None, bytes_eq, refl, ap, ap₂, sym, ◌∙◌, if◌then◌else◌}
use Rattle.std.proofs.lemmas.List.Elements.{filter-append}
use Rattle.def_term.specs.Names.{Name}
use Rattle.def_script.specs.Program.{session_of}
use Rattle.def_script.specs.Exports.{Exports, exports_of}
use Rattle.def_script.specs.Script.{creations}
use Rattle.def_node.specs.Event.{Event}
use Rattle.def_outlook.specs.Outlook.{Outlook, OwnLink}
use Rattle.def_session.specs.State.{Phase, absent, live, destroyed}
use Rattle.def_session.specs.Commands.{command_done}
use Rattle.def_run.specs.Run.{HistoryItem, event_item, command_item}
use Rattle.def_run.specs.History.{MoveHistory, move_histories}
use Rattle.def_explain.specs.RunTexts.{is_session}
use Rattle.def_running_node.specs.NodeReplies.{node_command}
use Rattle.def_running_node.specs.NodeRuns.{NodeRun, at_move, run_after, NodeLine}
use Rattle.def_running_node.specs.NodeComparisons.{SessionPair, Comparison, determined_in, pair_after_in, lines_of_event_in, pair_after_command, lines_of_command, pair_after_own_link_in, pair_after_own_link, lines_of_own_link, NamedLine, lines_with_name, after_item, lines_of_item, after_items, lines_of_items, at_pick, after_pick, lines_of_move, items_of, lines_of_moves, pair_at_start, comparison_at_start}
use Rattle.def_running_node.specs.Laws.{SessionAloneHasItsLines}

-- of this name
abbrev is_named : Name → SessionPair → Bool
is_named n s = bytes_eq n s.name

abbrev has_name : Name → NamedLine → Bool
has_name n l = bytes_eq n l.0

-- the session of a name alone
abbrev alone : Name → Comparison → Comparison
alone n c = record c { sessions = filter (is_named n) c.sessions }

-- ---- sessions

-- to change sessions, which have the same names then
map-of-some : (n : Name) (f : SessionPair → SessionPair) → ((s : SessionPair) → (f s).name ≡ s.name) → (ss : List SessionPair) → map f (filter (is_named n) ss) ≡ filter (is_named n) (map f ss)
map-of-some n f g [] = refl
map-of-some n f g (s ∷ ss) =
    go (is_named n s) (map-of-some n f g ss) ∙ ap (λ m. cond (bytes_eq n m) (f s ∷ filter (is_named n) (map f ss)) (filter (is_named n) (map f ss))) (sym (g s))
  where
    go : (b : Bool) → map f (filter (is_named n) ss) ≡ filter (is_named n) (map f ss)
        → map f (cond b (s ∷ filter (is_named n) ss) (filter (is_named n) ss)) ≡ cond b (f s ∷ filter (is_named n) (map f ss)) (filter (is_named n) (map f ss))
    go true h = ap (λ ts. f s ∷ ts) h
    go false h = h

name-after-event : (x : Phase) (q : NodeRun) (l : Outlook) (s : SessionPair) (e : Event) → (pair_after_in x q l s e).name ≡ s.name
name-after-event absent q l s e = refl
name-after-event destroyed q l s e = refl
name-after-event live q l s e = refl

one-after : (o : Exports) (l : Outlook) (n : Name) (c : Comparison) (x : HistoryItem) → after_item o l (alone n c) x ≡ alone n (after_item o l c x)
one-after o l n c (event_item e) =
    let q : NodeRun = run_after c.run l e in
    ap (λ ss. record { run = q; sessions = ss }) (map-of-some n (λ s. pair_after_in s.here.phase q l s e) (λ s. name-after-event s.here.phase q l s e) c.sessions)
one-after o l n c (command_item k) =
    ap (λ ss. record c { sessions = ss }) (map-of-some n (λ s. pair_after_command o c.run s k) same-name c.sessions)
  where
    same-name : (s : SessionPair) → (pair_after_command o c.run s k).name ≡ s.name
    same-name s = go (bytes_eq s.name (session_of k))
      where
        go : (b : Bool) → (if b then record s { here = (command_done o s.here k).0; there = record s.there { session = (node_command o s.there.session k).0 }; is_determined = determined_in c.run s } else s).name ≡ s.name
        go true = refl
        go false = refl

items-after : (o : Exports) (l : Outlook) (n : Name) (c : Comparison) (xs : List HistoryItem) → after_items o l (alone n c) xs ≡ alone n (after_items o l c xs)
items-after o l n c [] = refl
items-after o l n c (x ∷ xs) = ap (λ d. after_items o l d xs) (one-after o l n c x) ∙ items-after o l n (after_item o l c x) xs

name-after-own-link : (r : NodeRun) (s : SessionPair) (x : Option OwnLink) → (pair_after_own_link r s x).name ≡ s.name
name-after-own-link r s None = refl
name-after-own-link r s (Some x) = go s.here.phase
  where
    go : (y : Phase) → (pair_after_own_link_in y r s).name ≡ s.name
    go absent = refl
    go destroyed = refl
    go live = refl

pick-after : (o : Exports) (l : Outlook) (n : Name) (pick : ℕ) (c : Comparison) (xs : List HistoryItem) → after_pick o l pick (alone n c) xs ≡ alone n (after_pick o l pick c xs)
pick-after o l n pick c [] =
    let r : NodeRun = at_move c.run pick in
    ap (λ ss. record { run = r; sessions = ss }) (map-of-some n (λ s. pair_after_own_link r s l.own_link) (λ s. name-after-own-link r s l.own_link) c.sessions)
pick-after o l n pick c (x ∷ xs) = items-after o l n (at_pick pick c) (x ∷ xs)

-- ---- lines

-- all lines of a session, or none
of-name : (n m : Name) (ls : List NodeLine) → filter (has_name n) (lines_with_name m ls) ≡ cond (bytes_eq n m) (lines_with_name m ls) []
of-name n m ls = go (bytes_eq n m) refl ls
  where
    go : (b : Bool) → bytes_eq n m ≡ b → (ls : List NodeLine) → filter (has_name n) (lines_with_name m ls) ≡ cond b (lines_with_name m ls) []
    go true e [] = refl
    go false e [] = refl
    go true e (l ∷ ls) =
        ap (λ t. cond t ((m, l) ∷ filter (has_name n) (lines_with_name m ls)) (filter (has_name n) (lines_with_name m ls))) e ∙ ap (λ ks. (m, l) ∷ ks) (go true e ls)
    go false e (l ∷ ls) = ap (λ t. cond t ((m, l) ∷ filter (has_name n) (lines_with_name m ls)) (filter (has_name n) (lines_with_name m ls))) e ∙ go false e ls

lines-of-some : (n : Name) (f : SessionPair → List NodeLine) (ss : List SessionPair)
    → flat_map (λ s. lines_with_name s.name (f s)) (filter (is_named n) ss) ≡ filter (has_name n) (flat_map (λ s. lines_with_name s.name (f s)) ss)
lines-of-some n f [] = refl
lines-of-some n f (s ∷ ss) =
    let ls : List NamedLine = lines_with_name s.name (f s) in
    go (is_named n s) (lines-of-some n f ss)
    ∙ ap (λ ks. ks ++ filter (has_name n) (flat_map (λ t. lines_with_name t.name (f t)) ss)) (sym (of-name n s.name (f s)))
    ∙ sym (filter-append (has_name n) ls (flat_map (λ t. lines_with_name t.name (f t)) ss))
  where
    go : (b : Bool) → flat_map (λ t. lines_with_name t.name (f t)) (filter (is_named n) ss) ≡ filter (has_name n) (flat_map (λ t. lines_with_name t.name (f t)) ss)
        → flat_map (λ t. lines_with_name t.name (f t)) (cond b (s ∷ filter (is_named n) ss) (filter (is_named n) ss))
        ≡ cond b (lines_with_name s.name (f s)) [] ++ filter (has_name n) (flat_map (λ t. lines_with_name t.name (f t)) ss)
    go true h = ap (λ ks. lines_with_name s.name (f s) ++ ks) h
    go false h = h

lines-of-one : (o : Exports) (l : Outlook) (n : Name) (c : Comparison) (x : HistoryItem) → lines_of_item o l (alone n c) x ≡ filter (has_name n) (lines_of_item o l c x)
lines-of-one o l n c (event_item e) = lines-of-some n (λ s. lines_of_event_in s.here.phase c.run (run_after c.run l e) l s e) c.sessions
lines-of-one o l n c (command_item k) = lines-of-some n (λ s. lines_of_command o c.run s k) c.sessions

lines-of-several : (o : Exports) (l : Outlook) (n : Name) (c : Comparison) (xs : List HistoryItem) → lines_of_items o l (alone n c) xs ≡ filter (has_name n) (lines_of_items o l c xs)
lines-of-several o l n c [] = refl
lines-of-several o l n c (x ∷ xs) =
    ap₂ (λ a b. a ++ b) (lines-of-one o l n c x) (ap (λ d. lines_of_items o l d xs) (one-after o l n c x) ∙ lines-of-several o l n (after_item o l c x) xs)
    ∙ sym (filter-append (has_name n) (lines_of_item o l c x) (lines_of_items o l (after_item o l c x) xs))

lines-of-a-move : (o : Exports) (l : Outlook) (n : Name) (pick : ℕ) (c : Comparison) (xs : List HistoryItem) → lines_of_move o l pick (alone n c) xs ≡ filter (has_name n) (lines_of_move o l pick c xs)
lines-of-a-move o l n pick c [] = lines-of-some n (λ s. lines_of_own_link (at_move c.run pick) s pick l.own_link) c.sessions
lines-of-a-move o l n pick c (x ∷ xs) = lines-of-several o l n (at_pick pick c) (x ∷ xs)

-- ---- moves

lines-of-all-moves : (o : Exports) (n : Name) (c : Comparison) (hs : List MoveHistory) → lines_of_moves o (alone n c) hs ≡ map (λ ls. filter (has_name n) ls) (lines_of_moves o c hs)
lines-of-all-moves o n c [] = refl
lines-of-all-moves o n c (h ∷ hs) =
    ap₂ (λ a b. a ∷ b) (lines-of-a-move o h.outlook n h.pick c (items_of h))
    (ap (λ d. lines_of_moves o d hs) (pick-after o h.outlook n h.pick c (items_of h)) ∙ lines-of-all-moves o n (after_pick o h.outlook h.pick c (items_of h)) hs)

-- before any move
alone-at-start : (n : Name) (o : Exports) (ss : List (Name × Name))
    → map (λ s. pair_at_start o s.0) (filter (λ s. is_session (Some n) s.0) ss) ≡ filter (is_named n) (map (λ s. pair_at_start o s.0) (filter (λ s. is_session None s.0) ss))
alone-at-start n o [] = refl
alone-at-start n o (s ∷ ss) = go (bytes_eq n s.0) (alone-at-start n o ss)
  where
    go : (b : Bool)
        → map (λ t. pair_at_start o t.0) (filter (λ t. is_session (Some n) t.0) ss) ≡ filter (is_named n) (map (λ t. pair_at_start o t.0) (filter (λ t. is_session None t.0) ss))
        → map (λ t. pair_at_start o t.0) (cond b (s ∷ filter (λ t. is_session (Some n) t.0) ss) (filter (λ t. is_session (Some n) t.0) ss))
        ≡ cond b (pair_at_start o s.0 ∷ filter (is_named n) (map (λ t. pair_at_start o t.0) (filter (λ t. is_session None t.0) ss))) (filter (is_named n) (map (λ t. pair_at_start o t.0) (filter (λ t. is_session None t.0) ss)))
    go true h = ap (λ ts. pair_at_start o s.0 ∷ ts) h
    go false h = h

pub session_alone_has_its_lines : SessionAloneHasItsLines
session_alone_has_its_lines n p picks =
    let c : Comparison = comparison_at_start None p in
    ap (λ ss. lines_of_moves (exports_of p) (record { run = c.run; sessions = ss }) (move_histories p picks)) (alone-at-start n (exports_of p) (creations p.commands))
    ∙ lines-of-all-moves (exports_of p) n c (move_histories p picks)
