-- Replies: a session that a command names was created by an earlier form, or stays absent.
use Rattle.std.proofs.Common.{◌≡◌, ◌∙◌, ℕ, zero, suc, Bool, true, false, ◌||◌, cond, if◌then◌else◌, List, [], ◌∷◌, ◌++◌, map, filter, Option, Some, refl, sym, ap}
use Rattle.std.specs.Prelude.{slice_get}
use Rattle.std.specs.Str.{bytes_eq}
use Rattle.std.proofs.lemmas.Slice.Eq.{bytes_eq-Decides}
use Rattle.def_term.specs.Names.{Name, word}
use Rattle.def_term.specs.Tree.{Tree}
use Rattle.def_script.specs.Program.{Function, Command, create, destroy, set_processes, set_function, set_send, set_receive, session_of}
use Rattle.def_node.specs.Event.{Event}
use Rattle.def_node.specs.Node.{Move, moved, idle, next_of}
use Rattle.def_script.specs.Exports.{Exports}
use Rattle.def_session.specs.State.{Session, absent, absent_session}
use Rattle.def_session.specs.Session.{event_reported, reported_in}
use Rattle.def_session.specs.Commands.{command_done, done_in, done_absent}
use Rattle.def_run.specs.Run.{HistoryItem, event_item, command_item, RunState, takes_command, goes_to, pick_step_with, history_from}
use Rattle.def_run.specs.View.{is_own}
use Rattle.def_run.specs.Listing.{session_after}
use Rattle.def_script.specs.Script.{creations}
use Rattle.tn_trace.specs.Tracks.{track_after, tracks_from, reply_from}

pub name_is : (a b : Name) → bytes_eq a b ≡ true → a ≡ b
name_is a b e = (bytes_eq-Decides a b).0 e

name_self : (a : Name) → bytes_eq a a ≡ true
name_self a = (bytes_eq-Decides a a).1 refl

-- whether a session of this name is in the list
abbrev pub is_created : List (Name × Name) → Name → Bool
is_created [] n = false
is_created (s ∷ ss) n = bytes_eq s.0 n || is_created ss n

-- the reply of the session that the command names
abbrev pub reply_of : Exports → List HistoryItem → Command → Tree
reply_of o items c = (command_done o (session_after o (absent_session o) (filter (is_own (session_of c)) items)) c).1

reply_head : (o : Exports) (items : List HistoryItem) (c : Command) (n : ℕ) (s : Name) (ss : List (Name × Name)) (r : Option Tree) (b : Bool) → bytes_eq s (session_of c) ≡ b
    → ((q : Option Tree) → reply_from o c q (tracks_from o items (suc n) ss) ≡ (if is_created ss (session_of c) then Some (reply_of o items c) else q))
    → reply_from o c (if b then Some (command_done o (track_after o items n s).session c).1 else r) (tracks_from o items (suc n) ss) ≡ (if b || is_created ss (session_of c) then Some (reply_of o items c) else r)
reply_head o items c n s ss r true is rest =
    rest (Some (command_done o (track_after o items n s).session c).1)
    ∙ ap (λ m. if is_created ss (session_of c) then Some (reply_of o items c) else Some (command_done o (session_after o (absent_session o) (filter (is_own m) items)) c).1) (name_is s (session_of c) is)
    ∙ go (is_created ss (session_of c))
  where
    go : (q : Bool) → (if q then Some (reply_of o items c) else Some (reply_of o items c)) ≡ Some (reply_of o items c)
    go true = refl
    go false = refl
reply_head o items c n s ss r false is rest = rest r

pub reply_is : (o : Exports) (items : List HistoryItem) (c : Command) (n : ℕ) (ss : List (Name × Name)) (r : Option Tree)
    → reply_from o c r (tracks_from o items n ss) ≡ (if is_created ss (session_of c) then Some (reply_of o items c) else r)
reply_is o items c n [] r = refl
reply_is o items c n (s ∷ ss) r = reply_head o items c n s.0 ss r (bytes_eq s.0 (session_of c)) refl (reply_is o items c (suc n) ss)

-- ---- a session that is never created

abbrev creates : Name → Command → Bool
creates n (create s t) = bytes_eq s n
creates n _ = false

abbrev NeverIn : Name → List Command → Type 0
NeverIn n [] = Unit {0}
NeverIn n (c ∷ cs) = (creates n c ≡ false) × NeverIn n cs

abbrev NeverShown : Name → List HistoryItem → Type 0
NeverShown n [] = Unit {0}
NeverShown n (event_item e ∷ items) = NeverShown n items
NeverShown n (command_item c ∷ items) = (creates n c ≡ false) × NeverShown n items

neither : (a b : Bool) → (a || b) ≡ false → (a ≡ false) × (b ≡ false)
neither true b e = cc
neither false b e = (refl, e)

never_in : (n : Name) (cs : List Command) → is_created (creations cs) n ≡ false → NeverIn n cs
never_in n [] e = tt
never_in n (create s t ∷ cs) e = let p : (bytes_eq s n ≡ false) × (is_created (creations cs) n ≡ false) = neither _ _ e in (p.0, never_in n cs p.1)
never_in n (destroy s ∷ cs) e = (refl, never_in n cs e)
never_in n (set_processes s p h f ∷ cs) e = (refl, never_in n cs e)
never_in n (set_function s m p f ∷ cs) e = (refl, never_in n cs e)
never_in n (set_send s p ∷ cs) e = (refl, never_in n cs e)
never_in n (set_receive s p ∷ cs) e = (refl, never_in n cs e)

never_happened : (n : Name) (es : List Event) (items : List HistoryItem) → NeverShown n items → NeverShown n (map event_item es ++ items)
never_happened n [] items h = h
never_happened n (e ∷ es) items h = never_happened n es items h

never_command : (n : Name) (p : RunState) (room : ℕ) (cs : List Command) (rest : RunState → List HistoryItem) → ((q : RunState) → NeverIn n q.commands → NeverShown n (rest q))
    → NeverIn n p.commands → NeverIn n cs → NeverShown n ((takes_command p room cs).shown ++ rest (takes_command p room cs).after)
never_command n p room [] rest go h k = go p h
never_command n p room (c ∷ cs) rest go h k = (k.0, go (record { world = p.world; commands = cs; room = room }) k.1)

never_move : (n : Name) (p : RunState) (room : ℕ) (m : Move) (rest : RunState → List HistoryItem) → ((q : RunState) → NeverIn n q.commands → NeverShown n (rest q))
    → NeverIn n p.commands → NeverShown n ((goes_to p room m).shown ++ rest (goes_to p room m).after)
never_move n p room (idle w) rest go h = go p h
never_move n p room (moved w es) rest go h = never_happened n es (rest (record { world = w; commands = p.commands; room = room })) (go (record { world = w; commands = p.commands; room = room }) h)

never_turn : (ks : List Function) (n : Name) (p : RunState) (room pick : ℕ) (rest : RunState → List HistoryItem) → ((q : RunState) → NeverIn n q.commands → NeverShown n (rest q))
    → NeverIn n p.commands → NeverShown n ((pick_step_with ks p room pick).shown ++ rest (pick_step_with ks p room pick).after)
never_turn ks n p zero pick rest go h = go p h
never_turn ks n p (suc room) zero rest go h = never_command n p room p.commands rest go h h
never_turn ks n p (suc room) (suc m) rest go h = never_move n p room (next_of ks p.world (suc m)) rest go h

never_from : (ks : List Function) (n : Name) (p : RunState) (picks : List ℕ) → NeverIn n p.commands → NeverShown n (history_from ks p picks)
never_from ks n p [] h = tt
never_from ks n p (pick ∷ picks) h = never_turn ks n p p.room pick (λ q. history_from ks q picks) (λ q. never_from ks n q picks) h

absent_command : (s : Session) (n : Name) (c : Command) → creates n c ≡ false → bytes_eq n (session_of c) ≡ true → ((done_absent s c).0 ≡ s) × ((done_absent s c).1 ≡ word "badarg")
absent_command s n (create t tracer) e b = absurd (cc (sym (ap (λ x. bytes_eq t x) (name_is n t b)) ∙ e, name_self t))
absent_command s n (destroy t) e b = (refl, refl)
absent_command s n (set_processes t p h f) e b = (refl, refl)
absent_command s n (set_function t m p f) e b = (refl, refl)
absent_command s n (set_send t p) e b = (refl, refl)
absent_command s n (set_receive t p) e b = (refl, refl)

-- an absent session that no command creates stays absent
stays_absent : (o : Exports) (n : Name) (s : Session) (items : List HistoryItem) → s.phase ≡ absent → NeverShown n items → (session_after o s (filter (is_own n) items)).phase ≡ absent
stays_absent o n s [] a h = a
stays_absent o n s (event_item e ∷ items) a h = stays_absent o n (event_reported s e).0 items (ap (λ p. (reported_in p s e).0.phase) a ∙ a) h
stays_absent o n s (command_item c ∷ items) a h = go (bytes_eq n (session_of c)) refl (stays_absent o n s items a h.1) (λ k. stays_absent o n (command_done o s c).0 items k h.1)
  where
    go : (b : Bool) → bytes_eq n (session_of c) ≡ b → (session_after o s (filter (is_own n) items)).phase ≡ absent → ((command_done o s c).0.phase ≡ absent → (session_after o (command_done o s c).0 (filter (is_own n) items)).phase ≡ absent)
        → (session_after o s (cond b (command_item c ∷ filter (is_own n) items) (filter (is_own n) items))).phase ≡ absent
    go true e other own = own (ap (λ p. (done_in p o s c).0.phase) a ∙ ap (λ (x : Session). x.phase) (absent_command s n c h.0 e).0 ∙ a)
    go false e other own = other

-- the reply of a session that is never created is `badarg`
pub never_created : (o : Exports) (ks : List Function) (p : RunState) (picks : List ℕ) (c : Command) → is_created (creations p.commands) (session_of c) ≡ false → creates (session_of c) c ≡ false
    → reply_of o (history_from ks p picks) c ≡ word "badarg"
never_created o ks p picks c e k =
    let n : Name = session_of c in
    let s : Session = session_after o (absent_session o) (filter (is_own n) (history_from ks p picks)) in
    ap (λ q. (done_in q o s c).1) (stays_absent o n (absent_session o) (history_from ks p picks) refl (never_from ks n p picks (never_in n p.commands e)))
    ∙ (absent_command s n c k (name_self n)).1

-- a command of the list creates no session that isn't created
pub no_creation : (n : Name) (cs : List Command) (k : ℕ) (c : Command) → is_created (creations cs) n ≡ false → slice_get cs k ≡ Some c → creates n c ≡ false
no_creation n cs k c e h = in_list n cs k c (never_in n cs e) h
  where
    in_list : (n : Name) (cs : List Command) (k : ℕ) (c : Command) → NeverIn n cs → slice_get cs k ≡ Some c → creates n c ≡ false
    in_list n [] k c h g = cc
    in_list n (d ∷ cs) zero c h g = cc (h.0, g)
    in_list n (d ∷ cs) (suc k) c h g = in_list n cs k c h.1 g
