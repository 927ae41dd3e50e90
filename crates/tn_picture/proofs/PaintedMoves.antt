-- The rows of a move, event by event, and of a run, pick by pick.
use Rattle.std.proofs.Common.{◌≡◌, ◌∙◌, ℕ, suc, ◌+◌, ◌<◌, ◌≤◌, Bool, true, false, if◌then◌else◌, List, [], ◌∷◌, ◌++◌, map, length, drop, take, get_or, refl, sym, ap, subst, add-one, append-nil, append_assoc, length-append, arith}
use Rattle.std.proofs.lemmas.List.{drop_more, drop_all, take_all, map-append}
use Rattle.std.specs.declared.vec.Vec.{Vec}
use Rattle.def_script.specs.Program.{Function, Program}
use Rattle.def_script.specs.Exports.{Exports, exports_of}
use Rattle.def_node.specs.Event.{Event}
use Rattle.def_outlook.specs.Outlook.{outlook}
use Rattle.def_run.specs.Run.{HistoryItem, event_item, RunState, PickStep, pick_step, events, moves, moves_from, start, run_state_of, pick_step_after}
use Rattle.def_run.proofs.Replay.{pick_kept, moves_bounded}
use Rattle.def_run.specs.History.{NamedSession, all_after, all_after_items, named_sessions, moments_from, move_history, move_histories_from, moments_of}
use Rattle.def_picture.specs.Picture as picture
use Rattle.def_picture.specs.Picture.{PictureRow, Report, reports_of, row_at, moment_row, rows_of, shape_of, label_of}
use Rattle.tn_trace.specs.Observers.{IsNextMove, SeesMove}
use Rattle.tn_trace.specs.Follows.{AddsEach, AddsFrom}
use Rattle.tn_trace.specs.declared.journal.JournalEntry.{JournalEntry}
use Rattle.tn_trace.proofs.Moves.{place_more, events_more, moves_more}
use Rattle.tn_picture.specs.Slots.{reports_seen}
use Rattle.tn_picture.specs.Views.{picture_row_seen, row_shape_seen}
use Rattle.tn_picture.specs.Painters.{ArePainterSessions, sessions_at, HasPainted, rows_seen, rows_over, rows_of_pick, AddsRows}
use Rattle.tn_picture.specs.declared.row.Row.{Row}
use Rattle.tn_picture.specs.declared.painter.Painter.{Painter}

-- ---- one row

row-with : ℕ → picture.Shape → List ℕ → List Report → PictureRow
row-with k shape label reports = record { move = k; shape = shape; label = label; reports = reports }

pub row_is : {A : Type 0} (k : ℕ) (ss : List NamedSession) (x : HistoryItem) (row : Row A) → row.move_number ≡ k → row_shape_seen row.shape ≡ shape_of x → row.label.items ≡ label_of x → reports_seen row.reports ≡ reports_of 1 ss x → picture_row_seen row ≡ row_at k ss x
unfolding row-with
row_is k ss x row number shape label reports =
    ap (λ n. row-with n (row_shape_seen row.shape) row.label.items (reports_seen row.reports)) number
    ∙ ap (λ s. row-with k s row.label.items (reports_seen row.reports)) shape
    ∙ ap (λ l. row-with k (shape_of x) l (reports_seen row.reports)) label
    ∙ ap (λ rs. row-with k (shape_of x) (label_of x) rs) reports

pub row_added : {A : Type 0} (k : ℕ) (ss : List NamedSession) (x : HistoryItem) (row : Row A) (rows rows' : Vec (Row A) A) → rows'.items ≡ rows.items ++ row ∷ [] → picture_row_seen row ≡ row_at k ss x → rows_seen rows' ≡ rows_seen rows ++ row_at k ss x ∷ []
row_added k ss x row rows rows' pushed is = ap (map picture_row_seen) pushed ∙ map-append picture_row_seen rows.items (row ∷ []) ∙ ap (λ r. rows_seen rows ++ r ∷ []) is

-- ---- one move

-- the events of a list
abbrev pub items_of : {E : Type 0} → (E → Event) → List E → List HistoryItem
items_of v es = map event_item (map v es)

-- some of what is shown has its rows, and the rest is still to come
pub record IsPainted (o : Exports) (k : ℕ) (ss us : List NamedSession) (xs rest : List HistoryItem) (first now : List PictureRow) : Type 0 where
  pub sessions : all_after_items o ss xs ≡ all_after_items o us rest
  pub rows : now ++ rows_over o k us rest ≡ first ++ rows_over o k ss xs

pub none_painted : (o : Exports) (k : ℕ) (ss : List NamedSession) (xs : List HistoryItem) (first : List PictureRow) → IsPainted o k ss ss xs xs first first
none_painted o k ss xs first = record { sessions = refl; rows = refl }

one_painted : (o : Exports) (k : ℕ) (ss us : List NamedSession) (xs rest : List HistoryItem) (x : HistoryItem) (first now next : List PictureRow) → next ≡ now ++ row_at k us x ∷ []
    → IsPainted o k ss us xs (x ∷ rest) first now → IsPainted o k ss (all_after o us x) xs rest first next
one_painted o k ss us xs rest x first now next made h =
    let later : List PictureRow = rows_over o k (all_after o us x) rest in
    record {
      sessions = h.sessions;
      rows = ap (λ l. l ++ later) made ∙ append_assoc now (row_at k us x ∷ []) later ∙ h.rows;
    }

pub more_painted : {E : Type 0} (v : E → Event) (o : Exports) (k : ℕ) (ss us : List NamedSession) (es : List E) (i : ℕ) (e : E) (first now next : List PictureRow) → i < length es → e ≡ get_or es i e
    → next ≡ now ++ row_at k us (event_item (v e)) ∷ [] → IsPainted o k ss us (items_of v es) (items_of v (drop i es)) first now → IsPainted o k ss (all_after o us (event_item (v e))) (items_of v es) (items_of v (drop (i + 1) es)) first next
more_painted v o k ss us es i e first now next below is made h =
    let left : drop i es ≡ e ∷ drop (i + 1) es = drop_more es i e below ∙ ap (λ y. y ∷ drop (i + 1) es) (sym is) in
    one_painted o k ss us (items_of v es) (items_of v (drop (i + 1) es)) (event_item (v e)) first now next made (subst (λ l. IsPainted o k ss us (items_of v es) (items_of v l) first now) left h)

pub all_painted : {A E : Type 0} (v : E → Event) (o : Exports) (k : ℕ) (ss us : List NamedSession) (es fs : List E) (i : ℕ) (new : Painter A) (first now : List PictureRow) → es ≡ fs → length es ≤ i → ArePainterSessions o us new
    → IsPainted o k ss us (items_of v es) (items_of v (drop i es)) first now
    → ArePainterSessions o (all_after_items o ss (items_of v fs)) new × (now ≡ first ++ rows_over o k ss (items_of v fs))
all_painted v o k ss us es fs i new first now same past at h =
    let none : drop i es ≡ [] = drop_all i es past in (
      subst (λ ts. ArePainterSessions o ts new) (sym (h.sessions ∙ ap (λ l. all_after_items o us (items_of v l)) none) ∙ ap (λ l. all_after_items o ss (items_of v l)) same) at,
      sym (ap (λ l. now ++ rows_over o k us (items_of v l)) none ∙ append-nil now) ∙ h.rows ∙ ap (λ l. first ++ rows_over o k ss (items_of v l)) same,
    )

-- ---- one pick

after-append : (o : Exports) (ss : List NamedSession) (xs ys : List HistoryItem) → all_after_items o ss (xs ++ ys) ≡ all_after_items o (all_after_items o ss xs) ys
after-append o ss [] ys = refl
after-append o ss (x ∷ xs) ys = after-append o (all_after o ss x) xs ys

sessions_next : (p : Program) (picks : List ℕ) (pick : ℕ) → sessions_at p (picks ++ pick ∷ []) ≡ all_after_items (exports_of p) (sessions_at p picks) (pick_step_after p picks pick).shown
sessions_next p picks pick =
    ap (all_after_items (exports_of p) (named_sessions p)) (events_more p picks pick) ∙ after-append (exports_of p) (named_sessions p) (events p picks) (pick_step_after p picks pick).shown

-- the painter saw a move that shows this
pub move_painted : {A : Type 0} (p : Program) (picks : List ℕ) (entry : JournalEntry) (shown : List HistoryItem) (old new : Painter A) (rows rows' : Vec (Row A) A) → IsNextMove p picks entry shown
    → ArePainterSessions (exports_of p) (all_after_items (exports_of p) (sessions_at p picks) shown) new → rows_seen rows' ≡ rows_seen rows ++ rows_over (exports_of p) entry.number (sessions_at p picks) shown
    → SeesMove HasPainted AddsRows p picks entry.pick old new rows rows'
move_painted p picks entry shown old new rows rows' next sessions written =
    let o : Exports = exports_of p in
    let ss : List NamedSession = sessions_at p picks in
    let number : entry.number ≡ suc (length (moves p picks)) = next.numbered ∙ sym (ap (λ js. suc (length js)) next.all) in
    record {
      after = subst (λ rs. ArePainterSessions o rs new) (ap (all_after_items o ss) (sym next.shows) ∙ sym (sessions_next p picks entry.pick)) sessions;
      added = written ∙ ap (λ n. rows_seen rows ++ rows_over o n ss shown) number ∙ ap (λ xs. rows_seen rows ++ rows_over o (suc (length (moves p picks))) ss xs) (sym next.shows);
    }

-- ---- all picks

-- the rows of the picks, after so many moves
abbrev rows_from : Exports → List Function → RunState → ℕ → List NamedSession → List ℕ → List PictureRow
rows_from o fs q k ss [] = []
rows_from o fs q k ss (pick ∷ picks) =
    let t : PickStep = pick_step fs q pick in
    rows_over o (suc k) ss t.shown ++ rows_from o fs t.after (if t.moved then suc k else k) (all_after_items o ss t.shown) picks

rows-of-moments : (o : Exports) (k pick : ℕ) (ss : List NamedSession) (xs : List HistoryItem) → map moment_row (moments_from o k pick ss xs) ≡ rows_over o k ss xs
rows-of-moments o k pick ss [] = refl
rows-of-moments o k pick ss (x ∷ xs) = ap (λ l. row_at k ss x ∷ l) (rows-of-moments o k pick (all_after o ss x) xs)

from-history : (o : Exports) (fs : List Function) (q : RunState) (k : ℕ) (ss : List NamedSession) (picks : List ℕ) → map moment_row (moments_of (move_histories_from o fs q k ss picks)) ≡ rows_from o fs q k ss picks
from-history o fs q k ss [] = refl
from-history o fs q k ss (pick ∷ picks) =
    go (pick_step fs q pick) (pick_step fs q pick).moved (λ e. ap (λ (u : PickStep). u.shown) (pick_kept fs q pick e)) refl (λ r j vs. from-history o fs r j vs picks)
  where
    go : (t : PickStep) (b : Bool) → (t.moved ≡ false → t.shown ≡ []) → t.moved ≡ b → ((r : RunState) (j : ℕ) (vs : List NamedSession) → map moment_row (moments_of (move_histories_from o fs r j vs picks)) ≡ rows_from o fs r j vs picks)
        → map moment_row (moments_of (if b then move_history o (suc k) pick (outlook fs q.world pick) ss t.shown ∷ move_histories_from o fs t.after (suc k) (all_after_items o ss t.shown) picks else move_histories_from o fs t.after k ss picks))
        ≡ rows_over o (suc k) ss t.shown ++ rows_from o fs t.after (if b then suc k else k) (all_after_items o ss t.shown) picks
    go t true none e again =
        map-append moment_row (moments_from o (suc k) pick ss t.shown) (moments_of (move_histories_from o fs t.after (suc k) (all_after_items o ss t.shown) picks))
        ∙ ap (λ l. l ++ map moment_row (moments_of (move_histories_from o fs t.after (suc k) (all_after_items o ss t.shown) picks))) (rows-of-moments o (suc k) pick ss t.shown)
        ∙ ap (λ l. rows_over o (suc k) ss t.shown ++ l) (again t.after (suc k) (all_after_items o ss t.shown))
    go t false none e again = again t.after k ss ∙ ap (λ xs. rows_over o (suc k) ss xs ++ rows_from o fs t.after k (all_after_items o ss xs) picks) (sym (none e))

-- the rows of the later picks
abbrev later_rows : Program → List ℕ → List ℕ → List PictureRow
later_rows p picks rest = rows_from (exports_of p) p.functions (run_state_of p picks) (length (moves p picks)) (sessions_at p picks) rest

counted : (p : Program) (picks : List ℕ) (pick : ℕ) (b : Bool) → (pick_step_after p picks pick).moved ≡ b → length (moves p (picks ++ pick ∷ [])) ≡ (if b then suc (length (moves p picks)) else length (moves p picks))
counted p picks pick true e =
    ap length (moves_more p picks pick ∙ ap (λ b. moves p picks ++ (if b then pick ∷ [] else [])) e) ∙ length-append (moves p picks) (pick ∷ []) ∙ add-one (length (moves p picks))
counted p picks pick false e = ap length (moves_more p picks pick ∙ ap (λ b. moves p picks ++ (if b then pick ∷ [] else [])) e ∙ append-nil (moves p picks))

later_next : (p : Program) (picks : List ℕ) (pick : ℕ) (rest : List ℕ) → later_rows p picks (pick ∷ rest) ≡ rows_of_pick p picks pick ++ later_rows p (picks ++ pick ∷ []) rest
later_next p picks pick rest =
    let o : Exports = exports_of p in
    let t : PickStep = pick_step_after p picks pick in
    ap (λ q. rows_of_pick p picks pick ++ rows_from o p.functions q (if t.moved then suc (length (moves p picks)) else length (moves p picks)) (all_after_items o (sessions_at p picks) t.shown) rest) (sym (place_more p picks pick))
    ∙ ap (λ n. rows_of_pick p picks pick ++ rows_from o p.functions (run_state_of p (picks ++ pick ∷ [])) n (all_after_items o (sessions_at p picks) t.shown) rest) (sym (counted p picks pick t.moved refl))
    ∙ ap (λ ss. rows_of_pick p picks pick ++ rows_from o p.functions (run_state_of p (picks ++ pick ∷ [])) (length (moves p (picks ++ pick ∷ []))) ss rest) (sym (sessions_next p picks pick))

painted : {A : Type 0} (p : Program) (more picks : List ℕ) (old new : Painter A) (rows rows' : Vec (Row A) A) → AddsEach AddsRows p picks more old new rows rows' → rows_seen rows' ≡ rows_seen rows ++ later_rows p picks more
painted p [] picks old new rows rows' h = ap (λ (v : Vec _ _). rows_seen v) h.1 ∙ sym (append-nil (rows_seen rows))
painted p (pick ∷ more) picks old new rows rows' h =
    painted p more (picks ++ pick ∷ []) h.0 new h.1 rows' h.3
    ∙ ap (λ l. l ++ later_rows p (picks ++ pick ∷ []) more) h.2
    ∙ append_assoc (rows_seen rows) (rows_of_pick p picks pick) (later_rows p (picks ++ pick ∷ []) more)
    ∙ ap (λ l. rows_seen rows ++ l) (sym (later_next p picks pick more))

-- picks that don't move can be left out
turn-again : (o : Exports) (fs : List Function) (q : RunState) (k : ℕ) (ss : List NamedSession) (pick : ℕ) (js picks : List ℕ) (b : Bool) → (pick_step fs q pick).moved ≡ b
    → ((j : ℕ) (vs : List NamedSession) → rows_from o fs (pick_step fs q pick).after j vs js ≡ rows_from o fs (pick_step fs q pick).after j vs picks)
    → rows_from o fs q k ss ((if b then pick ∷ [] else []) ++ js) ≡ rows_over o (suc k) ss (pick_step fs q pick).shown ++ rows_from o fs (pick_step fs q pick).after (if b then suc k else k) (all_after_items o ss (pick_step fs q pick).shown) picks
turn-again o fs q k ss pick js picks true e again =
    let t : PickStep = pick_step fs q pick in
    ap (λ b. rows_over o (suc k) ss t.shown ++ rows_from o fs t.after (if b then suc k else k) (all_after_items o ss t.shown) js) e
    ∙ ap (λ l. rows_over o (suc k) ss t.shown ++ l) (again (suc k) (all_after_items o ss t.shown))
turn-again o fs q k ss pick js picks false e again =
    let t : PickStep = pick_step fs q pick in
    let kept : t ≡ _ = pick_kept fs q pick e in
    ap (λ r. rows_from o fs r k ss js) (sym (ap (λ (u : PickStep). u.after) kept))
    ∙ again k ss
    ∙ ap (λ xs. rows_over o (suc k) ss xs ++ rows_from o fs t.after k (all_after_items o ss xs) picks) (sym (ap (λ (u : PickStep). u.shown) kept))

rows-again : (o : Exports) (fs : List Function) (q : RunState) (k : ℕ) (ss : List NamedSession) (picks : List ℕ) → rows_from o fs q k ss (moves_from fs q picks) ≡ rows_from o fs q k ss picks
rows-again o fs q k ss [] = refl
rows-again o fs q k ss (pick ∷ picks) =
    let t : PickStep = pick_step fs q pick in
    turn-again o fs q k ss pick (moves_from fs t.after picks) picks t.moved refl (λ j vs. rows-again o fs t.after j vs picks)

-- the rows of a run are those of its history
rows-by-picks : (p : Program) (picks : List ℕ) → rows_of p picks ≡ rows_from (exports_of p) p.functions (start p) 0 (named_sessions p) picks
rows-by-picks p picks = from-history (exports_of p) p.functions (start p) 0 (named_sessions p) picks

-- what the painter added of a whole run is its rows
pub run_painted : {A : Type 0} (p : Program) (picks : List ℕ) (old new : Painter A) (rows rows' : Vec (Row A) A) → AddsFrom AddsRows p (take 65536 []) (take 65536 (moves p picks)) old new rows rows' → rows_seen rows' ≡ rows_seen rows ++ rows_of p picks
run_painted p picks old new rows rows' h =
    let none : take 65536 [] ≡ [] = take_all 65536 [] (nothing_below 65536) in
    let all : moves p picks ≡ h.more = sym (take_all 65536 (moves p picks) (moves_bounded p picks)) ∙ h.longer ∙ ap (λ js. js ++ h.more) none in
    painted p h.more [] old new rows rows' (subst (λ js. AddsEach AddsRows p js h.more old new rows rows') none h.added)
    ∙ ap (λ js. rows_seen rows ++ rows_from (exports_of p) p.functions (start p) 0 (named_sessions p) js) (sym all)
    ∙ ap (λ rs. rows_seen rows ++ rs) (rows-again (exports_of p) p.functions (start p) 0 (named_sessions p) picks ∙ sym (rows-by-picks p picks))
  where
    nothing_below : (n : ℕ) → 0 ≤ n
    nothing_below n = omega arith
