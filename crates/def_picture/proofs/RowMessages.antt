-- The messages of a session in the rows of a picture are the lines of its listing: both are projections of the history.
use Rattle.std.proofs.Common.{◌≡◌, ◌≢◌, ℕ, zero, suc, ◌+◌, ◌<◌, ◌≤◌, ◌==◌, Bool, true, false, List, [], ◌∷◌, ◌++◌, map, length, refl, sym, ap, ap₂, ◌∙◌, append-nil, if◌then◌else◌, subst, arith}
use Rattle.std.specs.Prelude.{flat_map, filter, All}
use Rattle.std.specs.Str.{bytes_eq}
use Rattle.std.proofs.lemmas.Slice.Eq.{bytes_eq-Decides}
use Rattle.std.proofs.lemmas.Bool.{eq-eqb, ne_eqb}
use Rattle.std.proofs.lemmas.List.{map-append}
use Rattle.std.proofs.lemmas.List.Elements.{filter-append, All-append, All-nil, All-map}
use Rattle.def_term.specs.Names.{Name}
use Rattle.def_term.specs.Text.{w}
use Rattle.def_term.specs.Tree.{Tree}
use Rattle.def_script.specs.Program.{Program}
use Rattle.def_script.specs.Exports.{Exports, exports_of}
use Rattle.def_script.specs.Script.{creations}
use Rattle.def_run.specs.Run.{HistoryItem, events}
use Rattle.def_run.specs.History.{NamedSession, Moment, history, session_in, item_message}
use Rattle.def_run.specs.HistoryLaws.{sessions_by_view}
use Rattle.def_run.proofs.Histories.{state_by_view, message_by_view, message-at, over, over-history, history_has_the_listing}
use Rattle.def_picture.specs.Picture.{Report, PictureRow, report_of, reports_of, moment_row, rows_of, shape_of, label_of, texts_by}
use Rattle.def_picture.specs.Laws.{IsNameAt, IsOfOneSession, PictureShowsTheListing, PictureShowsSessionsAlone, PictureShowsTheEvents}

-- ---- names

same-name : (n m : Name) → n ≡ m → bytes_eq n m ≡ true
same-name n m h = (bytes_eq-Decides n m).1 h

other-name : (n m : Name) → n ≢ m → bytes_eq n m ≡ false
other-name n m h = go (bytes_eq n m) refl
  where
    go : (b : Bool) → bytes_eq n m ≡ b → bytes_eq n m ≡ false
    go true e = absurd (h ((bytes_eq-Decides n m).0 e))
    go false e = e

-- ---- the reports of one session

texts-append : (t : ℕ) (rs qs : List Report) → texts_by t (rs ++ qs) ≡ texts_by t rs ++ texts_by t qs
texts-append t rs qs = ap (map (λ r. r.text)) (filter-append (λ r. r.session == t) rs qs) ∙ map-append (λ r. r.text) (filter (λ r. r.session == t) rs) (filter (λ r. r.session == t) qs)

own-texts : (t : ℕ) (ms : List Tree) → texts_by t (map (report_of t) ms) ≡ map w ms
own-texts t [] = refl
own-texts t (m ∷ ms) = ap (λ b. map (λ r. r.text) (if b then report_of t m ∷ filter (λ r. r.session == t) (map (report_of t) ms) else filter (λ r. r.session == t) (map (report_of t) ms))) (eq-eqb t t refl) ∙ ap (λ l. w m ∷ l) (own-texts t ms)

other-texts : (t j : ℕ) → j ≢ t → (ms : List Tree) → texts_by t (map (report_of j) ms) ≡ []
other-texts t j h [] = refl
other-texts t j h (m ∷ ms) = ap (λ b. map (λ r. r.text) (if b then report_of j m ∷ filter (λ r. r.session == t) (map (report_of j) ms) else filter (λ r. r.session == t) (map (report_of j) ms))) (ne_eqb j t h) ∙ other-texts t j h ms

-- sessions with greater numbers have none of this number
later-texts : (t j : ℕ) → t < j → (ss : List NamedSession) (x : HistoryItem) → texts_by t (reports_of j ss x) ≡ []
later-texts t j h [] x = refl
later-texts t j h (s ∷ ss) x =
    texts-append t (map (report_of j) (item_message s.1 x)) (reports_of (suc j) ss x)
    ∙ ap₂ (λ a b. a ++ b) (other-texts t j (λ e. absurd (omega (arith, e, h))) (item_message s.1 x)) (later-texts t (suc j) (omega arith) ss x)

module _ (o : Exports) (n : Name) (past : List HistoryItem) (x : HistoryItem) where
  -- of the session at this place its message is reported
  pub texts-at : (t j k : ℕ) → t ≡ j + k → (cs : List (Name × Name)) → IsNameAt k n cs → texts_by t (reports_of j (sessions_by_view o cs past) x) ≡ map w (item_message (session_in o n (sessions_by_view o cs past)) x)
  texts-at t j k e [] h = absurd h
  texts-at t j zero e (s ∷ cs) h =
      let here : NamedSession = (s.0, state_by_view o s.0 past) in
      let rest : List NamedSession = sessions_by_view o cs past in
      let same : t ≡ j = omega arith in
      texts-append t (map (report_of j) (item_message here.1 x)) (reports_of (suc j) rest x)
      ∙ ap₂ (λ a b. a ++ b) (ap (λ i. texts_by t (map (report_of i) (item_message here.1 x))) (sym same) ∙ own-texts t (item_message here.1 x)) (later-texts t (suc j) (omega arith) rest x)
      ∙ append-nil (map w (item_message here.1 x))
      ∙ ap (λ b. map w (item_message (if b then here.1 else session_in o n rest) x)) (sym (same-name n s.0 h))
  texts-at t j (suc k) e (s ∷ cs) h =
      let here : NamedSession = (s.0, state_by_view o s.0 past) in
      let rest : List NamedSession = sessions_by_view o cs past in
      texts-append t (map (report_of j) (item_message here.1 x)) (reports_of (suc j) rest x)
      ∙ ap₂ (λ a b. a ++ b) (other-texts t j (λ i. absurd (omega (arith, i, e))) (item_message here.1 x)) (texts-at t (suc j) k (omega arith) cs h.1)
      ∙ ap (λ b. map w (item_message (if b then here.1 else session_in o n rest) x)) (sym (other-name n s.0 h.0))

-- ---- all rows

flat-row : {B : Type 0} (f : PictureRow → List B) (ms : List Moment) → flat_map f (map moment_row ms) ≡ flat_map (λ m. f (moment_row m)) ms
flat-row f [] = refl
flat-row f (m ∷ ms) = ap (λ l. f (moment_row m) ++ l) (flat-row f ms)

flat-written : (f : Moment → List Tree) (ms : List Moment) → flat_map (λ m. map w (f m)) ms ≡ map w (flat_map f ms)
flat-written f [] = refl
flat-written f (m ∷ ms) = ap (λ l. map w (f m) ++ l) (flat-written f ms) ∙ sym (map-append w (f m) (flat_map f ms))

pub picture_shows_the_listing : PictureShowsTheListing
picture_shows_the_listing p picks k n named =
    let o : Exports = exports_of p in
    let cs : List (Name × Name) = creations p.commands in
    flat-row (λ r. texts_by (suc k) r.reports) (history p picks)
    ∙ over-history p picks (λ m. texts_by (suc k) (reports_of 1 m.before m.item)) (λ past x. map w (message_by_view o cs n past x))
    (λ j pick past x known. texts-at o n past x (suc k) 1 k (omega arith) cs named ∙ ap (map w) (message-at o cs n past x known))
    ∙ sym (over-history p picks (λ m. map w (item_message (session_in o n m.before) m.item)) (λ past x. map w (message_by_view o cs n past x)) (λ j pick past x known. ap (map w) (message-at o cs n past x known)))
    ∙ flat-written (λ m. item_message (session_in o n m.before) m.item) (history p picks)
    ∙ ap (map w) (history_has_the_listing n p picks)

-- ---- no other message

numbered-by : (count j : ℕ) → 1 ≤ j → j ≤ count → (ms : List Tree) → All (IsOfOneSession count) (map (report_of j) ms)
numbered-by count j low high ms = All-map (IsOfOneSession count) (report_of j) ms (λ k d lt. (low, high))

numbered-reports : (o : Exports) (count j : ℕ) (cs : List (Name × Name)) (past : List HistoryItem) (x : HistoryItem) → 1 ≤ j → j + length cs ≤ suc count → All (IsOfOneSession count) (reports_of j (sessions_by_view o cs past) x)
numbered-reports o count j [] past x low fits = All-nil (IsOfOneSession count)
numbered-reports o count j (s ∷ cs) past x low fits =
    All-append (IsOfOneSession count) (map (report_of j) (item_message (state_by_view o s.0 past) x)) (reports_of (suc j) (sessions_by_view o cs past) x)
    (numbered-by count j low (omega arith) (item_message (state_by_view o s.0 past) x))
    (numbered-reports o count (suc j) cs past x (omega arith) (omega arith))

numbered-over : (o : Exports) (cs : List (Name × Name)) (past xs : List HistoryItem) → All (IsOfOneSession (length cs)) (over (λ past x. reports_of 1 (sessions_by_view o cs past) x) past xs)
numbered-over o cs past [] = All-nil (IsOfOneSession (length cs))
numbered-over o cs past (x ∷ xs) =
    All-append (IsOfOneSession (length cs)) (reports_of 1 (sessions_by_view o cs past) x) (over (λ past x. reports_of 1 (sessions_by_view o cs past) x) (past ++ x ∷ []) xs)
    (numbered-reports o (length cs) 1 cs past x (omega arith) (omega arith)) (numbered-over o cs (past ++ x ∷ []) xs)

pub picture_shows_sessions_alone : PictureShowsSessionsAlone
picture_shows_sessions_alone p picks =
    let o : Exports = exports_of p in
    let cs : List (Name × Name) = creations p.commands in
    subst (All (IsOfOneSession (length cs)))
    (sym (flat-row (λ r. r.reports) (history p picks) ∙ over-history p picks (λ m. reports_of 1 m.before m.item) (λ past x. reports_of 1 (sessions_by_view o cs past) x) (λ j pick past x known. refl)))
    (numbered-over o cs [] (events p picks))

-- ---- events

module _ {B : Type 0} (f : HistoryItem → B) where
  one-each : (past xs : List HistoryItem) → over (λ past x. f x ∷ []) past xs ≡ map f xs
  one-each past [] = refl
  one-each past (x ∷ xs) = ap (λ l. f x ∷ l) (one-each (past ++ x ∷ []) xs)

  rows-each : (g : PictureRow → B) → ((m : Moment) → g (moment_row m) ≡ f m.item) → (ms : List Moment) → map g (map moment_row ms) ≡ flat_map (λ m. f m.item ∷ []) ms
  rows-each g same [] = refl
  rows-each g same (m ∷ ms) = ap₂ (λ a b. a ∷ b) (same m) (rows-each g same ms)

  pub of-events : (p : Program) (picks : List ℕ) (g : PictureRow → B) → ((m : Moment) → g (moment_row m) ≡ f m.item) → map g (rows_of p picks) ≡ map f (events p picks)
  of-events p picks g same = rows-each g same (history p picks) ∙ over-history p picks (λ m. f m.item ∷ []) (λ past x. f x ∷ []) (λ j pick past x known. refl) ∙ one-each [] (events p picks)

pub picture_shows_the_events : PictureShowsTheEvents
picture_shows_the_events p picks = (of-events shape_of p picks (λ r. r.shape) (λ m. refl), of-events label_of p picks (λ r. r.label) (λ m. refl))
