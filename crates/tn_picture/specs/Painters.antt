-- What the code's painter stands for, and what it adds of one more pick.
use Rattle.std.specs.Prelude.{◌≡◌, ℕ, suc, List, [], ◌∷◌, ◌++◌, map, length, Result, OnOk}
use Rattle.std.specs.declared.alloc.AllocError.{AllocError}
use Rattle.std.specs.declared.vec.Vec.{Vec}
use Rattle.def_script.specs.Program.{Program}
use Rattle.def_script.specs.Exports.{Exports, exports_of, visible}
use Rattle.def_run.specs.Run.{HistoryItem, event_item, command_item, events, moves, pick_step_after}
use Rattle.def_run.specs.History.{NamedSession, all_after, all_after_items, named_sessions}
use Rattle.def_picture.specs.Picture.{PictureRow, row_at}
use Rattle.tn_term.specs.Views.{alive_of}
use Rattle.tn_flags.specs.Views.{event_of, command_of}
use Rattle.tn_flags.specs.declared.event.Event.{Event}
use Rattle.tn_flags.specs.declared.command.Command.{Command}
use Rattle.tn_trace.specs.Slots.{EachPair}
use Rattle.tn_picture.specs.Slots.{IsSlotOf}
use Rattle.tn_picture.specs.Views.{picture_row_seen}
use Rattle.tn_picture.specs.declared.row.Row.{Row}
use Rattle.tn_picture.specs.declared.painter.Painter.{Painter}

-- the painter's sessions are these
abbrev pub ArePainterSessions : {A : Type 0} → Exports → List NamedSession → Painter A → Type 0
ArePainterSessions o ss c = EachPair (IsSlotOf o (alive_of c.living)) ss c.slots.items

-- the program's sessions after these picks
abbrev pub sessions_at : Program → List ℕ → List NamedSession
sessions_at p picks = all_after_items (exports_of p) (named_sessions p) (events p picks)

-- the painter's sessions are those of the program after these picks
abbrev pub HasPainted : {A : Type 0} → Painter A → Program → List ℕ → Type 0
HasPainted c p picks = ArePainterSessions (exports_of p) (sessions_at p picks) c

-- the rows of a vector
abbrev pub rows_seen : {A : Type 0} → Vec (Row A) A → List PictureRow
rows_seen v = map picture_row_seen v.items

-- the rows of a move that shows these
abbrev pub rows_over : Exports → ℕ → List NamedSession → List HistoryItem → List PictureRow
rows_over o k ss [] = []
rows_over o k ss (x ∷ xs) = row_at k ss x ∷ rows_over o k (all_after o ss x) xs

-- the sessions saw what is shown, and its row was appended
abbrev pub PaintsItem : {A : Type 0} → Exports → ℕ → HistoryItem → Painter A → Painter A → Vec (Row A) A → Vec (Row A) A → Result (Unit {0}) AllocError → Type 0
PaintsItem o k x old new rows rows' result =
    (ss : List NamedSession) → ArePainterSessions o ss old
    → OnOk result (ArePainterSessions o (all_after o ss x) new × (rows_seen rows' ≡ rows_seen rows ++ row_at k ss x ∷ []))

-- an event
abbrev pub PaintsEvent : {A : Type 0} → ℕ → Event A → Painter A → Painter A → Vec (Row A) A → Vec (Row A) A → Result (Unit {0}) AllocError → Type 0
PaintsEvent k event old new rows rows' result = (o : Exports) → PaintsItem o k (event_item (event_of event)) old new rows rows' result

-- several events, in order
abbrev pub PaintsEvents : {A : Type 0} → ℕ → List (Event A) → Painter A → Painter A → Vec (Row A) A → Vec (Row A) A → Result (Unit {0}) AllocError → Type 0
PaintsEvents k events old new rows rows' result =
    (o : Exports) (ss : List NamedSession) → ArePainterSessions o ss old
    → OnOk result (ArePainterSessions o (all_after_items o ss (map event_item (map event_of events))) new × (rows_seen rows' ≡ rows_seen rows ++ rows_over o k ss (map event_item (map event_of events))))

-- a command, over the functions of the program
abbrev pub PaintsCommand : {A : Type 0} → ℕ → Program → Command A → Painter A → Painter A → Vec (Row A) A → Vec (Row A) A → Result (Unit {0}) AllocError → Type 0
PaintsCommand k p command old new rows rows' result =
    (o : Exports) → o.functions ≡ visible p.functions → PaintsItem o k (command_item (command_of command)) old new rows rows' result

-- the rows of one more pick
abbrev pub rows_of_pick : Program → List ℕ → ℕ → List PictureRow
rows_of_pick p picks pick = rows_over (exports_of p) (suc (length (moves p picks))) (sessions_at p picks) (pick_step_after p picks pick).shown

-- they were appended
abbrev pub AddsRows : {A : Type 0} → Program → List ℕ → ℕ → Painter A → Painter A → Vec (Row A) A → Vec (Row A) A → Type 0
AddsRows p picks pick old new rows rows' = rows_seen rows' ≡ rows_seen rows ++ rows_of_pick p picks pick
