-- A picture as JSON, a value a line (own).
-- Depends on pictures and on the JSON of RFC 8259, by the kit's `json`.
use Rattle.std.specs.Prelude.{ℕ, List, [], ◌∷◌, ◌++◌, map, Option, Some, None, codes}
use Rattle.json.specs.Json.{Json, null, array}
use Rattle.def_term.specs.Names.{Name}
use Rattle.def_term.specs.Text.{atom_text}
use Rattle.def_formats.specs.JsonRows.{text_value, number_value, items_from, object_from, json_line}
use Rattle.def_picture.specs.Picture.{Shape, arrow, frame_start, frame_end, birth, death, dot, command_line, Report, PictureRow, Life, Picture}
use Rattle.def_picture.specs.Templates.{fill, each_numbered}

-- ---- the shape of a row

-- its word
abbrev pub shape_word : Shape → List ℕ
shape_word (arrow p q) = codes "arrow"
shape_word (frame_start p d) = codes "frame_start"
shape_word (frame_end p d) = codes "frame_end"
shape_word (birth p) = codes "birth"
shape_word (death p) = codes "death"
shape_word (dot p) = codes "dot"
shape_word command_line = codes "command"

-- the process that moves; a command has none
abbrev pub shape_process : Shape → Option ℕ
shape_process (arrow p q) = Some p
shape_process (frame_start p d) = Some p
shape_process (frame_end p d) = Some p
shape_process (birth p) = Some p
shape_process (death p) = Some p
shape_process (dot p) = Some p
shape_process command_line = None

-- the process to which an arrow points
abbrev pub shape_target : Shape → Option ℕ
shape_target (arrow p q) = Some q
shape_target (frame_start p d) = None
shape_target (frame_end p d) = None
shape_target (birth p) = None
shape_target (death p) = None
shape_target (dot p) = None
shape_target command_line = None

-- the depth of the frame that starts or ends
abbrev pub shape_depth : Shape → Option ℕ
shape_depth (arrow p q) = None
shape_depth (frame_start p d) = Some d
shape_depth (frame_end p d) = Some d
shape_depth (birth p) = None
shape_depth (death p) = None
shape_depth (dot p) = None
shape_depth command_line = None

-- ---- values

-- a pid as it is printed
abbrev pub pid_value : ℕ → Json
pid_value p = text_value (fill (codes "<0.@.0>") (p ∷ []))

-- a value, or null where there is none
abbrev pub value_or_null : {X : Type 0} → (X → Json) → Option X → Json
value_or_null f None = null
value_or_null f (Some x) = f x

-- {"number":N,"text":TEXT}
abbrev pub report_value : Report → Json
report_value r = object_from ((codes "number", number_value r.session) ∷ (codes "text", text_value r.text) ∷ [])

-- ---- rows of JSON

-- {"session":NAME,"number":N}
abbrev pub name_value : ℕ → Name → Json
name_value n s = object_from ((codes "session", text_value (atom_text s)) ∷ (codes "number", number_value n) ∷ [])

-- {"pid":PID,"first":ROW,"last":ROW,"depth":D}
abbrev pub life_value : Life → Json
life_value l = object_from ((codes "pid", pid_value l.pid) ∷ (codes "first", number_value l.first) ∷ (codes "last", number_value l.last) ∷ (codes "depth", number_value l.depth) ∷ [])

-- {"row":N,"move":M,"shape":WORD,"pid":PID,"to":PID,"depth":D,"text":LABEL,"reports":[..]}
abbrev pub row_value : ℕ → PictureRow → Json
row_value n r = object_from (
    (codes "row", number_value n) ∷ (codes "move", number_value r.move)
    ∷ (codes "shape", text_value (shape_word r.shape)) ∷ (codes "pid", value_or_null pid_value (shape_process r.shape))
    ∷ (codes "to", value_or_null pid_value (shape_target r.shape)) ∷ (codes "depth", value_or_null number_value (shape_depth r.shape))
    ∷ (codes "text", text_value r.label) ∷ (codes "reports", array (items_from (map report_value r.reports))) ∷ [])

-- each on a line of its own
abbrev pub name_line : ℕ → Name → List ℕ
name_line n s = json_line (name_value n s)

abbrev pub life_line : ℕ → Life → List ℕ
life_line n l = json_line (life_value l)

abbrev pub row_line : ℕ → PictureRow → List ℕ
row_line n r = json_line (row_value n r)

-- the sessions, which are numbered from 1, the processes in the order of their births, and the rows, which are numbered from 0
abbrev pub picture_json : Picture → List ℕ
picture_json p = each_numbered name_line 1 p.sessions ++ each_numbered life_line 0 p.lives ++ each_numbered row_line 0 p.rows
