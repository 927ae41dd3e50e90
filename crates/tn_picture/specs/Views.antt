-- What the code's pictures stand for.
use Rattle.std.specs.Prelude.{map}
use Rattle.def_picture.specs.Picture as picture
use Rattle.tn_picture.specs.declared.shape.Shape.{Shape}
use Rattle.tn_picture.specs.declared.shape.Shape.TheVariants.{Arrow, FrameStart, FrameEnd, Birth, Death, Dot, CommandLine}
use Rattle.tn_picture.specs.declared.row.Report.{Report}
use Rattle.tn_picture.specs.declared.row.Row.{Row}
use Rattle.tn_picture.specs.declared.life.Life.{Life}
use Rattle.tn_picture.specs.declared.picture.Picture.{Picture}

-- the shape of a row
abbrev pub row_shape_seen : Shape → picture.Shape
row_shape_seen (Arrow p q) = picture.arrow p q
row_shape_seen (FrameStart p d) = picture.frame_start p d
row_shape_seen (FrameEnd p d) = picture.frame_end p d
row_shape_seen (Birth p) = picture.birth p
row_shape_seen (Death p) = picture.death p
row_shape_seen (Dot p) = picture.dot p
row_shape_seen CommandLine = picture.command_line

-- a message of a row
abbrev pub report_seen : {A : Type 0} → Report A → picture.Report
report_seen r = record { session = r.session; text = r.text.items }

-- a row
abbrev pub picture_row_seen : {A : Type 0} → Row A → picture.PictureRow
picture_row_seen r = record { move = r.move_number; shape = row_shape_seen r.shape; label = r.label.items; reports = map report_seen r.reports.items }

-- a life
abbrev pub life_seen : Life → picture.Life
life_seen l = record { pid = l.pid; first = l.first; last = l.last; depth = l.depth }

-- a picture
abbrev pub picture_seen : {A : Type 0} → Picture A → picture.Picture
picture_seen p = record { sessions = p.sessions.items; lives = map life_seen p.lives.items; rows = map picture_row_seen p.rows.items }
