-- What is written of a run that is drawn.
use Rattle.std.specs.Prelude.{◌≡◌, ℕ, Bool, true, false, List, Option, Some, None}
use Rattle.def_script.specs.Program.{Program}
use Rattle.def_script.specs.Script.{Refusal}
use Rattle.def_picture.specs.Picture.{Picture, picture_of}
use Rattle.def_picture.specs.Plain.{plain_text}
use Rattle.def_picture.specs.Svg.{svg_text}
use Rattle.def_picture.specs.JsonPicture.{picture_json}
use Rattle.tn_moves.specs.Schedules.{schedule_seen, ArePicks, HasPicks}
use Rattle.tn_run.specs.Answers.{IsRefusedRun, text_refusal}
use Rattle.tn_run.specs.Jobs.{JobView, failed_end}
use Rattle.tn_run.specs.declared.refusal_form.RefusalForm.TheVariants.{Nothing}
use Rattle.tn_run.specs.declared.fault.RunFault.{RunFault}
use Rattle.tn_picture.specs.declared.request.PictureFormat.{PictureFormat}
use Rattle.tn_picture.specs.declared.request.PictureFormat.TheVariants.{Svg, Plain, Json}
use Rattle.tn_picture.specs.declared.request.DrawRequest.{DrawRequest}
use Rattle.tn_picture.specs.declared.request.DrawOutcome.{DrawOutcome}
use Rattle.tn_picture.specs.declared.request.DrawOutcome.TheVariants.{Drawn, Refused}

-- the text of a picture
abbrev pub format_text : PictureFormat → Picture → List ℕ
format_text Svg picture = svg_text picture
format_text Plain picture = plain_text picture
format_text Json picture = picture_json picture

-- the text of the picture of a program's run by these picks
abbrev pub picture_text : PictureFormat → Program → List ℕ → List ℕ
picture_text format p picks = format_text format (picture_of p picks)

-- the text is that of the picture of the program's run by the picks that are asked
pub record IsAskedDrawing (q : DrawRequest) (p : Program) (text : List ℕ) : Type 0 where
  pub picks : List ℕ
  pub given : ArePicks (schedule_seen q.schedule) p picks
  pub drawing : text ≡ picture_text q.format p picks

-- what is written by each outcome: nothing where the moves are refused
abbrev pub IsDrawn : DrawRequest → Program → DrawOutcome → List ℕ → Type 0
IsDrawn q p Drawn text = IsAskedDrawing q p text
IsDrawn q p (Refused r) text = IsRefusedRun (schedule_seen q.schedule) p r text

-- the refusal of a text that an outcome is
abbrev pub draw_refusal : DrawOutcome → Option Refusal
draw_refusal Drawn = None
draw_refusal (Refused r) = text_refusal r

-- the outcome is the picture that is asked for
abbrev pub is_drawing : DrawOutcome → Bool
is_drawing Drawn = true
is_drawing (Refused r) = false

-- the picture that is asked for
abbrev pub draw_by : DrawRequest → JobView DrawOutcome RunFault
draw_by q = record {
  of_program = IsDrawn q;
  refusal_in = draw_refusal;
  refusal_form = Nothing;
  succeeds = is_drawing;
  has = λ outcome. Unit {0};
  reads = HasPicks (schedule_seen q.schedule);
  end_of = failed_end;
}
