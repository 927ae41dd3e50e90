-- Exceptions, and the frames that they leave, in the words of the definitions.
use Rattle.std.specs.Prelude.{◌≡◌, ℕ, List, ◌∷◌, ◌++◌, filter_map, Option, option_to_list}
use Rattle.std.specs.declared.vec.Vec.{Vec}
use Rattle.def_term.specs.Tree.{Tree}
use Rattle.def_script.specs.Program.{Class}
use Rattle.def_node.specs.Event.{Event}
use Rattle.def_node.specs.Values.{fit}
use Rattle.def_node.specs.Process as process
use Rattle.def_node.specs.Process.{exception_of, left_by, kept_by, leaves_by, raises, raised_in, with_frames}
use Rattle.tn_term.specs.declared.term.Term.{Term}
use Rattle.tn_flags.specs.declared.class.Class as flags
use Rattle.tn_flags.specs.declared.event.Event as code
use Rattle.tn_flags.specs.Views.{class_of}
use Rattle.tn_script.specs.Views.{functions_of}
use Rattle.tn_process.specs.declared.context.StepContext.{StepContext}
use Rattle.tn_process.specs.declared.exception.Exception.{Exception}
use Rattle.tn_process.specs.declared.process.Frame.{Frame}
use Rattle.tn_process.specs.declared.process.Process.{Process}
use Rattle.tn_process.specs.Templates.{built_in}
use Rattle.tn_process.specs.Views.{events_of, exception_view, frame_of, process_seen}

-- the event of the frame that the exception leaves at this depth
abbrev pub raised_event : {A : Type 0} → StepContext A → Exception A → Frame A → ℕ → Option Event
raised_event c e f depth = raised_in (functions_of c.functions.now) c.pid (exception_view e) (frame_of f, depth)

-- the event, if any, comes after those
abbrev pub Gains : {A : Type 0} → Vec (code.Event A) A → Vec (code.Event A) A → Option Event → Type 0
Gains old new e = events_of new ≡ events_of old ++ option_to_list e

-- what a raise in the newest frame raises
abbrev pub exception_in : {A : Type 0} → Process A → Class → Tree → process.Exception
exception_in q c t = exception_of (process_seen q).frames c t

-- the process without the frames that an exception leaves
abbrev pub without_left : process.Process → process.Process
without_left q = with_frames q (kept_by q.frames)

-- the events of the frames that the exception leaves
abbrev pub events_left : {A : Type 0} → StepContext A → Exception A → Process A → List Event
events_left c e q = filter_map (raised_in (functions_of c.functions.now) c.pid (exception_view e)) (left_by (process_seen q).frames)

-- the exception leaves frames, from the newest on down
abbrev pub leaves_by_in : {A : Type 0} → StepContext A → Process A → Exception A → process.Act
leaves_by_in c q e = leaves_by (functions_of c.functions.now) c.pid (process_seen q) (process_seen q).frames (exception_view e)

-- the step of a raise
abbrev pub raises_in : {A : Type 0} → StepContext A → Process A → Frame A → flags.Class → Term A → process.Act
raises_in c q f class t =
    process.within q.links (fit (built_in f t)) (raises (functions_of c.functions.now) c.pid (process_seen q) (frame_of f ∷ (process_seen q).frames) (class_of class))
