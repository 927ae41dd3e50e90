-- What the functions of one step answer, in the words of the definitions.
use Rattle.std.specs.Prelude.{◌≡◌, List, [], ◌∷◌, ℕ, ◌+◌, Bool, true, false, Option, Some, None, Result, IfOk, MatchOption, length, map, slice_get}
use Rattle.def_term.specs.Tree.{Tree, pid_in}
use Rattle.def_term.specs.Names.{Name, Mfa}
use Rattle.def_script.specs.Program.{Step, mfa_of}
use Rattle.def_node.specs.Event.{Event, Call, returned}
use Rattle.def_node.specs.Values.{fit, rebound_target}
use Rattle.def_node.specs.Process as process
use Rattle.def_node.specs.Process.{with_frames, with_env, enters, calls, spawns_with, performs, runs, leaves}
use Rattle.tn_term.specs.SharedTree.{shared_tree}
use Rattle.tn_term.specs.declared.term.Term.{Term}
use Rattle.tn_script.specs.Views.{entry_of, functions_of, function_of}
use Rattle.tn_script.specs.declared.form.Entry.{Entry}
use Rattle.tn_script.specs.declared.form.Function.{Function}
use Rattle.tn_process.specs.declared.act.Act.{Act}
use Rattle.tn_process.specs.declared.context.StepContext.{StepContext}
use Rattle.tn_process.specs.declared.context.Callee.{Callee}
use Rattle.tn_process.specs.declared.context.PendingCall.{PendingCall}
use Rattle.tn_process.specs.declared.process.Frame.{Frame}
use Rattle.tn_process.specs.declared.process.Process.{Process}
use Rattle.tn_process.specs.Templates.{built_in, all_built_in, env_for_call}
use Rattle.tn_process.specs.Views.{frame_of, process_seen, act_of}

-- with the process after it, the answer is this act
abbrev pub Does : {A E : Type 0} → Process A → Result (Act A) E → process.Act → Type 0
Does p r act = IfOk r (λ a. act_of p a ≡ act)

-- whatever the process is, the answer is the act that these links give
abbrev pub EndsIn : {A E : Type 0} → Result (Act A) E → (List Bool → process.Act) → Type 0
EndsIn {A} r f = IfOk r (λ a. (p : Process A) → act_of p a ≡ f p.links)

-- the frame came off, or there was none
abbrev pub Pops : {A : Type 0} → Process A → Process A → Option (Frame A) → Type 0
Pops old new o =
    MatchOption o ((process_seen new ≡ process_seen old) × ((process_seen old).frames ≡ []))
    (λ f. process_seen old ≡ with_frames (process_seen new) (frame_of f ∷ (process_seen new).frames))

-- with a value at a target
abbrev pub with_target : process.Frame → Option Name → Tree → process.Frame
with_target f x t = with_env f (rebound_target x t f.env)

-- over the frames that there are
abbrev pub with_newest : process.Process → process.Frame → process.Process
with_newest q f = with_frames q (f ∷ q.frames)

-- with this frame as the newest, and a value at a target
abbrev pub resumed_in : {A : Type 0} → Process A → Frame A → Option Name → Tree → process.Process
resumed_in q f x t = with_newest (process_seen q) (with_target (frame_of f) x t)

-- the event of a return of this value from a frame of the function at this depth
abbrev pub returned_in : {A : Type 0} → StepContext A → Function A → Tree → ℕ → Event
returned_in c k t depth = returned c.pid (mfa_of (function_of k)) t depth

-- a return of this value from a frame of the function, over the frames that there are
abbrev pub leaves_in : {A : Type 0} → StepContext A → Process A → Function A → Option Name → Tree → process.Act
leaves_in c q k x t = leaves c.pid (process_seen q) (function_of k) x (process_seen q).frames t

-- how the call is made
abbrev pub manner_of : {A : Type 0} → PendingCall A → process.Manner
manner_of k = record { target = k.target; named = k.named; by_catch = k.by_catch }

-- how the step makes its call
abbrev pub manner_in : {A : Type 0} → Callee A → process.Manner
manner_in k = record { target = k.target.now; named = k.named; by_catch = k.by_catch }

-- a call by the number of its function
abbrev pub enters_in : {A : Type 0} → StepContext A → Process A → PendingCall A → Option ℕ → process.Act
enters_in c q k i = enters (functions_of c.functions.now) c.pid (process_seen q) (process_seen q).frames (manner_of k) (map shared_tree k.args.items) i

-- the function of the newest frame
abbrev pub caller_in : {A : Type 0} → List (Function A) → Process A → Option Mfa
caller_in ks q = process.caller_of (functions_of ks) (process_seen q).frames

-- what the event of a call of the function tells of it
abbrev pub called_in : {A : Type 0} → StepContext A → Process A → PendingCall A → Function A → Call
called_in c q k f = record {
  mfa = mfa_of (function_of f);
  args = map shared_tree k.args.items;
  named = k.named;
  exported = f.exported;
  caller = caller_in c.functions.now q;
  depth = length (process_seen q).frames + 1;
}

-- with the frame of a call of the function with this number as the newest
abbrev pub enter : {A : Type 0} → StepContext A → Process A → PendingCall A → ℕ → Function A → process.Process
enter c q k i f =
    let env = env_for_call c.pid (function_of f).params (map shared_tree k.args.items) in
    record (process_seen q) { entry = None; frames = record { function = i; place = 0; env = env; target = k.target; by_catch = k.by_catch } ∷ (process_seen q).frames }

-- the same of a function that is there
abbrev pub enters_function_in : {A : Type 0} → StepContext A → Process A → PendingCall A → ℕ → Function A → process.Act
enters_function_in c q k i f =
    process.enters_at (functions_of c.functions.now) c.pid (process_seen q) (process_seen q).frames (manner_of k) (map shared_tree k.args.items) i (Some (function_of f))

-- the step of a call
abbrev pub calls_in : {A : Type 0} → StepContext A → Process A → Frame A → Callee A → process.Act
calls_in c q f k =
    calls (functions_of c.functions.now) c.pid (process_seen q) (frame_of f) (process_seen q).frames (manner_in k) k.home.now k.name.now (all_built_in f k.templates.now)

-- the step of a spawn
abbrev pub spawns_in : {A : Type 0} → StepContext A → Process A → Frame A → Callee A → process.Act
spawns_in c q f k =
    spawns_with (process_seen q) (frame_of f) (process_seen q).frames k.target.now k.home.now k.name.now (all_built_in f k.templates.now) c.child

-- the step of a send
abbrev pub sends_in : {A : Type 0} → Process A → Frame A → Term A → Term A → process.Act
sends_in q f to t = process.sends_to (process_seen q) (frame_of f) (process_seen q).frames (built_in f to) (built_in f t)

-- the step of a receive
abbrev pub receives_in : {A : Type 0} → Process A → Frame A → Option Name → process.Act
receives_in q f x = process.receives (process_seen q) (frame_of f) (process_seen q).frames x (process_seen q).mailbox

-- the step of a return
abbrev pub gives_back_in : {A : Type 0} → StepContext A → Process A → Function A → Frame A → Term A → process.Act
gives_back_in c q k f t = process.within q.links (fit (built_in f t)) (leaves c.pid (process_seen q) (function_of k) f.target (process_seen q).frames)

-- the process links itself to another, or removes its link
abbrev pub relinks : Bool → process.Process → ℕ → process.Act
relinks true q other = process.links_to q other
relinks false q other = process.unlinks_from q other

-- the step of a link, or of an unlink: its template within the limits first, then its kind
abbrev pub relinks_in : {A : Type 0} → Bool → Process A → Frame A → Term A → process.Act
relinks_in linked q f t =
    process.within q.links (fit (built_in f t))
    (λ t. process.to_pid (relinks linked (process.step_on (process_seen q) (frame_of f) (process_seen q).frames)) q.links (pid_in t))

-- the next step of a frame of this function
abbrev pub performs_in : {A : Type 0} → StepContext A → Process A → Function A → Frame A → Option Step → process.Act
performs_in c q k f s = performs (functions_of c.functions.now) c.pid c.child (process_seen q) (function_of k) (frame_of f) (process_seen q).frames s

-- the next step of the newest frame, which has been taken off
abbrev pub runs_frame_in : {A : Type 0} → StepContext A → Process A → Function A → Frame A → process.Act
runs_frame_in c q k f = performs_in c q k f (slice_get (function_of k).steps f.place)

-- the next step of the newest frame
abbrev pub run_act : {A : Type 0} → StepContext A → Process A → process.Act
run_act c q = runs (functions_of c.functions.now) c.pid c.child (process_seen q) (process_seen q).frames

-- the entry call
abbrev pub begins_in : {A : Type 0} → StepContext A → Process A → Entry A → process.Act
begins_in c q e = process.begins (functions_of c.functions.now) c.pid None (process_seen q) (Some (entry_of e))
