-- What is known of the next step of a process, in the words of the definitions.
use Rattle.std.specs.Prelude.{ℕ, List, Option, Some}
use Rattle.std.specs.Option.{option_map}
use Rattle.def_term.specs.Names.{Name}
use Rattle.def_outlook.specs.Outlook as outlook
use Rattle.def_outlook.specs.Outlook.{error_calling, error_sending, error_linking, error_of_step}
use Rattle.tn_term.specs.Views.{tree_of}
use Rattle.tn_term.specs.declared.term.Term.{Term}
use Rattle.tn_script.specs.Views.{entry_of, function_of, functions_of, step_of}
use Rattle.tn_script.specs.declared.form.Arguments.{Arguments}
use Rattle.tn_script.specs.declared.form.Function.{Function}
use Rattle.tn_script.specs.declared.form.Step.{Step}
use Rattle.tn_process.specs.declared.outlook.RuntimeError as code
use Rattle.tn_process.specs.declared.outlook.RuntimeError.TheVariants.{CallsNothing, BuildsPastLimit, CallsPastLimit, SpawnsPastLimit, SendsToNoPid, LinksToNoPid, UnlinksFromNoPid}
use Rattle.tn_process.specs.declared.outlook.OwnLink as own
use Rattle.tn_process.specs.declared.outlook.OwnLink.TheVariants.{Links, Unlinks}
use Rattle.tn_process.specs.declared.outlook.Upcoming as next
use Rattle.tn_process.specs.declared.outlook.Upcoming.TheVariants as variants
use Rattle.tn_process.specs.declared.process.Frame.{Frame}
use Rattle.tn_process.specs.Templates.{all_built_in}
use Rattle.tn_process.specs.Views.{env_of, frame_of}

abbrev pub error_seen : code.RuntimeError → outlook.RuntimeError
error_seen CallsNothing = outlook.calls_nothing
error_seen BuildsPastLimit = outlook.builds_past_limit
error_seen CallsPastLimit = outlook.calls_past_limit
error_seen SpawnsPastLimit = outlook.spawns_past_limit
error_seen SendsToNoPid = outlook.sends_to_no_pid
error_seen LinksToNoPid = outlook.links_to_no_pid
error_seen UnlinksFromNoPid = outlook.unlinks_from_no_pid

abbrev pub own_link_seen : own.OwnLink → outlook.OwnLink
own_link_seen Links = outlook.links_itself
own_link_seen Unlinks = outlook.unlinks_itself

-- of a process with so many frames
abbrev pub upcoming_seen : {A : Type 0} → ℕ → next.Upcoming A → outlook.Upcoming
upcoming_seen count variants.Signal = outlook.takes_signal
upcoming_seen count (variants.Entry e) = outlook.makes_entry (entry_of e.now)
upcoming_seen count variants.Nothing = outlook.has_no_step
upcoming_seen count (variants.Step k f s) = outlook.makes_step (function_of k.now) (frame_of f.now) count (option_map (λ x. step_of x.now) s)

-- the error of a call by a frame, above so many
abbrev pub error_calling_in : {A : Type 0} → Frame A → List (Function A) → ℕ → Name → Name → Arguments A → Option outlook.RuntimeError
error_calling_in f ks count m g ts = error_calling (functions_of ks) count m g (all_built_in f ts)

-- of a send
abbrev pub error_sending_in : {A : Type 0} → Frame A → Term A → Term A → Option outlook.RuntimeError
error_sending_in f to t = error_sending (env_of f.env) (tree_of to) (tree_of t)

-- of a link or an unlink
abbrev pub error_linking_in : {A : Type 0} → Frame A → code.RuntimeError → Term A → Option outlook.RuntimeError
error_linking_in f x t = error_linking (error_seen x) (env_of f.env) (tree_of t)

-- of a step of the newest frame, of so many
abbrev pub error_of_step_in : {A : Type 0} → Frame A → List (Function A) → Option ℕ → Function A → ℕ → Step A → Option outlook.RuntimeError
error_of_step_in f ks child k count s = error_of_step (functions_of ks) child (function_of k) (frame_of f) count (Some (step_of s))
