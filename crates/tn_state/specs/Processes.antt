-- What is written of processes, in the words of the definitions.
use Rattle.std.specs.Prelude.{ℕ, Bool, if◌then◌else◌, List, [], ◌∷◌, ◌++◌, map}
use Rattle.def_term.specs.Tree.{Tree, pid}
use Rattle.def_state.specs.ProcessTexts.{initial_function, function_terms, step_term, binding_term}
use Rattle.tn_script.specs.Views.{functions_of}
use Rattle.tn_script.specs.declared.form.Function.{Function}
use Rattle.tn_process.specs.Views.{frame_of, process_seen}
use Rattle.tn_process.specs.declared.process.Frame.{Frame}
use Rattle.tn_process.specs.declared.process.Process.{Process}

-- the terms of a frame's line after its depth
abbrev pub frame_terms : {A : Type 0} → List (Function A) → Frame A → List Tree
frame_terms ks f = function_terms (functions_of ks) (frame_of f).function ++ step_term (frame_of f).place ∷ map binding_term (frame_of f).env

-- the function that a process began with
abbrev pub first_terms : {A : Type 0} → List (Function A) → Process A → List Tree
first_terms ks q = initial_function (functions_of ks) (process_seen q) (process_seen q).entry

-- the pid, where the process is linked
abbrev pub pid_where : Bool → ℕ → List Tree
pid_where b n = if b then pid n ∷ [] else []
