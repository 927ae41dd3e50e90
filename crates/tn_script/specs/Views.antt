-- What the code's forms stand for.
use Rattle.std.specs.Prelude.{List, map}
use Rattle.tn_term.specs.Views.{tree_of}
use Rattle.tn_flags.specs.Views.{class_of, command_of}
use Rattle.def_script.specs.Program as program
use Rattle.tn_script.specs.declared.form.Arguments.{Arguments}
use Rattle.tn_script.specs.declared.form.Step.{Step}
use Rattle.tn_script.specs.declared.form.Step.TheVariants.{Send, Receive, CallRemote, CallLocal, Catch, Spawn, Link, Unlink, Return, Raise}
use Rattle.tn_script.specs.declared.form.Function.{Function}
use Rattle.tn_script.specs.declared.form.Entry.{Entry}
use Rattle.tn_script.specs.declared.form.Form.{Form}
use Rattle.tn_script.specs.declared.form.Form.TheVariants as forms
use Rattle.def_term.specs.Tree.{Tree}

abbrev pub args_of : {A : Type 0} → Arguments A → List Tree
args_of args = map tree_of args.terms.items

abbrev pub step_of : {A : Type 0} → Step A → program.Step
step_of (Send to message) = program.send (tree_of to) (tree_of message)
step_of (Receive target) = program.receive target
step_of (CallRemote target m f args) = program.call_remote target m f (args_of args)
step_of (CallLocal target f args) = program.call_local target f (args_of args)
step_of (Catch target m f args) = program.catch target m f (args_of args)
step_of (Spawn target m f args) = program.spawn target m f (args_of args)
step_of (Link t) = program.link (tree_of t)
step_of (Unlink t) = program.unlink (tree_of t)
step_of (Return t) = program.give_back (tree_of t)
step_of (Raise class t) = program.raise (class_of class) (tree_of t)

abbrev pub function_of : {A : Type 0} → Function A → program.Function
function_of k = record { module_name = k.module; function_name = k.name; exported = k.exported; params = k.params.items; steps = map step_of k.steps.items }

abbrev pub functions_of : {A : Type 0} → List (Function A) → List program.Function
functions_of ks = map function_of ks

abbrev pub entry_of : {A : Type 0} → Entry A → program.Entry
entry_of e = record { module_name = e.module; function_name = e.name; args = args_of e.args }

abbrev pub form_of : {A : Type 0} → Form A → program.Form
form_of (forms.Function k) = program.declares (function_of k)
form_of (forms.Process e) = program.starts (entry_of e)
form_of (forms.Control cs) = program.controls (map command_of cs.items)
