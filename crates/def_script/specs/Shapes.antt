-- The shapes of forms, steps and commands (own): what a term stands for, if it has a shape.
-- Depends on terms and on the program's data.
use Rattle.std.specs.Prelude.{ℕ, nat_le, Bool, true, false, ◌&&◌, not, List, [], ◌∷◌, length, Option, Some, None, if◌then◌else◌, codes}
use Prim.Native.String.{String}
use Rattle.std.specs.Option.{option_map}
use Rattle.std.specs.Str.{bytes_eq}
use Rattle.def_term.specs.Tree.{Tree, atom, tuple, list, none, elements}
use Rattle.def_term.specs.Names.{Name}
use Rattle.def_term.specs.Text.{is_among}
use Rattle.def_script.specs.Limits.{PARAMETERS}
use Rattle.def_script.specs.Program.{is_variable, error, throw, exit, Step, send, receive, call_remote, call_local, catch, spawn, link, unlink, give_back, raise, Function, Entry, Command, create, destroy, set_processes, set_function, set_send, set_receive, Form, declares, starts, controls}

-- what is made of two parts, where both are there
abbrev pub both : {X Y Z : Type 0} → (X → Y → Z) → Option X → Option Y → Option Z
both f None y = None
both f (Some x) None = None
both f (Some x) (Some y) = Some (f x y)

-- of three
abbrev pub all_three : {W X Y Z : Type 0} → (W → X → Y → Z) → Option W → Option X → Option Y → Option Z
all_three f None x y = None
all_three f (Some w) x y = both (f w) x y

-- of four
abbrev pub all_four : {V W X Y Z : Type 0} → (V → W → X → Y → Z) → Option V → Option W → Option X → Option Y → Option Z
all_four f None w x y = None
all_four f (Some v) w x y = all_three (f v) w x y

-- what is read from what was read
abbrev pub and_then : {X Y : Type 0} → Option X → (X → Option Y) → Option Y
and_then None f = None
and_then (Some x) f = f x

-- what each term of a list is read as, where each is read
abbrev pub each_in : {X : Type 0} → (Tree → Option X) → List Tree → Option (List X)
each_in f [] = Some []
each_in f (t ∷ ts) = both (λ x xs. x ∷ xs) (f t) (each_in f ts)

-- ---- names, variables and targets

-- the target that discards a value
abbrev pub nothing_name : Name
nothing_name = codes "_"

-- the variable that is always bound to the process's own pid
abbrev pub self_name : Name
self_name = codes "Self"

-- a name is an atom that is neither a variable nor '_'
abbrev pub is_plain_name : Name → Bool
is_plain_name s = not (is_variable s) && not (bytes_eq s nothing_name)

-- a variable other than 'Self'
abbrev pub is_own_variable : Name → Bool
is_own_variable s = is_variable s && not (bytes_eq s self_name)

-- an atom's characters, where they pass
abbrev pub atom_if : (Name → Bool) → Tree → Option Name
atom_if p (atom s) = if p s then Some s else None
atom_if p t = None

-- the term as a name
abbrev pub name_in : Tree → Option Name
name_in t = atom_if is_plain_name t

-- the term as a variable other than 'Self'
abbrev pub variable_in : Tree → Option Name
variable_in t = atom_if is_own_variable t

-- a target is '_' or a variable other than 'Self'
abbrev pub target_of : Name → Option (Option Name)
target_of s = if bytes_eq s nothing_name then Some None else if is_own_variable s then Some (Some s) else None

-- the term as a target; none where it is '_'
abbrev pub target_in : Tree → Option (Option Name)
target_in (atom s) = target_of s
target_in t = None

-- the elements of a list
abbrev pub list_in : Tree → Option (List Tree)
list_in (list ts) = Some (elements ts)
list_in t = None

-- the elements of a tuple
abbrev pub tuple_in : Tree → Option (List Tree)
tuple_in (tuple ts) = Some (elements ts)
tuple_in t = None

-- a term of the kind tuple
abbrev pub is_tuple : Tree → Bool
is_tuple (tuple ts) = true
is_tuple t = false

-- `[]`
abbrev pub is_empty_list : Tree → Bool
is_empty_list (list none) = true
is_empty_list t = false

-- a list of arguments has at most 255 elements
abbrev pub if_few : List Tree → Option (List Tree)
if_few ts = if nat_le (length ts) PARAMETERS then Some ts else None

-- a list of arguments
abbrev pub args_in : Tree → Option (List Tree)
args_in t = and_then (list_in t) if_few

-- `exported` or `internal`
abbrev pub exported_of : Name → Option Bool
exported_of s = if bytes_eq s (codes "exported") then Some true else if bytes_eq s (codes "internal") then Some false else None

-- the term as a visibility
abbrev pub exported_in : Tree → Option Bool
exported_in (atom s) = exported_of s
exported_in t = None

-- no name is in it twice
abbrev pub are_distinct : List Name → Bool
are_distinct [] = true
are_distinct (s ∷ ss) = not (is_among ss s) && are_distinct ss

-- the names, where they are distinct
abbrev pub if_distinct : List Name → Option (List Name)
if_distinct ss = if are_distinct ss then Some ss else None

-- a list of at most 255 distinct variables, none of them 'Self'
abbrev pub params_in : Tree → Option (List Name)
params_in t = and_then (and_then (args_in t) (λ ts. each_in variable_in ts)) if_distinct

-- ---- steps

-- the term is the atom of these characters
abbrev pub is_atom_of : List ℕ → Tree → Bool
is_atom_of word (atom s) = bytes_eq s word
is_atom_of word t = false

-- the tuple's first element is this word
abbrev pub begins_with : List ℕ → List Tree → Bool
begins_with word [] = false
begins_with word (t ∷ ts) = is_atom_of word t

-- the same, by the word
abbrev pub is_tagged : String → List Tree → Bool
is_tagged word ts = begins_with (codes word) ts

-- {send,To,Msg}
abbrev pub send_in : List Tree → Option Step
send_in (tag ∷ to ∷ message ∷ []) = Some (send to message)
send_in ts = None

-- {'receive',V}
abbrev pub receive_in : List Tree → Option Step
receive_in (tag ∷ v ∷ []) = option_map receive (target_in v)
receive_in ts = None

-- {M,F} of a call, a catch or a spawn
abbrev pub callee_of : List Tree → Option (Name × Name)
callee_of (m ∷ f ∷ []) = both (λ x y. (x, y)) (name_in m) (name_in f)
callee_of ts = None

-- the term as {M,F}
abbrev pub callee_in : Tree → Option (Name × Name)
callee_in t = and_then (tuple_in t) callee_of

-- a call that names the module
abbrev pub remote_call : Option Name → Name × Name → List Tree → Step
remote_call v callee args = call_remote v callee.0 callee.1 args

-- a catch of a call of M and F
abbrev pub catch_of : Option Name → Name × Name → List Tree → Step
catch_of v callee args = catch v callee.0 callee.1 args

-- a spawn of M and F
abbrev pub spawn_of : Option Name → Name × Name → List Tree → Step
spawn_of v callee args = spawn v callee.0 callee.1 args

-- {call,V,{M,F},Args} and {call,V,F,Args}
abbrev pub call_in : List Tree → Option Step
call_in (tag ∷ v ∷ f ∷ args ∷ []) = if is_tuple f then all_three remote_call (target_in v) (callee_in f) (args_in args) else all_three call_local (target_in v) (name_in f) (args_in args)
call_in ts = None

-- {'catch',V,{M,F},Args} and {spawn,V,{M,F},Args}
abbrev pub of_callee_in : (Option Name → Name × Name → List Tree → Step) → List Tree → Option Step
of_callee_in g (tag ∷ v ∷ f ∷ args ∷ []) = all_three g (target_in v) (callee_in f) (args_in args)
of_callee_in g ts = None

-- {link,T}, {unlink,T}, {return,T}, {error,T}, {throw,T} and {exit,T}
abbrev pub of_one_in : (Tree → Step) → List Tree → Option Step
of_one_in f (tag ∷ t ∷ []) = Some (f t)
of_one_in f ts = None

-- a step, by its first element
abbrev pub step_of_fields : List Tree → Option Step
step_of_fields ts =
    if is_tagged "send" ts then send_in ts else
    if is_tagged "receive" ts then receive_in ts else
    if is_tagged "call" ts then call_in ts else
    if is_tagged "catch" ts then of_callee_in catch_of ts else
    if is_tagged "spawn" ts then of_callee_in spawn_of ts else
    if is_tagged "link" ts then of_one_in link ts else
    if is_tagged "unlink" ts then of_one_in unlink ts else
    if is_tagged "return" ts then of_one_in give_back ts else
    if is_tagged "error" ts then of_one_in (raise error) ts else
    if is_tagged "throw" ts then of_one_in (raise throw) ts else
    if is_tagged "exit" ts then of_one_in (raise exit) ts else
    None

-- the term as a step
abbrev pub step_in : Tree → Option Step
step_in t = and_then (tuple_in t) step_of_fields

-- a list of steps
abbrev pub steps_in : Tree → Option (List Step)
steps_in t = and_then (list_in t) (λ ts. each_in step_in ts)

-- ---- commands

-- {session_create,S,T,[]}
abbrev pub create_in : List Tree → Option Command
create_in (tag ∷ s ∷ t ∷ options ∷ []) = if is_empty_list options then both create (name_in s) (name_in t) else None
create_in ts = None

-- {session_destroy,S}
abbrev pub destroy_in : List Tree → Option Command
destroy_in (tag ∷ s ∷ []) = option_map destroy (name_in s)
destroy_in ts = None

-- {process,S,Procs,How,Flags} and {function,S,MFA,Spec,Opts}
abbrev pub of_three_in : (Name → Tree → Tree → Tree → Command) → List Tree → Option Command
of_three_in f (tag ∷ s ∷ t ∷ u ∷ v ∷ []) = option_map (λ n. f n t u v) (name_in s)
of_three_in f ts = None

-- {send,S,Spec,[]} and {recv,S,Spec,[]}
abbrev pub specified_in : (Name → Tree → Command) → List Tree → Option Command
specified_in f (tag ∷ s ∷ spec ∷ options ∷ []) = if is_empty_list options then option_map (λ n. f n spec) (name_in s) else None
specified_in f ts = None

-- a command, by its first element
abbrev pub command_of_fields : List Tree → Option Command
command_of_fields ts =
    if is_tagged "session_create" ts then create_in ts else
    if is_tagged "session_destroy" ts then destroy_in ts else
    if is_tagged "process" ts then of_three_in set_processes ts else
    if is_tagged "function" ts then of_three_in set_function ts else
    if is_tagged "send" ts then specified_in set_send ts else
    if is_tagged "recv" ts then specified_in set_receive ts else
    None

-- the term as a command
abbrev pub command_in : Tree → Option Command
command_in t = and_then (tuple_in t) command_of_fields

-- a list of commands
abbrev pub commands_in : Tree → Option (List Command)
commands_in t = and_then (list_in t) (λ ts. each_in command_in ts)

-- ---- forms

-- a function of these parts
abbrev pub function_from : Name → Name → Bool → List Name → List Step → Function
function_from m f exported params steps = record { module_name = m; function_name = f; exported = exported; params = params; steps = steps }

-- an entry call of these parts
abbrev pub entry_from : Name → Name → List Tree → Entry
entry_from m f args = record { module_name = m; function_name = f; args = args }

-- {function,M,F,Vis,Params,Steps}
abbrev pub function_in : List Tree → Option Form
function_in (tag ∷ m ∷ f ∷ vis ∷ params ∷ steps ∷ []) =
    both (λ make ss. declares (make ss)) (all_four function_from (name_in m) (name_in f) (exported_in vis) (params_in params)) (steps_in steps)
function_in ts = None

-- {process,M,F,Args}
abbrev pub process_in : List Tree → Option Form
process_in (tag ∷ m ∷ f ∷ args ∷ []) = option_map starts (all_three entry_from (name_in m) (name_in f) (args_in args))
process_in ts = None

-- {control,Commands}
abbrev pub control_in : List Tree → Option Form
control_in (tag ∷ commands ∷ []) = option_map controls (commands_in commands)
control_in ts = None

-- a form, by its first element
abbrev pub form_of_fields : List Tree → Option Form
form_of_fields ts =
    if is_tagged "function" ts then function_in ts else
    if is_tagged "process" ts then process_in ts else
    if is_tagged "control" ts then control_in ts else
    None

-- the term as a form
abbrev pub form_in : Tree → Option Form
form_in t = and_then (tuple_in t) form_of_fields

-- the forms that the terms stand for, where each has a shape
abbrev pub forms_in : List Tree → Option (List Form)
forms_in ts = each_in form_in ts
