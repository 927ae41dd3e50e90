-- Scripts for worked rows, and words for their parts.
use Rattle.std.specs.Prelude.{ℕ, true, false, List, [], ◌∷◌, ◌++◌, map, flat_map, Some, None, codes, pos}
use Prim.Native.String.{String}
use Rattle.def_term.specs.Tree.{Tree, int, tuple, list, of_elements}
use Rattle.def_term.specs.Names.{word}
use Rattle.def_script.specs.Program.{Step, send, receive, call_remote, call_local, spawn, give_back, Function, Entry, Command, create, destroy, set_processes, set_function, set_send, set_receive, Program}

-- ---- terms

abbrev pub number : ℕ → Tree
number n = int (pos n)

abbrev pub braces : List Tree → Tree
braces ts = tuple (of_elements ts)

abbrev pub brackets : List Tree → Tree
brackets ts = list (of_elements ts)

abbrev pub words : List String → Tree
words ss = brackets (map word ss)

-- ---- scripts; every function is of the module m

abbrev pub function : String → List String → List Step → Function
function f params steps = record { module_name = codes "m"; function_name = codes f; exported = true; params = map codes params; steps = steps }

abbrev pub internal : String → List String → List Step → Function
internal f params steps = record { module_name = codes "m"; function_name = codes f; exported = false; params = map codes params; steps = steps }

abbrev pub entry : String → List Tree → Entry
entry f args = record { module_name = codes "m"; function_name = codes f; args = args }

abbrev pub call_named : String → List Tree → Step
call_named f args = call_remote None (codes "m") (codes f) args

abbrev pub call_unnamed : String → List Tree → Step
call_unnamed f args = call_local None (codes f) args

abbrev pub spawns : String → List Tree → Step
spawns f args = spawn None (codes "m") (codes f) args

abbrev pub program : List Function → List Entry → List Command → Program
program ks es cs = record { functions = ks; entries = es; commands = cs }

-- ---- commands

abbrev pub creates : String → String → Command
creates s t = create (codes s) (codes t)

abbrev pub destroys : String → Command
destroys s = destroy (codes s)

abbrev pub sets : String → Tree → List String → Command
sets s procs flags = set_processes (codes s) procs (word "true") (words flags)

abbrev pub clears : String → Tree → List String → Command
clears s procs flags = set_processes (codes s) procs (word "false") (words flags)

abbrev pub mfa_of : String → ℕ → Tree
mfa_of f n = braces (word "m" ∷ word f ∷ number n ∷ [])

abbrev pub sets_function : String → Tree → Tree → List String → Command
sets_function s mfa spec options = set_function (codes s) mfa spec (words options)

abbrev pub sets_send : String → Tree → Command
sets_send s spec = set_send (codes s) spec

abbrev pub sets_receive : String → Tree → Command
sets_receive s spec = set_receive (codes s) spec

-- ---- texts

abbrev pub lines : List String → List ℕ
lines ss = flat_map (λ s. codes s ++ 10 ∷ []) ss

-- ---- two scripts

-- a process that sends {hi,1} to the given pid and ends, and one that waits for a message; the session s1 is not yet created
abbrev pub script_a : Tree → List Command → Program
script_a to cs = program
    (function "go" ("To" ∷ []) (send (word "To") (braces (word "hi" ∷ number 1 ∷ [])) ∷ []) ∷ function "rest" [] (receive (Some (codes "X")) ∷ []) ∷ [])
    (entry "go" (to ∷ []) ∷ entry "rest" [] ∷ [])
    cs

-- a process that makes these calls of m:f and m:g; the session s1 has the flag `call` for all processes, and its third command is about the given functions
abbrev pub script_k : List Step → Tree → Tree → List String → List Command → Program
script_k calls mfa spec options more = program
    (function "go" [] calls ∷ function "f" ("X" ∷ []) (give_back (word "X") ∷ []) ∷ function "g" ("X" ∷ "Y" ∷ []) (give_back (word "Y") ∷ []) ∷ [])
    (entry "go" [] ∷ [])
    (creates "s1" "t1" ∷ sets "s1" (word "all") ("call" ∷ []) ∷ sets_function "s1" mfa spec options ∷ more)
