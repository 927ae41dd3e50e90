-- What tells programs apart: a code of a command, and of a program.
use Rattle.std.specs.Prelude.{◌≡◌, ◌⊎◌, List, refl}
use Rattle.std.specs.Coded.{Coded, code_by, coded_list, coded×, coded⊎}
use mathlib.Core.Logic.{inl, inr}
use Rattle.def_term.specs.Tree.{Tree}
use Rattle.def_term.specs.Names.{Name}
use Rattle.def_script.specs.Program.{Command, create, destroy, set_processes, set_function, set_send, set_receive, Function, Entry, Program}
use Rattle.tn_node.specs.Codes.{name_code, tree_code, function_code, entry_code}

-- a command by its parts: its session, and another name or its terms
abbrev CommandParts : Type 0
CommandParts = (Name × Name) ⊎ (Name ⊎ ((Name × (Tree × (Tree × Tree))) ⊎ ((Name × (Tree × (Tree × Tree))) ⊎ ((Name × Tree) ⊎ (Name × Tree)))))

abbrev parts_code : Coded CommandParts
parts_code =
    coded⊎ (coded× name_code name_code) (coded⊎ name_code
    (coded⊎ (coded× name_code (coded× tree_code (coded× tree_code tree_code))) (coded⊎ (coded× name_code (coded× tree_code (coded× tree_code tree_code)))
    (coded⊎ (coded× name_code tree_code) (coded× name_code tree_code)))))

abbrev command_to : Command → CommandParts
command_to (create s t) = inl (s, t)
command_to (destroy s) = inr (inl s)
command_to (set_processes s a b c) = inr (inr (inl (s, (a, (b, c)))))
command_to (set_function s a b c) = inr (inr (inr (inl (s, (a, (b, c))))))
command_to (set_send s a) = inr (inr (inr (inr (inl (s, a)))))
command_to (set_receive s a) = inr (inr (inr (inr (inr (s, a)))))

abbrev command_from : CommandParts → Command
command_from (inl p) = create p.0 p.1
command_from (inr (inl s)) = destroy s
command_from (inr (inr (inl p))) = set_processes p.0 p.1.0 p.1.1.0 p.1.1.1
command_from (inr (inr (inr (inl p)))) = set_function p.0 p.1.0 p.1.1.0 p.1.1.1
command_from (inr (inr (inr (inr (inl p))))) = set_send p.0 p.1
command_from (inr (inr (inr (inr (inr p))))) = set_receive p.0 p.1

pub command_back : (c : Command) → command_from (command_to c) ≡ c
command_back (create s t) = refl
command_back (destroy s) = refl
command_back (set_processes s a b c) = refl
command_back (set_function s a b c) = refl
command_back (set_send s a) = refl
command_back (set_receive s a) = refl

abbrev command_code : Coded Command
command_code = code_by CommandParts parts_code command_to command_from command_back

-- a program by its functions, its entry calls and its commands
abbrev pub program_code : Coded Program
program_code =
    code_by (List Function × (List Entry × List Command)) (coded× (coded_list function_code) (coded× (coded_list entry_code) (coded_list command_code)))
    (λ p. (p.functions, (p.entries, p.commands))) (λ p. record { functions = p.0; entries = p.1.0; commands = p.1.1 }) (λ _. refl)
