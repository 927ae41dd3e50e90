-- Small forms: the item for which each breaks a rule or has no shape, and where items begin among tokens.
use Rattle.std.specs.Prelude.{◌≡◌, ℕ, pos, true, false, List, [], ◌∷◌, replicate, Some, None, codes, refl}
use Rattle.def_term.specs.Tree.{Tree, int, tuple, list, of_elements}
use Rattle.def_term.specs.Names.{word}
use Rattle.def_text.specs.Tokens.{open_brace, close_brace, open_bracket, close_bracket, comma, stop, atom, characters, TokenSpan}
use Rattle.def_script.specs.Program.{Step, call_remote, give_back, Function, Form, declares, controls, Command, create, destroy}
use Rattle.def_script.specs.Shapes.{function_from}
use Rattle.def_script.specs.Rules.{undeclared, unbound, wrong_arity, duplicate, tracer_taken, past_limit}
use Rattle.def_text.specs.Spelling.{offset_of}
use Rattle.def_refusal.specs.Items.{step, command, numbered_command, breaking_item_in, shapeless_item}
use Rattle.def_refusal.specs.ItemStarts.{from_item}

-- m:f/0 with these steps
abbrev function_of : List Step → Form
function_of ss = declares (function_from (codes "m") (codes "f") true [] ss)

abbrev one_step : Step
one_step = give_back (int (pos 1))

abbrev elsewhere : Step
elsewhere = call_remote None (codes "m") (codes "g") []

-- the second step calls a function that no form declares, or has a variable that isn't bound
undeclared_step : breaking_item_in (function_of (one_step ∷ elsewhere ∷ elsewhere ∷ []) ∷ []) 1 undeclared ≡ Some (step 2)
undeclared_step = refl

unbound_step : breaking_item_in (function_of (one_step ∷ give_back (word "X") ∷ []) ∷ []) 1 unbound ≡ Some (step 2)
unbound_step = refl

-- step 65
late_step : breaking_item_in (function_of (replicate 66 one_step) ∷ []) 1 past_limit ≡ Some (step 65)
late_step = refl

-- two sessions in two forms: the command's number counts those of the first form too
abbrev two_controls : List Form
two_controls = controls (create (codes "a") (codes "t") ∷ destroy (codes "a") ∷ []) ∷ controls (create (codes "b") (codes "u") ∷ create (codes "c") (codes "t") ∷ destroy (codes "d") ∷ []) ∷ []

taken_tracer : breaking_item_in two_controls 2 tracer_taken ≡ Some (numbered_command 2 4)
taken_tracer = refl

undeclared_session : breaking_item_in two_controls 2 undeclared ≡ Some (numbered_command 3 5)
undeclared_session = refl

none_twice : breaking_item_in two_controls 2 duplicate ≡ None
none_twice = refl

-- a function that is declared twice is no step's
twice : breaking_item_in (function_of [] ∷ function_of (elsewhere ∷ []) ∷ []) 2 duplicate ≡ None
twice = refl

-- {control,[{session_destroy,s},{send,s}]}
shapeless_command : shapeless_item (tuple (of_elements (word "control" ∷ list (of_elements (tuple (of_elements (word "session_destroy" ∷ word "s" ∷ [])) ∷ tuple (of_elements (word "send" ∷ word "s" ∷ [])) ∷ [])) ∷ []))) ≡ Some (command 2)
shapeless_command = refl

-- a function whose name is a variable has no shape for that, whatever its steps are
no_name : shapeless_item (tuple (of_elements (word "function" ∷ word "M" ∷ word "f" ∷ word "exported" ∷ list (of_elements []) ∷ list (of_elements (int (pos 7) ∷ [])) ∷ []))) ≡ None
no_name = refl

-- {a,[[b,c],d]}.{e,[f]}. with a token at each offset
abbrev spans : List TokenSpan
spans =
    record { token = open_brace; from = 0; to = 1 } ∷ record { token = atom (codes "a"); from = 1; to = 2 } ∷ record { token = comma; from = 2; to = 3 }
    ∷ record { token = open_bracket; from = 3; to = 4 } ∷ record { token = open_bracket; from = 4; to = 5 } ∷ record { token = atom (codes "b"); from = 5; to = 6 }
    ∷ record { token = comma; from = 6; to = 7 } ∷ record { token = atom (codes "c"); from = 7; to = 8 } ∷ record { token = close_bracket; from = 8; to = 9 }
    ∷ record { token = comma; from = 9; to = 10 } ∷ record { token = atom (codes "d"); from = 10; to = 11 } ∷ record { token = close_bracket; from = 11; to = 12 }
    ∷ record { token = close_brace; from = 12; to = 13 } ∷ record { token = stop; from = 13; to = 14 }
    ∷ record { token = open_brace; from = 14; to = 15 } ∷ record { token = atom (codes "e"); from = 15; to = 16 } ∷ record { token = comma; from = 16; to = 17 }
    ∷ record { token = characters (codes "f"); from = 17; to = 20 } ∷ record { token = close_brace; from = 20; to = 21 } ∷ record { token = stop; from = 21; to = 22 } ∷ []

first_command : offset_of 22 (from_item 1 (command 1) spans) ≡ 4
first_command = refl

second_command : offset_of 22 (from_item 1 (command 2) spans) ≡ 10
second_command = refl

-- of a string the first element is at the string
of_string : offset_of 22 (from_item 2 (command 1) spans) ≡ 17
of_string = refl
