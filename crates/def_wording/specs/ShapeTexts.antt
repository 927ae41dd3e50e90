-- What of a term breaks the shape of a form, and the text that says it (own): refusal 5.
-- Depends on the shapes of forms and on how much of a term is shown.
use Rattle.std.specs.Prelude.{ℕ, ◌+◌, nat_lt, List, [], ◌∷◌, ◌++◌, length, Option, Some, None, codes, decimal, if◌then◌else◌, Bool}
use Rattle.std.specs.List.{list_any}
use Rattle.std.specs.Option.{option_map, option_or}
use Rattle.def_term.specs.Tree.{Tree}
use Rattle.def_term.specs.Order.{same}
use Rattle.def_script.specs.Limits.{PARAMETERS}
use Rattle.def_script.specs.Shapes.{name_in, variable_in, target_in, exported_in, callee_in, list_in, tuple_in, is_tuple, is_empty_list, is_tagged}
use Rattle.def_wording.specs.ShownTexts.{shown_term}
use Rattle.def_wording.specs.Firsts.{first_with_earlier}

-- ---- reasons

-- why a part of a form, a step or a command doesn't fit
pub data PartReason : Type 0 where
  -- a part, of which these words say what it must be
  unfit_part : (part must_be : List ℕ) → Tree → PartReason
  -- a tuple of this shape has another number of elements
  other_count : (shape : List ℕ) → (wanted there : ℕ) → PartReason
  -- more elements of a list than there may be, by these words
  too_many : (words : List ℕ) → ℕ → PartReason

-- why a term is no form: for a part of it, or for the step or the command with this number
pub data ShapelessReason : Type 0 where
  of_part : PartReason → ShapelessReason
  of_step : ℕ → PartReason → ShapelessReason
  of_command : ℕ → PartReason → ShapelessReason

-- ---- texts

-- what the part must be, and what there is
abbrev pub part_reason_text : PartReason → List ℕ
part_reason_text (unfit_part part must_be t) = part ++ must_be ++ codes ", found " ++ shown_term t
part_reason_text (other_count shape wanted there) = shape ++ codes " has " ++ decimal wanted ++ codes " elements, found " ++ decimal there
part_reason_text (too_many words n) = words ++ decimal n

-- a step or a command comes by its number
abbrev pub shapeless_text : ShapelessReason → List ℕ
shapeless_text (of_part r) = part_reason_text r
shapeless_text (of_step n r) = codes "step " ++ decimal n ++ codes ": " ++ part_reason_text r
shapeless_text (of_command n r) = codes "command " ++ decimal n ++ codes ": " ++ part_reason_text r

-- ---- parts

-- this reason where nothing was read
abbrev pub unless_read : {X : Type 0} → Option X → PartReason → Option PartReason
unless_read None r = Some r
unless_read (Some x) r = None

-- this reason where there is no list of terms
abbrev pub by_list : {X : Type 0} → X → (List Tree → X) → Option (List Tree) → X
by_list x f None = x
by_list x f (Some ts) = f ts

-- a part that must be a list
abbrev pub no_list : List ℕ → Tree → PartReason
no_list part t = unfit_part part (codes " must be a list") t

-- a part that must be a name
abbrev pub no_name : List ℕ → Tree → PartReason
no_name part t = unfit_part part (codes " must be a name, an atom that begins with no capital letter and is not '_'") t

-- of such a part
abbrev pub name_reason : List ℕ → Tree → Option PartReason
name_reason part t = unless_read (name_in t) (no_name part t)

-- of a list with at most 255 elements, of which these words say what it is a list of
abbrev pub length_reason : List ℕ → List Tree → Option PartReason
length_reason words ts = if nat_lt PARAMETERS (length ts) then Some (too_many words (length ts)) else None

-- of Args
abbrev pub arguments_reason : Tree → Option PartReason
arguments_reason t = by_list (Some (no_list (codes "Args") t)) (length_reason (codes "a list of arguments has at most 255 elements, found ")) (list_in t)

-- of Vis
abbrev pub visibility_reason : Tree → Option PartReason
visibility_reason t = unless_read (exported_in t) (unfit_part (codes "Vis") (codes " must be exported or internal") t)

-- ---- parameters

-- of a term that is to be one
abbrev pub variable_reason : Tree → Option PartReason
variable_reason t = unless_read (variable_in t) (unfit_part (codes "each of Params") (codes " must be a variable other than 'Self', in quotes") t)

-- of the first of these that is no variable
abbrev pub variables_reason : List Tree → Option PartReason
variables_reason ts = first_with_earlier (λ before t. variable_reason t) [] ts

-- the term is one of these
abbrev pub stands_among : Tree → List Tree → Bool
stands_among t us = list_any (λ u. same u t) us

-- of a term after these
abbrev pub again_among : List Tree → Tree → Option PartReason
again_among before t = if stands_among t before then Some (unfit_part (codes "Params") (codes " must be distinct") t) else None

-- of the first of these that is also among those before it
abbrev pub repeated_reason : List Tree → Option PartReason
repeated_reason ts = first_with_earlier again_among [] ts

-- of a list of parameters
abbrev pub params_list_reason : List Tree → Option PartReason
params_list_reason ts =
    option_or (length_reason (codes "a function has at most 255 parameters, found ") ts) (option_or (variables_reason ts) (repeated_reason ts))

-- of Params
abbrev pub params_reason : Tree → Option PartReason
params_reason t = by_list (Some (no_list (codes "Params") t)) params_list_reason (list_in t)

-- ---- steps

-- of V
abbrev pub target_reason : Tree → Option PartReason
target_reason t = unless_read (target_in t) (unfit_part (codes "V") (codes " must be '_' or a variable other than 'Self', in quotes") t)

-- of {M,F}
abbrev pub callee_reason : Tree → Option PartReason
callee_reason t = unless_read (callee_in t) (unfit_part (codes "{M,F}") (codes " must be two names, a module and a function without its arity") t)

-- of {M,F} or F in a call
abbrev pub called_reason : Tree → Option PartReason
called_reason t = if is_tuple t then callee_reason t else name_reason (codes "F") t

-- of a tuple of these elements, which is to have this shape
abbrev pub count_reason : List ℕ → ℕ → List Tree → PartReason
count_reason shape n ts = other_count shape n (length ts)

-- {send,To,Msg}, whose parts are any terms
abbrev pub send_step_reason : List Tree → Option PartReason
send_step_reason (tag ∷ to ∷ message ∷ []) = None
send_step_reason ts = Some (count_reason (codes "{send,To,Msg}") 3 ts)

-- {'receive',V}
abbrev pub receive_step_reason : List Tree → Option PartReason
receive_step_reason (tag ∷ v ∷ []) = target_reason v
receive_step_reason ts = Some (count_reason (codes "{'receive',V}") 2 ts)

-- of V, of what is called by this reason, and of Args
abbrev pub call_step_reason : List ℕ → (Tree → Option PartReason) → List Tree → Option PartReason
call_step_reason shape called (tag ∷ v ∷ f ∷ args ∷ []) = option_or (target_reason v) (option_or (called f) (arguments_reason args))
call_step_reason shape called ts = Some (count_reason shape 4 ts)

-- of {link,P} and the like, whose part is any term
abbrev pub one_part_reason : List ℕ → List Tree → Option PartReason
one_part_reason shape (tag ∷ t ∷ []) = None
one_part_reason shape ts = Some (count_reason shape 2 ts)

-- the steps there are
abbrev pub no_step : Tree → PartReason
no_step t = unfit_part (codes "it must be a tuple of ") (codes "send, 'receive', call, 'catch', spawn, link, unlink, return, error, throw or exit") t

-- of a tuple of these elements that is no step: what isn't modelled
abbrev pub other_step : Tree → List Tree → PartReason
other_step t ts =
    if is_tagged "spawn_link" ts then unfit_part (codes "spawn_link") (codes " isn't modelled: write spawn, and then link") t else
    if is_tagged "monitor" ts then unfit_part (codes "monitor") (codes " isn't modelled: link is") t else
    if is_tagged "process_flag" ts then unfit_part (codes "process_flag") (codes " isn't modelled: no process traps exits") t else
    if is_tagged "case" ts then unfit_part (codes "'case'") (codes " isn't modelled: a function has no branches") t else
    if is_tagged "if" ts then unfit_part (codes "'if'") (codes " isn't modelled: a function has no branches") t else
    no_step t

-- of a tuple of these elements, by the first of them: the steps with one term
abbrev pub one_term_step_reason : Tree → List Tree → Option PartReason
one_term_step_reason t ts =
    if is_tagged "link" ts then one_part_reason (codes "{link,P}") ts else
    if is_tagged "unlink" ts then one_part_reason (codes "{unlink,P}") ts else
    if is_tagged "return" ts then one_part_reason (codes "{return,T}") ts else
    if is_tagged "error" ts then one_part_reason (codes "{error,T}") ts else
    if is_tagged "throw" ts then one_part_reason (codes "{throw,T}") ts else
    if is_tagged "exit" ts then one_part_reason (codes "{exit,T}") ts else
    Some (other_step t ts)

-- the other steps
abbrev pub step_fields_reason : Tree → List Tree → Option PartReason
step_fields_reason t ts =
    if is_tagged "send" ts then send_step_reason ts else
    if is_tagged "receive" ts then receive_step_reason ts else
    if is_tagged "call" ts then call_step_reason (codes "{call,V,{M,F},Args} or {call,V,F,Args}") called_reason ts else
    if is_tagged "catch" ts then call_step_reason (codes "{'catch',V,{M,F},Args}") callee_reason ts else
    if is_tagged "spawn" ts then call_step_reason (codes "{spawn,V,{M,F},Args}") callee_reason ts else
    one_term_step_reason t ts

-- of a term that is to be a step
abbrev pub step_shape_reason : Tree → Option PartReason
step_shape_reason t = by_list (Some (no_step t)) (step_fields_reason t) (tuple_in t)

-- ---- commands

-- of the last element
abbrev pub last_reason : Tree → Option PartReason
last_reason t = if is_empty_list t then None else Some (unfit_part (codes "the last element") (codes " must be []") t)

-- {session_create,S,T,[]}
abbrev pub create_reason : List Tree → Option PartReason
create_reason (tag ∷ s ∷ t ∷ options ∷ []) = option_or (name_reason (codes "S") s) (option_or (last_reason options) (name_reason (codes "T") t))
create_reason ts = Some (count_reason (codes "{session_create,S,T,[]}") 4 ts)

-- {session_destroy,S}
abbrev pub destroy_reason : List Tree → Option PartReason
destroy_reason (tag ∷ s ∷ []) = name_reason (codes "S") s
destroy_reason ts = Some (count_reason (codes "{session_destroy,S}") 2 ts)

-- of S and three terms
abbrev pub three_parts_reason : List ℕ → List Tree → Option PartReason
three_parts_reason shape (tag ∷ s ∷ t ∷ u ∷ v ∷ []) = name_reason (codes "S") s
three_parts_reason shape ts = Some (count_reason shape 5 ts)

-- of S, a specification and []
abbrev pub specified_reason : List ℕ → List Tree → Option PartReason
specified_reason shape (tag ∷ s ∷ spec ∷ options ∷ []) = option_or (name_reason (codes "S") s) (last_reason options)
specified_reason shape ts = Some (count_reason shape 4 ts)

-- the commands there are
abbrev pub no_command : Tree → PartReason
no_command t = unfit_part (codes "it must be a tuple of ") (codes "session_create, session_destroy, process, function, send or recv") t

-- of a tuple of these elements that is no command: which one is meant, or what isn't modelled
abbrev pub other_command : Tree → List Tree → PartReason
other_command t ts =
    if is_tagged "receive" ts then unfit_part (codes "'receive'") (codes " is no command: recv is meant") t else
    if is_tagged "trace" ts then unfit_part (codes "trace") (codes " is no command: process is meant") t else
    if is_tagged "trace_pattern" ts then unfit_part (codes "trace_pattern") (codes " is no command: function is meant") t else
    if is_tagged "info" ts then unfit_part (codes "info") (codes " of OTP 27 isn't modelled") t else
    if is_tagged "delivered" ts then unfit_part (codes "delivered") (codes " of OTP 27 isn't modelled") t else
    if is_tagged "session_info" ts then unfit_part (codes "session_info") (codes " of OTP 27 isn't modelled") t else
    no_command t

-- of a tuple of these elements, by the first of them
abbrev pub command_fields_reason : Tree → List Tree → Option PartReason
command_fields_reason t ts =
    if is_tagged "session_create" ts then create_reason ts else
    if is_tagged "session_destroy" ts then destroy_reason ts else
    if is_tagged "process" ts then three_parts_reason (codes "{process,S,Procs,How,Flags}") ts else
    if is_tagged "function" ts then three_parts_reason (codes "{function,S,MFA,Spec,Opts}") ts else
    if is_tagged "send" ts then specified_reason (codes "{send,S,Spec,[]}") ts else
    if is_tagged "recv" ts then specified_reason (codes "{recv,S,Spec,[]}") ts else
    Some (other_command t ts)

-- of a term that is to be a command
abbrev pub command_shape_reason : Tree → Option PartReason
command_shape_reason t = by_list (Some (no_command t)) (command_fields_reason t) (tuple_in t)

-- ---- forms

-- of a term after these, by its number
abbrev pub numbered_reason : (ℕ → PartReason → ShapelessReason) → (Tree → Option PartReason) → List Tree → Tree → Option ShapelessReason
numbered_reason of_number of_item before t = option_map (of_number (length before + 1)) (of_item t)

-- of the first of these terms that has one
abbrev pub items_reason : (ℕ → PartReason → ShapelessReason) → (Tree → Option PartReason) → List Tree → Option ShapelessReason
items_reason of_number of_item ts = first_with_earlier (numbered_reason of_number of_item) [] ts

-- of what is to be a list of steps
abbrev pub steps_reason : Tree → Option ShapelessReason
steps_reason t = by_list (Some (of_part (no_list (codes "Steps") t))) (items_reason of_step step_shape_reason) (list_in t)

-- of what is to be a list of commands
abbrev pub commands_shape_reason : Tree → Option ShapelessReason
commands_shape_reason t = by_list (Some (of_part (no_list (codes "Commands") t))) (items_reason of_command command_shape_reason) (list_in t)

-- of M and F
abbrev pub names_reason : Tree → Tree → Option PartReason
names_reason m f = option_or (name_reason (codes "M") m) (name_reason (codes "F") f)

-- of M, F, Vis and Params
abbrev pub function_parts_reason : (m f vis params : Tree) → Option PartReason
function_parts_reason m f vis params = option_or (names_reason m f) (option_or (visibility_reason vis) (params_reason params))

-- {function,M,F,Vis,Params,Steps}
abbrev pub function_shape_reason : List Tree → Option ShapelessReason
function_shape_reason (tag ∷ m ∷ f ∷ vis ∷ params ∷ steps ∷ []) =
    option_or (option_map of_part (function_parts_reason m f vis params)) (steps_reason steps)
function_shape_reason ts = Some (of_part (count_reason (codes "{function,M,F,Vis,Params,Steps}") 6 ts))

-- {process,S,Procs,How,Flags} is a command
abbrev pub command_as_form : PartReason
command_as_form = too_many (codes "{process,M,F,Args} has 4 elements, and the command {process,S,Procs,How,Flags} stands in {control,[Command,..]}, found ") 5

-- {process,M,F,Args}
abbrev pub process_shape_reason : List Tree → Option PartReason
process_shape_reason (tag ∷ s ∷ procs ∷ how ∷ flags ∷ []) = Some command_as_form
process_shape_reason (tag ∷ m ∷ f ∷ args ∷ []) = option_or (names_reason m f) (arguments_reason args)
process_shape_reason ts = Some (count_reason (codes "{process,M,F,Args}") 4 ts)

-- {control,Commands}
abbrev pub control_shape_reason : List Tree → Option ShapelessReason
control_shape_reason (tag ∷ commands ∷ []) = commands_shape_reason commands
control_shape_reason ts = Some (of_part (count_reason (codes "{control,Commands}") 2 ts))

-- the forms there are
abbrev pub no_form : Tree → PartReason
no_form t = unfit_part (codes "it") (codes " must be {function,M,F,Vis,Params,Steps}, {process,M,F,Args} or {control,[Command,..]}") t

-- of a tuple of these elements, by the first of them
abbrev pub form_fields_reason : Tree → List Tree → Option ShapelessReason
form_fields_reason t ts =
    if is_tagged "function" ts then function_shape_reason ts else
    if is_tagged "process" ts then option_map of_part (process_shape_reason ts) else
    if is_tagged "control" ts then control_shape_reason ts else
    Some (of_part (no_form t))

-- why the term is no form; none where it is one
abbrev pub shape_reason : Tree → Option ShapelessReason
shape_reason t = by_list (Some (of_part (no_form t))) (form_fields_reason t) (tuple_in t)

-- nothing where there is no reason
abbrev pub shapeless_texts : Option ShapelessReason → List ℕ
shapeless_texts None = []
shapeless_texts (Some r) = shapeless_text r

-- of a term that is no form, after a colon
abbrev pub shape_detail : Tree → List ℕ
shape_detail t = codes ": " ++ shapeless_texts (shape_reason t)
