-- The texts of why a command is refused and why a term is no match specification (own). Each is one line.
-- Depends on these reasons, on the names of flags, functions and actions, and on the texts of terms.
use Rattle.std.specs.Prelude.{ℕ, suc, ◌==◌, Bool, true, false, if◌then◌else◌, List, [], ◌∷◌, ◌++◌, Option, Some, None, codes, decimal}
use Rattle.std.specs.Option.{unwrap_or}
use Rattle.std.specs.Str.{bytes_eq}
use Rattle.def_term.specs.Tree.{Tree, atom, tuple, list, Trees, none, more, count}
use Rattle.def_term.specs.Names.{Name, Mfa}
use Rattle.def_term.specs.Text.{w, atom_text, pid_text, is_among}
use Rattle.def_script.specs.Program.{Command}
use Rattle.def_script.specs.Exports.{Exports}
use Rattle.def_spec.specs.Flags.{Flag, flags_by_name}
use Rattle.def_spec.specs.Expressions.{for_sends, for_receives, Action}
use Rattle.def_spec.specs.Reading.{Row, table, found_in, has_action}
use Rattle.def_session.specs.State.{Session}
use Rattle.def_session.specs.Commands.{command_done}
use Rattle.def_trap.specs.Actions.{action_name}
use Rattle.def_trap.specs.TrapTexts.{clause_trap_text}
use Rattle.def_explain.specs.NearNames.{is_near}
use Rattle.def_explain.specs.SpecReasons.{ExpressionReason, not_in_head, no_variable, no_call, no_function, wrong_count, wrong_place, not_supported, HeadTermReason, no_head, no_head_variable, ShapeReason, no_tuple, element_count, no_conditions, no_body, ClauseReason, of_shape, of_head, of_condition, of_body, SpecReason, no_clauses, at_clause}
use Rattle.def_explain.specs.CommandReasons.{CommandReason, not_created, exists_already, is_destroyed, no_processes, not_alive, no_how, no_flag_list, no_flag, no_pattern, no_options, no_specification, no_match, no_exported_match, has_trap, command_reason}

-- ---- parts

-- what there is in its place
abbrev pub found_text : Tree → List ℕ
found_text t = codes ", found " ++ w t

-- so many of a thing
abbrev pub count_text : ℕ → List ℕ → List ℕ
count_text n thing = decimal n ++ 32 ∷ thing ++ (if n == 1 then [] else codes "s")

-- which atoms are variables
abbrev pub variables_text : Name → List ℕ
variables_text s = atom_text s ++ codes " is no variable; variables are '$0' to '$999'"

-- {{E1,..}}, the tuple of these elements as an expression
abbrev pub tuple_text : Trees → List ℕ
tuple_text ts = codes "; a tuple is written " ++ w (tuple (more (tuple ts) none))

-- ---- calls

-- names of other languages with the names that are meant
abbrev pub common_slips : List (Name × Name)
common_slips =
    (codes "=>", codes ">=") ∷ (codes "<=", codes "=<") ∷ (codes "!=", codes "/=") ∷ (codes "&&", codes "andalso") ∷ (codes "||", codes "orelse")
    ∷ (codes "gt", codes ">") ∷ (codes "ge", codes ">=") ∷ (codes "lt", codes "<") ∷ (codes "le", codes "=<") ∷ (codes "eq", codes "==") ∷ (codes "ne", codes "/=") ∷ []

-- the name that is meant
abbrev pub meant_in : List (Name × Name) → Name → Option Name
meant_in [] s = None
meant_in (e ∷ es) s = if bytes_eq e.0 s then Some e.1 else meant_in es s

-- F/N
abbrev pub with_count : Name → Trees → List ℕ
with_count s ts = atom_text s ++ 47 ∷ decimal (count ts)

-- the name that is meant, or how a tuple of these elements is written
abbrev pub no_function_text : Name → Trees → Option Name → List ℕ
no_function_text s ts (Some meant) = codes "no function " ++ atom_text s ++ codes "; " ++ atom_text meant ++ codes " is meant?"
no_function_text s ts None = codes "no function " ++ with_count s ts ++ tuple_text (more (atom s) ts)

-- of a name of OTP 27 that this profile leaves out
abbrev pub not_modelled_text : Name → List ℕ
not_modelled_text s = atom_text s ++ codes " of OTP 27 isn't modelled"

-- `const` is no function, and takes one term; `tracer` stands in lists of flags
abbrev pub other_name_text : Name → Trees → List ℕ
other_name_text s ts =
    if bytes_eq s (codes "const") then codes "const takes 1 argument, found " ++ decimal (count ts) else
    if bytes_eq s (codes "tracer") then not_modelled_text s else
    no_function_text s ts (meant_in common_slips s)

-- how many arguments there may be
abbrev pub allowed_counts : Row → Option ℕ → List ℕ
allowed_counts r None = count_text r.least (codes "argument") ++ codes " or more"
allowed_counts r (Some most) =
    if r.least == most then count_text most (codes "argument") else
    (decimal r.least ++ codes " or " ++ count_text most (codes "argument"))

-- of a name by its row
abbrev pub row_counts : Option Row → List ℕ
row_counts None = codes "another number of arguments"
row_counts (Some r) = allowed_counts r r.most

-- the bodies that have an action: whether those for sends do, and those for receives
abbrev pub bodies_text : Bool → Bool → List ℕ
bodies_text sends true = codes "bodies alone"
bodies_text true false = codes "bodies of specifications for calls and sends alone"
bodies_text false false = codes "bodies of specifications for calls alone"

-- where an action stands
abbrev pub place_text : Action → List ℕ
place_text a = action_name a ++ codes " stands in " ++ bodies_text (has_action for_sends a) (has_action for_receives a)

-- ---- specifications

-- why a term is no expression
abbrev pub expression_reason_text : ExpressionReason → List ℕ
expression_reason_text (not_in_head s) = atom_text s ++ codes " isn't in the head"
expression_reason_text (no_variable s) = variables_text s
expression_reason_text (no_call ts) = w (tuple ts) ++ codes " is no call" ++ tuple_text ts
expression_reason_text (no_function s ts) = other_name_text s ts
expression_reason_text (wrong_count s n) = atom_text s ++ codes " takes " ++ row_counts (found_in table s) ++ codes ", found " ++ decimal n
expression_reason_text (wrong_place a) = place_text a
expression_reason_text (not_supported s) = codes "unsupported function " ++ atom_text s

-- why a term is no head
abbrev pub head_term_reason_text : HeadTermReason → List ℕ
head_term_reason_text (no_head t) = codes "a head is a variable, '_' or a list" ++ found_text t
head_term_reason_text (no_head_variable s) = codes "head: " ++ variables_text s

-- the form of a clause
abbrev pub clause_form : List ℕ
clause_form = codes "a clause is {Head,Conditions,Body}"

-- why a term has another form
abbrev pub shape_reason_text : ShapeReason → List ℕ
shape_reason_text (no_tuple t) = clause_form ++ found_text t
shape_reason_text (element_count n) = clause_form ++ codes ", found " ++ count_text n (codes "element")
shape_reason_text (no_conditions t) = codes "the conditions are a list" ++ found_text t
shape_reason_text (no_body t) = codes "the body is a list" ++ found_text t

-- conditions and expressions of the body are counted from 1
abbrev pub clause_reason_text : ClauseReason → List ℕ
clause_reason_text (of_shape r) = shape_reason_text r
clause_reason_text (of_head r) = head_term_reason_text r
clause_reason_text (of_condition n r) = codes "condition " ++ decimal (suc n) ++ codes ": " ++ expression_reason_text r
clause_reason_text (of_body n r) = codes "body " ++ decimal (suc n) ++ codes ": " ++ expression_reason_text r

-- clauses are counted from 1
abbrev pub at_clause_text : ℕ → ClauseReason → List ℕ
at_clause_text n r = codes "clause " ++ decimal (suc n) ++ codes ": " ++ clause_reason_text r

-- why a term is no specification
abbrev pub spec_reason_text : SpecReason → List ℕ
spec_reason_text (no_clauses t) = codes "a match specification is a list of one clause or more" ++ found_text t
spec_reason_text (at_clause n r) = at_clause_text n r

-- what trace:function/4 and trace:send/3 take in place of a specification, and isn't modelled
abbrev pub other_settings : List Name
other_settings = codes "restart" ∷ codes "pause" ∷ []

-- the specifications that dbg:tp/2 has a name for
abbrev pub dbg_specifications : List (Name × List ℕ)
dbg_specifications =
    (codes "x", codes "[{'_',[],[{exception_trace}]}]") ∷ (codes "c", codes "[{'_',[],[{message,{caller}}]}]")
    ∷ (codes "cx", codes "[{'_',[],[{exception_trace},{message,{caller}}]}]") ∷ []

-- what dbg has such a name for
abbrev pub in_dbg_text : Option (List ℕ) → List ℕ
in_dbg_text None = []
in_dbg_text (Some text) = codes ": in dbg it is " ++ text

-- what an atom in place of a specification is elsewhere
abbrev pub setting_name_text : Name → List ℕ
setting_name_text s = if is_among other_settings s then codes ": " ++ not_modelled_text s else in_dbg_text (meant_in dbg_specifications s)

abbrev pub setting_hint_text : Tree → List ℕ
setting_hint_text (atom s) = setting_name_text s
setting_hint_text t = []

-- in a command `true`, `false` and [] may stand there too
abbrev pub setting_reason_text : SpecReason → List ℕ
setting_reason_text (no_clauses t) = codes "Spec is true, false or a list of clauses" ++ found_text t ++ setting_hint_text t
setting_reason_text (at_clause n r) = at_clause_text n r

-- ---- commands

-- each with a comma before it
abbrev pub each_flag_after_comma : List (Name × Flag) → List ℕ
each_flag_after_comma [] = []
each_flag_after_comma (e ∷ es) = codes ", " ++ atom_text e.0 ++ each_flag_after_comma es

-- the names of flags with a comma between any two
abbrev pub flag_names : List (Name × Flag) → List ℕ
flag_names [] = []
flag_names (e ∷ es) = atom_text e.0 ++ each_flag_after_comma es

-- the names of the flags after a name that is none
abbrev pub flags_text : List ℕ
flags_text = codes "; the flags are " ++ flag_names flags_by_name

-- the flags of OTP 27 that aren't modelled (trace:process/4)
abbrev pub other_flags : List Name
other_flags =
    codes "all" ∷ codes "running" ∷ codes "running_procs" ∷ codes "exiting" ∷ codes "garbage_collection" ∷ codes "return_to" ∷ codes "timestamp" ∷ codes "cpu_timestamp"
    ∷ codes "monotonic_timestamp" ∷ codes "strict_monotonic_timestamp" ∷ codes "ports" ∷ codes "running_ports" ∷ []

-- the flags that dbg:p/2 has a name for
abbrev pub dbg_flags : List (Name × List ℕ)
dbg_flags =
    (codes "m", codes "[send,'receive']") ∷ (codes "s", codes "send") ∷ (codes "r", codes "'receive'") ∷ (codes "c", codes "call") ∷ (codes "p", codes "procs")
    ∷ (codes "sos", codes "set_on_spawn") ∷ (codes "sofs", codes "set_on_first_spawn") ∷ (codes "sol", codes "set_on_link") ∷ (codes "sofl", codes "set_on_first_link") ∷ []

-- the written name of the first of these flags whose name is near
abbrev pub near_flag : List (Name × Flag) → Name → Option (List ℕ)
near_flag [] s = None
near_flag (e ∷ es) s = if is_near s e.0 then Some (atom_text e.0) else near_flag es s

-- the flag that is meant, or all
abbrev pub near_flag_text : Option (List ℕ) → List ℕ
near_flag_text None = flags_text
near_flag_text (Some written) = codes "; is " ++ written ++ codes " meant?"

-- what dbg has such a name for
abbrev pub dbg_flag_text : Name → Option (List ℕ) → List ℕ
dbg_flag_text s None = near_flag_text (near_flag flags_by_name s)
dbg_flag_text s (Some text) = in_dbg_text (Some text) ++ flags_text

-- what a name that is no flag is elsewhere
abbrev pub flag_name_text : Name → List ℕ
flag_name_text s = if is_among other_flags s then codes ": it is a flag of OTP 27 that isn't modelled" ++ flags_text else dbg_flag_text s (meant_in dbg_flags s)

abbrev pub flag_hint_text : Tree → List ℕ
flag_hint_text (atom s) = flag_name_text s
flag_hint_text t = flags_text

-- the options of OTP 27 that aren't modelled (trace:function/4)
abbrev pub other_options : List Name
other_options = codes "meta" ∷ codes "call_count" ∷ codes "call_time" ∷ codes "call_memory" ∷ []

-- that of one of them
abbrev pub other_option_text : Name → Option (List ℕ)
other_option_text s = if is_among other_options s then Some (codes ": " ++ not_modelled_text s) else None

abbrev pub other_option_term_text : Tree → Option (List ℕ)
other_option_term_text (atom s) = other_option_text s
other_option_term_text t = None

-- that of the first of several terms of which it can be said
abbrev pub options_hint_text : Trees → List ℕ
options_hint_text none = []
options_hint_text (more t ts) = unwrap_or (other_option_term_text t) (options_hint_text ts)

abbrev pub option_hint_text : Tree → List ℕ
option_hint_text (list ts) = options_hint_text ts
option_hint_text t = []

-- M:F/A
abbrev pub mfa_text : Mfa → List ℕ
mfa_text f = atom_text f.module_name ++ 58 ∷ atom_text f.function_name ++ 47 ∷ decimal f.arity

-- the function that was probably meant, where there is one
abbrev pub meant_text : Option Mfa → List ℕ
meant_text None = []
meant_text (Some f) = codes "; is " ++ mfa_text f ++ codes " meant?"

-- why a command is refused, matches no function or has a trap
abbrev pub command_reason_text : CommandReason → List ℕ
command_reason_text not_created = codes "the session isn't created yet"
command_reason_text exists_already = codes "the session exists already"
command_reason_text is_destroyed = codes "the session is destroyed"
command_reason_text (no_processes t) = codes "Procs is a pid, all, existing or new" ++ found_text t
command_reason_text (not_alive n) = pid_text n ++ codes " isn't alive"
command_reason_text (no_how t) = codes "How is true or false" ++ found_text t
command_reason_text (no_flag_list t) = codes "Flags is a list of flags" ++ found_text t
command_reason_text (no_flag t) = codes "no flag " ++ w t ++ flag_hint_text t
command_reason_text (no_pattern t) = codes "MFA is {M,F,A}, {M,F,'_'}, {M,'_','_'} or {'_','_','_'}, A from 0 to 255" ++ found_text t
command_reason_text (no_options t) = codes "Opts is [], [global] or [local]" ++ found_text t ++ option_hint_text t
command_reason_text (no_specification r) = setting_reason_text r
command_reason_text (no_match near) = codes "no function matches" ++ meant_text near
command_reason_text no_exported_match = codes "no exported function matches; [local] is for the others too"
command_reason_text (has_trap count before d t) = clause_trap_text d before t

-- after a reply, where there is a reason
abbrev pub reason_after_reply : Option CommandReason → List ℕ
reason_after_reply None = []
reason_after_reply (Some r) = codes ": " ++ command_reason_text r

-- the reply to a command, and why it is this one
abbrev pub reply_text : Exports → Session → Command → List ℕ
reply_text o s c = codes "replies " ++ w (command_done o s c).1 ++ reason_after_reply (command_reason o s c)
