-- Small scripts: their shapes, and each rule broken once.
use Prim.Native.String.{String}
use Rattle.std.specs.Prelude.{◌≡◌, ℕ, pos, true, false, List, [], ◌∷◌, ◌++◌, map, replicate, Some, None, codes, refl}
use Rattle.def_term.specs.Tree.{Tree, int, pid, tuple, list, of_elements}
use Rattle.def_term.specs.Names.{word}
use Rattle.def_script.specs.Program.{error, throw, exit, Step, send, receive, call_remote, call_local, catch, give_back, raise, Form, declares, starts, controls, create, destroy, set_processes}
use Rattle.def_script.specs.Shapes.{form_in, step_in, command_in, function_from, entry_from}
use Rattle.def_script.specs.Rules.{duplicate, undeclared, not_exported, unbound, tracer_taken, wrong_arity, past_limit, breaks, first_broken}
use Rattle.def_script.specs.Script.{form, too_many_forms, refusal_line, bad_picks}
use Rattle.def_script.proofs.OneScript.{terms_refusal}

abbrev tuple_of : List Tree → Tree
tuple_of ts = tuple (of_elements ts)

abbrev list_of : List Tree → Tree
list_of ts = list (of_elements ts)

abbrev empty : Tree
empty = list_of []

-- {function,m,go,exported,['To'],[{send,'To',{hi,1}}]}
a_function : form_in (tuple_of (word "function" ∷ word "m" ∷ word "go" ∷ word "exported" ∷ list_of (word "To" ∷ []) ∷ list_of (tuple_of (word "send" ∷ word "To" ∷ tuple_of (word "hi" ∷ int (pos 1) ∷ []) ∷ []) ∷ []) ∷ []))
    ≡ Some (declares (function_from (codes "m") (codes "go") true (codes "To" ∷ []) (send (word "To") (tuple_of (word "hi" ∷ int (pos 1) ∷ [])) ∷ [])))
a_function = refl

-- {process,m,go,[<0.101.0>]}
a_process : form_in (tuple_of (word "process" ∷ word "m" ∷ word "go" ∷ list_of (pid 101 ∷ []) ∷ [])) ≡ Some (starts (entry_from (codes "m") (codes "go") (pid 101 ∷ [])))
a_process = refl

-- {control,[{session_create,s1,t1,[]},{process,s1,all,true,[send]}]}
a_control : form_in (tuple_of (word "control" ∷ list_of (tuple_of (word "session_create" ∷ word "s1" ∷ word "t1" ∷ empty ∷ []) ∷ tuple_of (word "process" ∷ word "s1" ∷ word "all" ∷ word "true" ∷ list_of (word "send" ∷ []) ∷ []) ∷ []) ∷ []))
    ≡ Some (controls (create (codes "s1") (codes "t1") ∷ set_processes (codes "s1") (word "all") (word "true") (list_of (word "send" ∷ [])) ∷ []))
a_control = refl

no_form : form_in (int (pos 7)) ≡ None
no_form = refl

-- one parameter twice, 'Self' as a parameter, a variable for a name, '_' for a name
twice : form_in (tuple_of (word "function" ∷ word "m" ∷ word "go" ∷ word "exported" ∷ list_of (word "X" ∷ word "X" ∷ []) ∷ empty ∷ [])) ≡ None
twice = refl

own_pid : form_in (tuple_of (word "function" ∷ word "m" ∷ word "go" ∷ word "exported" ∷ list_of (word "Self" ∷ []) ∷ empty ∷ [])) ≡ None
own_pid = refl

capital : form_in (tuple_of (word "process" ∷ word "M" ∷ word "go" ∷ empty ∷ [])) ≡ None
capital = refl

nothing : form_in (tuple_of (word "process" ∷ word "m" ∷ word "_" ∷ empty ∷ [])) ≡ None
nothing = refl

-- {call,'_',{m,f},[]}, {call,'X',f,[]}, {'receive','Self'}, {session_create,s,t,[x]}
remote : step_in (tuple_of (word "call" ∷ word "_" ∷ tuple_of (word "m" ∷ word "f" ∷ []) ∷ empty ∷ [])) ≡ Some (call_remote None (codes "m") (codes "f") [])
remote = refl

local : step_in (tuple_of (word "call" ∷ word "X" ∷ word "f" ∷ empty ∷ [])) ≡ Some (call_local (Some (codes "X")) (codes "f") [])
local = refl

no_target : step_in (tuple_of (word "receive" ∷ word "Self" ∷ [])) ≡ None
no_target = refl

no_options : command_in (tuple_of (word "session_create" ∷ word "s" ∷ word "t" ∷ list_of (word "x" ∷ []) ∷ [])) ≡ None
no_options = refl

-- {'catch','X',{m,f},[]}, {error,a}, {throw,a}, {exit,a}
caught : step_in (tuple_of (word "catch" ∷ word "X" ∷ tuple_of (word "m" ∷ word "f" ∷ []) ∷ empty ∷ [])) ≡ Some (catch (Some (codes "X")) (codes "m") (codes "f") [])
caught = refl

erring : step_in (tuple_of (word "error" ∷ word "a" ∷ [])) ≡ Some (raise error (word "a"))
erring = refl

throwing : step_in (tuple_of (word "throw" ∷ word "a" ∷ [])) ≡ Some (raise throw (word "a"))
throwing = refl

exiting : step_in (tuple_of (word "exit" ∷ word "a" ∷ [])) ≡ Some (raise exit (word "a"))
exiting = refl

-- a catch names the module, and 'Self' is no target of it; an error has its value
local_catch : step_in (tuple_of (word "catch" ∷ word "X" ∷ word "f" ∷ empty ∷ [])) ≡ None
local_catch = refl

catch_for_self : step_in (tuple_of (word "catch" ∷ word "Self" ∷ tuple_of (word "m" ∷ word "f" ∷ []) ∷ empty ∷ [])) ≡ None
catch_for_self = refl

bare_error : step_in (tuple_of (word "error" ∷ [])) ≡ None
bare_error = refl

-- ---- rules

abbrev go : List Step → Form
go steps = declares (function_from (codes "m") (codes "go") true [] steps)

abbrev hidden : Form
hidden = declares (function_from (codes "m") (codes "f") false [] [])

abbrev started : List Tree → Form
started args = starts (entry_from (codes "m") (codes "go") args)

kept : first_broken (go [] ∷ started [] ∷ controls (create (codes "s1") (codes "t1") ∷ destroy (codes "s1") ∷ []) ∷ []) ≡ None
kept = refl

declared_twice : first_broken (go [] ∷ go [] ∷ []) ≡ Some (2, duplicate)
declared_twice = refl

created_twice : first_broken (controls (create (codes "s") (codes "t") ∷ []) ∷ controls (create (codes "s") (codes "u") ∷ []) ∷ []) ≡ Some (2, duplicate)
created_twice = refl

nobody : first_broken (started [] ∷ []) ≡ Some (1, undeclared)
nobody = refl

uncreated : first_broken (controls (destroy (codes "s") ∷ create (codes "s") (codes "t") ∷ []) ∷ []) ≡ Some (1, undeclared)
uncreated = refl

internal_call : first_broken (go (call_remote None (codes "m") (codes "f") [] ∷ []) ∷ hidden ∷ []) ≡ Some (1, not_exported)
internal_call = refl

internal_catch : first_broken (go (catch None (codes "m") (codes "f") [] ∷ []) ∷ hidden ∷ []) ≡ Some (1, not_exported)
internal_catch = refl

undeclared_catch : first_broken (go (catch None (codes "m") (codes "f") [] ∷ []) ∷ []) ≡ Some (1, undeclared)
undeclared_catch = refl

catch_with_one_too_many : first_broken (go (catch None (codes "m") (codes "go") (int (pos 1) ∷ []) ∷ []) ∷ []) ≡ Some (1, wrong_arity)
catch_with_one_too_many = refl

internal_local_call : first_broken (go (call_local None (codes "f") [] ∷ []) ∷ hidden ∷ []) ≡ None
internal_local_call = refl

unbound_return : first_broken (go (give_back (word "X") ∷ []) ∷ []) ≡ Some (1, unbound)
unbound_return = refl

unbound_argument_of_catch : first_broken (go (catch (Some (codes "X")) (codes "m") (codes "go") (word "X" ∷ []) ∷ []) ∷ []) ≡ Some (1, unbound)
unbound_argument_of_catch = refl

unbound_throw : first_broken (go (raise throw (word "X") ∷ []) ∷ []) ≡ Some (1, unbound)
unbound_throw = refl

-- the target of a catch is bound after it
bound_by_catch : first_broken (go (catch (Some (codes "X")) (codes "m") (codes "go") [] ∷ raise error (word "X") ∷ []) ∷ []) ≡ None
bound_by_catch = refl

bound_return : first_broken (go (receive (Some (codes "X")) ∷ give_back (word "X") ∷ give_back (word "Self") ∷ []) ∷ []) ≡ None
bound_return = refl

variable_argument : first_broken (go [] ∷ started (word "Self" ∷ []) ∷ []) ≡ Some (2, unbound)
variable_argument = refl

same_tracer : first_broken (controls (create (codes "s") (codes "t") ∷ create (codes "u") (codes "t") ∷ []) ∷ []) ≡ Some (1, tracer_taken)
same_tracer = refl

one_too_many : first_broken (go [] ∷ started (int (pos 1) ∷ []) ∷ []) ≡ Some (2, wrong_arity)
one_too_many = refl

-- a function that no form declares is undeclared, and named with no wrong number of arguments
undeclared_alone : breaks (started [] ∷ []) [] (started []) wrong_arity ≡ false
undeclared_alone = refl

seventeen : first_broken (go [] ∷ replicate 17 (started [])) ≡ Some (18, past_limit)
seventeen = refl

sixteen : first_broken (go [] ∷ replicate 16 (started [])) ≡ None
sixteen = refl

long_function : first_broken (go (replicate 65 (give_back (word "a"))) ∷ []) ≡ Some (1, past_limit)
long_function = refl

-- ---- the limits, at the last value and one past it

abbrev named : List String → List Form
named ss = map (λ s. declares (function_from (codes "m") (codes s) true [] [])) ss

abbrev sixty_four_names : List String
sixty_four_names = "f0" ∷ "f1" ∷ "f2" ∷ "f3" ∷ "f4" ∷ "f5" ∷ "f6" ∷ "f7" ∷ "f8" ∷ "f9" ∷ "f10" ∷ "f11" ∷ "f12" ∷ "f13" ∷ "f14" ∷ "f15" ∷ "f16" ∷ "f17" ∷ "f18" ∷ "f19" ∷ "f20" ∷ "f21" ∷ "f22" ∷ "f23" ∷ "f24" ∷ "f25" ∷ "f26" ∷ "f27" ∷ "f28" ∷ "f29" ∷ "f30" ∷ "f31" ∷ "f32" ∷ "f33" ∷ "f34" ∷ "f35" ∷ "f36" ∷ "f37" ∷ "f38" ∷ "f39" ∷ "f40" ∷ "f41" ∷ "f42" ∷ "f43" ∷ "f44" ∷ "f45" ∷ "f46" ∷ "f47" ∷ "f48" ∷ "f49" ∷ "f50" ∷ "f51" ∷ "f52" ∷ "f53" ∷ "f54" ∷ "f55" ∷ "f56" ∷ "f57" ∷ "f58" ∷ "f59" ∷ "f60" ∷ "f61" ∷ "f62" ∷ "f63" ∷ []

functions_64 : first_broken (named sixty_four_names) ≡ None
functions_64 = refl

functions_65 : first_broken (named (sixty_four_names ++ "f64" ∷ [])) ≡ Some (65, past_limit)
functions_65 = refl

steps_64 : first_broken (go (replicate 64 (give_back (word "ok"))) ∷ []) ≡ None
steps_64 = refl

steps_65 : first_broken (go (replicate 65 (give_back (word "ok"))) ∷ []) ≡ Some (1, past_limit)
steps_65 = refl

abbrev commands : ℕ → List Form
commands n = controls (create (codes "s1") (codes "t1") ∷ replicate n (set_processes (codes "s1") (word "all") (word "true") empty)) ∷ []

commands_256 : first_broken (commands 255) ≡ None
commands_256 = refl

commands_257 : first_broken (commands 256) ≡ Some (1, past_limit)
commands_257 = refl

-- command 257 of the control list, in a form of its own
commands_of_two_forms : first_broken (commands 255 ++ controls (destroy (codes "s1") ∷ []) ∷ []) ≡ Some (2, past_limit)
commands_of_two_forms = refl

abbrev creates : List String → List Form
creates ss = controls (map (λ s. create (codes s) (codes s)) ss) ∷ []

abbrev hundred_twenty_eight_names : List String
hundred_twenty_eight_names = "s0" ∷ "s1" ∷ "s2" ∷ "s3" ∷ "s4" ∷ "s5" ∷ "s6" ∷ "s7" ∷ "s8" ∷ "s9" ∷ "s10" ∷ "s11" ∷ "s12" ∷ "s13" ∷ "s14" ∷ "s15" ∷ "s16" ∷ "s17" ∷ "s18" ∷ "s19" ∷ "s20" ∷ "s21" ∷ "s22" ∷ "s23" ∷ "s24" ∷ "s25" ∷ "s26" ∷ "s27" ∷ "s28" ∷ "s29" ∷ "s30" ∷ "s31" ∷ "s32" ∷ "s33" ∷ "s34" ∷ "s35" ∷ "s36" ∷ "s37" ∷ "s38" ∷ "s39" ∷ "s40" ∷ "s41" ∷ "s42" ∷ "s43" ∷ "s44" ∷ "s45" ∷ "s46" ∷ "s47" ∷ "s48" ∷ "s49" ∷ "s50" ∷ "s51" ∷ "s52" ∷ "s53" ∷ "s54" ∷ "s55" ∷ "s56" ∷ "s57" ∷ "s58" ∷ "s59" ∷ "s60" ∷ "s61" ∷ "s62" ∷ "s63" ∷ "s64" ∷ "s65" ∷ "s66" ∷ "s67" ∷ "s68" ∷ "s69" ∷ "s70" ∷ "s71" ∷ "s72" ∷ "s73" ∷ "s74" ∷ "s75" ∷ "s76" ∷ "s77" ∷ "s78" ∷ "s79" ∷ "s80" ∷ "s81" ∷ "s82" ∷ "s83" ∷ "s84" ∷ "s85" ∷ "s86" ∷ "s87" ∷ "s88" ∷ "s89" ∷ "s90" ∷ "s91" ∷ "s92" ∷ "s93" ∷ "s94" ∷ "s95" ∷ "s96" ∷ "s97" ∷ "s98" ∷ "s99" ∷ "s100" ∷ "s101" ∷ "s102" ∷ "s103" ∷ "s104" ∷ "s105" ∷ "s106" ∷ "s107" ∷ "s108" ∷ "s109" ∷ "s110" ∷ "s111" ∷ "s112" ∷ "s113" ∷ "s114" ∷ "s115" ∷ "s116" ∷ "s117" ∷ "s118" ∷ "s119" ∷ "s120" ∷ "s121" ∷ "s122" ∷ "s123" ∷ "s124" ∷ "s125" ∷ "s126" ∷ "s127" ∷ []

sessions_128 : first_broken (creates hundred_twenty_eight_names) ≡ None
sessions_128 = refl

sessions_129 : first_broken (creates (hundred_twenty_eight_names ++ "s128" ∷ [])) ≡ Some (1, past_limit)
sessions_129 = refl

processes_16 : first_broken (go [] ∷ replicate 16 (started [])) ≡ None
processes_16 = refl

processes_17 : first_broken (go [] ∷ replicate 17 (started [])) ≡ Some (18, past_limit)
processes_17 = refl

abbrev with_params : List String → Tree
with_params ss = tuple_of (word "function" ∷ word "m" ∷ word "go" ∷ word "exported" ∷ list_of (map word ss) ∷ empty ∷ [])

abbrev many_names : List String
many_names = "X0" ∷ "X1" ∷ "X2" ∷ "X3" ∷ "X4" ∷ "X5" ∷ "X6" ∷ "X7" ∷ "X8" ∷ "X9" ∷ "X10" ∷ "X11" ∷ "X12" ∷ "X13" ∷ "X14" ∷ "X15" ∷ "X16" ∷ "X17" ∷ "X18" ∷ "X19" ∷ "X20" ∷ "X21" ∷ "X22" ∷ "X23" ∷ "X24" ∷ "X25" ∷ "X26" ∷ "X27" ∷ "X28" ∷ "X29" ∷ "X30" ∷ "X31" ∷ "X32" ∷ "X33" ∷ "X34" ∷ "X35" ∷ "X36" ∷ "X37" ∷ "X38" ∷ "X39" ∷ "X40" ∷ "X41" ∷ "X42" ∷ "X43" ∷ "X44" ∷ "X45" ∷ "X46" ∷ "X47" ∷ "X48" ∷ "X49" ∷ "X50" ∷ "X51" ∷ "X52" ∷ "X53" ∷ "X54" ∷ "X55" ∷ "X56" ∷ "X57" ∷ "X58" ∷ "X59" ∷ "X60" ∷ "X61" ∷ "X62" ∷ "X63" ∷ "X64" ∷ "X65" ∷ "X66" ∷ "X67" ∷ "X68" ∷ "X69" ∷ "X70" ∷ "X71" ∷ "X72" ∷ "X73" ∷ "X74" ∷ "X75" ∷ "X76" ∷ "X77" ∷ "X78" ∷ "X79" ∷ "X80" ∷ "X81" ∷ "X82" ∷ "X83" ∷ "X84" ∷ "X85" ∷ "X86" ∷ "X87" ∷ "X88" ∷ "X89" ∷ "X90" ∷ "X91" ∷ "X92" ∷ "X93" ∷ "X94" ∷ "X95" ∷ "X96" ∷ "X97" ∷ "X98" ∷ "X99" ∷ "X100" ∷ "X101" ∷ "X102" ∷ "X103" ∷ "X104" ∷ "X105" ∷ "X106" ∷ "X107" ∷ "X108" ∷ "X109" ∷ "X110" ∷ "X111" ∷ "X112" ∷ "X113" ∷ "X114" ∷ "X115" ∷ "X116" ∷ "X117" ∷ "X118" ∷ "X119" ∷ "X120" ∷ "X121" ∷ "X122" ∷ "X123" ∷ "X124" ∷ "X125" ∷ "X126" ∷ "X127" ∷ "X128" ∷ "X129" ∷ "X130" ∷ "X131" ∷ "X132" ∷ "X133" ∷ "X134" ∷ "X135" ∷ "X136" ∷ "X137" ∷ "X138" ∷ "X139" ∷ "X140" ∷ "X141" ∷ "X142" ∷ "X143" ∷ "X144" ∷ "X145" ∷ "X146" ∷ "X147" ∷ "X148" ∷ "X149" ∷ "X150" ∷ "X151" ∷ "X152" ∷ "X153" ∷ "X154" ∷ "X155" ∷ "X156" ∷ "X157" ∷ "X158" ∷ "X159" ∷ "X160" ∷ "X161" ∷ "X162" ∷ "X163" ∷ "X164" ∷ "X165" ∷ "X166" ∷ "X167" ∷ "X168" ∷ "X169" ∷ "X170" ∷ "X171" ∷ "X172" ∷ "X173" ∷ "X174" ∷ "X175" ∷ "X176" ∷ "X177" ∷ "X178" ∷ "X179" ∷ "X180" ∷ "X181" ∷ "X182" ∷ "X183" ∷ "X184" ∷ "X185" ∷ "X186" ∷ "X187" ∷ "X188" ∷ "X189" ∷ "X190" ∷ "X191" ∷ "X192" ∷ "X193" ∷ "X194" ∷ "X195" ∷ "X196" ∷ "X197" ∷ "X198" ∷ "X199" ∷ "X200" ∷ "X201" ∷ "X202" ∷ "X203" ∷ "X204" ∷ "X205" ∷ "X206" ∷ "X207" ∷ "X208" ∷ "X209" ∷ "X210" ∷ "X211" ∷ "X212" ∷ "X213" ∷ "X214" ∷ "X215" ∷ "X216" ∷ "X217" ∷ "X218" ∷ "X219" ∷ "X220" ∷ "X221" ∷ "X222" ∷ "X223" ∷ "X224" ∷ "X225" ∷ "X226" ∷ "X227" ∷ "X228" ∷ "X229" ∷ "X230" ∷ "X231" ∷ "X232" ∷ "X233" ∷ "X234" ∷ "X235" ∷ "X236" ∷ "X237" ∷ "X238" ∷ "X239" ∷ "X240" ∷ "X241" ∷ "X242" ∷ "X243" ∷ "X244" ∷ "X245" ∷ "X246" ∷ "X247" ∷ "X248" ∷ "X249" ∷ "X250" ∷ "X251" ∷ "X252" ∷ "X253" ∷ "X254" ∷ []

parameters_255 : form_in (with_params many_names) ≡ Some (declares (function_from (codes "m") (codes "go") true (map codes many_names) []))
parameters_255 = refl

parameters_256 : form_in (with_params (many_names ++ "X255" ∷ [])) ≡ None
parameters_256 = refl

-- ---- 256 forms, and 257

abbrev no_command : Tree
no_command = tuple_of (word "control" ∷ empty ∷ [])

forms_256 : terms_refusal (replicate 256 no_command) ≡ None
forms_256 = refl

forms_257 : terms_refusal (replicate 257 no_command) ≡ Some too_many_forms
forms_257 = refl

forms_257_first_bad : terms_refusal (int (pos 7) ∷ replicate 256 no_command) ≡ Some too_many_forms
forms_257_first_bad = refl

first_bad : terms_refusal (int (pos 7) ∷ replicate 255 no_command) ≡ Some (form 1)
first_bad = refl

-- ---- lines

picks_line : refusal_line bad_picks ≡ codes "refused 20 bad picks"
picks_line = refl
