-- Limits at their last value and one past it, computed.
use Rattle.std.proofs.Common.{◌≡◌, [], ◌∷◌, true, false, Some, None, refl}
use Prim.Native.String.{String}
use Rattle.std.specs.Prelude.{List, ◌++◌, map, flat_map, replicate, codes}
use Rattle.std.specs.Fmt.{digits}
use Rattle.def_term.specs.Tree.{pid, list, of_elements}
use Rattle.def_term.specs.Names.{word}
use Rattle.def_term.specs.Text.{is_written_bare}
use Rattle.def_script.specs.Program.{controls, create, give_back}
use Rattle.def_script.specs.Script.{program_from}
use Rattle.def_node.specs.Values.{fits}
use Rattle.def_node.specs.Node.{next_pid}
use Rattle.def_run.specs.Run.{start}
use Rattle.def_run.specs.Listing.{program_output}
use Rattle.def_run.proofs.Samples.{number, function, entry, spawns, program, creates, sets, lines}

-- 64 processes are started in a run: the pids 100 to 163
last_process : next_pid (record { slots = replicate 63 None }) ≡ Some 163
last_process = refl

no_more_processes : next_pid (record { slots = replicate 64 None }) ≡ None
no_more_processes = refl

-- a built term of size 65,536
largest_term : fits (list (of_elements (replicate 65535 (number 0)))) ≡ true
largest_term = refl

too_large : fits (list (of_elements (replicate 65536 (number 0)))) ≡ false
too_large = refl

-- 65,536 picks may move
room_of_a_run : (start (program [] [] [])).room ≡ 65536
room_of_a_run = refl

-- ---- whole outputs

-- 63 spawns, and no 65th process of the run
sixty_four_processes : program_output (program
    (function "go" [] (replicate 64 (spawns "kid" [])) ∷ function "kid" [] [] ∷ [])
    (entry "go" [] ∷ [])
    (creates "s1" "t1" ∷ sets "s1" (pid 100) ("procs" ∷ []) ∷ []))
    (0 ∷ 0 ∷ replicate 65 100)
    ≡ lines ("== session s1 tracer t1" ∷ "{trace,<0.100.0>,spawn,<0.101.0>,{m,kid,[]}}" ∷ "{trace,<0.100.0>,spawn,<0.102.0>,{m,kid,[]}}" ∷ "{trace,<0.100.0>,spawn,<0.103.0>,{m,kid,[]}}" ∷ "{trace,<0.100.0>,spawn,<0.104.0>,{m,kid,[]}}" ∷ "{trace,<0.100.0>,spawn,<0.105.0>,{m,kid,[]}}" ∷ "{trace,<0.100.0>,spawn,<0.106.0>,{m,kid,[]}}" ∷ "{trace,<0.100.0>,spawn,<0.107.0>,{m,kid,[]}}" ∷ "{trace,<0.100.0>,spawn,<0.108.0>,{m,kid,[]}}" ∷ "{trace,<0.100.0>,spawn,<0.109.0>,{m,kid,[]}}" ∷ "{trace,<0.100.0>,spawn,<0.110.0>,{m,kid,[]}}" ∷ "{trace,<0.100.0>,spawn,<0.111.0>,{m,kid,[]}}" ∷ "{trace,<0.100.0>,spawn,<0.112.0>,{m,kid,[]}}" ∷ "{trace,<0.100.0>,spawn,<0.113.0>,{m,kid,[]}}" ∷ "{trace,<0.100.0>,spawn,<0.114.0>,{m,kid,[]}}" ∷ "{trace,<0.100.0>,spawn,<0.115.0>,{m,kid,[]}}" ∷ "{trace,<0.100.0>,spawn,<0.116.0>,{m,kid,[]}}" ∷ "{trace,<0.100.0>,spawn,<0.117.0>,{m,kid,[]}}" ∷ "{trace,<0.100.0>,spawn,<0.118.0>,{m,kid,[]}}" ∷ "{trace,<0.100.0>,spawn,<0.119.0>,{m,kid,[]}}" ∷ "{trace,<0.100.0>,spawn,<0.120.0>,{m,kid,[]}}" ∷ "{trace,<0.100.0>,spawn,<0.121.0>,{m,kid,[]}}" ∷ "{trace,<0.100.0>,spawn,<0.122.0>,{m,kid,[]}}" ∷ "{trace,<0.100.0>,spawn,<0.123.0>,{m,kid,[]}}" ∷ "{trace,<0.100.0>,spawn,<0.124.0>,{m,kid,[]}}" ∷ "{trace,<0.100.0>,spawn,<0.125.0>,{m,kid,[]}}" ∷ "{trace,<0.100.0>,spawn,<0.126.0>,{m,kid,[]}}" ∷ "{trace,<0.100.0>,spawn,<0.127.0>,{m,kid,[]}}" ∷ "{trace,<0.100.0>,spawn,<0.128.0>,{m,kid,[]}}" ∷ "{trace,<0.100.0>,spawn,<0.129.0>,{m,kid,[]}}" ∷ "{trace,<0.100.0>,spawn,<0.130.0>,{m,kid,[]}}" ∷ "{trace,<0.100.0>,spawn,<0.131.0>,{m,kid,[]}}" ∷ "{trace,<0.100.0>,spawn,<0.132.0>,{m,kid,[]}}" ∷ "{trace,<0.100.0>,spawn,<0.133.0>,{m,kid,[]}}" ∷ "{trace,<0.100.0>,spawn,<0.134.0>,{m,kid,[]}}" ∷ "{trace,<0.100.0>,spawn,<0.135.0>,{m,kid,[]}}" ∷ "{trace,<0.100.0>,spawn,<0.136.0>,{m,kid,[]}}" ∷ "{trace,<0.100.0>,spawn,<0.137.0>,{m,kid,[]}}" ∷ "{trace,<0.100.0>,spawn,<0.138.0>,{m,kid,[]}}" ∷ "{trace,<0.100.0>,spawn,<0.139.0>,{m,kid,[]}}" ∷ "{trace,<0.100.0>,spawn,<0.140.0>,{m,kid,[]}}" ∷ "{trace,<0.100.0>,spawn,<0.141.0>,{m,kid,[]}}" ∷ "{trace,<0.100.0>,spawn,<0.142.0>,{m,kid,[]}}" ∷ "{trace,<0.100.0>,spawn,<0.143.0>,{m,kid,[]}}" ∷ "{trace,<0.100.0>,spawn,<0.144.0>,{m,kid,[]}}" ∷ "{trace,<0.100.0>,spawn,<0.145.0>,{m,kid,[]}}" ∷ "{trace,<0.100.0>,spawn,<0.146.0>,{m,kid,[]}}" ∷ "{trace,<0.100.0>,spawn,<0.147.0>,{m,kid,[]}}" ∷ "{trace,<0.100.0>,spawn,<0.148.0>,{m,kid,[]}}" ∷ "{trace,<0.100.0>,spawn,<0.149.0>,{m,kid,[]}}" ∷ "{trace,<0.100.0>,spawn,<0.150.0>,{m,kid,[]}}" ∷ "{trace,<0.100.0>,spawn,<0.151.0>,{m,kid,[]}}" ∷ "{trace,<0.100.0>,spawn,<0.152.0>,{m,kid,[]}}" ∷ "{trace,<0.100.0>,spawn,<0.153.0>,{m,kid,[]}}" ∷ "{trace,<0.100.0>,spawn,<0.154.0>,{m,kid,[]}}" ∷ "{trace,<0.100.0>,spawn,<0.155.0>,{m,kid,[]}}" ∷ "{trace,<0.100.0>,spawn,<0.156.0>,{m,kid,[]}}" ∷ "{trace,<0.100.0>,spawn,<0.157.0>,{m,kid,[]}}" ∷ "{trace,<0.100.0>,spawn,<0.158.0>,{m,kid,[]}}" ∷ "{trace,<0.100.0>,spawn,<0.159.0>,{m,kid,[]}}" ∷ "{trace,<0.100.0>,spawn,<0.160.0>,{m,kid,[]}}" ∷ "{trace,<0.100.0>,spawn,<0.161.0>,{m,kid,[]}}" ∷ "{trace,<0.100.0>,spawn,<0.162.0>,{m,kid,[]}}" ∷ "{trace,<0.100.0>,spawn,<0.163.0>,{m,kid,[]}}" ∷ "{trace,<0.100.0>,exit,system_limit}" ∷ "== replies" ∷ "{session,s1}" ∷ "1" ∷ "== journal" ∷ "0 0 100 100 100 100 100 100 100 100 100 100 100 100 100 100 100 100 100 100 100 100 100 100 100 100 100 100 100 100 100 100 100 100 100 100 100 100 100 100 100 100 100 100 100 100 100 100 100 100 100 100 100 100 100 100 100 100 100 100 100 100 100 100 100 100 100" ∷ [])
unfolding is_written_bare digits
sixty_four_processes = refl

-- 256 forms without a command
forms_256 : program_output (program_from (replicate 256 (controls []))) [] ≡ lines ("== replies" ∷ "== journal" ∷ "" ∷ [])
unfolding is_written_bare digits
forms_256 = refl

-- 64 functions
functions_64 : program_output (program (map (λ s. function s [] []) ("f0" ∷ "f1" ∷ "f2" ∷ "f3" ∷ "f4" ∷ "f5" ∷ "f6" ∷ "f7" ∷ "f8" ∷ "f9" ∷ "f10" ∷ "f11" ∷ "f12" ∷ "f13" ∷ "f14" ∷ "f15" ∷ "f16" ∷ "f17" ∷ "f18" ∷ "f19" ∷ "f20" ∷ "f21" ∷ "f22" ∷ "f23" ∷ "f24" ∷ "f25" ∷ "f26" ∷ "f27" ∷ "f28" ∷ "f29" ∷ "f30" ∷ "f31" ∷ "f32" ∷ "f33" ∷ "f34" ∷ "f35" ∷ "f36" ∷ "f37" ∷ "f38" ∷ "f39" ∷ "f40" ∷ "f41" ∷ "f42" ∷ "f43" ∷ "f44" ∷ "f45" ∷ "f46" ∷ "f47" ∷ "f48" ∷ "f49" ∷ "f50" ∷ "f51" ∷ "f52" ∷ "f53" ∷ "f54" ∷ "f55" ∷ "f56" ∷ "f57" ∷ "f58" ∷ "f59" ∷ "f60" ∷ "f61" ∷ "f62" ∷ "f63" ∷ [])) [] []) [] ≡ lines ("== replies" ∷ "== journal" ∷ "" ∷ [])
unfolding is_written_bare digits
functions_64 = refl

-- 255 parameters
parameters_255 : program_output (program (function "go" ("X0" ∷ "X1" ∷ "X2" ∷ "X3" ∷ "X4" ∷ "X5" ∷ "X6" ∷ "X7" ∷ "X8" ∷ "X9" ∷ "X10" ∷ "X11" ∷ "X12" ∷ "X13" ∷ "X14" ∷ "X15" ∷ "X16" ∷ "X17" ∷ "X18" ∷ "X19" ∷ "X20" ∷ "X21" ∷ "X22" ∷ "X23" ∷ "X24" ∷ "X25" ∷ "X26" ∷ "X27" ∷ "X28" ∷ "X29" ∷ "X30" ∷ "X31" ∷ "X32" ∷ "X33" ∷ "X34" ∷ "X35" ∷ "X36" ∷ "X37" ∷ "X38" ∷ "X39" ∷ "X40" ∷ "X41" ∷ "X42" ∷ "X43" ∷ "X44" ∷ "X45" ∷ "X46" ∷ "X47" ∷ "X48" ∷ "X49" ∷ "X50" ∷ "X51" ∷ "X52" ∷ "X53" ∷ "X54" ∷ "X55" ∷ "X56" ∷ "X57" ∷ "X58" ∷ "X59" ∷ "X60" ∷ "X61" ∷ "X62" ∷ "X63" ∷ "X64" ∷ "X65" ∷ "X66" ∷ "X67" ∷ "X68" ∷ "X69" ∷ "X70" ∷ "X71" ∷ "X72" ∷ "X73" ∷ "X74" ∷ "X75" ∷ "X76" ∷ "X77" ∷ "X78" ∷ "X79" ∷ "X80" ∷ "X81" ∷ "X82" ∷ "X83" ∷ "X84" ∷ "X85" ∷ "X86" ∷ "X87" ∷ "X88" ∷ "X89" ∷ "X90" ∷ "X91" ∷ "X92" ∷ "X93" ∷ "X94" ∷ "X95" ∷ "X96" ∷ "X97" ∷ "X98" ∷ "X99" ∷ "X100" ∷ "X101" ∷ "X102" ∷ "X103" ∷ "X104" ∷ "X105" ∷ "X106" ∷ "X107" ∷ "X108" ∷ "X109" ∷ "X110" ∷ "X111" ∷ "X112" ∷ "X113" ∷ "X114" ∷ "X115" ∷ "X116" ∷ "X117" ∷ "X118" ∷ "X119" ∷ "X120" ∷ "X121" ∷ "X122" ∷ "X123" ∷ "X124" ∷ "X125" ∷ "X126" ∷ "X127" ∷ "X128" ∷ "X129" ∷ "X130" ∷ "X131" ∷ "X132" ∷ "X133" ∷ "X134" ∷ "X135" ∷ "X136" ∷ "X137" ∷ "X138" ∷ "X139" ∷ "X140" ∷ "X141" ∷ "X142" ∷ "X143" ∷ "X144" ∷ "X145" ∷ "X146" ∷ "X147" ∷ "X148" ∷ "X149" ∷ "X150" ∷ "X151" ∷ "X152" ∷ "X153" ∷ "X154" ∷ "X155" ∷ "X156" ∷ "X157" ∷ "X158" ∷ "X159" ∷ "X160" ∷ "X161" ∷ "X162" ∷ "X163" ∷ "X164" ∷ "X165" ∷ "X166" ∷ "X167" ∷ "X168" ∷ "X169" ∷ "X170" ∷ "X171" ∷ "X172" ∷ "X173" ∷ "X174" ∷ "X175" ∷ "X176" ∷ "X177" ∷ "X178" ∷ "X179" ∷ "X180" ∷ "X181" ∷ "X182" ∷ "X183" ∷ "X184" ∷ "X185" ∷ "X186" ∷ "X187" ∷ "X188" ∷ "X189" ∷ "X190" ∷ "X191" ∷ "X192" ∷ "X193" ∷ "X194" ∷ "X195" ∷ "X196" ∷ "X197" ∷ "X198" ∷ "X199" ∷ "X200" ∷ "X201" ∷ "X202" ∷ "X203" ∷ "X204" ∷ "X205" ∷ "X206" ∷ "X207" ∷ "X208" ∷ "X209" ∷ "X210" ∷ "X211" ∷ "X212" ∷ "X213" ∷ "X214" ∷ "X215" ∷ "X216" ∷ "X217" ∷ "X218" ∷ "X219" ∷ "X220" ∷ "X221" ∷ "X222" ∷ "X223" ∷ "X224" ∷ "X225" ∷ "X226" ∷ "X227" ∷ "X228" ∷ "X229" ∷ "X230" ∷ "X231" ∷ "X232" ∷ "X233" ∷ "X234" ∷ "X235" ∷ "X236" ∷ "X237" ∷ "X238" ∷ "X239" ∷ "X240" ∷ "X241" ∷ "X242" ∷ "X243" ∷ "X244" ∷ "X245" ∷ "X246" ∷ "X247" ∷ "X248" ∷ "X249" ∷ "X250" ∷ "X251" ∷ "X252" ∷ "X253" ∷ "X254" ∷ []) [] ∷ []) [] []) [] ≡ lines ("== replies" ∷ "== journal" ∷ "" ∷ [])
unfolding is_written_bare digits
parameters_255 = refl

-- 16 processes
processes_16 : program_output (program (function "go" [] [] ∷ []) (replicate 16 (entry "go" [])) []) [] ≡ lines ("== replies" ∷ "== journal" ∷ "" ∷ [])
unfolding is_written_bare digits
processes_16 = refl

-- 64 steps
steps_64 : program_output (program (function "go" [] (replicate 64 (give_back (word "ok"))) ∷ []) [] []) [] ≡ lines ("== replies" ∷ "== journal" ∷ "" ∷ [])
unfolding is_written_bare digits
steps_64 = refl

-- 256 commands, none of which is taken
commands_256 : program_output (program [] [] (creates "s1" "t1" ∷ replicate 255 (sets "s1" (word "all") []))) [] ≡ lines ("== session s1 tracer t1" ∷ "== replies" ∷ "== journal" ∷ "" ∷ [])
unfolding is_written_bare digits
commands_256 = refl

-- 128 sessions, none of whose creations was reached
abbrev hundred_twenty_eight : List String
hundred_twenty_eight = "0" ∷ "1" ∷ "2" ∷ "3" ∷ "4" ∷ "5" ∷ "6" ∷ "7" ∷ "8" ∷ "9" ∷ "10" ∷ "11" ∷ "12" ∷ "13" ∷ "14" ∷ "15" ∷ "16" ∷ "17" ∷ "18" ∷ "19" ∷ "20" ∷ "21" ∷ "22" ∷ "23" ∷ "24" ∷ "25" ∷ "26" ∷ "27" ∷ "28" ∷ "29" ∷ "30" ∷ "31" ∷ "32" ∷ "33" ∷ "34" ∷ "35" ∷ "36" ∷ "37" ∷ "38" ∷ "39" ∷ "40" ∷ "41" ∷ "42" ∷ "43" ∷ "44" ∷ "45" ∷ "46" ∷ "47" ∷ "48" ∷ "49" ∷ "50" ∷ "51" ∷ "52" ∷ "53" ∷ "54" ∷ "55" ∷ "56" ∷ "57" ∷ "58" ∷ "59" ∷ "60" ∷ "61" ∷ "62" ∷ "63" ∷ "64" ∷ "65" ∷ "66" ∷ "67" ∷ "68" ∷ "69" ∷ "70" ∷ "71" ∷ "72" ∷ "73" ∷ "74" ∷ "75" ∷ "76" ∷ "77" ∷ "78" ∷ "79" ∷ "80" ∷ "81" ∷ "82" ∷ "83" ∷ "84" ∷ "85" ∷ "86" ∷ "87" ∷ "88" ∷ "89" ∷ "90" ∷ "91" ∷ "92" ∷ "93" ∷ "94" ∷ "95" ∷ "96" ∷ "97" ∷ "98" ∷ "99" ∷ "100" ∷ "101" ∷ "102" ∷ "103" ∷ "104" ∷ "105" ∷ "106" ∷ "107" ∷ "108" ∷ "109" ∷ "110" ∷ "111" ∷ "112" ∷ "113" ∷ "114" ∷ "115" ∷ "116" ∷ "117" ∷ "118" ∷ "119" ∷ "120" ∷ "121" ∷ "122" ∷ "123" ∷ "124" ∷ "125" ∷ "126" ∷ "127" ∷ []

sessions_128 : program_output (program [] [] (map (λ n. create (codes "s" ++ codes n) (codes "t" ++ codes n)) hundred_twenty_eight)) []
    ≡ flat_map (λ n. codes "== session s" ++ codes n ++ codes " tracer t" ++ codes n ++ 10 ∷ []) hundred_twenty_eight ++ lines ("== replies" ∷ "== journal" ∷ "" ∷ [])
unfolding is_written_bare digits
sessions_128 = refl
