-- Worked rows of JSON, worked out by hand.
use Rattle.std.proofs.Common.{◌≡◌, codes, refl}
use Rattle.std.specs.Fmt.{digits}
use Rattle.json.specs.Print.{print_from, escape_byte}
use Rattle.json.specs.Word.{after_number}
use Rattle.def_formats.specs.JsonRows.{output_json, account_json, text_json}
use Rattle.def_formats.specs.RefusalRows.{refusal_json}
use Rattle.def_formats.proofs.SummaryRows.{one_send}

one_send_json : output_json one_send ≡ codes "{\"session\":\"s1\",\"tracer\":\"t1\",\"messages\":1}\n{\"session\":\"s1\",\"tracer\":\"t1\",\"message\":1,\"kind\":\"send\",\"pid\":\"<0.100.0>\",\"text\":\"{trace,<0.100.0>,send,{hi,1},<0.101.0>}\"}\n{\"reply\":1,\"text\":\"{session,s1}\"}\n{\"reply\":2,\"text\":\"2\"}\n{\"journal\":[0,0,100,100]}\n"
unfolding digits print_from escape_byte after_number
one_send_json = refl

account_row : account_json (codes "4 100 <0.100.0> send {hi,1} <0.101.0>\n  'a: b': => \\x\"\n") ≡ codes "{\"move\":4,\"pick\":100,\"event\":\"<0.100.0> send {hi,1} <0.101.0>\"}\n{\"move\":4,\"pick\":100,\"event\":\"<0.100.0> send {hi,1} <0.101.0>\",\"session\":\"'a: b'\",\"line\":\"=> \\\\x\\\"\",\"trace_message\":\"\\\\x\\\"\"}\n"
unfolding digits print_from escape_byte after_number
account_row = refl

-- what the lines of an explanation say, by their first words
condition_row : account_json (codes "4 0 e\n  s: clause 1: condition 2 is false\n") ≡ codes "{\"move\":4,\"pick\":0,\"event\":\"e\"}\n{\"move\":4,\"pick\":0,\"event\":\"e\",\"session\":\"s\",\"line\":\"clause 1: condition 2 is false\",\"clause\":1,\"fires\":false,\"condition\":2,\"value\":\"false\"}\n"
unfolding digits print_from escape_byte after_number
condition_row = refl

bound_row : text_json (codes "clause 1: condition 1 is ': ': '$1' is 3, '$2' is a\n") ≡ codes "{\"line\":1,\"text\":\"clause 1: condition 1 is ': ': '$1' is 3, '$2' is a\",\"clause\":1,\"fires\":false,\"condition\":1,\"value\":\"': '\",\"bound\":\"'$1' is 3, '$2' is a\"}\n"
unfolding digits print_from escape_byte after_number
bound_row = refl

fault_row : text_json (codes "clause 4: condition 1 faults at {hd,'$1'}\n") ≡ codes "{\"line\":1,\"text\":\"clause 4: condition 1 faults at {hd,'$1'}\",\"clause\":4,\"fires\":false,\"condition\":1,\"faults_at\":\"{hd,'$1'}\"}\n"
unfolding digits print_from escape_byte after_number
fault_row = refl

head_row : text_json (codes "clause 1: the head has another number of elements\n") ≡ codes "{\"line\":1,\"text\":\"clause 1: the head has another number of elements\",\"clause\":1,\"fires\":false}\n"
unfolding digits print_from escape_byte after_number
head_row = refl

fires_row : text_json (codes "clause 3 fires: message 8, return_trace\nclause 12 fires\n") ≡ codes "{\"line\":1,\"text\":\"clause 3 fires: message 8, return_trace\",\"clause\":3,\"fires\":true,\"effects\":\"message 8, return_trace\"}\n{\"line\":2,\"text\":\"clause 12 fires\",\"clause\":12,\"fires\":true}\n"
unfolding digits print_from escape_byte after_number
fires_row = refl

arrow_rows : text_json (codes "=> a message\n=> no message: it is false\n") ≡ codes "{\"line\":1,\"text\":\"=> a message\",\"trace_message\":\"a message\"}\n{\"line\":2,\"text\":\"=> no message: it is false\",\"trace_message\":null,\"why\":\"it is false\"}\n"
unfolding digits print_from escape_byte after_number
arrow_rows = refl

node_row : text_json (codes "on a node: a message\nno clause fires\n") ≡ codes "{\"line\":1,\"text\":\"on a node: a message\",\"on_a_node\":\"a message\"}\n{\"line\":2,\"text\":\"no clause fires\"}\n"
unfolding digits print_from escape_byte after_number
node_row = refl

fun_rows : text_json (codes "clause 1 (line 1): guard X > 3 is false\nclause 2 (line 4) fires: message 8\n") ≡ codes "{\"line\":1,\"text\":\"clause 1 (line 1): guard X > 3 is false\",\"clause\":1,\"fires\":false}\n{\"line\":2,\"text\":\"clause 2 (line 4) fires: message 8\",\"clause\":2,\"fires\":true,\"effects\":\"message 8\"}\n"
unfolding digits print_from escape_byte after_number
fun_rows = refl

-- what a session makes of a command and of an event
reply_row : account_json (codes "1 0 e\n  s: replies badarg: no flag sends; is send meant?\n  s: replies {session,'a: b'}\n  s: replies 1\n") ≡ codes "{\"move\":1,\"pick\":0,\"event\":\"e\"}\n{\"move\":1,\"pick\":0,\"event\":\"e\",\"session\":\"s\",\"line\":\"replies badarg: no flag sends; is send meant?\",\"reply\":\"badarg\",\"why\":\"no flag sends; is send meant?\"}\n{\"move\":1,\"pick\":0,\"event\":\"e\",\"session\":\"s\",\"line\":\"replies {session,'a: b'}\",\"reply\":\"{session,'a: b'}\"}\n{\"move\":1,\"pick\":0,\"event\":\"e\",\"session\":\"s\",\"line\":\"replies 1\",\"reply\":\"1\"}\n"
unfolding digits print_from escape_byte after_number
reply_row = refl

cause_rows : account_json (codes "2 7 e\n  s: no flag 'receive'\n  s: no setting for m:g/0\n  s: the setting is false\n  s: no clause fires\n") ≡ codes "{\"move\":2,\"pick\":7,\"event\":\"e\"}\n{\"move\":2,\"pick\":7,\"event\":\"e\",\"session\":\"s\",\"line\":\"no flag 'receive'\",\"no_flag\":\"'receive'\"}\n{\"move\":2,\"pick\":7,\"event\":\"e\",\"session\":\"s\",\"line\":\"no setting for m:g/0\",\"no_setting\":\"m:g/0\"}\n{\"move\":2,\"pick\":7,\"event\":\"e\",\"session\":\"s\",\"line\":\"the setting is false\",\"setting\":\"false\"}\n{\"move\":2,\"pick\":7,\"event\":\"e\",\"session\":\"s\",\"line\":\"no clause fires\",\"fires\":false}\n"
unfolding digits print_from escape_byte after_number
cause_rows = refl

-- the name of the module in the call decides which of both it is
setting_row : account_json (codes "2 7 e\n  s: the setting is global, and the call doesn't name the module\n") ≡ codes "{\"move\":2,\"pick\":7,\"event\":\"e\"}\n{\"move\":2,\"pick\":7,\"event\":\"e\",\"session\":\"s\",\"line\":\"the setting is global, and the call doesn't name the module\",\"setting\":\"global\"}\n"
unfolding digits print_from escape_byte after_number
setting_row = refl

mark_rows : account_json (codes "2 7 e\n  s: the call is marked\n  s: the call is marked for exceptions\n  s: the mark is gone\n") ≡ codes "{\"move\":2,\"pick\":7,\"event\":\"e\"}\n{\"move\":2,\"pick\":7,\"event\":\"e\",\"session\":\"s\",\"line\":\"the call is marked\",\"mark\":\"set\"}\n{\"move\":2,\"pick\":7,\"event\":\"e\",\"session\":\"s\",\"line\":\"the call is marked for exceptions\",\"mark\":\"set for exceptions\"}\n{\"move\":2,\"pick\":7,\"event\":\"e\",\"session\":\"s\",\"line\":\"the mark is gone\",\"mark\":\"gone\"}\n"
unfolding digits print_from escape_byte after_number
mark_rows = refl

no_mark_rows : account_json (codes "2 7 e\n  s: the call has no mark\n  s: the call is marked for returns alone\n") ≡ codes "{\"move\":2,\"pick\":7,\"event\":\"e\"}\n{\"move\":2,\"pick\":7,\"event\":\"e\",\"session\":\"s\",\"line\":\"the call has no mark\",\"mark\":\"none\"}\n{\"move\":2,\"pick\":7,\"event\":\"e\",\"session\":\"s\",\"line\":\"the call is marked for returns alone\",\"mark\":\"for returns alone\"}\n"
unfolding digits print_from escape_byte after_number
no_mark_rows = refl

-- a message that isn't sent
unsent_rows : account_json (codes "2 7 e\n  s: silent\n  s: message false\n  s: past a limit: a process has at most 64 frames\n") ≡ codes "{\"move\":2,\"pick\":7,\"event\":\"e\"}\n{\"move\":2,\"pick\":7,\"event\":\"e\",\"session\":\"s\",\"line\":\"silent\",\"silent\":true}\n{\"move\":2,\"pick\":7,\"event\":\"e\",\"session\":\"s\",\"line\":\"message false\",\"message\":false}\n{\"move\":2,\"pick\":7,\"event\":\"e\",\"session\":\"s\",\"line\":\"past a limit: a process has at most 64 frames\",\"past_limit\":\"a process has at most 64 frames\"}\n"
unfolding digits print_from escape_byte after_number
unsent_rows = refl

-- what a running node does otherwise
node_rows : account_json (codes "2 7 e\n  s: - {a,b}\n  s: + replies 1\n  s: on a node: silent\n") ≡ codes "{\"move\":2,\"pick\":7,\"event\":\"e\"}\n{\"move\":2,\"pick\":7,\"event\":\"e\",\"session\":\"s\",\"line\":\"- {a,b}\",\"node_lacks\":\"{a,b}\"}\n{\"move\":2,\"pick\":7,\"event\":\"e\",\"session\":\"s\",\"line\":\"+ replies 1\",\"node_has\":\"replies 1\"}\n{\"move\":2,\"pick\":7,\"event\":\"e\",\"session\":\"s\",\"line\":\"on a node: silent\",\"on_a_node\":\"silent\"}\n"
unfolding digits print_from escape_byte after_number
node_rows = refl

-- a token at a place, and a script that is too long
refusal_at_place : refusal_json (codes "refused 2 17\n") (codes ":3:12: a term expected, found ']'") ≡ codes "{\"refused\":2,\"line\":\"refused 2 17\",\"place\":\"3:12\",\"why\":\"a term expected, found ']'\"}\n"
unfolding digits print_from escape_byte after_number
refusal_at_place = refl

refusal_of_all : refusal_json (codes "refused 1\n") (codes ": longer than 1048576 bytes") ≡ codes "{\"refused\":1,\"line\":\"refused 1\",\"place\":null,\"why\":\"longer than 1048576 bytes\"}\n"
unfolding digits print_from escape_byte after_number
refusal_of_all = refl
