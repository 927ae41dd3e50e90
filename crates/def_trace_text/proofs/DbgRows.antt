-- Rows: lines as `dbg` of OTP 27 printed them, and the texts of their messages.
use Rattle.std.proofs.Common.{◌≡◌, List, ℕ, [], ◌∷◌, codes, refl}
use Rattle.def_trace_text.specs.DbgLines.{whole_text_lines, trace_line_text}
use Rattle.def_trace_text.specs.ErrorMaps.{trace_message_text}

-- the text of the message that a line stands for
abbrev Reads : (line text : List ℕ) → Type 0
Reads line text = trace_line_text line ≡ text

-- ---- calls and their ends

pub call : Reads (codes "(<0.85.0>) call t:g(\"abc\",'hello world')") (codes "{trace,<0.85.0>,call,{t,g,[\"abc\",'hello world']}}")
call = refl

pub call_of_none : Reads (codes "(<0.85.0>) call t:h()") (codes "{trace,<0.85.0>,call,{t,h,[]}}")
call_of_none = refl

-- quotes and backslashes in names and arguments
pub call_in_quotes : Reads (codes "(<0.85.0>) call t:'odd name'('it\\'s')") (codes "{trace,<0.85.0>,call,{t,'odd name',['it\\'s']}}")
call_in_quotes = refl

-- with the message of a match specification
pub call_with_message : Reads (codes "(<0.85.0>) call t:f(\"it's \\\"x\\\" (y): a/b\") ({extra,'a b'})") (codes "{trace,<0.85.0>,call,{t,f,[\"it's \\\"x\\\" (y): a/b\"]},{extra,'a b'}}")
call_with_message = refl

-- with the flag `arity`
pub call_with_arity : Reads (codes "(<0.88.0>) call t:h/0") (codes "{trace,<0.88.0>,call,{t,h,0}}")
call_with_arity = refl

pub call_with_both : Reads (codes "(<0.88.0>) call t:f/1 ({extra,'a b'})") (codes "{trace,<0.88.0>,call,{t,f,1},{extra,'a b'}}")
call_with_both = refl

pub return : Reads (codes "(<0.85.0>) returned from t:g/2 -> [\"abc\",'hello world']") (codes "{trace,<0.85.0>,return_from,{t,g,2},[\"abc\",'hello world']}")
return = refl

pub return_to : Reads (codes "(<0.85.0>) returning to t:g/2") (codes "{trace,<0.85.0>,return_to,{t,g,2}}")
return_to = refl

pub exception : Reads (codes "(<0.85.0>) exception_from {t,k,1} {error,badarith}") (codes "{trace,<0.85.0>,exception_from,{t,k,1},{error,badarith}}")
exception = refl

-- ---- messages between processes

pub send : Reads (codes "(<0.85.0>) <0.87.0> ! \"h ! i\"") (codes "{trace,<0.85.0>,send,\"h ! i\",<0.87.0>}")
send = refl

pub send_to_none : Reads (codes "(<0.85.0>) send_to_non_existing_process {late,1} <0.87.0>") (codes "{trace,<0.85.0>,send_to_non_existing_process,{late,1},<0.87.0>}")
send_to_none = refl

pub receive : Reads (codes "(<0.86.0>) << stop") (codes "{trace,<0.86.0>,'receive',stop}")
receive = refl

-- ---- processes

pub spawn : Reads (codes "(<0.85.0>) spawn <0.86.0> as t:kid(<0.85.0>)") (codes "{trace,<0.85.0>,spawn,<0.86.0>,{t,kid,[<0.85.0>]}}")
spawn = refl

pub spawned : Reads (codes "(<0.86.0>) spawned <0.85.0> {t,kid,[<0.85.0>]}") (codes "{trace,<0.86.0>,spawned,<0.85.0>,{t,kid,[<0.85.0>]}}")
spawned = refl

pub exit : Reads (codes "(<0.85.0>) exit {shutdown,\"a b\"}") (codes "{trace,<0.85.0>,exit,{shutdown,\"a b\"}}")
exit = refl

pub link : Reads (codes "(<0.85.0>) link <0.87.0>") (codes "{trace,<0.85.0>,link,<0.87.0>}")
link = refl

pub unlink : Reads (codes "(<0.85.0>) unlink <0.87.0>") (codes "{trace,<0.85.0>,unlink,<0.87.0>}")
unlink = refl

pub getting_linked : Reads (codes "(<0.87.0>) getting_linked <0.85.0>") (codes "{trace,<0.87.0>,getting_linked,<0.85.0>}")
getting_linked = refl

pub getting_unlinked : Reads (codes "(<0.87.0>) getting_unlinked <0.85.0> \r") (codes "{trace,<0.87.0>,getting_unlinked,<0.85.0>}")
getting_unlinked = refl

-- ---- other lines

-- a term is a line of the other kind
pub term_line : Reads (codes "{trace,<0.85.0>,exit,normal}.") (codes "{trace,<0.85.0>,exit,normal}")
term_line = refl

-- a line with no format is left, and spells no term
pub no_format : Reads (codes "(<0.85.0>) exit") (codes "(<0.85.0>) exit")
no_format = refl

-- the first line of a message that `dbg` broke: the last part ends within a list
pub broken_line : Reads (codes "(<0.85.0>) returned from t:f/1 -> {ok,") (codes "{trace,<0.85.0>,return_from,{t,f,1},{ok,}")
broken_line = refl

-- ---- messages over several lines

-- a list of an argument that `dbg` broke, and an exit after it
pub broken_call :
    whole_text_lines (codes "(<0.85.0>) call m:f([1,2,\n 3]) ({a,\n      'b c'})\r\n(<0.85.0>) exit {a,\n   b}\n")
    ≡ codes "(<0.85.0>) call m:f([1,2,\n 3]) ({a,\n      'b c'})" ∷ [] ∷ [] ∷ codes "(<0.85.0>) exit {a,\n   b}" ∷ [] ∷ []
broken_call = refl

-- a line that begins with a blank is one of its own after a term, a comment and a line of blanks
pub blanks_after_terms : whole_text_lines (codes "a\n b\n(c\n % d\n e\n(f\n \n g") ≡ codes "a" ∷ codes " b" ∷ codes "(c" ∷ codes " % d" ∷ codes " e" ∷ codes "(f" ∷ codes " " ∷ codes " g" ∷ []
blanks_after_terms = refl

pub broken_call_read : Reads (codes "(<0.85.0>) call m:f([1,2,\n 3]) ({a,\n      'b c'})") (codes "{trace,<0.85.0>,call,{m,f,[[1,2,\n 3]]},{a,\n      'b c'}}")
broken_call_read = refl

pub broken_exit : Reads (codes "(<0.85.0>) exit {a,\n   b}") (codes "{trace,<0.85.0>,exit,{a,\n   b}}")
broken_exit = refl

pub broken_exception : Reads (codes "(<0.85.0>) exception_from {m,f,1} {error,\n {badmatch,' ]'}}") (codes "{trace,<0.85.0>,exception_from,{m,f,1},{error,\n {badmatch,' ]'}}}")
broken_exception = refl

-- ---- maps of errors

-- the text of the message of a line with the map of an error
abbrev ReadsWithout : (line text : List ℕ) → Type 0
ReadsWithout line text = trace_message_text line ≡ text

-- `hd([])` in a process that is traced, as a node of OTP 27 printed it
pub error_of_bif :
    ReadsWithout (codes "{trace,<0.88.0>,exit,{badarg,[{erlang,hd,[[]],[{error_info,#{module => erl_erts_errors}}]},{t,f,1,[]}]}}.")
    (codes "{trace,<0.88.0>,exit,{badarg,[{erlang,hd,[[]],[{error_info,[]}]},{t,f,1,[]}]}}")
error_of_bif = refl

-- a map in the map, with brackets and quotes in it, and blanks before it
pub map_in_map : ReadsWithout (codes "{error_info,\n #{cause => #{'}' => [{1}]},module => m}}") (codes "{error_info,[]}")
map_in_map = refl

-- in quotes it is no map; and another map stays, so that no term is spelled
pub map_in_quotes : ReadsWithout (codes "{trace,<0.88.0>,send,'{error_info,#{}}',<0.89.0>}") (codes "{trace,<0.88.0>,send,'{error_info,#{}}',<0.89.0>}")
map_in_quotes = refl

pub other_map : ReadsWithout (codes "{trace,<0.88.0>,send,#{a => 1},<0.89.0>}") (codes "{trace,<0.88.0>,send,#{a => 1},<0.89.0>}")
other_map = refl

-- a map that doesn't end takes the rest of the line with it, and no term is spelled
pub open_map : ReadsWithout (codes "{error_info,#{module => m}") (codes "{error_info,[]")
open_map = refl
