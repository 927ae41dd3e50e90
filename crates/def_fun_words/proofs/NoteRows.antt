-- Rows: texts of funs, each with the notes on it.
use Rattle.std.proofs.Common.{◌≡◌, [], codes, refl}
use Rattle.std.specs.Fmt.{digits}
use Rattle.def_fun_words.specs.Notes.{notes_text}

pub name_of_the_whole : notes_text (codes "fun([X,Y] = X) -> Y end") ≡ codes "fun:1:6: X is the whole, and in the list it is the atom '$_'\n"
unfolding digits
name_of_the_whole = refl

pub wildcard_of_the_whole : notes_text (codes "fun([X,_,{_}] = _) ->\n {X,_} end") ≡ codes "fun:1:8: _ is the whole, and in the list it is the atom '$_'\nfun:1:11: _ is the whole, and in the list it is the atom '$_'\n"
unfolding digits
wildcard_of_the_whole = refl

pub a_bindings_call : notes_text (codes "fun([X]) -> message([X,bindings()]) end") ≡ codes "fun:1:24: bindings() is the atom '$*', on a node and here\n"
unfolding digits
a_bindings_call = refl

pub wildcard_in_expressions : notes_text (codes "fun([_]) when _ == 1 ->\n message(_) end") ≡ codes "fun:1:15: _ is the atom '_' here\nfun:2:10: _ is the atom '_' here\n"
unfolding digits
wildcard_in_expressions = refl

pub actions_end_the_node : notes_text (codes "fun(_) -> enable_trace(call), message(trace([],[call])); (_) -> disable_trace(self(),call), silent(true) end")
    ≡ codes "fun:1:11: erlang:match_spec_test/3 of OTP 27 can end the node at enable_trace\nfun:1:39: erlang:match_spec_test/3 of OTP 27 can end the node at trace\nfun:1:65: erlang:match_spec_test/3 of OTP 27 can end the node at disable_trace\n"
unfolding digits
actions_end_the_node = refl

-- an atom is no call, and the name of the whole is no note elsewhere
pub without_notes : notes_text (codes "fun(All = [X,_]) when X == bindings -> trace, All end") ≡ []
unfolding digits
without_notes = refl
