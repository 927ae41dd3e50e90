-- Rows: texts of funs, each with its specification or its refusal. The specifications are those that `dbg:fun2ms/1` of OTP gives.
use Rattle.std.proofs.Common.{◌≡◌, ◌∷◌, ◌++◌, codes, refl}
use Rattle.std.specs.Fmt.{digits}
use Rattle.def_term.specs.Text.{is_written_bare}
use Rattle.def_spec.specs.Expressions.{for_calls}
use Rattle.def_fun.specs.Answers.{fun_answer}

pub body_bindings : fun_answer for_calls (codes "fun([X,Y]) -> message(bindings()) end") ≡ codes "[{['$1','$2'],[],[{message,'$*'}]}]"
unfolding is_written_bare digits
body_bindings = refl

pub body_dollar_atoms : fun_answer for_calls (codes "fun([X]) -> {'$1','$_','$a','$',X} end") ≡ codes "[{['$1'],[],[{{{const,'$1'},{const,'$_'},{const,'$a'},{const,'$'},'$1'}}]}]"
unfolding is_written_bare digits
body_dollar_atoms = refl

pub body_tuples_are_doubled : fun_answer for_calls (codes "fun([X]) -> message({a,{X,{}},[{X}]}) end") ≡ codes "[{['$1'],[],[{message,{{a,{{'$1',{{}}}},[{{'$1'}}]}}}]}]"
unfolding is_written_bare digits
body_tuples_are_doubled = refl

pub constants_are_computed : fun_answer for_calls (codes "fun([X]) when X > 60 * 60 * 24 -> message(7 div 2 - 7 rem 2) end") ≡ codes "[{['$1'],[{'>','$1',86400}],[{message,2}]}]"
unfolding is_written_bare digits
constants_are_computed = refl

pub constants_strings_are_not_computed : fun_answer for_calls (codes "fun([X]) when \"a\" == \"a\", [97] == \"a\", \"\" == [] -> true end") ≡ codes "[{['$1'],[{'==',[97],[97]},{'==',[97],[97]},{'==',[],[]}],[true]}]"
unfolding is_written_bare digits
constants_strings_are_not_computed = refl

pub doc_guard_of_two_variables : fun_answer for_calls (codes "fun([M,N]) when N > 3 -> return_trace() end") ≡ codes "[{['$1','$2'],[{'>','$2',3}],[{return_trace}]}]"
unfolding is_written_bare digits
doc_guard_of_two_variables = refl

pub doc_length_of_arguments : fun_answer for_calls (codes "fun(Args) when length(Args) > 6 -> true end") ≡ codes "[{'$1',[{'>',{length,'$1'},6}],[true]}]"
unfolding is_written_bare digits
doc_length_of_arguments = refl

pub doc_literal_in_the_head : fun_answer for_calls (codes "fun([toy_table,_]) -> true end") ≡ codes "[{[toy_table,'_'],[],[true]}]"
unfolding is_written_bare digits
doc_literal_in_the_head = refl

pub doc_message_caller : fun_answer for_calls (codes "fun([toy_table,{A,_}]) when is_atom(A) ->" ++ 10 ∷ codes "    message(caller())" ++ 10 ∷ codes "end") ≡ codes "[{[toy_table,{'$1','_'}],[{is_atom,'$1'}],[{message,{caller}}]}]"
unfolding is_written_bare digits
doc_message_caller = refl

pub doc_name_of_the_whole : fun_answer for_calls (codes "fun([a,_] = A) -> A end") ≡ codes "[{[a,'_'],[],['$_']}]"
unfolding is_written_bare digits
doc_name_of_the_whole = refl

pub doc_object : fun_answer for_calls (codes "fun([a,_]) -> object() end") ≡ codes "[{[a,'_'],[],['$_']}]"
unfolding is_written_bare digits
doc_object = refl

pub doc_return_trace : fun_answer for_calls (codes "fun([toy_table,_]) -> return_trace() end") ≡ codes "[{[toy_table,'_'],[],[{return_trace}]}]"
unfolding is_written_bare digits
doc_return_trace = refl

pub doc_return_trace_of_atoms : fun_answer for_calls (codes "fun([A]) when is_atom(A) -> return_trace() end") ≡ codes "[{['$1'],[{is_atom,'$1'}],[{return_trace}]}]"
unfolding is_written_bare digits
doc_return_trace_of_atoms = refl

pub doc_two_arguments : fun_answer for_calls (codes "fun([_,_]) -> true end") ≡ codes "[{['_','_'],[],[true]}]"
unfolding is_written_bare digits
doc_two_arguments = refl

pub guard_semicolon : fun_answer for_calls (codes "fun([X]) when X == 1; X == 2 -> message(X) end") ≡ codes "[{['$1'],[{'==','$1',1}],[{message,'$1'}]},{['$1'],[{'==','$1',2}],[{message,'$1'}]}]"
unfolding is_written_bare digits
guard_semicolon = refl

pub guard_semicolons_and_commas : fun_answer for_calls (codes "fun([X]) when is_atom(X), X =/= a; is_list(X); X > 3, X < 9 -> true; (_) -> message(false) end") ≡ codes "[{['$1'],[{is_atom,'$1'},{'=/=','$1',a}],[true]},{['$1'],[{is_list,'$1'}],[true]},{['$1'],[{'>','$1',3},{'<','$1',9}],[true]},{'_',[],[{message,false}]}]"
unfolding is_written_bare digits
guard_semicolons_and_commas = refl

pub head_name_first : fun_answer for_calls (codes "fun(All = [X]) -> {All,X} end") ≡ codes "[{['$1'],[],[{{'$_','$1'}}]}]"
unfolding is_written_bare digits
head_name_first = refl

pub head_numbers_in_order_of_occurrence : fun_answer for_calls (codes "fun([{B,A},[A,C],_,_X]) -> {A,B,C,_X} end") ≡ codes "[{[{'$1','$2'},['$2','$3'],'_','$4'],[],[{{'$2','$1','$3','$4'}}]}]"
unfolding is_written_bare digits
head_numbers_in_order_of_occurrence = refl

pub head_same_variable_twice : fun_answer for_calls (codes "fun([X,Y,X]) -> Y end") ≡ codes "[{['$1','$2','$1'],[],['$2']}]"
unfolding is_written_bare digits
head_same_variable_twice = refl

pub refused_action_in_a_guard : fun_answer for_calls (codes "fun([X]) when message(X) -> true end") ≡ codes "refused 23 no function message/1 at 14"
unfolding is_written_bare digits
refused_action_in_a_guard = refl

pub refused_arrow_without_blank : fun_answer for_calls (codes "fun([X]) when X<-1 -> true end") ≡ codes "refused 21 no <- at 15"
unfolding is_written_bare digits
refused_arrow_without_blank = refl

pub refused_binary : fun_answer for_calls (codes "fun([<<X>>]) -> X end") ≡ codes "refused 21 no << at 5"
unfolding is_written_bare digits
refused_binary = refl

pub refused_comma_before_end : fun_answer for_calls (codes "fun([X]) -> message(X), end") ≡ codes "refused 2 token at 24"
unfolding is_written_bare digits
refused_comma_before_end = refl

pub refused_display : fun_answer for_calls (codes "fun([X]) -> display(X) end") ≡ codes "refused 24 unsupported display at 12"
unfolding is_written_bare digits
refused_display = refl

pub refused_empty_body : fun_answer for_calls (codes "fun([X]) -> end") ≡ codes "refused 2 token at 12"
unfolding is_written_bare digits
refused_empty_body = refl

pub refused_fun_in_a_body : fun_answer for_calls (codes "fun([X]) -> fun(Y) -> Y end end") ≡ codes "refused 21 no fun at 12"
unfolding is_written_bare digits
refused_fun_in_a_body = refl

pub refused_head_is_a_tuple : fun_answer for_calls (codes "fun({X}) -> X end") ≡ codes "refused 2 token at 4"
unfolding is_written_bare digits
refused_head_is_a_tuple = refl

pub refused_list_with_a_tail : fun_answer for_calls (codes "fun([X|_]) -> X end") ≡ codes "refused 26 list with a tail at 7"
unfolding is_written_bare digits
refused_list_with_a_tail = refl

pub refused_match_in_a_body : fun_answer for_calls (codes "fun([X]) -> Y = X, message(Y) end") ≡ codes "refused 21 no = at 14"
unfolding is_written_bare digits
refused_match_in_a_body = refl

pub refused_maybe : fun_answer for_calls (codes "fun([X]) -> maybe X end end") ≡ codes "refused 21 no maybe at 12"
unfolding is_written_bare digits
refused_maybe = refl

pub refused_named_fun : fun_answer for_calls (codes "fun F([X]) -> X end") ≡ codes "refused 2 token at 4"
unfolding is_written_bare digits
refused_named_fun = refl

pub refused_no_end : fun_answer for_calls (codes "fun([X]) -> X") ≡ codes "refused 2 token at 13"
unfolding is_written_bare digits
refused_no_end = refl

pub refused_plus_of_a_variable : fun_answer for_calls (codes "fun([X]) when +X > 1 -> true end") ≡ codes "refused 2 token at 14"
unfolding is_written_bare digits
refused_plus_of_a_variable = refl

pub refused_remote_element : fun_answer for_calls (codes "fun([X]) when erlang:element(1,X) == a -> true end") ≡ codes "refused 21 no : at 20"
unfolding is_written_bare digits
refused_remote_element = refl

pub refused_shift : fun_answer for_calls (codes "fun([X]) when X bsl 1 > 1 -> true end") ≡ codes "refused 21 no bsl at 16"
unfolding is_written_bare digits
refused_shift = refl

pub refused_too_deep : fun_answer for_calls (codes "fun([X]) -> [[[[[[[[[[[[[[[[[[[[[[[[[[[[[[X]]]]]]]]]]]]]]]]]]]]]]]]]]]]]] end") ≡ codes "refused 3 too deep at 12"
unfolding is_written_bare digits
refused_too_deep = refl

pub refused_tuple_size : fun_answer for_calls (codes "fun([X]) when tuple_size(X) == 2 -> true end") ≡ codes "refused 23 no function tuple_size/1 at 14"
unfolding is_written_bare digits
refused_tuple_size = refl

pub refused_unbound : fun_answer for_calls (codes "fun([X]) when X > Limit -> true end") ≡ codes "refused 22 unbound Limit at 18"
unfolding is_written_bare digits
refused_unbound = refl

pub refused_wrong_number_of_arguments : fun_answer for_calls (codes "fun([X]) -> enable_trace(a,b,X) end") ≡ codes "refused 23 no function enable_trace/3 at 12"
unfolding is_written_bare digits
refused_wrong_number_of_arguments = refl
