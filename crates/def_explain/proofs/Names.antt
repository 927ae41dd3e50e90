-- Each name of a function or an action is read as it.
use Rattle.std.proofs.Common.{refl}
use Rattle.def_spec.specs.Functions as fn
use Rattle.def_spec.specs.Expressions.{message, return_trace, exception_trace, silent, enable_trace, disable_trace, trace, caller}
use Rattle.def_explain.specs.Laws.{FunctionNameIsRead, ActionNameIsRead}

pub function_name_is_read : FunctionNameIsRead
function_name_is_read fn.is_atom = refl
function_name_is_read fn.is_integer = refl
function_name_is_read fn.is_list = refl
function_name_is_read fn.is_tuple = refl
function_name_is_read fn.is_pid = refl
function_name_is_read fn.is_number = refl
function_name_is_read fn.is_boolean = refl
function_name_is_read fn.is_float = refl
function_name_is_read fn.is_port = refl
function_name_is_read fn.is_reference = refl
function_name_is_read fn.is_map = refl
function_name_is_read fn.is_binary = refl
function_name_is_read fn.is_bitstring = refl
function_name_is_read fn.is_function = refl
function_name_is_read fn.head = refl
function_name_is_read fn.tail = refl
function_name_is_read fn.length = refl
function_name_is_read fn.size = refl
function_name_is_read fn.tuple_size = refl
function_name_is_read fn.element = refl
function_name_is_read fn.absolute = refl
function_name_is_read fn.add = refl
function_name_is_read fn.subtract = refl
function_name_is_read fn.multiply = refl
function_name_is_read fn.divide = refl
function_name_is_read fn.remainder = refl
function_name_is_read fn.bit_and = refl
function_name_is_read fn.bit_or = refl
function_name_is_read fn.bit_xor = refl
function_name_is_read fn.bit_not = refl
function_name_is_read fn.greater = refl
function_name_is_read fn.greater_or_equal = refl
function_name_is_read fn.less = refl
function_name_is_read fn.less_or_equal = refl
function_name_is_read fn.equal = refl
function_name_is_read fn.exactly_equal = refl
function_name_is_read fn.not_equal = refl
function_name_is_read fn.exactly_not_equal = refl
function_name_is_read fn.own_pid = refl
function_name_is_read fn.own_node = refl
function_name_is_read fn.all_of = refl
function_name_is_read fn.one_of = refl
function_name_is_read fn.just_one_of = refl
function_name_is_read fn.is_false = refl

pub action_name_is_read : ActionNameIsRead
action_name_is_read message = refl
action_name_is_read return_trace = refl
action_name_is_read exception_trace = refl
action_name_is_read silent = refl
action_name_is_read enable_trace = refl
action_name_is_read disable_trace = refl
action_name_is_read trace = refl
action_name_is_read caller = refl
