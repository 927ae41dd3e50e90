-- What a call of a fun is.
use Rattle.def_fun.specs.Calls as calls
use Rattle.def_fun.specs.Calls.{the_object, the_bindings, a_call}
use Rattle.tn_translation.specs.declared.calls.FunCall.{FunCall}
use Rattle.tn_translation.specs.declared.calls.FunCall.TheVariants as kinds

abbrev pub fun_call_seen : FunCall → calls.FunCall
fun_call_seen kinds.Object = the_object
fun_call_seen kinds.Bindings = the_bindings
fun_call_seen kinds.Function = a_call
