use Rattle.def_fun.specs.Calls.{fun_functions}
use Rattle.tn_fun_text.proofs.CallNames.{no_function_named}
use Rattle.tn_fun_text.proofs.calls.is_function.Goals as goal

pub returns-in_default : goal.returns-in_default
returns-in_default c =
    let d = c.in_default in
    no_function_named fun_functions c.args.name.now c.args.count (d.not-abs, (d.not-element, (d.not-hd, (d.not-tl, (d.not-length, (d.not-size, (d.not-node, (d.not-node, (d.not-self, (d.not-is_atom, (d.not-is_float, (d.not-is_integer, (d.not-is_list, (d.not-is_number, (d.not-is_pid, (d.not-is_port, (d.not-is_reference, (d.not-is_tuple, (d.not-is_map, (d.not-is_binary, (d.not-is_function, (tt))))))))))))))))))))))
