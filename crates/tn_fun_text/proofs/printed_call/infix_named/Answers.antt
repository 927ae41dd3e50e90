use Rattle.def_fun.specs.FunTexts.{infix_operators}
use Rattle.tn_fun_text.proofs.CallNames.{no_operator_named}
use Rattle.tn_fun_text.proofs.printed_call.infix_named.Goals as goal

pub returns-in_default : goal.returns-in_default
returns-in_default c =
    let d = c.in_default in
    no_operator_named infix_operators c.args.name.now (d.not-orelse, (d.not-andalso, (d.not-text, (d.not-text-2, (d.not-text-3, (d.not-text-4, (d.not-text-5, (d.not-text-6, (d.not-text-7, (d.not-text-8, (d.not-text-9, (d.not-text-10, (d.not-bor, (d.not-bxor, (d.not-or, (d.not-xor, (d.not-text-11, (d.not-div, (d.not-rem, (d.not-band, (d.not-and, tt)))))))))))))))))))))
