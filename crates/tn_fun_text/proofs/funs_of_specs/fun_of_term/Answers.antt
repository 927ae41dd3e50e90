use Rattle.tn_fun_text.specs.Reasons.{no_fun_seen}
use Rattle.tn_fun_text.proofs.SpecTerms.{no_fun_printed}
use Rattle.tn_fun_text.proofs.funs_of_specs.fun_of_term.Goals as goal

pub returns-in-Err-NoFun : goal.returns-in-Err-NoFun
returns-in-Err-NoFun g c = record {
  reason = no_fun_seen c.in-Err-NoFun.reason;
  printed = (no_fun_printed (Unit {0}) _ _ _ c.in-Err-NoFun.field-0 c.in-Err-NoFun.reason c.in-Err-NoFun.field-0-is c.in-Err-NoFun.ensures).printed;
  line_is = c.in_ok-no_fun_line-in-Err-NoFun.ensures;
}
