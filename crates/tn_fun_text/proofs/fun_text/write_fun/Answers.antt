use Rattle.std.proofs.lemmas.Result.{err_from_is_err_and}
use Rattle.def_fun.specs.FunTexts.{fun_printed}
use Rattle.tn_term.specs.Views.{tree_of}
use Rattle.tn_spec.specs.Views.{dialect_of}
use Rattle.tn_fun_text.proofs.PrintedFuns.{not_added, text_added}
use Rattle.tn_fun_text.proofs.fun_text.write_fun.Goals as goal

pub returns-in_err-check_fun : goal.returns-in_err-check_fun
returns-in_err-check_fun g c =
    let p = err_from_is_err_and c.from_residual.result c.from_residual.ensures.1 in
    rw (p.1, p.2) (not_added (Unit {0}) (Unit {0}) (fun_printed (dialect_of c.args.dialect) (tree_of c.args.term.now)) c.args.out.now.items _ c.in_err-check_fun.ensures)

pub returns-in-Ok : goal.returns-in-Ok
returns-in-Ok g c = text_added (dialect_of c.args.dialect) (tree_of c.args.term.now) c.args.out.now.items _ c.in_ok-check_fun.ensures c.in-Ok.ensures
