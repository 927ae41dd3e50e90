use Rattle.complete_funs.proofs.PrintedAlike.{printed_alike}
use Rattle.complete_funs.proofs.fun_text.one_text.Goals as goal

pub returns : goal.returns
returns g c = printed_alike _ c.args.first.now.items c.args.second.now.items c.write_fun-one.new.out.items c.write_fun-other.new.out.items c.write_fun-one.result c.write_fun-other.result c.requires c.write_fun-one.ensures c.write_fun-other.ensures
