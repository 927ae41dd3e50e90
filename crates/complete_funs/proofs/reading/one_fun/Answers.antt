use Rattle.complete_funs.proofs.Readings.{read_alike}
use Rattle.complete_funs.proofs.reading.one_fun.Goals as goal

pub returns : goal.returns
returns g c = read_alike c.args.bytes.now c.read_fun-first.result c.read_fun-second.result c.read_fun-first.ensures c.read_fun-second.ensures
