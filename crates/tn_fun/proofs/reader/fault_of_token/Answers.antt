use Rattle.std.proofs.Common.{◌-◌, take, drop, ap, Err}
use Rattle.tn_fun.proofs.OtherKinds.{no_name}
use Rattle.tn_fun.proofs.reader.fault_of_token.Goals as goal

pub returns-in_default : goal.returns-in_default
returns-in_default c = λ text xs.
    let v = c.args.token in
    let d = c.in_default in
    ap (λ r. Err r) (no_name v.kind (take (v.to - v.from) (drop v.from text)) (drop v.from text) v.from (λ e. d.not-LeftOut e) (λ e. d.not-Float e) (λ e. d.not-OtherNumber e) (λ e. d.not-Fun e) (λ e. d.not-Match e))
