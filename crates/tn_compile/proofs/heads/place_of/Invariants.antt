use Rattle.std.proofs.Common.{◌≡◌, ◌+◌, nat_lt, drop}
use Rattle.std.specs.List.{position_or_len}
use Rattle.tn_compile.proofs.heads.place_of.Given as goal

abbrev pub invariant-loop-place : goal.invariant-loop-place
invariant-loop-place l = l.place + position_or_len (λ v. nat_lt l.number v.number) (drop l.place l.variables) ≡ position_or_len (λ v. nat_lt l.number v.number) l.variables
