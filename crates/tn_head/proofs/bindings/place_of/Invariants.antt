use Rattle.std.proofs.Common.{◌≡◌, ◌+◌, nat_lt, drop}
use Rattle.std.specs.List.{position_or_len}
use Rattle.tn_head.proofs.bindings.place_of.Given as goal

abbrev pub invariant-loop-place : goal.invariant-loop-place
invariant-loop-place g l = l.place + position_or_len (λ b. nat_lt l.number b.number) (drop l.place l.bindings) ≡ position_or_len (λ b. nat_lt l.number b.number) l.bindings
