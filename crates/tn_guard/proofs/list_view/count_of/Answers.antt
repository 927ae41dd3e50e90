use Rattle.std.proofs.Common.{◌≡◌, ℕ, ◌*◌, ◌^◌, ◌<◌, ◌≤◌, arith}
use Rattle.std.proofs.Math.Nat.{le_trans, le-max_left, mul-le-mul_left}
use prog.Align.{up-ge}
use Rattle.tn_guard.proofs.list_view.count_of.Goals as goal

fewer : (n size bytes : ℕ) → 2 ≤ size → bytes ≡ n * size → bytes < 2 ^ 64 → n < 2 ^ 63
fewer n size bytes two all fits = omega (arith, mul-le-mul_left n two)

pub returns-clause-small : goal.returns-clause-small
returns-clause-small g c = fewer _ _ _ (le_trans (le_trans (omega arith) (le-max_left 16 _)) (up-ge _ _)) c.size_of_val-bytes.ensures c.size_of_val-bytes.type_inv
