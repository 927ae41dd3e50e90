use Rattle.std.proofs.Common.{◌≡◌, Bool, true, false, refl, sym}
use Rattle.std.proofs.lemmas.Slice.Eq.{slice_eq-Decides}
use Rattle.std.specs.Bool.{Decides}
use mathlib.Core.Bool.{beq}
use Rattle.tn_process.proofs.share.same_links.Goals as goal

-- equality of two truth values
same : (a b : Bool) → Decides (beq a b) (a ≡ b)
same true true = (λ e. refl, λ e. refl)
same true false = (λ e. sym e, λ e. sym e)
same false true = (λ e. e, λ e. e)
same false false = (λ e. refl, λ e. refl)

pub returns : goal.returns
returns c = slice_eq-Decides same _ _ _ c.eq.ensures
