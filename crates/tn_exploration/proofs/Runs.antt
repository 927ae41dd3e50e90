-- Whether an answer has a run that shows its trace.
use Rattle.std.proofs.Common.{◌≡◌, ℕ, Bool, true, false, List, Option, Some, None, not, ◌&&◌, ◌||◌, refl}
use Rattle.std.specs.Prelude.{is_some}
use Rattle.def_compare.specs.Entries.{Match}
use Rattle.tn_exploration.specs.Searches.{text_by_match}

-- it has one, where it says so
pub with_run : (text : List ℕ) (o : Option Match) (whole settled unmet : Bool) → settled ≡ (whole || is_some o) → unmet ≡ (whole && not (is_some o)) → (settled && not unmet) ≡ true
    → Some (record { text = text; settled = settled; unmet = unmet }) ≡ text_by_match text o
with_run text (Some m) true true false is but so = refl
with_run text (Some m) false true false is but so = refl
with_run text (Some m) true true true is but so = cc
with_run text (Some m) false true true is but so = cc
with_run text (Some m) true false unmet is but so = cc
with_run text (Some m) false false unmet is but so = cc
with_run text None true true true is but so = cc
with_run text None true true false is but so = cc
with_run text None true false unmet is but so = cc
with_run text None false true unmet is but so = cc
with_run text None false false unmet is but so = cc

-- and has none, where it doesn't
pub without_run : (text : List ℕ) (o : Option Match) (whole settled unmet : Bool) → settled ≡ (whole || is_some o) → unmet ≡ (whole && not (is_some o)) → (settled && not unmet) ≡ false
    → None ≡ text_by_match text o
without_run text None whole settled unmet is but so = refl
without_run text (Some m) true true true is but so = cc
without_run text (Some m) true true false is but so = cc
without_run text (Some m) true false unmet is but so = cc
without_run text (Some m) false true true is but so = cc
without_run text (Some m) false true false is but so = cc
without_run text (Some m) false false unmet is but so = cc
