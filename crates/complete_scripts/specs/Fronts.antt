-- Two lines that explain a refusal, as far as the contract says what they are.
-- Depends on where a refusal is, and on the words of its rule.
use Rattle.std.specs.Prelude.{◌≡◌, ℕ, List, ◌++◌}
use Rattle.def_script.specs.Script.{Refusal}
use Rattle.tn_refusal.specs.declared.location.Location.{Location}
use Rattle.tn_refusal.specs.Locations.{mark_text}
use Rattle.tn_refusal.specs.Words.{words}

-- both begin with the name and the same place, and then the words of the rule
pub record BeginAlike (name : List ℕ) (r : Refusal) (one other : List ℕ) : Type 0 where
  pub mark : Location
  pub rest : List ℕ
  pub others : List ℕ
  pub one_is : one ≡ mark_text name mark ++ words r ++ rest
  pub other_is : other ≡ mark_text name mark ++ words r ++ others
