-- What a writer of JSON gains with a member (own).
use Rattle.std.specs.Prelude.{◌≡◌, ℕ, List, ◌∷◌, ◌++◌, Result, OnOk}
use Rattle.json.specs.Token.{key}
use Rattle.json.specs.Json.{Json}
use Rattle.json.specs.Tree.{json_tokens}
use Rattle.json.specs.Written.{Written}

-- the member of this name and value after the tokens before
pub record HasMemberMore (old new : Written) (name : List ℕ) (value : Json) : Type 0 where
  pub tokens : new.tokens ≡ old.tokens ++ key name ∷ json_tokens value
  pub before : new.before ≡ old.before

abbrev pub AddsMember : {T E : Type 0} → Result T E → Written → Written → (name : List ℕ) → (value : Json) → Type 0
AddsMember r old new name value = OnOk r (HasMemberMore old new name value)
