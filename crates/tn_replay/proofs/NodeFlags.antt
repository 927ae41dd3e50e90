-- Flags that are listed, read from the last on: whether one of them is `silent` or hands on flags at a spawn.
use Rattle.std.proofs.Common.{◌≡◌, ◌∙◌, Bool, true, false, ◌||◌, refl, ap}
use Rattle.def_spec.specs.Flags.{Flags, union, silent_flag, set_on_spawn, set_on_first_spawn}
use Rattle.def_explain.specs.NodeCommands.{flags_can_differ}

swap : (a b c d : Bool) → ((a || b) || (c || d)) ≡ ((a || c) || (b || d))
swap true b c d = refl
swap false true true d = refl
swap false true false d = refl
swap false false true d = refl
swap false false false d = refl

-- one of either set
pub one_of_both : (f g : Flags) → flags_can_differ (union f g) ≡ (flags_can_differ f || flags_can_differ g)
one_of_both f g =
    let x : Bool = f set_on_first_spawn || g set_on_first_spawn in
    ap (λ b. b || x) (swap (f silent_flag) (g silent_flag) (f set_on_spawn) (g set_on_spawn))
    ∙ swap _ _ (f set_on_first_spawn) (g set_on_first_spawn)

pub turned : (a b : Bool) → (a || b) ≡ (b || a)
turned true true = refl
turned true false = refl
turned false true = refl
turned false false = refl
