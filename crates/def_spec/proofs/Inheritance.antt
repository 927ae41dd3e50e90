-- What is inherited, in the four cases.
use Rattle.std.proofs.Common.{◌≡◌, Bool, true, false, not, ◌&&◌, ◌||◌, refl, sym, ap, ◌∙◌, if◌then◌else◌}
use Rattle.def_spec.specs.Flags.{Flag, Flags, no_flags, only, union, without, given_and_kept, set_on_spawn, set_on_first_spawn, set_on_link, set_on_first_link}
use Rattle.def_spec.specs.Laws.{Inherits, SpawnInherits, LinkInherits}

-- the pair of what is given and kept, by the two flags' values
abbrev pair_at : Flag → Flag → Flags → Bool → Bool → Flags × Flags
pair_at always first f a b =
    let rest : Flags = without f (union (only always) (only first)) in
    if b then (rest, rest) else (if a then f else no_flags, f)

or_false : (a : Bool) → (a || false) ≡ a
or_false true = refl
or_false false = refl

-- what is lost is one alone where the other was not there
spawn_rest : (g : Flags) → g set_on_spawn ≡ false → (x : Flag) → without g (union (only set_on_spawn) (only set_on_first_spawn)) x ≡ (g x && not (only set_on_first_spawn x))
spawn_rest g h set_on_spawn = ap (λ b. b && false) h ∙ sym (ap (λ b. b && true) h)
spawn_rest g h _ = refl

link_rest : (g : Flags) → g set_on_link ≡ false → (x : Flag) → without g (union (only set_on_link) (only set_on_first_link)) x ≡ (g x && not (only set_on_first_link x))
link_rest g h set_on_link = ap (λ b. b && false) h ∙ sym (ap (λ b. b && true) h)
link_rest g h _ = refl

module _ (always first : Flag) (alone : (g : Flags) → g always ≡ false → (x : Flag) → without g (union (only always) (only first)) x ≡ (g x && not (only first x))) where
  abbrev after : Flags → Flags → Flags × Flags
  after giver taker = let pair : Flags × Flags = given_and_kept always first giver in (pair.1, union taker pair.0)

  abbrev kept : Flags → Flags → Flag → Bool
  kept giver taker x = (after giver taker).0 x

  at : (giver : Flags) (a b : Bool) → giver always ≡ a → giver first ≡ b → given_and_kept always first giver ≡ pair_at always first giver a b
  at giver a b h g = λ i. pair_at always first giver (h i) (g i)

  inherits : Inherits always first after
  inherits = record {
    neither = λ giver taker h g x.
        (ap (λ q. q.1 x) (at giver false false h g), ap (λ q. taker x || q.0 x) (at giver false false h g) ∙ or_false (taker x));
    always_alone = λ giver taker h g x.
        (ap (λ q. q.1 x) (at giver true false h g), ap (λ q. taker x || q.0 x) (at giver true false h g));
    first_alone = λ giver taker h g x.
        (ap (λ q. q.1 x) (at giver false true h g) ∙ alone giver h x, ap (λ q. taker x || q.0 x) (at giver false true h g) ∙ ap (λ b. taker x || b) (alone giver h x));
    both = λ giver taker h g x.
        (ap (λ q. q.1 x) (at giver true true h g), ap (λ q. taker x || q.0 x) (at giver true true h g));
  }

pub spawn_inherits : SpawnInherits
spawn_inherits = inherits set_on_spawn set_on_first_spawn spawn_rest

pub link_inherits : LinkInherits
link_inherits = inherits set_on_link set_on_first_link link_rest
