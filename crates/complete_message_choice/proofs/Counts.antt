-- A session sends one number of messages.
use Rattle.std.proofs.Common.{◌≡◌, ◌∙◌, ℕ, List, Option, Some, None, refl, sym, ap, arith}
use Rattle.def_term.specs.Names.{Name}
use Rattle.def_script.specs.Program.{Program}
use Rattle.tn_message_choice.specs.Counts.{IsMessageCount}

pub one_count : (s : Name) (p : Program) (picks : List ℕ) (m n : Option ℕ) → IsMessageCount s p picks m → IsMessageCount s p picks n → m ≡ n
one_count s p picks None None h i = refl
one_count s p picks None (Some b) h i = absurd (omega (arith, h, i.0, i.1))
one_count s p picks (Some a) None h i = absurd (omega (arith, i, h.0, h.1))
one_count s p picks (Some a) (Some b) h i = ap Some (h.1 ∙ sym i.1)
