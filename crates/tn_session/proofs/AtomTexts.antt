-- A text is an atom's where a test of it, which computes, says so.
use Rattle.std.proofs.Common.{◌≡◌, ℕ, List, Bool, true, ◌&&◌, length}
use Rattle.std.specs.List.{list_all}
use Rattle.std.specs.Prelude.{nat_le}
use Rattle.std.proofs.lemmas.Bool.{leb-true, and_parts}
use Rattle.std.proofs.lemmas.List.Sums.{AllPass-from_list_all}
use Rattle.def_term.specs.Atoms.{IsAtomText}

abbrev is_printable : ℕ → Bool
is_printable b = nat_le 32 b && nat_le b 126

pub is_atom_text : (s : List ℕ) → (list_all is_printable s && nat_le (length s) 255) ≡ true → IsAtomText s
is_atom_text s h =
    let parts = and_parts (list_all is_printable s) (nat_le (length s) 255) h in
    let each = AllPass-from_list_all is_printable s parts.0 in
    (λ k d below. let ends = and_parts _ _ (each k d below) in (leb-true 32 _ ends.0, leb-true _ 126 ends.1), leb-true (length s) 255 parts.1)
