-- What a name calls, by the table's row without its name.
use Rattle.std.proofs.Common.{◌≡◌, ◌∙◌, ℕ, nat_le, Bool, true, false, ◌&&◌, if◌then◌else◌, Option, Some, None, refl, sym, ap}
use Rattle.std.specs.Prelude.{Ok, Err}
use Rattle.std.specs.Option.{option_map}
use Rattle.def_term.specs.Names.{Name}
use Rattle.def_term.specs.Text.{is_among}
use Rattle.def_spec.specs.Expressions.{Dialect, Position}
use Rattle.def_spec.specs.Reading.{Reads, badarg, unsupported, Callee, Row, table, unsupported_names, found_in, is_allowed, is_at_most, called_of, named_call}
use Rattle.tn_spec.specs.Names.{row_of}

module _ (d : Dialect) (part : Position) (n : ℕ) where
  abbrev pub by_row : Option (Callee × ℕ × Option ℕ) → Reads Callee
  by_row None = Err badarg
  by_row (Some r) = if (nat_le r.1 n && is_at_most r.2 n) && is_allowed d part r.0 then Ok r.0 else Err badarg

  by_row_of : (o : Option Row) → called_of d part n o ≡ by_row (option_map row_of o)
  by_row_of None = refl
  by_row_of (Some r) = refl

  pub named_by_row : (s : Name) (u : Bool) (o : Option (Callee × ℕ × Option ℕ)) → u ≡ is_among unsupported_names s → u ≡ false → o ≡ option_map row_of (found_in table s) → named_call d part s n ≡ by_row o
  named_by_row s u o e not_so is =
      ap (λ b. if b then Err (unsupported s) else called_of d part n (found_in table s)) (sym e ∙ not_so)
      ∙ by_row_of (found_in table s) ∙ ap by_row (sym is)

  pub row_fits : (r : Callee × ℕ × Option ℕ) (b : Bool) → b ≡ ((nat_le r.1 n && is_at_most r.2 n) && is_allowed d part r.0) → b ≡ true → by_row (Some r) ≡ Ok r.0
  row_fits r b e so = ap (λ x. if x then Ok r.0 else Err badarg) (sym e ∙ so)

  pub row_fits_not : (r : Callee × ℕ × Option ℕ) (b : Bool) → b ≡ ((nat_le r.1 n && is_at_most r.2 n) && is_allowed d part r.0) → b ≡ false → by_row (Some r) ≡ Err badarg
  row_fits_not r b e so = ap (λ x. if x then Ok r.0 else Err badarg) (sym e ∙ so)
