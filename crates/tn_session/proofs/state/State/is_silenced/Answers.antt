use Rattle.std.proofs.Common.{inl, inr, ap}
use Rattle.def_spec.specs.Flags.{silent_flag}
use Rattle.tn_session.proofs.state.State.is_silenced.Goals as goal

pub returns-in-Called : goal.returns-in-Called
returns-in-Called g c = elim (c.in-Called.is) [
  | inl x ↦ rw x.1 (ap (λ f. f silent_flag) c.flags_at.ensures)
  | inr (inl x) ↦ rw x.3 (ap (λ f. f silent_flag) c.flags_at.ensures)
  | inr (inr x) ↦ rw x.4 (ap (λ f. f silent_flag) c.flags_at.ensures)
]
