use Rattle.std.proofs.Common.{codes, refl}
use Rattle.tn_session.proofs.AtomTexts.{is_atom_text}
use Rattle.tn_session.proofs.elements.send_elements.Goals as goal

pub with_two-requires-else-alive : goal.with_two-requires-else-alive
with_two-requires-else-alive g c = is_atom_text (codes "send_to_non_existing_process") refl
