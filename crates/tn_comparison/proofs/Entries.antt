-- The entries that a search found, as the definitions have them.
use Rattle.std.proofs.Common.{◌≡◌, ℕ, zero, suc, List, [], ◌∷◌, sym, ◌∙◌, ap}
use Rattle.std.specs.Prelude.{Some, slice_get, unwrap_or}
use Rattle.std.specs.declared.vec.Vec.{Vec}
use Rattle.def_explore.specs.Answers.{RestEntry}
use Rattle.tn_explore.specs.Searches.{answer_entry, answer_entries}
use Rattle.tn_messages.specs.MessageViews.{kept_seen}
use Rattle.tn_messages.specs.declared.kept_listings.KeptListings.{KeptListings}

pub seen_at : {A : Type 0} (pairs : List (KeptListings A × Vec ℕ A)) (i : ℕ) (pair : KeptListings A × Vec ℕ A) → slice_get pairs i ≡ Some pair → slice_get (answer_entries kept_seen pairs) i ≡ Some (answer_entry kept_seen pair)
seen_at [] zero pair at = cc
seen_at [] (suc i) pair at = cc
seen_at (p ∷ pairs) zero pair at = ap (λ o. Some (answer_entry kept_seen (unwrap_or o p))) at
seen_at (p ∷ pairs) (suc i) pair at = seen_at pairs i pair at

pub entry_is : {A : Type 0} (pairs : List (KeptListings A × Vec ℕ A)) (i : ℕ) (pair : KeptListings A × Vec ℕ A) (e : RestEntry) → slice_get pairs i ≡ Some pair → slice_get (answer_entries kept_seen pairs) i ≡ Some e → answer_entry kept_seen pair ≡ e
entry_is pairs i pair e is at = ap (λ o. unwrap_or o (answer_entry kept_seen pair)) (sym (seen_at pairs i pair is) ∙ at)
