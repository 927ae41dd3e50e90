-- A map with one entry.
use Rattle.std.proofs.Common.{◌≡◌, ◌∙◌, Bool, List, [], ◌∷◌, ap}
use Rattle.indexmap.specs.IndexMap.{insert_entry}

-- what is put into a map with no entry is the only one
pub only_inserted : {K V : Type 0} (eq : K → K → Bool) (old new : List (K × V)) (k : K) (v : V) → old ≡ [] → new ≡ insert_entry eq old k v → new ≡ (k, v) ∷ []
only_inserted eq old new k v none more = more ∙ ap (λ es. insert_entry eq es k v) none
