-- The functions in which initial processes start, as the code and the definitions have them.
use Rattle.std.proofs.Common.{◌≡◌, List, [], ◌∷◌, map, refl, ap}
use Rattle.tn_script.specs.Views.{entry_of}
use Rattle.tn_script.specs.declared.form.Entry.{Entry}
use Rattle.tn_notice.specs.MovesViews.{entry_name}

pub names_of_entries : {A : Type 0} (es : List (Entry A)) → map entry_name es ≡ map (λ e. e.function_name) (map entry_of es)
names_of_entries [] = refl
names_of_entries (e ∷ es) = ap (λ ns. entry_name e ∷ ns) (names_of_entries es)
