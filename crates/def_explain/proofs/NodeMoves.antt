-- What is computed is whether a node does a move otherwise.
use Rattle.std.proofs.Common.{◌≡◌, ◌≢◌, ◌⊎◌, inl, inr, Bool, true, false, ◌||◌, List, [], ◌∷◌, refl, ap, ◌∙◌}
use Rattle.std.specs.Prelude.{◌↔◌}
use Rattle.std.specs.List.{list_any}
use Rattle.def_script.specs.Exports.{Exports}
use Rattle.def_outlook.specs.Outlook.{Outlook}
use Rattle.def_run.specs.Run.{HistoryItem}
use Rattle.def_run.specs.History.{NamedSession, Moment}
use Rattle.def_explain.specs.Accounts.{differences_in_lines}
use Rattle.def_explain.specs.Differences.{Difference}
use Rattle.def_explain.specs.Lists.{One}
use Rattle.def_explain.specs.NodeMoves.{SessionDiffers, MomentDiffers, is_some_difference, session_differs, moment_differs}
use Rattle.def_explain.specs.Runs.{session_lines}
use Rattle.def_explain.specs.RunLaws.{MoveDifferenceIsComputed}

-- one of several is such where it is for each that it is tested for
one-is : {X : Type 0} (p : X → Bool) (P : X → Type 0) → ((x : X) → (p x ≡ true) ↔ P x) → (xs : List X) → (list_any p xs ≡ true) ↔ One P xs
one-is p P each [] = (λ h. cc h, λ h. absurd h)
one-is p P each (x ∷ xs) = (here (p x) refl (one-is p P each xs), there (one-is p P each xs))
  where
    here : (b : Bool) → p x ≡ b → (list_any p xs ≡ true) ↔ One P xs → (b || list_any p xs) ≡ true → P x ⊎ One P xs
    here true e rest h = inl ((each x).0 e)
    here false e rest h = inr (rest.0 h)

    or-true : (b : Bool) → (b || true) ≡ true
    or-true true = refl
    or-true false = refl

    there : (list_any p xs ≡ true) ↔ One P xs → P x ⊎ One P xs → (p x || list_any p xs) ≡ true
    there rest (inl h) = ap (λ b. b || list_any p xs) ((each x).1 h)
    there rest (inr h) = ap (λ b. p x || b) (rest.1 h) ∙ or-true (p x)

session-is : (o : Exports) (l : Outlook) (x : HistoryItem) (s : NamedSession) → (session_differs o l x s ≡ true) ↔ SessionDiffers o l x s
session-is o l x s = go (differences_in_lines (session_lines o l s x))
  where
    go : (ds : List Difference) → (is_some_difference ds ≡ true) ↔ (ds ≢ [])
    go [] = (λ h. cc h, λ h. absurd (h refl))
    go (d ∷ ds) = (λ h e. cc e, λ h. refl)

moment-is : (o : Exports) (l : Outlook) (m : Moment) → (moment_differs o l m ≡ true) ↔ MomentDiffers o l m
moment-is o l m = one-is (session_differs o l m.item) (SessionDiffers o l m.item) (session-is o l m.item) m.before

pub move_difference_is_computed : MoveDifferenceIsComputed
move_difference_is_computed o h = one-is (moment_differs o h.outlook) (MomentDiffers o h.outlook) (moment-is o h.outlook) h.moments
