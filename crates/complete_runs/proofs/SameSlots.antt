-- Slots of one session answer the same.
use Rattle.std.proofs.Common.{◌≡◌, ◌∙◌, List, ◌++◌, Bool, true, false, Option, Some, None, Result, IfOk, OnOk, MatchOption, refl, sym, ap, subst}
use Rattle.std.specs.Option.{option_map}
use Rattle.std.specs.Str.{bytes_eq}
use Rattle.std.specs.declared.vec.Vec.{Vec}
use Rattle.def_term.specs.Alive.{Alive}
use Rattle.def_term.specs.Tree.{Tree}
use Rattle.def_script.specs.Exports.{Exports}
use Rattle.def_script.specs.Program.{Command, Program, session_of}
use Rattle.def_session.specs.Commands.{command_done}
use Rattle.tn_term.specs.Views.{tree_of}
use Rattle.tn_term.specs.declared.term.Term.{Term}
use Rattle.tn_trace.specs.Slots.{IsTracked, ObeysOwn}
use Rattle.tn_trace.specs.Starts.{AreAtStart}
use Rattle.tn_trace.specs.Tracks.{AreMore, Track, with_command}
use Rattle.tn_trace.specs.declared.slot.Slot.{Slot}
use Rattle.complete_runs.specs.Alike.{AreKept, AreTrackedAlike, StartAlike}
use Rattle.complete_runs.proofs.Both.{both_if_ok}

pub both_started : {A K E : Type 0} (Keeps : K → List Tree → Type 0) (p q : Program) → p ≡ q → (r s : Result (Vec (Slot A K) A) E)
    → IfOk r (λ v. AreAtStart Keeps p v.items) → IfOk s (λ v. AreAtStart Keeps q v.items) → IfOk r (λ v. IfOk s (λ w. StartAlike Keeps p v.items w.items))
both_started Keeps p q e r s h i =
    both_if_ok (λ v. AreAtStart Keeps p v.items) (λ v. AreAtStart Keeps q v.items) (λ v w. StartAlike Keeps p v.items w.items)
    (λ v w k l. record { first = k; second = subst (λ z. AreAtStart Keeps z w.items) (sym e) l }) r s h i

pub both_tracked : {A K E : Type 0} (Keeps : K → List Tree → Type 0) (o : Exports) (living : Alive) (t : Track) (one other : Slot A K) (r q : Result (Unit {0}) E)
    → OnOk r (IsTracked Keeps o living t one) → OnOk q (IsTracked Keeps o living t other) → OnOk r (OnOk q (AreTrackedAlike Keeps o one other))
both_tracked Keeps o living t one other r q h i =
    both_if_ok (λ _. IsTracked Keeps o living t one) (λ _. IsTracked Keeps o living t other) (λ _ _. AreTrackedAlike Keeps o one other)
    (λ _ _ k l. record { living = living; track = t; first = k; second = l }) r q h i

-- both have one more list of the same
pub both_more : {K X E : Type 0} (Keeps : K → List X → Type 0) (more xs : List X) (one one' other other' : K) (r q : Result (Unit {0}) E)
    → Keeps one xs → Keeps other xs → OnOk r (AreMore Keeps more one one') → OnOk q (AreMore Keeps more other other') → OnOk r (OnOk q (AreKept Keeps one' other'))
both_more Keeps more xs one one' other other' r q k l h i =
    both_if_ok (λ _. AreMore Keeps more one one') (λ _. AreMore Keeps more other other') (λ _ _. AreKept Keeps one' other')
    (λ _ _ m n. record { kept = xs ++ more; first = m xs k; second = n xs l }) r q h i

-- a reply to a command of this session; none to one of another
same_reply : (b : Bool) (x : Tree) (r q : Option Tree) → MatchOption r (b ≡ false) (λ t. (b ≡ true) × (t ≡ x)) → MatchOption q (b ≡ false) (λ t. (b ≡ true) × (t ≡ x)) → r ≡ q
same_reply b x None None h i = refl
same_reply b x None (Some t) h i = let e : true ≡ false = sym i.0 ∙ h in cc
same_reply b x (Some t) None h i = let e : true ≡ false = sym h.0 ∙ i in cc
same_reply b x (Some t) (Some u) h i = ap Some (h.1 ∙ sym i.1)

pub same_replies : {A K E : Type 0} (Keeps : K → List Tree → Type 0) (o : Exports) (living : Alive) (t : Track) (c : Command) (one other : Slot A K) (r q : Result (Option (Term A)) E)
    → IfOk r (λ x. ObeysOwn Keeps o living t c one (option_map tree_of x)) → IfOk q (λ x. ObeysOwn Keeps o living t c other (option_map tree_of x))
    → IfOk r (λ x. IfOk q (λ y. option_map tree_of x ≡ option_map tree_of y))
same_replies Keeps o living t c one other r q h i =
    both_if_ok (λ x. ObeysOwn Keeps o living t c one (option_map tree_of x)) (λ x. ObeysOwn Keeps o living t c other (option_map tree_of x)) (λ x y. option_map tree_of x ≡ option_map tree_of y)
    (λ x y k l. same_reply (bytes_eq t.name (session_of c)) (command_done o t.session c).1 _ _ k.1 l.1) r q h i

pub both_obeyed : {A K E : Type 0} (Keeps : K → List Tree → Type 0) (o : Exports) (living : Alive) (t : Track) (c : Command) (one other : Slot A K) (r q : Result (Option (Term A)) E)
    → IfOk r (λ x. ObeysOwn Keeps o living t c one (option_map tree_of x)) → IfOk q (λ x. ObeysOwn Keeps o living t c other (option_map tree_of x))
    → OnOk r (OnOk q (AreTrackedAlike Keeps o one other))
both_obeyed Keeps o living t c one other r q h i =
    both_if_ok (λ x. ObeysOwn Keeps o living t c one (option_map tree_of x)) (λ x. ObeysOwn Keeps o living t c other (option_map tree_of x)) (λ _ _. AreTrackedAlike Keeps o one other)
    (λ x y k l. record { living = living; track = with_command o c t; first = k.0; second = l.0 }) r q h i
