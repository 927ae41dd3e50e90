-- What an end holds, and what is in a queue that has none.
use Rattle.std.proofs.Common.{◌≡◌, ◌∙◌, ℕ, Bool, true, List, [], ◌∷◌, ◌++◌, All, Option, Some, None, IfSome, IfNone, Result, Ok, Err, IfOk, OnOk, IfErr, vec_len, sym, ap, ap₂, arith}
use Rattle.std.specs.declared.vec.Vec.{Vec}
use Rattle.def_turns.specs.Moments.{TakesTurn, FindsNoTurn, GivesTurn, KeepsTurn}
use Rattle.def_turns.specs.Turns.{times, list_without}
use Rattle.crossbeam_deque.specs.Injected.{injector_view}
use Rattle.tn_pool.specs.declared.rule.Hand.{Hand}
use Rattle.tn_pool.specs.declared.turns.RunQueue.{RunQueue}
use Rattle.tn_pool.specs.Queues.{HoldsAlone}
use Rattle.complete_runs.proofs.Both.{both_if_ok}
use Rattle.complete_workers.specs.Ends.{EndAlike, error_of}
use Rattle.complete_workers.specs.Turns.{hand_of}
use Rattle.complete_workers.proofs.SameBoards.{same_throughout}

-- as many ends that hold nothing are the same
pub same_ends : {A E : Type 0} (n : ℕ) (r q : Result (Vec (List ℕ) A) E) → IfOk r (λ v. vec_len v ≡ n) → IfOk r (λ v. All (λ view. view ≡ []) v.items)
    → IfOk q (λ v. vec_len v ≡ n) → IfOk q (λ v. All (λ view. view ≡ []) v.items) → IfOk r (λ v. IfOk q (λ w. v.items ≡ w.items))
same_ends n (Err e) q h i k l = tt
same_ends n (Ok v) (Err e) h i k l = tt
same_ends n (Ok v) (Ok w) h i k l = same_throughout [] v.items w.items i l (sym v.ok.0 ∙ h ∙ sym k ∙ w.ok.0)

-- ---- queues

abbrev hand : Bool → List ℕ → List ℕ → Hand
hand alone queue held = record { held = held; alone = alone; queue = queue }

hand_is : {A : Type 0} (q : RunQueue A) (slots : List ℕ) → HoldsAlone q slots → hand_of q ≡ hand true slots []
hand_is q slots h =
    let was = injector_view q.pass in
    ap (λ a. hand a was.queue was.held) h.alone ∙ ap (λ x. hand true x was.held) h.queue ∙ ap (hand true slots) h.none

pub same_hands : {A E : Type 0} (slots : List ℕ) (r q : Result (RunQueue A) E) → IfOk r (λ x. HoldsAlone x slots) → IfOk q (λ x. HoldsAlone x slots) → IfOk r (λ x. IfOk q (λ y. hand_of x ≡ hand_of y))
same_hands slots r q h i = both_if_ok (λ x. HoldsAlone x slots) (λ y. HoldsAlone y slots) (λ x y. hand_of x ≡ hand_of y) (λ x y k l. hand_is x slots k ∙ sym (hand_is y slots l)) r q h i

-- ---- ends

-- what the end holds after a token came, or none
abbrev held_after : List ℕ → Option ℕ → List ℕ
held_after old None = old
held_after old (Some x) = old ++ x ∷ []

held_is : (old new : List ℕ) (o : Option ℕ) → IfSome o (λ x. TakesTurn old x new) → IfNone o (FindsNoTurn old new) → new ≡ held_after old o
held_is old new None h i = i.stays
held_is old new (Some x) h i = h.step.gains

pub same_taken : (old other new new' : List ℕ) (o p : Option ℕ) → old ≡ other → IfSome o (λ x. TakesTurn old x new) → IfNone o (FindsNoTurn old new) → IfSome p (λ x. TakesTurn other x new') → IfNone p (FindsNoTurn other new')
    → o ≡ p → new ≡ new'
same_taken old other new new' o p e h i k l same = held_is old new o h i ∙ ap (held_after old) same ∙ ap (λ w. held_after w p) e ∙ sym (held_is other new' p k l)

-- what it holds after the token was given, or came back
abbrev held_by : List ℕ → ℕ → Option ℕ → List ℕ
held_by old x None = list_without x old
held_by old x (Some back) = old

given_is : (old new : List ℕ) (x : ℕ) (r : Result (Unit {0}) ℕ) → OnOk r (GivesTurn old x new) → IfErr r (λ back. KeepsTurn old x back new) → new ≡ held_by old x (error_of r)
given_is old new x (Ok done) h i = h.step.loses
given_is old new x (Err back) h i = i.stays

pub same_given : (old other new new' : List ℕ) (x y : ℕ) (r q : Result (Unit {0}) ℕ) → old ≡ other → x ≡ y → OnOk r (GivesTurn old x new) → IfErr r (λ back. KeepsTurn old x back new)
    → OnOk q (GivesTurn other y new') → IfErr q (λ back. KeepsTurn other y back new') → EndAlike r q → new ≡ new'
same_given old other new new' x y r q e f h i k l same =
    given_is old new x r h i ∙ ap (held_by old x) same ∙ ap₂ (λ w z. held_by w z (error_of q)) e f ∙ sym (given_is other new' y q k l)

pub same_back : (old other new new' : List ℕ) (x y : ℕ) (r q : Result (Unit {0}) ℕ) → x ≡ y → IfErr r (λ back. KeepsTurn old x back new) → IfErr q (λ back. KeepsTurn other y back new')
    → IfErr r (λ b. IfErr q (λ c. b ≡ c))
same_back old other new new' x y (Ok done) q e h i = tt
same_back old other new new' x y (Err b) (Ok done) e h i = tt
same_back old other new new' x y (Err b) (Err c) e h i = h.same ∙ e ∙ sym i.same

pub not_held : (old new : List ℕ) (x : ℕ) (r : Result (Unit {0}) ℕ) → times x old ≡ 0 → OnOk r (GivesTurn old x new) → IfErr r (λ back. KeepsTurn old x back new) → (r ≡ Err x) × (new ≡ old)
not_held old new x (Ok done) none h i = let held = h.step.held in absurd (omega (arith, held, none))
not_held old new x (Err back) none h i = (ap Err i.same, i.stays)
