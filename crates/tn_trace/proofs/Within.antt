-- Runs through more picks, whose observer may have so much.
use Rattle.std.proofs.Common.{◌≡◌, ◌∙◌, ℕ, ◌+◌, ◌-◌, ◌<◌, ◌≤◌, List, [], ◌∷◌, ◌++◌, length, take, drop, get_or, Result, Ok, Err, IfOk, OnOk, refl, sym, ap, subst, append-nil, append_assoc, arith}
use Rattle.std.proofs.lemmas.List.{take-append-drop}
use Rattle.std.specs.declared.alloc.AllocError.{AllocError}
use Rattle.def_script.specs.Program.{Program}
use Rattle.def_run.specs.Run.{moves}
use Rattle.def_run.specs.Laws.{repeat_picks}
use Rattle.tn_trace.specs.Runs.{IsRun, Steps}
use Rattle.tn_trace.specs.Follows.{Follows, AddsFrom}
use Rattle.tn_trace.specs.Within.{AreTaken, EndsWithin}
use Rattle.tn_trace.specs.declared.run.Extent.{Extent}
use Rattle.tn_trace.specs.declared.run.Extent.TheVariants.{All, TooMuch}
use Rattle.tn_trace.specs.declared.run.PickOutcome.{PickOutcome}
use Rattle.tn_trace.specs.declared.run.PickOutcome.TheVariants.{Moved, Idle, Full}
use Rattle.tn_trace.specs.declared.run.Run.{Run}
use Rattle.tn_trace.proofs.Passes.{stepped, adds_none, adds_then, taken_more, passes_more, turns_in_all, ended}

-- the first of more picks are so of all
taken_on : (extent : Extent) (first second front : List ℕ) → AreTaken extent second front → AreTaken extent (first ++ second) (first ++ front)
taken_on All first second front h = ap (λ xs. first ++ xs) h
taken_on TooMuch first second front h = (h.0, ap (λ xs. first ++ xs) h.1 ∙ sym (append_assoc first front h.0))

module _ {A O G : Type 0} (Seen : O → Program → List ℕ → Type 0) (Adds : Program → List ℕ → ℕ → O → O → G → G → Type 0) (Exceeds : O → Type 0) (p : Program) (limit : ℕ) where
  abbrev pub Ends : (before more : List ℕ) (old new : Run A O) (out out' : G) → Extent → Type 0
  Ends before more old new out out' extent = EndsWithin Seen Adds Exceeds p limit before more old new out out' extent

  -- no pick
  pub ends_none : (before : List ℕ) (r : Run A O) (out : G) → Follows Seen p limit before r → (Exceeds r.observer → ⊥) → Ends before [] r r out out All
  ends_none before r out run few = record {
    front = [];
    taken = refl;
    follows = subst (λ xs. Follows Seen p limit xs r) (sym (append-nil before)) run;
    added = subst (λ xs. AddsFrom Adds p (take limit (moves p before)) (take limit (moves p xs)) r.observer r.observer out out) (sym (append-nil before)) (adds_none Adds p (take limit (moves p before)) r.observer out);
    bounded = few;
  }

  -- all of some picks
  module _ (before more : List ℕ) (old new : Run A O) (out out' : G) (ends : Ends before more old new out out' All) where
    pub all_follow : Follows Seen p limit (before ++ more) new
    all_follow = subst (λ xs. Follows Seen p limit (before ++ xs) new) ends.taken ends.follows

    pub all_added : AddsFrom Adds p (take limit (moves p before)) (take limit (moves p (before ++ more))) old.observer new.observer out out'
    all_added = subst (λ xs. AddsFrom Adds p (take limit (moves p before)) (take limit (moves p (before ++ xs))) old.observer new.observer out out') ends.taken ends.added

  -- and others after them
  pub ends_then : (extent : Extent) (before first second : List ℕ) (old mid new : Run A O) (out between out' : G) → Ends before first old mid out between All → Ends (before ++ first) second mid new between out' extent
      → Ends before (first ++ second) old new out out' extent
  ends_then extent before first second old mid new out between out' a b = record {
    front = first ++ b.front;
    taken = taken_on extent first second b.front b.taken;
    follows = subst (λ xs. Follows Seen p limit xs new) (append_assoc before first b.front) b.follows;
    added = adds_then Adds p (take limit (moves p before)) (take limit (moves p (before ++ first))) (take limit (moves p (before ++ (first ++ b.front)))) old.observer mid.observer new.observer out between out'
        (all_added before first old mid out between a)
        (subst (λ xs. AddsFrom Adds p (take limit (moves p (before ++ first))) (take limit (moves p xs)) mid.observer new.observer between out') (append_assoc before first b.front) b.added);
    bounded = b.bounded;
  }

  -- the others aren't taken once the observer has too much
  pub ends_short : (before more rest : List ℕ) (old new : Run A O) (out out' : G) → Ends before more old new out out' TooMuch → Ends before (more ++ rest) old new out out' TooMuch
  ends_short before more rest old new out out' a = record {
    front = a.front;
    taken = (a.taken.0 ++ rest, ap (λ xs. xs ++ rest) a.taken.1 ∙ append_assoc a.front a.taken.0 rest);
    follows = a.follows;
    added = a.added;
    bounded = a.bounded;
  }

  pub ends_of : (extent : Extent) (before more same : List ℕ) (old new : Run A O) (out out' : G) → more ≡ same → Ends before more old new out out' extent → Ends before same old new out out' extent
  ends_of extent before more same old new out out' is ends = subst (λ xs. Ends before xs old new out out' extent) is ends

  -- ---- one pick

  few_still : (came : PickOutcome) (before : List ℕ) (x : ℕ) (old new : Run A O) (out out' : G) → (came ≡ Moved → Exceeds new.observer → ⊥) → (Exceeds old.observer → ⊥)
      → Steps Seen Adds p limit (take limit (moves p before)) x came old new out out' → Exceeds new.observer → ⊥
  few_still Moved before x old new out out' now few s = now refl
  few_still Idle before x old new out out' now few s = λ h. few (subst Exceeds s.3 h)
  few_still Full before x old new out out' now few s = λ h. few (subst Exceeds (ap (λ (r : Run A O). r.observer) s.1) h)

  module _ (before : List ℕ) (x : ℕ) (old new : Run A O) (out out' : G) (came : PickOutcome) (steps : (picks : List ℕ) → IsRun Seen p limit picks old → Steps Seen Adds p limit picks x came old new out out') (run : Follows Seen p limit before old) where
    pub one_within : (came ≡ Moved → Exceeds new.observer → ⊥) → (Exceeds old.observer → ⊥) → Ends before (x ∷ []) old new out out' All
    one_within now few =
        let one = stepped Seen Adds p limit before x old new out out' came steps run in
        record { front = x ∷ []; taken = refl; follows = one.0; added = one.1; bounded = few_still came before x old new out out' now few (steps (take limit (moves p before)) run) }

    pub one_too_much : Exceeds new.observer → Ends before (x ∷ []) old new out out' TooMuch
    one_too_much exceeds =
        let one = stepped Seen Adds p limit before x old new out out' came steps run in
        record { front = x ∷ []; taken = ([], refl); follows = one.0; added = one.1; bounded = exceeds }

  -- ---- one of a list

  pub picks_one_more : (extent : Extent) (before xs : List ℕ) (i d : ℕ) (old mid new : Run A O) (out between out' : G) → i < length xs → Ends before (take i xs) old mid out between All
      → Ends (before ++ take i xs) (get_or xs i d ∷ []) mid new between out' extent → Ends before (take (i + 1) xs) old new out out' extent
  picks_one_more extent before xs i d old mid new out between out' below a b =
      ends_of extent before (take i xs ++ get_or xs i d ∷ []) (take (i + 1) xs) old new out out' (taken_more [] xs i d below) (ends_then extent before (take i xs) (get_or xs i d ∷ []) old mid new out between out' a b)

  pub picks_stop : (before xs : List ℕ) (i d : ℕ) (old mid new : Run A O) (out between out' : G) → i < length xs → Ends before (take i xs) old mid out between All
      → Ends (before ++ take i xs) (get_or xs i d ∷ []) mid new between out' TooMuch → Ends before xs old new out out' TooMuch
  picks_stop before xs i d old mid new out between out' below a b =
      ends_of TooMuch before (take (i + 1) xs ++ drop (i + 1) xs) xs old new out out' (take-append-drop (i + 1) xs)
      (ends_short before (take (i + 1) xs) (drop (i + 1) xs) old new out out' (picks_one_more TooMuch before xs i d old mid new out between out' below a b))

  -- ---- one of some times

  pub times_one_more : (extent : Extent) (before once : List ℕ) (turn : ℕ) (old mid new : Run A O) (out between out' : G) → Ends before (repeat_picks once turn) old mid out between All
      → Ends (before ++ repeat_picks once turn) once mid new between out' extent → Ends before (repeat_picks once (turn + 1)) old new out out' extent
  times_one_more extent before once turn old mid new out between out' a b =
      ends_of extent before (repeat_picks once turn ++ once) (repeat_picks once (turn + 1)) old new out out' (passes_more [] once turn) (ends_then extent before (repeat_picks once turn) once old mid new out between out' a b)

  pub times_stop : (before once : List ℕ) (turn count : ℕ) (old mid new : Run A O) (out between out' : G) → turn < count → Ends before (repeat_picks once turn) old mid out between All
      → Ends (before ++ repeat_picks once turn) once mid new between out' TooMuch → Ends before (repeat_picks once count) old new out out' TooMuch
  times_stop before once turn count old mid new out between out' below a b =
      let rest : List ℕ = repeat_picks once (count - (turn + 1)) in
      ends_of TooMuch before (repeat_picks once (turn + 1) ++ rest) (repeat_picks once count) old new out out' (turns_in_all [] once (turn + 1) count (omega (arith, below)))
      (ends_short before (repeat_picks once (turn + 1)) rest old new out out' (times_one_more TooMuch before once turn old mid new out between out' a b))

  -- after a time that moved none the run is that of all times
  pub times_rest : (before once : List ℕ) (turn count : ℕ) (old mid new : Run A O) (out between out' : G) → turn ≤ count → length new.journal.items ≡ length mid.journal.items → Ends before (repeat_picks once turn) old mid out between All
      → Ends (before ++ repeat_picks once turn) once mid new between out' All → Ends before (repeat_picks once count) old new out out' All
  times_rest before once turn count old mid new out between out' below same a b =
      let reached : List ℕ = before ++ repeat_picks once turn in
      let was : Follows Seen p limit reached mid = all_follow before (repeat_picks once turn) old mid out between a in
      let is : Follows Seen p limit (reached ++ once) new = all_follow reached once mid new between out' b in
      let end : Follows Seen p limit (before ++ repeat_picks once count) new = ended Seen p limit turn count before once mid new below same was is in
      let journals : take limit (moves p (before ++ (repeat_picks once turn ++ once))) ≡ take limit (moves p (before ++ repeat_picks once count)) =
      sym (ap (λ xs. take limit (moves p xs)) (append_assoc before (repeat_picks once turn) once)) ∙ sym is.journaled ∙ end.journaled in
      let one = ends_then All before (repeat_picks once turn) once old mid new out between out' a b in
      record {
        front = repeat_picks once count;
        taken = refl;
        follows = end;
        added = subst (λ js. AddsFrom Adds p (take limit (moves p before)) js old.observer new.observer out out') journals (all_added before (repeat_picks once turn ++ once) old new out out' one);
        bounded = b.bounded;
      }

  -- ---- no bound

  pub unbounded_follow : (none : (o : O) → Exceeds o → ⊥) (before more : List ℕ) (old new : Run A O) (out out' : G) (r : Result Extent AllocError) → IfOk r (Ends before more old new out out') → OnOk r (Follows Seen p limit (before ++ more) new)
  unbounded_follow none before more old new out out' (Ok All) ends = all_follow before more old new out out' ends
  unbounded_follow none before more old new out out' (Ok TooMuch) ends = absurd (none new.observer ends.bounded)
  unbounded_follow none before more old new out out' (Err e) ends = tt

  pub unbounded_add : (none : (o : O) → Exceeds o → ⊥) (before more : List ℕ) (old new : Run A O) (out out' : G) (r : Result Extent AllocError) → IfOk r (Ends before more old new out out')
      → OnOk r (AddsFrom Adds p (take limit (moves p before)) (take limit (moves p (before ++ more))) old.observer new.observer out out')
  unbounded_add none before more old new out out' (Ok All) ends = all_added before more old new out out' ends
  unbounded_add none before more old new out out' (Ok TooMuch) ends = absurd (none new.observer ends.bounded)
  unbounded_add none before more old new out out' (Err e) ends = tt
