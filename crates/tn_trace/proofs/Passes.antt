-- The run of the first picks that moved, through more picks.
use Rattle.std.proofs.Common.{◌≡◌, ◌∙◌, ℕ, zero, suc, ◌+◌, ◌-◌, min, ◌<◌, ◌≤◌, false, if◌then◌else◌, List, [], ◌∷◌, ◌++◌, length, take, refl, sym, ap, subst, append-nil, append_assoc, length-append, get_or, add-one, arith}
use Rattle.std.proofs.lemmas.List.{take_all, take_more}
use Rattle.def_script.specs.Program.{Function, Program}
use Rattle.def_run.specs.Run.{RunState, moves, moves_from, run_state_after, start, run_state_of, pick_step_after}
use Rattle.def_run.specs.Round.{pass, pass_from, round}
use Rattle.def_run.specs.Laws.{repeat_picks}
use Rattle.def_run.proofs.Appends.{moves-append}
use Rattle.def_run.proofs.Replay.{moves_again, place_again, moves_bounded}
use Rattle.def_run.proofs.Rounds.{round_is_in_order}
use Rattle.tn_trace.specs.Runs.{IsRun, Steps}
use Rattle.tn_trace.specs.Follows.{Follows, AddsEach, AddsFrom}
use Rattle.tn_trace.specs.declared.run.PickOutcome.{PickOutcome}
use Rattle.tn_trace.specs.declared.run.PickOutcome.TheVariants.{Moved, Idle, Full}
use Rattle.tn_trace.specs.declared.run.Run.{Run}
use Rattle.tn_trace.proofs.Moves.{moves_more}

-- ---- the first of a list

first_whole : (n : ℕ) (xs : List ℕ) → length (take n xs) < n → take n xs ≡ xs
first_whole zero xs h = absurd (omega arith)
first_whole (suc n) [] h = refl
first_whole (suc n) (x ∷ xs) h = ap (λ ys. x ∷ ys) (first_whole n xs (omega arith))

first_full : (n : ℕ) (xs ys : List ℕ) → n ≤ length (take n xs) → take n (xs ++ ys) ≡ take n xs
first_full zero xs ys h = refl
first_full (suc n) [] ys h = absurd (omega arith)
first_full (suc n) (x ∷ xs) ys h = ap (λ zs. x ∷ zs) (first_full n xs ys (omega arith))

-- ---- moves

-- the picks that did not move can be left out
moves_after : (p : Program) (before more : List ℕ) → moves p (before ++ more) ≡ moves p (moves p before ++ more)
moves_after p before more =
    let rest : RunState → List ℕ = λ q. moves_from p.functions q more in
    moves-append p.functions (start p) before more
    ∙ ap (λ xs. xs ++ rest (run_state_of p before)) (sym (moves_again p.functions (start p) before))
    ∙ ap (λ q. moves p (moves p before) ++ rest q) (sym (place_again p.functions (start p) before))
    ∙ sym (moves-append p.functions (start p) (moves p before) more)

-- once there are so many, more picks change nothing
pub full_stays : (p : Program) (limit : ℕ) (before more : List ℕ) → limit ≤ length (take limit (moves p before)) → take limit (moves p (before ++ more)) ≡ take limit (moves p before)
full_stays p limit before more full = ap (take limit) (moves-append p.functions (start p) before more) ∙ first_full limit (moves p before) (moves_from p.functions (run_state_of p before) more) full

-- ---- what is added

-- some picks, and the others
adds_on : {O G : Type 0} (Adds : Program → List ℕ → ℕ → O → O → G → G → Type 0) (p : Program) (picks more rest : List ℕ) (old mid new : O) (out between out' : G)
    → AddsEach Adds p picks more old mid out between → AddsEach Adds p (picks ++ more) rest mid new between out' → AddsEach Adds p picks (more ++ rest) old new out out'
adds_on Adds p picks [] rest old mid new out between out' a b =
    subst (λ q. AddsEach Adds p picks rest q new out out') a.0 (subst (λ g. AddsEach Adds p picks rest mid new g out') a.1 (subst (λ js. AddsEach Adds p js rest mid new between out') (append-nil picks) b))
adds_on Adds p picks (x ∷ more) rest old mid new out between out' a b =
    (a.0, a.1, a.2, adds_on Adds p (picks ++ x ∷ []) more rest a.0 mid new a.1 between out' a.3 (subst (λ js. AddsEach Adds p js rest mid new between out') (sym (append_assoc picks (x ∷ []) more)) b))

module _ {O G : Type 0} (Adds : Program → List ℕ → ℕ → O → O → G → G → Type 0) (p : Program) where
  pub adds_none : (picks : List ℕ) (o : O) (out : G) → AddsFrom Adds p picks picks o o out out
  adds_none picks o out = record { more = []; longer = sym (append-nil picks); added = (refl, refl) }

  pub adds_then : (first second third : List ℕ) (old mid new : O) (out between out' : G) → AddsFrom Adds p first second old mid out between → AddsFrom Adds p second third mid new between out' → AddsFrom Adds p first third old new out out'
  adds_then first second third old mid new out between out' a b = record {
    more = a.more ++ b.more;
    longer = b.longer ∙ ap (λ xs. xs ++ b.more) a.longer ∙ append_assoc first a.more b.more;
    added = adds_on Adds p first a.more b.more old mid new out between out' a.added (subst (λ xs. AddsEach Adds p xs b.more mid new between out') a.longer b.added);
  }

-- ---- one pick

module _ {A O G : Type 0} (Seen : O → Program → List ℕ → Type 0) (Adds : Program → List ℕ → ℕ → O → O → G → G → Type 0) (p : Program) (limit : ℕ) (before : List ℕ) (x : ℕ) (old new : Run A O) (out out' : G) where
  -- after one more pick the run is that of all of them, and the observer added what it adds of it where it moved
  abbrev FollowsOne : Type 0
  FollowsOne = Follows Seen p limit (before ++ x ∷ []) new × AddsFrom Adds p (take limit (moves p before)) (take limit (moves p (before ++ x ∷ []))) old.observer new.observer out out'

  -- the journal is the same
  stays_so : take limit (moves p (before ++ x ∷ [])) ≡ take limit (moves p before) → Follows Seen p limit before new → new.observer ≡ old.observer → out' ≡ out → FollowsOne
  stays_so same run watched given = (
    subst (λ xs. IsRun Seen p limit xs new) (sym same) run,
    record { more = []; longer = same ∙ sym (append-nil (take limit (moves p before))); added = (watched, given) },
  )

  moved_or_not : (came : PickOutcome) → Follows Seen p limit before old → Steps Seen Adds p limit (take limit (moves p before)) x came old new out out' → FollowsOne
  moved_or_not Moved run s =
      let whole : take limit (moves p before) ≡ moves p before = first_whole limit (moves p before) s.0 in
      let few : length (moves p before) < limit = subst (λ js. length js < limit) whole s.0 in
      let counted : length (moves p before ++ x ∷ []) ≡ length (moves p before) + 1 = length-append (moves p before) (x ∷ []) in
      let made : moves p (before ++ x ∷ []) ≡ moves p before ++ x ∷ [] = moves_after p before (x ∷ []) ∙ subst (λ js. moves p (js ++ x ∷ []) ≡ js ++ x ∷ []) whole s.1.moved in
      let longer : take limit (moves p (before ++ x ∷ [])) ≡ take limit (moves p before) ++ x ∷ [] = ap (take limit) made ∙ take_all limit (moves p before ++ x ∷ []) (omega arith) ∙ ap (λ js. js ++ x ∷ []) (sym whole) in (
        subst (λ xs. IsRun Seen p limit xs new) (sym longer) s.1,
        record { more = x ∷ []; longer = longer; added = (new.observer, out', s.2, (refl, refl)) },
      )
  moved_or_not Idle run s =
      let whole : take limit (moves p before) ≡ moves p before = first_whole limit (moves p before) s.0 in
      let idle : (pick_step_after p (moves p before) x).moved ≡ false = subst (λ js. (pick_step_after p js x).moved ≡ false) whole s.2 in
      let made : moves p (before ++ x ∷ []) ≡ moves p before =
      moves_after p before (x ∷ []) ∙ moves_more p (moves p before) x ∙ ap (λ b. moves p (moves p before) ++ (if b then x ∷ [] else [])) idle
      ∙ append-nil (moves p (moves p before)) ∙ moves_again p.functions (start p) before in
      stays_so (ap (take limit) made) s.1 s.3 s.4
  moved_or_not Full run s = stays_so (full_stays p limit before (x ∷ []) s.0) (subst (Follows Seen p limit before) (sym s.1) run) (ap (λ (r : Run A O). r.observer) s.1) s.2

  pub stepped : (came : PickOutcome) → ((picks : List ℕ) → IsRun Seen p limit picks old → Steps Seen Adds p limit picks x came old new out out') → Follows Seen p limit before old → FollowsOne
  stepped came steps run = moved_or_not came run (steps (take limit (moves p before)) run)

-- ---- all picks

none_below : (n : ℕ) → 0 ≤ n
none_below n = omega arith

-- before any pick
pub first_followed : {A O : Type 0} (Seen : O → Program → List ℕ → Type 0) (p : Program) (limit : ℕ) (r : Run A O) → IsRun Seen p limit [] r → Follows Seen p limit [] r
first_followed Seen p limit r run = subst (λ xs. IsRun Seen p limit xs r) (sym (take_all limit [] (none_below limit))) run

-- no limit below the most picks that move
pub all_followed : {A O : Type 0} (Seen : O → Program → List ℕ → Type 0) (p : Program) (picks : List ℕ) (e : Run A O) → Follows Seen p 65536 picks e → IsRun Seen p 65536 (moves p picks) e
all_followed Seen p picks e run = subst (λ xs. IsRun Seen p 65536 xs e) (take_all 65536 (moves p picks) (moves_bounded p picks)) run

-- ---- lists of picks

-- one more of a slice
pub taken_more : (before xs : List ℕ) (i d : ℕ) → i < length xs → (before ++ take i xs) ++ get_or xs i d ∷ [] ≡ before ++ take (i + 1) xs
taken_more before xs i d below = append_assoc before (take i xs) (get_or xs i d ∷ []) ∙ ap (λ ys. before ++ ys) (sym (take_more xs i d below))

pass_more : (k n : ℕ) → pass_from (suc k) n ≡ pass_from k n ++ (n + k) ∷ []
pass_more zero n = ap (λ x. x ∷ []) (omega arith)
pass_more (suc k) n = ap (λ xs. n ∷ xs) (pass_more k (n + 1) ∙ ap (λ x. pass_from k (n + 1) ++ x ∷ []) (omega arith))

pid_so : (pid : ℕ) → 100 ≤ pid → (suc (pid - 100) ≡ pid + 1 - 100) × (100 + (pid - 100) ≡ pid)
pid_so pid h = (omega arith, omega arith)

-- one more process of a pass
pub pid_more : (before : List ℕ) (pid : ℕ) → 100 ≤ pid → (before ++ pass_from (pid - 100) 100) ++ pid ∷ [] ≡ before ++ pass_from (pid + 1 - 100) 100
pid_more before pid h =
    append_assoc before (pass_from (pid - 100) 100) (pid ∷ [])
    ∙ ap (λ ys. before ++ ys) (sym (ap (λ k. pass_from k 100) (sym (pid_so pid h).0) ∙ pass_more (pid - 100) 100 ∙ ap (λ x. pass_from (pid - 100) 100 ++ x ∷ []) (pid_so pid h).1))

repeated_suc : (once : List ℕ) (n : ℕ) → repeat_picks once n ++ once ≡ repeat_picks once (suc n)
repeated_suc once zero = sym (append-nil once)
repeated_suc once (suc n) = append_assoc once (repeat_picks once n) once ∙ ap (λ ys. once ++ ys) (repeated_suc once n)

-- one more pass
pub passes_more : (before once : List ℕ) (n : ℕ) → (before ++ repeat_picks once n) ++ once ≡ before ++ repeat_picks once (n + 1)
passes_more before once n = append_assoc before (repeat_picks once n) once ∙ ap (λ ys. before ++ ys) (repeated_suc once n ∙ ap (repeat_picks once) (sym (add-one n)))

-- so many passes are a round
pub round_followed : {A O : Type 0} (Seen : O → Program → List ℕ → Type 0) (p : Program) (limit room : ℕ) (e : Run A O) → room ≡ min limit 65536 → Follows Seen p (min limit 65536) (repeat_picks pass (room + 1)) e → IsRun Seen p (min limit 65536) (round p limit) e
round_followed Seen p limit room e is run = subst (λ xs. IsRun Seen p (min limit 65536) xs e) (ap (λ r. take (min limit 65536) (moves p (repeat_picks pass (r + 1)))) is ∙ sym (round_is_in_order p limit)) run

-- ---- a list of picks of which none moves

repeated_sum : (once : List ℕ) (a b : ℕ) → repeat_picks once a ++ repeat_picks once b ≡ repeat_picks once (a + b)
repeated_sum once zero b =
    let sum : b ≡ 0 + b = omega arith in
    ap (repeat_picks once) sum
repeated_sum once (suc a) b =
    let sum : suc (a + b) ≡ suc a + b = omega arith in
    append_assoc once (repeat_picks once a) (repeat_picks once b) ∙ ap (λ ys. once ++ ys) (repeated_sum once a b) ∙ ap (repeat_picks once) sum

-- so many lists, and then the others
pub turns_in_all : (before once : List ℕ) (turn count : ℕ) → turn ≤ count → (before ++ repeat_picks once turn) ++ repeat_picks once (count - turn) ≡ before ++ repeat_picks once count
turns_in_all before once turn count below =
    let sum : turn + (count - turn) ≡ count = omega (arith, below) in
    append_assoc before (repeat_picks once turn) (repeat_picks once (count - turn)) ∙ ap (λ ys. before ++ ys) (repeated_sum once turn (count - turn) ∙ ap (repeat_picks once) sum)

-- where none of them moves, none moves later
still : (ks : List Function) (q : RunState) (once : List ℕ) (n : ℕ) → moves_from ks q once ≡ [] → moves_from ks q (repeat_picks once n) ≡ []
still ks q once zero h = refl
still ks q once (suc n) h =
    let rest : RunState → List ℕ = λ r. moves_from ks r (repeat_picks once n) in
    let back : run_state_after ks q once ≡ q = sym (place_again ks q once) ∙ ap (run_state_after ks q) h in
    moves-append ks q once (repeat_picks once n) ∙ ap (λ xs. xs ++ rest (run_state_after ks q once)) h ∙ ap rest back ∙ still ks q once n h

-- the first of a list are the same with others after it, where they are as many
stays_short : (n : ℕ) (xs ys zs : List ℕ) → length (take n (xs ++ ys)) ≡ length (take n xs) → (ys ≡ [] → zs ≡ []) → take n (xs ++ zs) ≡ take n xs
stays_short zero xs ys zs h none = refl
stays_short (suc n) [] [] zs h none = ap (take (suc n)) (none refl)
stays_short (suc n) [] (y ∷ ys) zs h none = absurd (omega (arith, h))
stays_short (suc n) (x ∷ xs) ys zs h none = ap (λ l. x ∷ l) (stays_short n xs ys zs (omega (arith, h)) none)

-- after a pass that moved nothing the run is that of all passes
pub ended : {A O : Type 0} (Seen : O → Program → List ℕ → Type 0) (p : Program) (limit turn count : ℕ) (before once : List ℕ) (old new : Run A O) → turn ≤ count → length new.journal.items ≡ length old.journal.items
    → Follows Seen p limit (before ++ repeat_picks once turn) old → Follows Seen p limit ((before ++ repeat_picks once turn) ++ once) new
    → Follows Seen p limit (before ++ repeat_picks once count) new
ended Seen p limit turn count before once old new below same was is =
    let ks : List Function = p.functions in
    let reached : List ℕ = before ++ repeat_picks once turn in
    let place : RunState = run_state_after ks (start p) reached in
    let made : List ℕ = moves_from ks place once in
    let later : List ℕ = repeat_picks once (count - turn) in
    let counted : length (take limit (moves p (reached ++ once))) ≡ length (take limit (moves p reached)) = sym (ap length is.journaled) ∙ same ∙ ap length was.journaled in
    let short : length (take limit (moves p reached ++ made)) ≡ length (take limit (moves p reached)) = sym (ap (λ xs. length (take limit xs)) (moves-append ks (start p) reached once)) ∙ counted in
    let here : take limit (moves p (reached ++ once)) ≡ take limit (moves p reached) = ap (take limit) (moves-append ks (start p) reached once) ∙ stays_short limit (moves p reached) made made short (λ e. e) in
    let there : take limit (moves p (reached ++ later)) ≡ take limit (moves p reached) =
    ap (take limit) (moves-append ks (start p) reached later) ∙ stays_short limit (moves p reached) made (moves_from ks place later) short (still ks place once (count - turn)) in
    subst (λ xs. IsRun Seen p limit xs new) (here ∙ sym there ∙ ap (λ xs. take limit (moves p xs)) (turns_in_all before once turn count below)) is
