-- Where directives stop.
use Rattle.std.proofs.Common.{◌≡◌, ◌+◌, ◌<◌, ◌≤◌, min, ℕ, zero, suc, List, [], ◌∷◌, ◌++◌, length, take, Bool, true, false, if◌then◌else◌, refl, sym, ap, ◌∙◌, arith, append-nil, append_assoc, length-append, subst}
use Rattle.def_script.specs.Program.{Function, Program, Command}
use Rattle.def_node.specs.Node.{World, opening_world}
use Rattle.def_run.specs.Run.{RunState, pick_step, pick_step_after, moves_from, run_state_after, start, moves}
use Rattle.def_run.specs.Round.{pass, round}
use Rattle.def_run.specs.Laws.{IsIdleAfter, repeat_picks}
use Rattle.def_run.proofs.Appends.{moves-append, place-append}
use Rattle.def_run.proofs.Replay.{moves_again, place_again}
use Rattle.def_run.proofs.Rounds.{ends_at_rest}
use Rattle.def_moves.specs.Directives.{Directive, times, until_idle, everybody, picks_until_idle, picks_of_directive, picks_from, picks_of_directives}
use Rattle.def_moves.specs.Laws.{TimesTakesSoMany, UntilIdleTakesOne, UntilIdleStopsThere, EverybodyRests, EverybodyIsARound, ControlTakesEachCommand, DirectivesGrow}
use Rattle.def_moves.proofs.Picks.{tries, tries_of_directive, tries-append, moves_after, room, opening, by_tries, first_moves, few_move, directives_move}

-- ---- one directive more

taken_whole : (k : ℕ) (xs : List ℕ) → length (take k xs) < k → take k xs ≡ xs
taken_whole zero xs h = absurd (omega arith)
taken_whole (suc k) [] h = refl
taken_whole (suc k) (x ∷ xs) h = ap (λ ys. x ∷ ys) (taken_whole k xs (omega arith))

last_tries : (most : ℕ) (ds : List Directive) (d : Directive) → tries most (ds ++ d ∷ []) ≡ tries most ds ++ tries_of_directive most d
last_tries most ds d = tries-append most ds (d ∷ []) ∙ ap (λ xs. tries most ds ++ xs) (append-nil (tries_of_directive most d))

module _ (p : Program) (limit : ℕ) (ds : List Directive) where
  abbrev before : List ℕ
  before = picks_of_directives p limit ds

  -- where they lead
  abbrev reached : RunState
  reached = run_state_after p.functions (opening p limit) (tries (room p limit) ds)

  -- what a directive more adds
  more_by : (d : Directive) → picks_of_directives p limit (ds ++ d ∷ []) ≡ before ++ moves_from p.functions reached (tries_of_directive (room p limit) d)
  more_by d =
      by_tries p limit (ds ++ d ∷ [])
      ∙ ap (moves_from p.functions (opening p limit)) (last_tries (room p limit) ds d)
      ∙ moves-append p.functions (opening p limit) (tries (room p limit) ds) (tries_of_directive (room p limit) d)
      ∙ ap (λ xs. xs ++ moves_from p.functions reached (tries_of_directive (room p limit) d)) (sym (by_tries p limit ds))

-- ---- where nothing moves

-- nothing moves with this limit, which is not reached: so nothing moves at all
still_at_all : (p : Program) (limit : ℕ) (xs more : List ℕ) → length (moves_from p.functions (opening p limit) xs) < room p limit
    → moves_from p.functions (run_state_after p.functions (opening p limit) xs) more ≡ []
    → moves p (moves_from p.functions (opening p limit) xs ++ more) ≡ moves_from p.functions (opening p limit) xs
still_at_all p limit xs more few none =
    let ks : List Function = p.functions in
    let r : List ℕ = moves_from ks (opening p limit) xs in
    let k : ℕ = room p limit in
    let first : take k (moves p xs) ≡ r = sym (first_moves p limit xs) in
    let whole : moves p xs ≡ r = sym (taken_whole k (moves p xs) (subst (λ l. length l < k) (sym first) few)) ∙ first in
    let longer : take k (moves p (xs ++ more)) ≡ r =
    sym (first_moves p limit (xs ++ more)) ∙ moves-append ks (opening p limit) xs more ∙ ap (λ l. r ++ l) none ∙ append-nil r in
    ap (λ l. moves p (l ++ more)) (sym whole) ∙ sym (moves_after p xs more)
    ∙ sym (taken_whole k (moves p (xs ++ more)) (subst (λ l. length l < k) (sym longer) few)) ∙ longer

-- a pick more that adds nothing is idle
adds_nothing : (xs : List ℕ) (b : Bool) (x : ℕ) → xs ++ (if b then x ∷ [] else []) ≡ xs → b ≡ false
adds_nothing xs true x e = let counted : length (xs ++ x ∷ []) ≡ length xs + 1 = length-append xs (x ∷ []) in let same : length (xs ++ x ∷ []) ≡ length xs = ap length e in absurd (omega arith)
adds_nothing xs false x e = refl

idle_there : (p : Program) (made : List ℕ) (pick : ℕ) → moves p made ≡ made → moves p (made ++ pick ∷ []) ≡ made → IsIdleAfter p made pick
idle_there p made pick all same =
    let b : Bool = (pick_step_after p made pick).moved in
    let longer : moves p (made ++ pick ∷ []) ≡ made ++ (if b then pick ∷ [] else []) =
    moves-append p.functions (start p) made (pick ∷ []) ∙ ap (λ xs. xs ++ ((if b then pick ∷ [] else []) ++ [])) all ∙ ap (λ xs. made ++ xs) (append-nil (if b then pick ∷ [] else [])) in
    adds_nothing made b pick (sym longer ∙ same)

-- after so many times that some picks were taken until nothing moved, none of them moves
rests_after : (p : Program) (limit : ℕ) (ds : List Directive) (d : Directive) (once : List ℕ) → tries_of_directive (room p limit) d ≡ repeat_picks once (room p limit + 1)
    → length (picks_of_directives p limit (ds ++ d ∷ [])) < room p limit
    → moves p (picks_of_directives p limit (ds ++ d ∷ []) ++ once) ≡ picks_of_directives p limit (ds ++ d ∷ [])
rests_after p limit ds d once is few =
    let ks : List Function = p.functions in
    let k : ℕ = room p limit in
    let all : List ℕ = tries k ds ++ repeat_picks once (k + 1) in
    let made : picks_of_directives p limit (ds ++ d ∷ []) ≡ moves_from ks (opening p limit) all =
    by_tries p limit (ds ++ d ∷ []) ∙ ap (moves_from ks (opening p limit)) (last_tries k ds d ∙ ap (λ xs. tries k ds ++ xs) is) in
    let here : RunState = run_state_after ks (opening p limit) (tries k ds) in
    let split : moves_from ks (opening p limit) all ≡ moves_from ks (opening p limit) (tries k ds) ++ moves_from ks here (repeat_picks once (k + 1)) = moves-append ks (opening p limit) (tries k ds) (repeat_picks once (k + 1)) in
    let counted : length (moves_from ks (opening p limit) all) ≡ length (moves_from ks (opening p limit) (tries k ds)) + length (moves_from ks here (repeat_picks once (k + 1))) =
    ap length split ∙ length-append (moves_from ks (opening p limit) (tries k ds)) (moves_from ks here (repeat_picks once (k + 1))) in
    let bound : length (moves_from ks (opening p limit) all) ≤ k = few_move p limit all in
    let none : moves_from ks (run_state_after ks here (repeat_picks once (k + 1))) once ≡ [] = ends_at_rest once ks (k + 1) here (omega arith) in
    let there : moves_from ks (run_state_after ks (opening p limit) all) once ≡ [] = ap (λ q. moves_from ks q once) (place-append ks (opening p limit) (tries k ds) (repeat_picks once (k + 1))) ∙ none in
    ap (λ l. moves p (l ++ once)) made ∙ still_at_all p limit all once (subst (λ l. length l < k) made few) there ∙ sym made

pub everybody_rests : EverybodyRests
everybody_rests p limit ds few = rests_after p limit ds everybody pass refl few

pub until_idle_stops_there : UntilIdleStopsThere
until_idle_stops_there p limit ds pick few =
    let made : List ℕ = picks_of_directives p limit (ds ++ until_idle pick ∷ []) in
    idle_there p made pick (directives_move p limit (ds ++ until_idle pick ∷ [])) (rests_after p limit ds (until_idle pick) (pick ∷ []) refl few)

-- ---- which picks they are

-- of one pick again and again those that move are again and again that pick
one_alone : (ks : List Function) (q : RunState) (pick n : ℕ) → (count : ℕ) × (moves_from ks q (repeat_picks (pick ∷ []) n) ≡ repeat_picks (pick ∷ []) count)
one_alone ks q pick zero = (0, refl)
one_alone ks q pick (suc n) = go (pick_step ks q pick).moved (one_alone ks (pick_step ks q pick).after pick n)
  where
    rest : List ℕ
    rest = moves_from ks (pick_step ks q pick).after (repeat_picks (pick ∷ []) n)

    go : (b : Bool) → (count : ℕ) × (rest ≡ repeat_picks (pick ∷ []) count) → (count : ℕ) × ((if b then pick ∷ [] else []) ++ rest ≡ repeat_picks (pick ∷ []) count)
    go true r = (suc r.0, ap (λ xs. pick ∷ xs) r.1)
    go false r = (r.0, r.1)

pub until_idle_takes_one : UntilIdleTakesOne
until_idle_takes_one p limit ds pick =
    let alone : (count : ℕ) × (moves_from p.functions (reached p limit ds) (repeat_picks (pick ∷ []) (room p limit + 1)) ≡ repeat_picks (pick ∷ []) count) =
    one_alone p.functions (reached p limit ds) pick (room p limit + 1) in
    (alone.0, more_by p limit ds (until_idle pick) ∙ ap (λ xs. picks_of_directives p limit ds ++ xs) alone.1)

pub everybody_is_a_round : EverybodyIsARound
everybody_is_a_round p limit = append-nil (round p limit)

-- the picks of the tries before can be left out, where they did not move or are past the limit
pub times_takes_so_many : TimesTakesSoMany
times_takes_so_many p limit ds count pick =
    let ks : List Function = p.functions in
    let k : ℕ = room p limit in
    let tried : List ℕ = tries k ds in
    let more : List ℕ = repeat_picks (pick ∷ []) count in
    let r : List ℕ = moves_from ks (opening p limit) tried in
    by_tries p limit (ds ++ times count pick ∷ [])
    ∙ ap (moves_from ks (opening p limit)) (last_tries k ds (times count pick))
    ∙ moves-append ks (opening p limit) tried more
    ∙ ap (λ xs. xs ++ moves_from ks (run_state_after ks (opening p limit) tried) more) (sym (moves_again ks (opening p limit) tried))
    ∙ ap (λ q. moves_from ks (opening p limit) r ++ moves_from ks q more) (sym (place_again ks (opening p limit) tried))
    ∙ sym (moves-append ks (opening p limit) r more)
    ∙ first_moves p limit (r ++ more)
    ∙ ap (λ xs. take k (moves p (xs ++ more))) (sym (by_tries p limit ds))

least_none : (n : ℕ) → 0 ≡ min 0 n
least_none n = omega arith

none_least : (n : ℕ) → 0 ≡ min n 0
none_least n = omega arith

least_suc : (k n : ℕ) → suc (min k n) ≡ min (suc k) (suc n)
least_suc k n = omega arith

-- each pick takes a command, while there is room
control_until_idle : (ks : List Function) (w : World) (cs : List Command) (k n : ℕ) → k < n
    → picks_until_idle ks n 0 (record { world = w; commands = cs; room = k }) ≡ repeat_picks (0 ∷ []) (min k (length cs))
control_until_idle ks w cs k zero h = absurd (omega arith)
control_until_idle ks w cs zero (suc n) h = ap (repeat_picks (0 ∷ [])) (least_none (length cs))
control_until_idle ks w [] (suc k) (suc n) h = ap (repeat_picks (0 ∷ [])) (none_least (suc k))
control_until_idle ks w (c ∷ cs) (suc k) (suc n) h =
    ap (λ xs. 0 ∷ xs) (control_until_idle ks w cs k n (omega arith)) ∙ ap (repeat_picks (0 ∷ [])) (least_suc k (length cs))

pub control_takes_each_command : ControlTakesEachCommand
control_takes_each_command p limit =
    append-nil (picks_until_idle p.functions (room p limit + 1) 0 (opening p limit))
    ∙ control_until_idle p.functions (opening_world p.entries) p.commands (room p limit) (room p limit + 1) (omega arith)

from-append : (ks : List Function) (most : ℕ) (q : RunState) (ds more : List Directive) → (rest : List ℕ) × (picks_from ks most q (ds ++ more) ≡ picks_from ks most q ds ++ rest)
from-append ks most q [] more = (picks_from ks most q more, refl)
from-append ks most q (d ∷ ds) more =
    let made : List ℕ = picks_of_directive ks most q d in
    let later : (rest : List ℕ) × (picks_from ks most (run_state_after ks q made) (ds ++ more) ≡ picks_from ks most (run_state_after ks q made) ds ++ rest) = from-append ks most (run_state_after ks q made) ds more in
    (later.0, ap (λ xs. made ++ xs) later.1 ∙ sym (append_assoc made (picks_from ks most (run_state_after ks q made) ds) later.0))

pub directives_grow : DirectivesGrow
directives_grow p limit ds more = from-append p.functions (room p limit) (opening p limit) ds more
