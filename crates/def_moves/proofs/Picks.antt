-- The picks of directives are the moves of some picks, which are tried in order.
use Rattle.std.proofs.Common.{◌≡◌, ◌+◌, ◌≤◌, min, ℕ, zero, suc, List, [], ◌∷◌, ◌++◌, length, take, Bool, true, false, if◌then◌else◌, refl, sym, ap, ◌∙◌, arith, append_assoc, subst}
use Rattle.std.proofs.lemmas.List.{take_all}
use Rattle.def_script.specs.Program.{Function, Program}
use Rattle.def_node.specs.Node.{opening_world}
use Rattle.def_run.specs.Run.{RunState, pick_step, moves_from, run_state_after, start, moves, run_state_of}
use Rattle.def_run.specs.Round.{is_empty, pass, passes}
use Rattle.def_run.specs.Laws.{repeat_picks}
use Rattle.def_run.proofs.Appends.{moves-append}
use Rattle.def_run.proofs.Replay.{moves_again, place_again, room_spent}
use Rattle.def_run.proofs.Rounds.{less_room, passes_by, passes_move}
use Rattle.def_moves.specs.Directives.{Directive, times, until_idle, everybody, picks_until_idle, picks_of_directive, picks_from, picks_of_directives}

-- ---- which picks are tried

abbrev pub tries_of_directive : ℕ → Directive → List ℕ
tries_of_directive most (times count pick) = repeat_picks (pick ∷ []) count
tries_of_directive most (until_idle pick) = repeat_picks (pick ∷ []) (most + 1)
tries_of_directive most everybody = repeat_picks pass (most + 1)

abbrev pub tries : ℕ → List Directive → List ℕ
tries most [] = []
tries most (d ∷ ds) = tries_of_directive most d ++ tries most ds

pub tries-append : (most : ℕ) (ds es : List Directive) → tries most (ds ++ es) ≡ tries most ds ++ tries most es
tries-append most [] es = refl
tries-append most (d ∷ ds) es = ap (λ xs. tries_of_directive most d ++ xs) (tries-append most ds es) ∙ sym (append_assoc (tries_of_directive most d) (tries most ds) (tries most es))

-- ---- one directive

one_until_idle : (ks : List Function) (n pick : ℕ) (q : RunState) → picks_until_idle ks n pick q ≡ passes_by (pick ∷ []) ks n q
one_until_idle ks zero pick q = refl
one_until_idle ks (suc n) pick q = go (pick_step ks q pick).moved (one_until_idle ks n pick (pick_step ks q pick).after)
  where
    go : (b : Bool) → picks_until_idle ks n pick (pick_step ks q pick).after ≡ passes_by (pick ∷ []) ks n (pick_step ks q pick).after
        → (if b then pick ∷ picks_until_idle ks n pick (pick_step ks q pick).after else [])
        ≡ ((if b then pick ∷ [] else []) ++ []) ++ (if is_empty ((if b then pick ∷ [] else []) ++ []) then [] else passes_by (pick ∷ []) ks n (pick_step ks q pick).after)
    go true same = ap (λ xs. pick ∷ xs) same
    go false same = refl

all_passes : (ks : List Function) (n : ℕ) (q : RunState) → passes ks n q ≡ passes_by pass ks n q
all_passes ks zero q = refl
all_passes ks (suc n) q = ap (λ rest. moves_from ks q pass ++ (if is_empty (moves_from ks q pass) then [] else rest)) (all_passes ks n (run_state_after ks q pass))

directive_tries : (ks : List Function) (most : ℕ) (q : RunState) (d : Directive) → picks_of_directive ks most q d ≡ moves_from ks q (tries_of_directive most d)
directive_tries ks most q (times count pick) = refl
directive_tries ks most q (until_idle pick) = one_until_idle ks (most + 1) pick q ∙ passes_move (pick ∷ []) ks (most + 1) q
directive_tries ks most q everybody = all_passes ks (most + 1) q ∙ passes_move pass ks (most + 1) q

-- ---- all directives

from_tries : (ks : List Function) (most : ℕ) (q : RunState) (ds : List Directive) → picks_from ks most q ds ≡ moves_from ks q (tries most ds)
from_tries ks most q [] = refl
from_tries ks most q (d ∷ ds) =
    let tried : List ℕ = tries_of_directive most d in
    let after : RunState = run_state_after ks q tried in
    ap (λ made. made ++ picks_from ks most (run_state_after ks q made) ds) (directive_tries ks most q d)
    ∙ ap (λ r. moves_from ks q tried ++ picks_from ks most r ds) (place_again ks q tried)
    ∙ ap (λ xs. moves_from ks q tried ++ xs) (from_tries ks most after ds)
    ∙ sym (moves-append ks q tried (tries most ds))

moves_among : (ks : List Function) (q : RunState) (xs : List ℕ) → length (moves_from ks q xs) ≤ length xs
moves_among ks q [] = omega arith
moves_among ks q (x ∷ xs) = go (pick_step ks q x).moved (moves_among ks (pick_step ks q x).after xs)
  where
    go : (b : Bool) → length (moves_from ks (pick_step ks q x).after xs) ≤ length xs → length ((if b then x ∷ [] else []) ++ moves_from ks (pick_step ks q x).after xs) ≤ suc (length xs)
    go true h = omega arith
    go false h = omega arith

-- the picks that did not move can be left out
pub moves_after : (p : Program) (before more : List ℕ) → moves p (before ++ more) ≡ moves p (moves p before ++ more)
moves_after p before more =
    let rest : RunState → List ℕ = λ q. moves_from p.functions q more in
    moves-append p.functions (start p) before more
    ∙ ap (λ xs. xs ++ rest (run_state_of p before)) (sym (moves_again p.functions (start p) before))
    ∙ ap (λ q. moves p (moves p before) ++ rest q) (sym (place_again p.functions (start p) before))
    ∙ sym (moves-append p.functions (start p) (moves p before) more)

module _ (p : Program) (limit : ℕ) where
  abbrev pub room : ℕ
  room = min limit 65536

  -- before any pick, where so many may move
  abbrev pub opening : RunState
  opening = record { world = opening_world p.entries; commands = p.commands; room = room }

  pub by_tries : (ds : List Directive) → picks_of_directives p limit ds ≡ moves_from p.functions opening (tries room ds)
  by_tries ds = from_tries p.functions room opening ds

  -- with this limit the moves are the first of all
  pub first_moves : (xs : List ℕ) → moves_from p.functions opening xs ≡ take room (moves p xs)
  first_moves xs = less_room p.functions xs (opening_world p.entries) p.commands room 65536 (omega arith)

  -- they are the first of the tries that move
  pub in_order : (ds : List Directive) → picks_of_directives p limit ds ≡ take room (moves p (tries room ds))
  in_order ds = by_tries ds ∙ first_moves (tries room ds)

  pub few_move : (xs : List ℕ) → length (moves_from p.functions opening xs) ≤ room
  few_move xs =
      let e : length (moves_from p.functions opening xs) + (run_state_after p.functions opening xs).room ≡ room = room_spent p.functions opening xs in
      omega arith

  -- all of them move
  pub moved_again : (xs : List ℕ) → moves p (moves_from p.functions opening xs) ≡ moves_from p.functions opening xs
  moved_again xs =
      let ks : List Function = p.functions in
      let r : List ℕ = moves_from ks opening xs in
      let again : r ≡ take room (moves p r) = sym (moves_again ks opening xs) ∙ first_moves r in
      let few : length (moves p r) ≤ length r = moves_among ks (start p) r in
      let bound : length r ≤ room = few_move xs in
      sym (take_all room (moves p r) (omega arith)) ∙ sym again

pub directives_move : (p : Program) (limit : ℕ) (ds : List Directive) → moves p (picks_of_directives p limit ds) ≡ picks_of_directives p limit ds
directives_move p limit ds = ap (moves p) (by_tries p limit ds) ∙ moved_again p limit (tries (room p limit) ds) ∙ sym (by_tries p limit ds)

pub directives_are_bounded : (p : Program) (limit : ℕ) (ds : List Directive) → length (picks_of_directives p limit ds) ≤ min limit 65536
directives_are_bounded p limit ds = subst (λ xs. length xs ≤ min limit 65536) (sym (by_tries p limit ds)) (few_move p limit (tries (room p limit) ds))
