-- A round is the moves of passes, one after the other, until one moves nothing or the room is used up.
use Rattle.std.proofs.Common.{◌≡◌, ◌+◌, ◌<◌, ◌≤◌, min, ℕ, zero, suc, List, [], ◌∷◌, ◌++◌, length, take, Bool, true, false, if◌then◌else◌, refl, sym, ap, ◌∙◌, arith, append-nil, length-append, subst}
use Rattle.std.proofs.lemmas.List.{take_all}
use Rattle.def_script.specs.Program.{Function, Program, Command}
use Rattle.def_node.specs.Node.{World, Move, moved, idle, next_of, opening_world}
use Rattle.def_run.specs.Run.{RunState, goes_to, pick_step, moves_from, run_state_after, start, moves}
use Rattle.def_run.specs.Round.{is_empty, pass, passes, round}
use Rattle.def_run.specs.Laws.{repeat_picks, RoundMoves, RoundIsShort, RoundIsInOrder, RoundRests}
use Rattle.def_run.proofs.Appends.{moves-append, place-append}
use Rattle.def_run.proofs.Replay.{moves_again, place_again, room_spent}

abbrev at : World → List Command → ℕ → RunState
at w cs k = record { world = w; commands = cs; room = k }

-- ---- less room

none_move : (ks : List Function) (picks : List ℕ) (w : World) (cs : List Command) → moves_from ks (at w cs 0) picks ≡ []
none_move ks [] w cs = refl
none_move ks (pick ∷ picks) w cs = none_move ks picks w cs

-- with less room the moves are the first of those with more
pub less_room : (ks : List Function) (picks : List ℕ) (w : World) (cs : List Command) (k j : ℕ) → k ≤ j → moves_from ks (at w cs k) picks ≡ take k (moves_from ks (at w cs j) picks)
less_room ks [] w cs zero j h = refl
less_room ks [] w cs (suc k) j h = refl
less_room ks (pick ∷ picks) w cs zero j h = none_move ks picks w cs
less_room ks (pick ∷ picks) w cs (suc k) zero h = absurd (omega arith)
less_room ks (zero ∷ picks) w [] (suc k) (suc j) h = less_room ks picks w [] (suc k) (suc j) h
less_room ks (zero ∷ picks) w (c ∷ cs) (suc k) (suc j) h = ap (zero ∷◌) (less_room ks picks w cs k j (omega arith))
less_room ks (suc n ∷ picks) w cs (suc k) (suc j) h = go (λ v l i a. less_room ks picks v cs l i a) (next_of ks w (suc n))
  where
    go : ((v : World) (l i : ℕ) → l ≤ i → moves_from ks (at v cs l) picks ≡ take l (moves_from ks (at v cs i) picks))
        → (m : Move) → (if (goes_to (at w cs (suc k)) k m).moved then suc n ∷ [] else []) ++ moves_from ks (goes_to (at w cs (suc k)) k m).after picks
        ≡ take (suc k) ((if (goes_to (at w cs (suc j)) j m).moved then suc n ∷ [] else []) ++ moves_from ks (goes_to (at w cs (suc j)) j m).after picks)
    go ih (idle v) = ih w (suc k) (suc j) h
    go ih (moved v es) = ap (suc n ∷◌) (ih v k j (omega arith))

-- ---- passes of any picks

module _ (once : List ℕ) where
  abbrev pub passes_by : List Function → ℕ → RunState → List ℕ
  passes_by ks zero q = []
  passes_by ks (suc n) q =
      let made : List ℕ = moves_from ks q once in
      let rest : List ℕ = passes_by ks n (run_state_after ks q once) in
      made ++ (if is_empty made then [] else rest)

  stays_there : (ks : List Function) (q : RunState) → moves_from ks q once ≡ [] → run_state_after ks q once ≡ q
  stays_there ks q h = sym (place_again ks q once) ∙ ap (run_state_after ks q) h

  rests : (ks : List Function) (q : RunState) (n : ℕ) → moves_from ks q once ≡ [] → moves_from ks q (repeat_picks once n) ≡ []
  rests ks q zero h = refl
  rests ks q (suc n) h =
      moves-append ks q once (repeat_picks once n)
      ∙ ap (λ xs. xs ++ moves_from ks (run_state_after ks q once) (repeat_picks once n)) h
      ∙ ap (λ x. moves_from ks x (repeat_picks once n)) (stays_there ks q h)
      ∙ rests ks q n h

  pub passes_move : (ks : List Function) (n : ℕ) (q : RunState) → passes_by ks n q ≡ moves_from ks q (repeat_picks once n)
  passes_move ks zero q = refl
  passes_move ks (suc n) q = go (moves_from ks q once) refl (passes_move ks n (run_state_after ks q once)) ∙ sym (moves-append ks q once (repeat_picks once n))
    where
      go : (made : List ℕ) → moves_from ks q once ≡ made → passes_by ks n (run_state_after ks q once) ≡ moves_from ks (run_state_after ks q once) (repeat_picks once n)
          → made ++ (if is_empty made then [] else passes_by ks n (run_state_after ks q once)) ≡ made ++ moves_from ks (run_state_after ks q once) (repeat_picks once n)
      go [] e ih = sym (ap (λ x. moves_from ks x (repeat_picks once n)) (stays_there ks q e) ∙ rests ks q n e)
      go (x ∷ made) e ih = ap ((x ∷ made) ++◌) ih

  -- so many passes each moved something, or the last of them moved nothing
  pub ends_at_rest : (ks : List Function) (n : ℕ) (q : RunState) → length (moves_from ks q (repeat_picks once n)) < n → moves_from ks (run_state_after ks q (repeat_picks once n)) once ≡ []
  ends_at_rest ks zero q h = absurd (omega arith)
  ends_at_rest ks (suc n) q h = go (moves_from ks q once) refl (λ g. ends_at_rest ks n (run_state_after ks q once) g)
    where
      go : (made : List ℕ) → moves_from ks q once ≡ made
          → (length (moves_from ks (run_state_after ks q once) (repeat_picks once n)) < n → moves_from ks (run_state_after ks (run_state_after ks q once) (repeat_picks once n)) once ≡ [])
          → moves_from ks (run_state_after ks q (once ++ repeat_picks once n)) once ≡ []
      go [] e ih =
          ap (λ x. moves_from ks x once) (sym (place_again ks q (once ++ repeat_picks once n)) ∙ ap (run_state_after ks q) (rests ks q (suc n) e))
          ∙ e
      go (x ∷ made) e ih =
          let split : moves_from ks q (once ++ repeat_picks once n) ≡ (x ∷ made) ++ moves_from ks (run_state_after ks q once) (repeat_picks once n) = moves-append ks q once (repeat_picks once n) ∙ ap (λ xs. xs ++ moves_from ks (run_state_after ks q once) (repeat_picks once n)) e in
          let counted : length (moves_from ks q (once ++ repeat_picks once n)) ≡ length (x ∷ made) + length (moves_from ks (run_state_after ks q once) (repeat_picks once n)) = ap length split ∙ length-append (x ∷ made) _ in
          ap (λ y. moves_from ks y once) (place-append ks q once (repeat_picks once n))
          ∙ ih (omega arith)

-- ---- the passes of a round

passes_same : (ks : List Function) (n : ℕ) (q : RunState) → passes ks n q ≡ passes_by pass ks n q
passes_same ks zero q = refl
passes_same ks (suc n) q = ap (λ rest. moves_from ks q pass ++ (if is_empty (moves_from ks q pass) then [] else rest)) (passes_same ks n (run_state_after ks q pass))

-- ---- a place with less room and one with more

record IsSamePlace (q r : RunState) : Type 0 where
  world : World
  commands : List Command
  less : ℕ
  more : ℕ
  some_room : 0 < less
  no_less : less ≤ more
  first : q ≡ at world commands less
  second : r ≡ at world commands more

same_place : (ks : List Function) (picks : List ℕ) (w : World) (cs : List Command) (k j : ℕ) → length (moves_from ks (at w cs k) picks) < k → k ≤ j
    → IsSamePlace (run_state_after ks (at w cs k) picks) (run_state_after ks (at w cs j) picks)
same_place ks [] w cs k j h g = record { world = w; commands = cs; less = k; more = j; some_room = omega arith; no_less = g; first = refl; second = refl }
same_place ks (pick ∷ picks) w cs zero j h g = absurd (omega arith)
same_place ks (pick ∷ picks) w cs (suc k) zero h g = absurd (omega arith)
same_place ks (zero ∷ picks) w [] (suc k) (suc j) h g = same_place ks picks w [] (suc k) (suc j) h g
same_place ks (zero ∷ picks) w (c ∷ cs) (suc k) (suc j) h g = same_place ks picks w cs k j (omega arith) (omega arith)
same_place ks (suc n ∷ picks) w cs (suc k) (suc j) h g = go (λ v l i a b. same_place ks picks v cs l i a b) (next_of ks w (suc n)) h
  where
    go : ((v : World) (l i : ℕ) → length (moves_from ks (at v cs l) picks) < l → l ≤ i → IsSamePlace (run_state_after ks (at v cs l) picks) (run_state_after ks (at v cs i) picks))
        → (m : Move) → length ((if (goes_to (at w cs (suc k)) k m).moved then suc n ∷ [] else []) ++ moves_from ks (goes_to (at w cs (suc k)) k m).after picks) < suc k
        → IsSamePlace (run_state_after ks (goes_to (at w cs (suc k)) k m).after picks) (run_state_after ks (goes_to (at w cs (suc j)) j m).after picks)
    go ih (idle v) f = ih w (suc k) (suc j) f g
    go ih (moved v es) f = ih v k j (omega arith) (omega arith)

-- ---- rounds

moves_among : (ks : List Function) (q : RunState) (xs : List ℕ) → length (moves_from ks q xs) ≤ length xs
moves_among ks q [] = omega arith
moves_among ks q (x ∷ xs) = go (pick_step ks q x).moved (moves_among ks (pick_step ks q x).after xs)
  where
    go : (b : Bool) → length (moves_from ks (pick_step ks q x).after xs) ≤ length xs → length ((if b then x ∷ [] else []) ++ moves_from ks (pick_step ks q x).after xs) ≤ suc (length xs)
    go true h = omega arith
    go false h = omega arith

taken_none : (k : ℕ) (xs : List ℕ) → 0 < k → take k xs ≡ [] → xs ≡ []
taken_none zero xs h e = absurd (omega arith)
taken_none (suc k) [] h e = refl
taken_none (suc k) (x ∷ xs) h e = cc

taken_whole : (k : ℕ) (xs : List ℕ) → length (take k xs) < k → take k xs ≡ xs
taken_whole zero xs h = absurd (omega arith)
taken_whole (suc k) [] h = refl
taken_whole (suc k) (x ∷ xs) h = ap (x ∷◌) (taken_whole k xs (omega arith))

module _ (p : Program) (limit : ℕ) where
  abbrev room : ℕ
  room = min limit 65536

  abbrev many : List ℕ
  many = repeat_picks pass (room + 1)

  abbrev opening_at : ℕ → RunState
  opening_at k = at (opening_world p.entries) p.commands k

  by_moves : round p limit ≡ moves_from p.functions (opening_at room) many
  by_moves = passes_same p.functions (room + 1) (opening_at room) ∙ passes_move pass p.functions (room + 1) (opening_at room)

  short : length (round p limit) ≤ room
  short =
      let e : length (moves_from p.functions (opening_at room) many) + (run_state_after p.functions (opening_at room) many).room ≡ room = room_spent p.functions (opening_at room) many in
      let same : length (round p limit) ≡ length (moves_from p.functions (opening_at room) many) = ap length by_moves in
      omega arith

  in_order : round p limit ≡ take room (moves p many)
  in_order = by_moves ∙ less_room p.functions many (opening_world p.entries) p.commands room 65536 (omega arith)

  all_move : moves p (round p limit) ≡ round p limit
  all_move =
      let ks : List Function = p.functions in
      let r : List ℕ = moves_from ks (opening_at room) many in
      let again : r ≡ take room (moves p r) = sym (moves_again ks (opening_at room) many) ∙ less_room ks r (opening_world p.entries) p.commands room 65536 (omega arith) in
      let few : length (moves p r) ≤ length r = moves_among ks (start p) r in
      let bound : length (round p limit) ≤ room = short in
      let same : length (round p limit) ≡ length r = ap length by_moves in
      ap (moves p) by_moves ∙ sym (take_all room (moves p r) (omega arith)) ∙ sym again ∙ sym by_moves

  at_rest : length (round p limit) < room → moves p (round p limit ++ pass) ≡ round p limit
  at_rest h =
      let ks : List Function = p.functions in
      let less : length (moves_from ks (opening_at room) many) < room = subst (λ xs. length xs < room) by_moves h in
      let q : IsSamePlace (run_state_after ks (opening_at room) many) (run_state_after ks (opening_at 65536) many) = same_place ks many (opening_world p.entries) p.commands room 65536 less (omega arith) in
      let nothing : moves_from ks (at q.world q.commands q.less) pass ≡ [] = ap (λ x. moves_from ks x pass) (sym q.first) ∙ ends_at_rest pass ks (room + 1) (opening_at room) (omega arith) in
      let nothing_more : moves_from ks (at q.world q.commands q.more) pass ≡ [] = taken_none q.less (moves_from ks (at q.world q.commands q.more) pass) q.some_room (sym (less_room ks pass q.world q.commands q.less q.more q.no_less) ∙ nothing) in
      let whole : moves p many ≡ round p limit = sym (in_order ∙ taken_whole room (moves p many) (subst (λ xs. length xs < room) in_order h)) in
      moves-append ks (start p) (round p limit) pass
      ∙ ap (λ xs. xs ++ moves_from ks (run_state_after ks (start p) (round p limit)) pass) all_move
      ∙ ap (λ x. round p limit ++ moves_from ks x pass) (ap (run_state_after ks (start p)) (sym whole) ∙ place_again ks (start p) many ∙ q.second)
      ∙ ap (round p limit ++◌) nothing_more
      ∙ append-nil (round p limit)

pub round_moves : RoundMoves
round_moves p limit = all_move p limit

pub round_is_short : RoundIsShort
round_is_short p limit = short p limit

pub round_is_in_order : RoundIsInOrder
round_is_in_order p limit = in_order p limit

pub round_rests : RoundRests
round_rests p limit h = at_rest p limit h
