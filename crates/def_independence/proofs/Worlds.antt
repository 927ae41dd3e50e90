-- A move of one process alone, and a move of another: whichever comes first, both lead to the same processes.
use Rattle.std.proofs.Common.{◌≡◌, inl, inr, ℕ, ◌+◌, ◌-◌, ◌<◌, ◌≤◌, Bool, true, false, cond, List, [], ◌∷◌, ◌++◌, length, map, slice_get, Option, Some, None, refl, ap, sym, ◌∙◌, subst, arith}
use Rattle.std.specs.Prelude.{nat_le, nat_lt, ◌==◌, replicate}
use Rattle.std.proofs.Math.ListN.{set}
use Rattle.std.proofs.lemmas.Option.{slice_get_within}
use Rattle.def_term.specs.Tree.{Tree}
use Rattle.def_script.specs.Program.{Function, Entry}
use Rattle.def_node.specs.Event.{Event, sent, received, called, returned, raised, spawning, spawned, exited, linked, unlinked, getting_linked, getting_unlinked}
use Rattle.def_node.specs.Process.{Process, Act, waits, continues, sends, links_to, unlinks_from, spawns, exits, act}
use Rattle.def_node.specs.Node.{World, Move, moved, idle, place_of_pid, with_slot, change_at, put_at, with_message, delivered_to, deliver, linked_in, linked_at, link_removed, unlinked_from, exit_process, fresh, next_pid, start_process, after_act, stepped_at, next_of, opening_world}
use Rattle.def_node.specs.Limits.{IsOwnAct, world_after}
use Rattle.def_node.proofs.Acts.{act_own}
use Rattle.def_node.proofs.Steps.{living_here}
use Rattle.def_explore.specs.Lists.{EachOf}
use Rattle.def_explore.proofs.Lists.{each_also, each_both}
use Rattle.def_independence.specs.Alone.{have_link}
use Rattle.def_independence.proofs.Numbers.{big_if, same_if, other_if, far_if}
use Rattle.def_independence.proofs.Acts.{IsLeave, AreOwn, grow, grow_none, grow_twice, Does, act_does}
use Rattle.def_independence.proofs.Slots.{slot_other, slot_own, slot_place, slots_length, slots_swap, slots_then, slot_before, slots_before, gone_other, gone_swap, AllUnlinked, unlinked_at, unlinked_change, unlinked_gone, unlinked_more, none_linked, told_none, no_pids}

-- ---- events apart from a process

-- another process of the run
abbrev pub IsElse : ℕ → ℕ → Type 0
IsElse n p = (100 ≤ p) × (p ≡ n → ⊥)

-- the event is about another process than n, or n gets a message
abbrev pub IsApart : ℕ → Event → Type 0
IsApart n (sent p t to alive) = IsElse n p
IsApart n (received p sender t) = 100 ≤ p
IsApart n (called p c) = IsElse n p
IsApart n (returned p f t depth) = IsElse n p
IsApart n (raised p f c t depth) = IsElse n p
IsApart n (spawning p child f args) = IsElse n p
IsApart n (spawned p parent f args) = IsElse n p × IsElse n parent
IsApart n (exited p r) = IsElse n p
IsApart n (linked p q) = IsElse n p
IsApart n (unlinked p q) = IsElse n p
IsApart n (getting_linked p q) = ⊥
IsApart n (getting_unlinked p q) = ⊥

leave_apart : (n m : ℕ) → IsElse n m → (e : Event) → IsLeave m e → IsApart n e
leave_apart n m other (returned p f t depth) h = subst (IsElse n) (sym h) other
leave_apart n m other (raised p f c t depth) h = subst (IsElse n) (sym h) other
leave_apart n m other (sent p t to alive) h = absurd h
leave_apart n m other (received p sender t) h = absurd h
leave_apart n m other (called p c) h = absurd h
leave_apart n m other (spawning p child f args) h = absurd h
leave_apart n m other (spawned p parent f args) h = absurd h
leave_apart n m other (exited p r) h = absurd h
leave_apart n m other (linked p q) h = absurd h
leave_apart n m other (unlinked p q) h = absurd h
leave_apart n m other (getting_linked p q) h = absurd h
leave_apart n m other (getting_unlinked p q) h = absurd h

leaves_apart : (n m : ℕ) → IsElse n m → (es : List Event) → EachOf (IsLeave m) es → EachOf (IsApart n) es
leaves_apart n m other es h = each_also (IsLeave m) (IsApart n) es (leave_apart n m other) h

own_apart : (n m : ℕ) → IsElse n m → (es : List Event) → AreOwn m es → EachOf (IsApart n) es
own_apart n m other es (inl h) = subst (EachOf (IsApart n)) (sym h.1) (other, tt)
own_apart n m other es (inr h) = leaves_apart n m other es h

-- ---- an exit without partners, and an unlink without a link

exit_is : (w : World) (k m : ℕ) (partners : List Bool) (r : Tree) (before : List Event) → partners ≡ replicate 64 false
    → exit_process w k m partners r before ≡ moved (record { slots = set w.slots k None }) (before ++ exited m r ∷ [])
exit_is w k m partners r before h =
    ap (λ ps. exit_process w k m ps r before) h
    ∙ (λ i. moved (record { slots = told_none m r 64 (set w.slots k None) i }) (before ++ exited m r ∷ map (λ x. getting_unlinked x m) (no_pids 64 100 i)))

removed_is : (w : World) (k m o : ℕ) → linked_at w k o ≡ false → link_removed w k m o ≡ (cond (m == o) (moved w []) (moved w (unlinked m o ∷ [])))
removed_is w k m o h = ap (λ b. cond (m == o) (moved w []) (cond b (unlinked_from w k m o (place_of_pid w o)) (moved w (unlinked m o ∷ [])))) h

not_linked : (ss : List (Option Process)) (k o : ℕ) (q r : Process) → slice_get ss k ≡ Some (Some q) → r.links ≡ replicate 64 false → linked_in (slice_get (with_slot ss k (λ _. r)) k) o ≡ false
not_linked ss k o q r here h = ap (λ s. linked_in s o) (slot_own ss k (λ _. r) q here) ∙ none_linked r o h

child_if : (b : Bool) (x c : ℕ) → cond b (Some x) None ≡ Some c → c ≡ x
child_if true x c h = let k : Some x ≡ Some c = h in cc
child_if false x c h = absurd (let k : None ≡ Some c = h in cc)

child_is : (w : World) (c : ℕ) → next_pid w ≡ Some c → c ≡ 100 + length w.slots
child_is w c h = child_if (nat_lt (length w.slots) 64) (100 + length w.slots) c h

-- ---- no process gets a link

wide_of : (q : Process) → 64 ≤ 64 + length q.frames
wide_of q = omega arith

few_of : (q : Process) → length q.frames ≤ 64 + length q.frames
few_of q = omega arith

delivered_unlinked : (ss : List (Option Process)) (m o : ℕ) (t : Tree) (i : Option ℕ) → AllUnlinked ss → AllUnlinked (world_after (delivered_to (record { slots = ss }) m o t i)).slots
delivered_unlinked ss m o t None all = all
delivered_unlinked ss m o t (Some i) all = unlinked_change ss i (with_message t) (λ q h. h) all

if_unlinked : (b : Bool) (a c : Move) → AllUnlinked (world_after a).slots → AllUnlinked (world_after c).slots → AllUnlinked (world_after (cond b a c)).slots
if_unlinked true a c h k = h
if_unlinked false a c h k = k

acted_unlinked : (w : World) (k m most : ℕ) (q : Process) (child : Option ℕ) (a b : Act) → slice_get w.slots k ≡ Some (Some q) → q.links ≡ replicate 64 false → AllUnlinked w.slots
    → Does m [] a b → IsOwnAct most q.links child a → AllUnlinked (world_after (after_act w k m a)).slots
acted_unlinked w k m most q child (waits r) b here h all does own = unlinked_change w.slots k (λ _. r) (λ _ _. own.0 ∙ h) all
acted_unlinked w k m most q child (continues r es) b here h all does own = unlinked_change w.slots k (λ _. r) (λ _ _. own.0 ∙ h) all
acted_unlinked w k m most q child (sends r o t) b here h all does own =
    delivered_unlinked (put_at w k r).slots m o t (place_of_pid (put_at w k r) o) (unlinked_change w.slots k (λ _. r) (λ _ _. own.0 ∙ h) all)
acted_unlinked w k m most q child (links_to r o) b here h all does own = absurd does
acted_unlinked w k m most q child (unlinks_from r o) b here h all does own =
    let there : AllUnlinked (put_at w k r).slots = unlinked_change w.slots k (λ _. r) (λ _ _. own.0 ∙ h) all in
    subst (λ x. AllUnlinked (world_after x).slots) (sym (removed_is (put_at w k r) k m o (not_linked w.slots k o q r here (own.0 ∙ h))))
    (if_unlinked (m == o) (moved (put_at w k r) []) (moved (put_at w k r) (unlinked m o ∷ [])) there there)
acted_unlinked w k m most q child (spawns r c e) b here h all does own = unlinked_more (put_at w k r).slots (fresh e) (unlinked_change w.slots k (λ _. r) (λ _ _. own.0.0 ∙ h) all) refl
acted_unlinked w k m most q child (exits partners r before) b here h all does own =
    subst (λ x. AllUnlinked (world_after x).slots) (sym (exit_is w k m partners r before (own ∙ h))) (unlinked_gone w.slots k all)

module _ (ks : List Function) (none : have_link ks ≡ false) where
  stepped_unlinked : (w : World) (k m : ℕ) (o : Option (Option Process)) → slice_get w.slots k ≡ o → AllUnlinked w.slots → AllUnlinked (world_after (stepped_at ks w k m o)).slots
  stepped_unlinked w k m None here all = all
  stepped_unlinked w k m (Some None) here all = all
  stepped_unlinked w k m (Some (Some q)) here all =
      acted_unlinked w k m (64 + length q.frames) q (next_pid w) (act ks m (next_pid w) q) (act ks m (next_pid w) (grow [] q)) here (unlinked_at w.slots k q all here) all
      (act_does m [] ks (next_pid w) (next_pid w) q none) (act_own (64 + length q.frames) (wide_of q) ks m (next_pid w) q (few_of q))

  pub next_unlinked : (w : World) (m : ℕ) → AllUnlinked w.slots → AllUnlinked (world_after (next_of ks w m)).slots
  next_unlinked w m all = if_unlinked (nat_le 100 m) (stepped_at ks w (m - 100) m (slice_get w.slots (m - 100))) (idle w) (stepped_unlinked w (m - 100) m (slice_get w.slots (m - 100)) refl all) all

pub opening_unlinked : (es : List Entry) → AllUnlinked (opening_world es).slots
opening_unlinked [] = tt
opening_unlinked (e ∷ es) = (refl, opening_unlinked es)

-- ---- a process that goes on alone, with these events

-- it does so whatever comes into its mailbox, and whichever pid is next
pub record Ready (ks : List Function) (n : ℕ) (es : List Event) (w : World) : Type 0 where
  pub before : Process
  pub after : Process
  pub here : slice_get w.slots (n - 100) ≡ Some (Some before)
  pub goes : (c : Option ℕ) (xs : List Tree) → act ks n c (grow xs before) ≡ continues (grow xs after) es

-- the processes when it has done so
abbrev pub aside : (ks : List Function) (n : ℕ) (es : List Event) (w : World) → Ready ks n es w → World
aside ks n es w r = put_at w (n - 100) r.after

module _ (ks : List Function) (none : have_link ks ≡ false) (n : ℕ) (big : nat_le 100 n ≡ true) (es : List Event) where
  abbrev At : ℕ
  At = n - 100

  own_act : (w : World) (r : Ready ks n es w) (c : Option ℕ) → act ks n c r.before ≡ continues r.after es
  own_act w r c = ap (act ks n c) (sym (grow_none r.before)) ∙ r.goes c [] ∙ ap (λ q. continues q es) (grow_none r.after)

  -- its own step
  pub own_move : (w : World) (r : Ready ks n es w) → next_of ks w n ≡ moved (aside ks n es w r) es
  own_move w r =
      ap (λ b. cond b (stepped_at ks w At n (slice_get w.slots At)) (idle w)) big
      ∙ ap (stepped_at ks w At n) r.here
      ∙ ap (after_act w At n) (own_act w r (next_pid w))

  -- ---- it stays so where something else changes

  ready_change : (w : World) (k : ℕ) (f : Process → Process) → (At ≡ k → ⊥) → Ready ks n es w → Ready ks n es (change_at w k f)
  ready_change w k f far r = record { before = r.before; after = r.after; here = slot_other w.slots k At f (λ e. far (sym e)) ∙ r.here; goes = r.goes }

  change_aside : (w : World) (k : ℕ) (f : Process → Process) (far : At ≡ k → ⊥) (r : Ready ks n es w) → change_at (aside ks n es w r) k f ≡ aside ks n es (change_at w k f) (ready_change w k f far r)
  unfolding ready_change
  change_aside w k f far r = ap (λ (ss : List (Option Process)). let v : World = record { slots = ss } in v) (slots_swap w.slots At k (λ _. r.after) f far)

  ready_message : (w : World) (t : Tree) → Ready ks n es w → Ready ks n es (change_at w At (with_message t))
  ready_message w t r = record {
    before = with_message t r.before;
    after = with_message t r.after;
    here = slot_own w.slots At (with_message t) r.before r.here;
    goes = λ c xs. ap (act ks n c) (grow_twice (t ∷ []) xs r.before) ∙ r.goes c (t ∷ xs) ∙ ap (λ q. continues q es) (sym (grow_twice (t ∷ []) xs r.after));
  }

  message_aside : (w : World) (t : Tree) (r : Ready ks n es w) → change_at (aside ks n es w r) At (with_message t) ≡ aside ks n es (change_at w At (with_message t)) (ready_message w t r)
  unfolding ready_message
  message_aside w t r =
      ap (λ (ss : List (Option Process)). let v : World = record { slots = ss } in v)
      (slots_then w.slots At (λ _. r.after) (with_message t) ∙ sym (slots_then w.slots At (with_message t) (λ _. with_message t r.after)))

  ready_more : (w : World) (s : Option Process) → Ready ks n es w → Ready ks n es (record { slots = w.slots ++ s ∷ [] })
  ready_more w s r = record { before = r.before; after = r.after; here = slot_before w.slots (s ∷ []) At (Some r.before) r.here; goes = r.goes }

  more_aside : (w : World) (s : Option Process) (r : Ready ks n es w)
      → (let v : World = record { slots = (aside ks n es w r).slots ++ s ∷ [] } in v) ≡ aside ks n es (record { slots = w.slots ++ s ∷ [] }) (ready_more w s r)
  unfolding ready_more
  more_aside w s r = ap (λ (ss : List (Option Process)). let v : World = record { slots = ss } in v) (sym (slots_before w.slots (s ∷ []) At (λ _. r.after) (Some r.before) r.here))

  ready_gone : (w : World) (k : ℕ) → (At ≡ k → ⊥) → Ready ks n es w → Ready ks n es (record { slots = set w.slots k None })
  ready_gone w k far r = record { before = r.before; after = r.after; here = gone_other w.slots At k far ∙ r.here; goes = r.goes }

  gone_aside : (w : World) (k : ℕ) (far : At ≡ k → ⊥) (r : Ready ks n es w)
      → (let v : World = record { slots = set (aside ks n es w r).slots k None } in v) ≡ aside ks n es (record { slots = set w.slots k None }) (ready_gone w k far r)
  unfolding ready_gone
  gone_aside w k far r = ap (λ (ss : List (Option Process)). let v : World = record { slots = ss } in v) (sym (gone_swap w.slots At k (λ _. r.after) far))

  -- ---- a move of another process, before it and after it

  -- both are idle; or both move, with the same events, which are apart from the process, and lead to the same but for its move
  abbrev pub Beside : Move → Move → Type 0
  Beside (moved w ds) (moved v bs) = (r : Ready ks n es w) × (v ≡ aside ks n es w r) × (bs ≡ ds) × EachOf (IsApart n) ds
  Beside (moved w ds) (idle v) = ⊥
  Beside (idle w) (moved v bs) = ⊥
  Beside (idle w) (idle v) = Unit {0}

  place_same : (w : World) (r : Ready ks n es w) (o : ℕ) → place_of_pid (aside ks n es w r) o ≡ place_of_pid w o
  place_same w r o = ap (λ x. cond (nat_le 100 o) x None) (slot_place w.slots At (o - 100) (λ _. r.after) (o - 100))

  got_beside : (w : World) (r : Ready ks n es w) (ds : List Event) (t : Tree) (i : ℕ) → EachOf (IsApart n) ds → Beside (moved (change_at w i (with_message t)) ds) (moved (change_at (aside ks n es w r) i (with_message t)) ds)
  got_beside w r ds t i apart = go (At == i) refl
    where
      there : (k : ℕ) → At ≡ k → Beside (moved (change_at w k (with_message t)) ds) (moved (change_at (aside ks n es w r) k (with_message t)) ds)
      there k e = subst (λ k. Beside (moved (change_at w k (with_message t)) ds) (moved (change_at (aside ks n es w r) k (with_message t)) ds)) e (ready_message w t r, message_aside w t r, refl, apart)

      go : (b : Bool) → At == i ≡ b → Beside (moved (change_at w i (with_message t)) ds) (moved (change_at (aside ks n es w r) i (with_message t)) ds)
      go true e = there i (same_if At i e)
      go false e = let far : At ≡ i → ⊥ = other_if At i e in (ready_change w i (with_message t) far r, change_aside w i (with_message t) far r, refl, apart)

  delivered_beside : (w : World) (r : Ready ks n es w) (m : ℕ) → IsElse n m → (o : ℕ) (t : Tree) (i : Option ℕ) → place_of_pid w o ≡ i → Beside (delivered_to w m o t i) (delivered_to (aside ks n es w r) m o t i)
  delivered_beside w r m other o t None e = (r, refl, refl, (other, tt))
  delivered_beside w r m other o t (Some i) e =
      let is : o ≡ 100 + i = (living_here w o i e).1.1.0 in
      got_beside w r (sent m t o true ∷ received o m t ∷ []) t i (other, (omega (arith, is), tt))

  deliver_beside : (w : World) (r : Ready ks n es w) (m : ℕ) → IsElse n m → (o : ℕ) (t : Tree) → Beside (deliver w m o t) (deliver (aside ks n es w r) m o t)
  deliver_beside w r m other o t =
      subst (λ i. Beside (delivered_to w m o t (place_of_pid w o)) (delivered_to (aside ks n es w r) m o t i)) (sym (place_same w r o)) (delivered_beside w r m other o t (place_of_pid w o) refl)

  if_beside : (w v : World) (r : Ready ks n es w) → v ≡ aside ks n es w r → (b : Bool) (ds bs : List Event) → EachOf (IsApart n) ds → EachOf (IsApart n) bs → Beside (cond b (moved w ds) (moved w bs)) (cond b (moved v ds) (moved v bs))
  if_beside w v r is true ds bs h k = (r, is, refl, h)
  if_beside w v r is false ds bs h k = (r, is, refl, k)

  child_else : (w : World) (r : Ready ks n es w) (c : ℕ) → c ≡ 100 + length w.slots → IsElse n c
  child_else w r c is =
      let inside : n - 100 < length w.slots = slice_get_within w.slots At (Some r.before) r.here in
      let large : 100 ≤ n = big_if n big in
      (omega (arith, is), λ e. omega (arith, is, inside, large, e))

  acted_beside : (w : World) (r : Ready ks n es w) (m k : ℕ) → IsElse n m → (At ≡ k → ⊥) → (most : ℕ) (q : Process) (a b : Act) → slice_get w.slots k ≡ Some (Some q) → q.links ≡ replicate 64 false
      → Does m [] a b → IsOwnAct most q.links (next_pid w) a → Beside (after_act w k m a) (after_act (aside ks n es w r) k m a)
  acted_beside w r m k other far most q (waits u) b here free does own = tt
  acted_beside w r m k other far most q (continues u ds) b here free does own =
      (ready_change w k (λ _. u) far r, change_aside w k (λ _. u) far r, refl, own_apart n m other ds does.1)
  acted_beside w r m k other far most q (sends u o t) b here free does own =
      subst (λ v. Beside (deliver (put_at w k u) m o t) (deliver v m o t)) (sym (change_aside w k (λ _. u) far r)) (deliver_beside (put_at w k u) (ready_change w k (λ _. u) far r) m other o t)
  acted_beside w r m k other far most q (links_to u o) b here free does own = absurd does
  acted_beside w r m k other far most q (unlinks_from u o) b here free does own =
      let v : World = put_at (aside ks n es w r) k u in
      let there : slice_get (aside ks n es w r).slots k ≡ Some (Some q) = slot_other w.slots At k (λ _. r.after) far ∙ here in
      let first : link_removed (put_at w k u) k m o ≡ cond (m == o) (moved (put_at w k u) []) (moved (put_at w k u) (unlinked m o ∷ [])) =
      removed_is (put_at w k u) k m o (not_linked w.slots k o q u here (own.0 ∙ free)) in
      let second : link_removed v k m o ≡ cond (m == o) (moved v []) (moved v (unlinked m o ∷ [])) =
      removed_is v k m o (not_linked (aside ks n es w r).slots k o q u there (own.0 ∙ free)) in
      subst (λ x. Beside x (link_removed v k m o)) (sym first)
      (subst (λ x. Beside (cond (m == o) (moved (put_at w k u) []) (moved (put_at w k u) (unlinked m o ∷ []))) x) (sym second)
      (if_beside (put_at w k u) v (ready_change w k (λ _. u) far r) (change_aside w k (λ _. u) far r) (m == o) [] (unlinked m o ∷ []) tt (other, tt)))
  acted_beside w r m k other far most q (spawns u c e) b here free does own =
      let v : World = put_at w k u in
      let ready : Ready ks n es v = ready_change w k (λ _. u) far r in
      let child : IsElse n c = child_else w r c (child_is w c own.1) in
      subst (λ x. Beside (start_process v m c e) (start_process x m c e)) (sym (change_aside w k (λ _. u) far r))
      (ready_more v (Some (fresh e)) ready, more_aside v (Some (fresh e)) ready, refl, (other, ((child, other), tt)))
  acted_beside w r m k other far most q (exits partners reason ds) b here free does own =
      let first : exit_process w k m partners reason ds ≡ moved (record { slots = set w.slots k None }) (ds ++ exited m reason ∷ []) = exit_is w k m partners reason ds (own ∙ free) in
      let second : exit_process (aside ks n es w r) k m partners reason ds ≡ moved (record { slots = set (aside ks n es w r).slots k None }) (ds ++ exited m reason ∷ []) =
      exit_is (aside ks n es w r) k m partners reason ds (own ∙ free) in
      let apart : EachOf (IsApart n) (ds ++ exited m reason ∷ []) = each_both (IsApart n) ds (exited m reason ∷ []) (leaves_apart n m other ds does) (other, tt) in
      subst (λ x. Beside x (exit_process (aside ks n es w r) k m partners reason ds)) (sym first)
      (subst (λ x. Beside (moved (record { slots = set w.slots k None }) (ds ++ exited m reason ∷ [])) x) (sym second)
      (ready_gone w k far r, gone_aside w k far r, refl, apart))

  stepped_beside : (w : World) (r : Ready ks n es w) (m k : ℕ) → IsElse n m → (At ≡ k → ⊥) → AllUnlinked w.slots → (o : Option (Option Process)) → slice_get w.slots k ≡ o
      → Beside (stepped_at ks w k m o) (stepped_at ks (aside ks n es w r) k m o)
  stepped_beside w r m k other far all None here = tt
  stepped_beside w r m k other far all (Some None) here = tt
  stepped_beside w r m k other far all (Some (Some q)) here =
      let next : next_pid (aside ks n es w r) ≡ next_pid w = ap (λ x. cond (nat_lt x 64) (Some (100 + x)) None) (slots_length w.slots At (λ _. r.after)) in
      subst (λ c. Beside (after_act w k m (act ks m (next_pid w) q)) (after_act (aside ks n es w r) k m (act ks m c q))) (sym next)
      (acted_beside w r m k other far (64 + length q.frames) q (act ks m (next_pid w) q) (act ks m (next_pid w) (grow [] q)) here (unlinked_at w.slots k q all here)
      (act_does m [] ks (next_pid w) (next_pid w) q none) (act_own (64 + length q.frames) (wide_of q) ks m (next_pid w) q (few_of q)))

  pub next_beside : (w : World) (r : Ready ks n es w) (m : ℕ) → (m ≡ n → ⊥) → AllUnlinked w.slots → Beside (next_of ks w m) (next_of ks (aside ks n es w r) m)
  next_beside w r m other all = go (nat_le 100 m) refl
    where
      go : (b : Bool) → nat_le 100 m ≡ b
          → Beside (cond b (stepped_at ks w (m - 100) m (slice_get w.slots (m - 100))) (idle w)) (cond b (stepped_at ks (aside ks n es w r) (m - 100) m (slice_get (aside ks n es w r).slots (m - 100))) (idle (aside ks n es w r)))
      go false e = tt
      go true e =
          let large : 100 ≤ m = big_if m e in
          let far : At ≡ m - 100 → ⊥ = far_if n m (big_if n big) large other in
          subst (λ o. Beside (stepped_at ks w (m - 100) m (slice_get w.slots (m - 100))) (stepped_at ks (aside ks n es w r) (m - 100) m o)) (sym (slot_other w.slots At (m - 100) (λ _. r.after) far))
          (stepped_beside w r m (m - 100) (large, other) far all (slice_get w.slots (m - 100)) refl)
