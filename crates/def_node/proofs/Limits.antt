-- What keeps within the limits, and that no pid is used again.
use Rattle.std.proofs.Common.{◌≡◌, ℕ, zero, suc, ◌-◌, ◌<◌, ◌≤◌, Bool, true, false, cond, List, [], ◌∷◌, ◌++◌, length, map, slice_get, Option, Some, None, refl, ap, ◌∙◌, subst, arith}
use Rattle.std.proofs.Math.ListN.{set}
use Rattle.std.proofs.lemmas.List.{length-set, length-append, length-map}
use Rattle.std.specs.Prelude.{nat_le, ◌==◌}
use Rattle.std.specs.Option.{option_map}
use Rattle.def_term.specs.Tree.{Tree}
use Rattle.def_term.specs.Names.{word}
use Rattle.def_term.specs.Order.{same}
use Rattle.def_script.specs.Program.{Function, Entry}
use Rattle.def_node.specs.Event.{Event, linked, unlinked}
use Rattle.def_node.specs.Process.{Process, Act, waits, continues, sends, links_to, unlinks_from, spawns, exits, act}
use Rattle.def_node.specs.Node.{World, Move, moved, idle, with_slot, put_at, with_message, with_link, with_signal, part, partners_told, place_of_pid, delivered_to, linked_at, linked_to, unlinked_from, exit_process, fresh, start_process, after_act, stepped_at, next_of, next_pid, opening_world}
use Rattle.def_node.specs.Limits.{IsOwnAct, IsEntered, IsSmall, AllSmall, IsWithin, IsAfter, world_after}
use Rattle.def_node.proofs.Acts.{act_own}
use Rattle.def_node.proofs.OldestFrames.{StaysEntered, act_entered}
use Rattle.def_node.proofs.Steps.{pid_left}

-- what a step keeps: the limits, and the places that are given
abbrev Keeps : World → Move → Type 0
Keeps w m = IsWithin (world_after m) × IsAfter w.slots (world_after m).slots

pub small_at : (ss : List (Option Process)) (i : ℕ) (q : Process) → AllSmall ss → slice_get ss i ≡ Some (Some q) → IsSmall q
small_at [] i q all e = absurd (let k : None ≡ Some (Some q) = e in cc)
small_at (None ∷ ss) zero q all e = absurd (let k : Some None ≡ Some (Some q) = e in cc)
small_at (Some r ∷ ss) zero q all e = let k : r ≡ q = (let m : Some (Some r) ≡ Some (Some q) = e in cc) in
    subst IsSmall k all.0
small_at (None ∷ ss) (suc i) q all e = small_at ss i q all e
small_at (Some r ∷ ss) (suc i) q all e = small_at ss i q all.1 e

changed_small : (ss : List (Option Process)) (i : ℕ) (f : Process → Process) → ((q : Process) → IsSmall q → IsSmall (f q)) → AllSmall ss → AllSmall (with_slot ss i f)
changed_small [] i f h all = tt
changed_small (None ∷ ss) zero f h all = all
changed_small (Some q ∷ ss) zero f h all = (h q all.0, all.1)
changed_small (None ∷ ss) (suc i) f h all = changed_small ss i f h all
changed_small (Some q ∷ ss) (suc i) f h all = (all.0, changed_small ss i f h all.1)

after_self : (ss : List (Option Process)) → IsAfter ss ss
after_self [] = tt
after_self (None ∷ ss) = (refl, after_self ss)
after_self (Some q ∷ ss) = after_self ss

changed_after : (ss vs : List (Option Process)) (i : ℕ) (f : Process → Process) → IsAfter ss vs → IsAfter ss (with_slot vs i f)
changed_after [] vs i f h = tt
changed_after (s ∷ ss) [] i f h = h
changed_after (None ∷ ss) (v ∷ vs) zero f h = (ap (option_map f) h.0, h.1)
changed_after (Some q ∷ ss) (v ∷ vs) zero f h = h
changed_after (None ∷ ss) (v ∷ vs) (suc i) f h = (h.0, changed_after ss vs i f h.1)
changed_after (Some q ∷ ss) (v ∷ vs) (suc i) f h = changed_after ss vs i f h

changed_length : (ss : List (Option Process)) (i : ℕ) (f : Process → Process) → length (with_slot ss i f) ≡ length ss
changed_length [] i f = refl
changed_length (s ∷ ss) zero f = refl
changed_length (s ∷ ss) (suc i) f = omega (arith, changed_length ss i f)

-- a change of one process keeps what was kept
change_keeps : (w : World) (vs : List (Option Process)) (i : ℕ) (f : Process → Process) (es : List Event) → ((q : Process) → IsSmall q → IsSmall (f q))
    → Keeps w (moved (record { slots = vs }) es) → Keeps w (moved (record { slots = with_slot vs i f }) es)
change_keeps w vs i f es h k = ((let a = k.0.0 in omega (arith, a, changed_length vs i f), changed_small vs i f h k.0.1), changed_after w.slots vs i f k.1)

pub own_small : (q r : Process) → r.links ≡ q.links → length r.frames ≤ 64 → IsEntered r.frames → IsSmall q → IsSmall r
own_small q r ls few entered small = (few, ap length ls ∙ small.1, entered)

message_small : (t : Tree) (q : Process) → IsSmall q → IsSmall (with_message t q)
message_small t q s = s

link_small : (m : ℕ) (b : Bool) (q : Process) → IsSmall q → IsSmall (with_link m b q)
link_small m b q s = (s.0, length-set q.links (m - 100) b ∙ s.1, s.2)

signal_small : (r : Tree) (q : Process) → IsSmall q → IsSmall (with_signal r q)
signal_small r q s = s

if_small : (b : Bool) (p q : Process) → IsSmall p → IsSmall q → IsSmall (cond b p q)
if_small true p q x y = x
if_small false p q x y = y

parted_small : (n : ℕ) (r : Tree) (q : Process) → IsSmall q → IsSmall (part n r q)
parted_small n r q s = if_small (same r (word "normal")) (with_link n false q) (with_signal r (with_link n false q)) (link_small n false q s) (link_small n false q s)

if_keeps : (w : World) (b : Bool) (a c : Move) → Keeps w a → Keeps w c → Keeps w (cond b a c)
if_keeps w true a c p q = p
if_keeps w false a c p q = q

put_keeps : (w : World) (i : ℕ) (q : Process) (es : List Event) → IsWithin w → IsSmall q → Keeps w (moved (put_at w i q) es)
put_keeps w i q es in_w s = change_keeps w w.slots i (λ x. q) es (λ x y. s) (in_w, after_self w.slots)

delivered_keeps : (w : World) (vs : List (Option Process)) (n m : ℕ) (t : Tree) (o : Option ℕ) → Keeps w (idle (record { slots = vs })) → Keeps w (delivered_to (record { slots = vs }) n m t o)
delivered_keeps w vs n m t None k = k
delivered_keeps w vs n m t (Some i) k = change_keeps w vs i (with_message t) [] (message_small t) k

linked_keeps : (w : World) (vs : List (Option Process)) (i n m : ℕ) (o : Option ℕ) → Keeps w (idle (record { slots = vs })) → Keeps w (linked_to (record { slots = vs }) i n m o)
linked_keeps w vs i n m None k = change_keeps w vs i (with_signal (word "noproc")) [] (signal_small (word "noproc")) k
linked_keeps w vs i n m (Some j) k = change_keeps w (with_slot vs i (with_link m true)) j (with_link n true) [] (link_small n true) (change_keeps w vs i (with_link m true) [] (link_small m true) k)

unlinked_keeps : (w : World) (vs : List (Option Process)) (i n m : ℕ) (o : Option ℕ) → Keeps w (idle (record { slots = vs })) → Keeps w (unlinked_from (record { slots = vs }) i n m o)
unlinked_keeps w vs i n m None k = change_keeps w vs i (with_link m false) [] (link_small m false) k
unlinked_keeps w vs i n m (Some j) k = change_keeps w (with_slot vs i (with_link m false)) j (with_link n false) [] (link_small n false) (change_keeps w vs i (with_link m false) [] (link_small m false) k)

-- an emptied place
empty_small : (ss : List (Option Process)) (i : ℕ) → AllSmall ss → AllSmall (set ss i None)
empty_small [] i all = tt
empty_small (None ∷ ss) zero all = all
empty_small (Some q ∷ ss) zero all = all.1
empty_small (None ∷ ss) (suc i) all = empty_small ss i all
empty_small (Some q ∷ ss) (suc i) all = (all.0, empty_small ss i all.1)

empty_after : (ss vs : List (Option Process)) (i : ℕ) → IsAfter ss vs → IsAfter ss (set vs i None)
empty_after [] vs i h = tt
empty_after (s ∷ ss) [] i h = h
empty_after (None ∷ ss) (v ∷ vs) zero h = (refl, h.1)
empty_after (Some q ∷ ss) (v ∷ vs) zero h = h
empty_after (None ∷ ss) (v ∷ vs) (suc i) h = (h.0, empty_after ss vs i h.1)
empty_after (Some q ∷ ss) (v ∷ vs) (suc i) h = empty_after ss vs i h

-- the partners told
told_slot_small : (n : ℕ) (r : Tree) (b : Bool) (s : Option Process) (ss : List (Option Process)) → AllSmall (s ∷ ss) → (vs : List (Option Process)) → AllSmall vs → AllSmall (cond b (option_map (part n r) s) s ∷ vs)
told_slot_small n r true None ss all vs rest = rest
told_slot_small n r false None ss all vs rest = rest
told_slot_small n r true (Some q) ss all vs rest = (parted_small n r q all.0, rest)
told_slot_small n r false (Some q) ss all vs rest = (all.0, rest)

tail_small : (s : Option Process) (ss : List (Option Process)) → AllSmall (s ∷ ss) → AllSmall ss
tail_small None ss all = all
tail_small (Some q) ss all = all.1

told_small : (n : ℕ) (r : Tree) (bs : List Bool) (ss : List (Option Process)) → AllSmall ss → AllSmall (partners_told n r bs ss)
told_small n r [] ss all = all
told_small n r (b ∷ bs) [] all = tt
told_small n r (b ∷ bs) (s ∷ ss) all = told_slot_small n r b s ss all (partners_told n r bs ss) (told_small n r bs ss (tail_small s ss all))

told_length : (n : ℕ) (r : Tree) (bs : List Bool) (ss : List (Option Process)) → length (partners_told n r bs ss) ≡ length ss
told_length n r [] ss = refl
told_length n r (b ∷ bs) [] = refl
told_length n r (b ∷ bs) (s ∷ ss) = omega (arith, told_length n r bs ss)

none_told : (n : ℕ) (r : Tree) (b : Bool) (v : Option Process) → v ≡ None → cond b (option_map (part n r) v) v ≡ None
none_told n r true v e = ap (option_map (part n r)) e
none_told n r false v e = e

told_after : (n : ℕ) (r : Tree) (bs : List Bool) (ss vs : List (Option Process)) → IsAfter ss vs → IsAfter ss (partners_told n r bs vs)
told_after n r [] ss vs h = h
told_after n r (b ∷ bs) [] vs h = tt
told_after n r (b ∷ bs) (s ∷ ss) [] h = h
told_after n r (b ∷ bs) (None ∷ ss) (v ∷ vs) h = (none_told n r b v h.0, told_after n r bs ss vs h.1)
told_after n r (b ∷ bs) (Some q ∷ ss) (v ∷ vs) h = told_after n r bs ss vs h

ended_keeps : (w : World) (i n : ℕ) (partners : List Bool) (r : Tree) (before : List Event) → IsWithin w → Keeps w (exit_process w i n partners r before)
ended_keeps w i n partners r before in_w =
    let vs = set w.slots i None in
    let few = in_w.0 in (
      (omega (arith, few, told_length n r partners vs, length-set w.slots i None), told_small n r partners vs (empty_small w.slots i in_w.1)),
      told_after n r partners w.slots vs (empty_after w.slots w.slots i (after_self w.slots)),
    )

-- one more process
more_small : (ss : List (Option Process)) (q : Process) → AllSmall ss → IsSmall q → AllSmall (ss ++ Some q ∷ [])
more_small [] q all s = (s, tt)
more_small (None ∷ ss) q all s = more_small ss q all s
more_small (Some p ∷ ss) q all s = (all.0, more_small ss q all.1 s)

more_after : (ss vs : List (Option Process)) (q : Process) → IsAfter ss vs → IsAfter ss (vs ++ Some q ∷ [])
more_after [] vs q h = tt
more_after (s ∷ ss) [] q h = absurd h
more_after (None ∷ ss) (v ∷ vs) q h = (h.0, more_after ss vs q h.1)
more_after (Some p ∷ ss) (v ∷ vs) q h = more_after ss vs q h

fresh_small : (e : Entry) → IsSmall (fresh e)
fresh_small e = (omega arith, refl, tt)

started_keeps : (w : World) (vs : List (Option Process)) (n child : ℕ) (e : Entry) → length vs < 64 → Keeps w (idle (record { slots = vs })) → Keeps w (start_process (record { slots = vs }) n child e)
started_keeps w vs n child e room k =
    ((simp length-append (omega (arith, room)), more_small vs (fresh e) k.0.1 (fresh_small e)), more_after w.slots vs (fresh e) k.1)

acted_keeps : (w : World) (i n : ℕ) (q : Process) (child : Option ℕ) (a : Act) → IsWithin w → IsSmall q → ((c : ℕ) → child ≡ Some c → length w.slots < 64) → IsOwnAct 64 q.links child a → StaysEntered a → Keeps w (after_act w i n a)
acted_keeps w i n q child (waits r) in_w s room own entered = put_keeps w i r [] in_w (own_small q r own.0 own.1 entered s)
acted_keeps w i n q child (continues r e) in_w s room own entered = put_keeps w i r [] in_w (own_small q r own.0 own.1 entered s)
acted_keeps w i n q child (sends r m t) in_w s room own entered =
    let v = put_at w i r in
    delivered_keeps w v.slots n m t (place_of_pid v m) (put_keeps w i r [] in_w (own_small q r own.0 own.1 entered s))
acted_keeps w i n q child (links_to r m) in_w s room own entered =
    let v = put_at w i r in
    let k = put_keeps w i r [] in_w (own_small q r own.0 own.1 entered s) in
    if_keeps w (n == m) (moved v []) _ k (if_keeps w (linked_at v i m) (moved v (linked n m ∷ [])) _ k (linked_keeps w v.slots i n m (place_of_pid v m) k))
acted_keeps w i n q child (unlinks_from r m) in_w s room own entered =
    let v = put_at w i r in
    let k = put_keeps w i r [] in_w (own_small q r own.0 own.1 entered s) in
    if_keeps w (n == m) (moved v []) _ k (if_keeps w (linked_at v i m) _ (moved v (unlinked n m ∷ [])) (unlinked_keeps w v.slots i n m (place_of_pid v m) k) k)
acted_keeps w i n q child (spawns r c e) in_w s room own entered =
    let v = put_at w i r in
    let few = room c own.1 in
    started_keeps w v.slots n c e (omega (arith, few, changed_length w.slots i (λ x. r))) (put_keeps w i r [] in_w (own_small q r own.0.0 own.0.1 entered s))
acted_keeps w i n q child (exits partners r before) in_w s room own entered = ended_keeps w i n partners r before in_w

stepped_keeps : (ks : List Function) (w : World) (i n : ℕ) (o : Option (Option Process)) → IsWithin w → slice_get w.slots i ≡ o → Keeps w (stepped_at ks w i n o)
stepped_keeps ks w i n None in_w here = (in_w, after_self w.slots)
stepped_keeps ks w i n (Some None) in_w here = (in_w, after_self w.slots)
stepped_keeps ks w i n (Some (Some q)) in_w here =
    let s = small_at w.slots i q in_w.1 here in
    acted_keeps w i n q (next_pid w) (act ks n (next_pid w) q) in_w s (pid_left w) (act_own 64 (omega arith) ks n (next_pid w) q s.0) (act_entered ks n (next_pid w) q s.2)

pub next_keeps : (ks : List Function) (w : World) (n : ℕ) → IsWithin w → IsWithin (world_after (next_of ks w n)) × IsAfter w.slots (world_after (next_of ks w n)).slots
next_keeps ks w n in_w =
    if_keeps w (nat_le 100 n) _ (idle w) (stepped_keeps ks w (n - 100) n (slice_get w.slots (n - 100)) in_w refl) (in_w, after_self w.slots)

opening_small : (es : List Entry) → AllSmall (map (λ e. Some (fresh e)) es)
opening_small [] = tt
opening_small (e ∷ es) = (fresh_small e, opening_small es)

pub opening_within : (es : List Entry) → length es ≤ 64 → IsWithin (opening_world es)
opening_within es few = (simp length-map few, opening_small es)

pub put_within : (w : World) (i : ℕ) (q : Process) → IsWithin w → IsSmall q → IsWithin (put_at w i q)
put_within w i q in_w s = (put_keeps w i q [] in_w s).0
