-- A message that is added to the lists by process.
use Rattle.std.proofs.Common.{◌≡◌, ◌∙◌, ℕ, ◌+◌, ◌-◌, ◌<◌, ◌≤◌, List, [], ◌∷◌, ◌++◌, length, replicate, get_or, map, Some, None, sym, ap, arith}
use Rattle.std.proofs.Math.ListN.{set}
use Rattle.std.proofs.lemmas.List.{append-nil, append_assoc, get_or-map, get_or_append_left, map-set, set-append_left, length-append, length-map, length-replicate, length-set, map_push, replicate_more, replicate-append-replicate}
use Rattle.std.specs.declared.sync.Arc.{Arc}
use Rattle.std.specs.declared.vec.Vec.{Vec}
use Rattle.def_term.specs.Tree.{Tree}
use Rattle.def_explore.specs.Rests.{each_process, all_pids}
use Rattle.tn_messages.specs.MessageViews.{message_place, trees_of_list, shared_lists, with_empty, AreByProcess}
use Rattle.tn_messages.specs.declared.shared_message.SharedMessage.{SharedMessage}
use Rattle.tn_messages.specs.declared.messages_by_process.MessagesByProcess.{MessagesByProcess}
use Rattle.tn_messages.proofs.Processes.{none_more, one_more}

pub none_added : {A : Type 0} (k : MessagesByProcess A) (m : Tree) (ms : List Tree) → message_place m ≡ None → AreByProcess k ms → AreByProcess k (ms ++ m ∷ [])
none_added k m ms nowhere h = h ∙ sym (none_more ms m nowhere)

-- ---- empty lists

-- the lists, and this many empty ones after them
abbrev pub followed : ℕ → List (List Tree) → List (List Tree)
followed k mss = mss ++ replicate k []

pub followed_by_none : (k : ℕ) (mss : List (List Tree)) → k ≡ 0 → mss ≡ followed k mss
followed_by_none k mss none = sym (ap (λ j. followed j mss) none ∙ append-nil mss)

module _ {X A : Type 0} (f : X → List Tree) where
  pub followed_by_more : (k more : ℕ) (mss : List (List Tree)) (before after : Vec X A) (last : X) → map f before.items ≡ followed k mss → f last ≡ [] → after.items ≡ before.items ++ last ∷ [] → more ≡ k + 1 → map f after.items ≡ followed more mss
  followed_by_more k more mss before after last was none longer next =
      ap (map f) longer ∙ map_push f before.items last ∙ ap (λ ms. map f before.items ++ ms ∷ []) none ∙ ap (λ xss. xss ++ [] ∷ []) was
      ∙ append_assoc mss (replicate {A = List Tree} k []) ([] ∷ []) ∙ ap (λ xss. mss ++ xss) (replicate_more {X = List Tree} k []) ∙ ap (λ j. followed j mss) (sym next)

  pub followed_long : (after before : Vec X A) (k : ℕ) → map f after.items ≡ followed k (map f before.items) → length after.items ≡ length before.items + k
  followed_long after before k is =
      sym (length-map after.items f) ∙ ap length is ∙ length-append (map f before.items) (replicate {A = List Tree} k [])
      ∙ (λ i. length-map before.items f i + length-replicate {A = List Tree} k [] i)

-- those up to fewer come first
pub padded_twice : (few n : ℕ) (mss : List (List Tree)) → few ≤ n → with_empty n (with_empty few mss) ≡ with_empty n mss
padded_twice few n mss fewer =
    let k = few - length mss in
    let long : length (with_empty few mss) ≡ length mss + k = length-append mss (replicate {A = List Tree} k []) ∙ ap (λ j. length mss + j) (length-replicate {A = List Tree} k []) in
    ap (λ j. with_empty few mss ++ replicate {A = List Tree} (n - j) []) long
    ∙ append_assoc mss (replicate {A = List Tree} k []) (replicate {A = List Tree} (n - (length mss + k)) [])
    ∙ ap (λ xss. mss ++ xss) (replicate-append-replicate {A = List Tree} k (n - (length mss + k)) [])
    ∙ ap (λ j. mss ++ replicate {A = List Tree} j []) (omega arith)

-- they stay where another list changes
padded_set : (n : ℕ) (mss : List (List Tree)) (i : ℕ) (ms : List Tree) → i < length mss → with_empty n (set mss i ms) ≡ set (with_empty n mss) i ms
padded_set n mss i ms within = ap (λ j. set mss i ms ++ replicate {A = List Tree} (n - j) []) (length-set mss i ms) ∙ sym (set-append_left mss (replicate {A = List Tree} (n - length mss) []) i ms within)

padded_long : (n : ℕ) (mss : List (List Tree)) → n ≤ length (with_empty n mss)
padded_long n mss = omega (arith, length-append mss (replicate {A = List Tree} (n - length mss) []), length-replicate {A = List Tree} (n - length mss) [])

-- ---- the list of a process

module _ {A : Type 0} (k : MessagesByProcess A) (full : Vec (Arc (Vec (SharedMessage A) A) A) A) (m : Tree) (i : ℕ) (ms : List Tree) (at : message_place m ≡ Some i) (filled : shared_lists full ≡ with_empty (i + 1) (shared_lists k.lists)) (h : AreByProcess k ms) where
  all : with_empty 64 (shared_lists full) ≡ each_process all_pids ms
  all = let below : i < 64 = (one_more ms m i at).0 in ap (with_empty 64) filled ∙ padded_twice (i + 1) 64 (shared_lists k.lists) (omega arith) ∙ h

  within : i < length (shared_lists full)
  within = let long : i + 1 ≤ length (with_empty (i + 1) (shared_lists k.lists)) = padded_long (i + 1) (shared_lists k.lists) in let same : length (shared_lists full) ≡ length (with_empty (i + 1) (shared_lists k.lists)) = ap length filled in omega arith

  pub one_added : (old new : Arc (Vec (SharedMessage A) A) A) (after : MessagesByProcess A) → old ≡ get_or full.items i old → trees_of_list new ≡ trees_of_list old ++ m ∷ [] → after.lists.items ≡ set full.items i new → AreByProcess after (ms ++ m ∷ [])
  one_added old new after was longer put =
      let inside : i < length full.items = let size : length (shared_lists full) ≡ length full.items = length-map full.items trees_of_list in let small : i < length (shared_lists full) = within in omega arith in
      let here : get_or (each_process all_pids ms) i [] ≡ trees_of_list old =
      ap (λ xs. get_or xs i []) (sym all) ∙ get_or_append_left (shared_lists full) (replicate {A = List Tree} (64 - length (shared_lists full)) []) [] i within
      ∙ get_or-map trees_of_list full.items i old [] inside ∙ ap trees_of_list (sym was) in
      let put_in : shared_lists after.lists ≡ set (shared_lists full) i (trees_of_list new) = ap (map trees_of_list) put ∙ map-set trees_of_list full.items i new in
      ap (with_empty 64) put_in ∙ padded_set 64 (shared_lists full) i (trees_of_list new) within ∙ ap (λ xs. set xs i (trees_of_list new)) all
      ∙ ap (set (each_process all_pids ms) i) (longer ∙ ap (λ xs. xs ++ m ∷ []) (sym here)) ∙ sym (one_more ms m i at).1
