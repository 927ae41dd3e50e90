-- Equality of what is kept.
use Rattle.std.proofs.Common.{◌≡◌, ◌∙◌, Bool, true, false, List, [], ◌∷◌, map, refl, sym, ap}
use Rattle.std.specs.Prelude.{◌&&◌, ◌↔◌, IsTrue}
use Rattle.std.specs.Cmp.Lexicographic.{pointwise}
use Rattle.std.specs.Arc.{arc_value}
use Rattle.std.specs.declared.sync.Arc.{Arc}
use Rattle.std.specs.declared.vec.Vec.{Vec}
use Rattle.def_term.proofs.Same.{same-is, same-self}
use Rattle.def_term.specs.Order.{same}
use Rattle.def_explore.specs.Rests.{kept_messages, kept_by_process}
use Rattle.tn_messages.specs.MessageViews.{message_tree, same_message, trees_seen, lists_seen, trees_of_list, shared_lists, kept_seen}
use Rattle.tn_messages.specs.declared.shared_message.SharedMessage.{SharedMessage}
use Rattle.tn_messages.specs.declared.kept_listings.KeptListings.{KeptListings}
use Rattle.tn_messages.specs.declared.kept_listings.KeptListings.TheVariants.{Total, ByProcess}

-- a test of elements says when what they stand for is the same
pub record IsTestOf {X Y : Type 0} (test : X → X → Bool) (f : X → Y) : Type 0 where
  pub same : (x y : X) → test x y ≡ true → f x ≡ f y
  pub holds : (x y : X) → f x ≡ f y → test x y ≡ true

both_true : (b d : Bool) → (b && d) ≡ true → (b ≡ true) × (d ≡ true)
both_true true d h = (refl, h)
both_true false d h = cc

each_same : {X Y : Type 0} (test : X → X → Bool) (f : X → Y) → IsTestOf test f → (xs ys : List X) → pointwise test xs ys ≡ true → map f xs ≡ map f ys
each_same test f is [] [] h = refl
each_same test f is [] (y ∷ ys) h = cc
each_same test f is (x ∷ xs) [] h = cc
each_same test f is (x ∷ xs) (y ∷ ys) h = let b = both_true (test x y) (pointwise test xs ys) h in λ i. is.same x y b.0 i ∷ each_same test f is xs ys b.1 i

each_holds : {X Y : Type 0} (test : X → X → Bool) (f : X → Y) → IsTestOf test f → (xs ys : List X) → map f xs ≡ map f ys → pointwise test xs ys ≡ true
each_holds test f is [] [] h = refl
each_holds test f is [] (y ∷ ys) h = cc
each_holds test f is (x ∷ xs) [] h = cc
each_holds test f is (x ∷ xs) (y ∷ ys) h =
    let first : f x ≡ f y = cc in
    let rest : map f xs ≡ map f ys = cc in
    ap (λ b. b && pointwise test xs ys) (is.holds x y first) ∙ each_holds test f is xs ys rest

pub lists_test : {X Y A : Type 0} (test : X → X → Bool) (f : X → Y) → IsTestOf test f → IsTestOf (λ (v w : Vec X A). pointwise test v.items w.items) (λ v. map f v.items)
lists_test test f is = record { same = λ v w h. each_same test f is v.items w.items h; holds = λ v w h. each_holds test f is v.items w.items h }

message_test : {A : Type 0} → IsTestOf (same_message {A = A}) message_tree
message_test = record { same = λ m n h. same-is (message_tree m) (message_tree n) h; holds = λ m n h. ap (same (message_tree m)) (sym h) ∙ same-self (message_tree m) }

-- what a test answers
pub test_is : {X Y : Type 0} (test : X → X → Bool) (f : X → Y) → IsTestOf test f → (x y : X) (b : Bool) → b ≡ test x y → IsTrue b ↔ (f x ≡ f y)
test_is test f is x y b says = (λ h. is.same x y (sym says ∙ h), λ e. says ∙ is.holds x y e)

-- ---- of sessions

module _ {A : Type 0} where
  pub trees_test : IsTestOf (λ (v w : Vec (SharedMessage A) A). pointwise same_message v.items w.items) trees_seen
  trees_test = lists_test same_message message_tree message_test

  pub processes_test : IsTestOf (λ (v w : Vec (Vec (SharedMessage A) A) A). pointwise (λ x y. pointwise same_message x.items y.items) v.items w.items) lists_seen
  processes_test = lists_test (λ (x y : Vec (SharedMessage A) A). pointwise same_message x.items y.items) trees_seen trees_test

  pub shared_test : IsTestOf (λ (v w : Vec (Arc (Vec (SharedMessage A) A) A) A). pointwise (λ (x y : Arc (Vec (SharedMessage A) A) A). pointwise same_message (arc_value x).items (arc_value y).items) v.items w.items) shared_lists
  shared_test = lists_test (λ (x y : Arc (Vec (SharedMessage A) A) A). pointwise same_message (arc_value x).items (arc_value y).items) trees_of_list
      (record { same = λ x y. trees_test.same (arc_value x) (arc_value y); holds = λ x y. trees_test.holds (arc_value x) (arc_value y) })

  module _ (test : KeptListings A → KeptListings A → Bool)
      (total : (v w : Vec (Vec (SharedMessage A) A) A) → test (Total v) (Total w) ≡ pointwise (λ x y. pointwise same_message x.items y.items) v.items w.items)
      (process : (v w : Vec (Vec (Vec (SharedMessage A) A) A) A) → test (ByProcess v) (ByProcess w) ≡ pointwise (λ x y. pointwise (λ a b. pointwise same_message a.items b.items) x.items y.items) v.items w.items)
      (neither : (v : Vec (Vec (SharedMessage A) A) A) (w : Vec (Vec (Vec (SharedMessage A) A) A) A) → (test (Total v) (ByProcess w) ≡ false) × (test (ByProcess w) (Total v) ≡ false)) where
    no_way : (b : Bool) → b ≡ false → b ≡ true → ⊥
    no_way b e f = cc

    pub says_same : (m n : KeptListings A) → test m n ≡ true → kept_seen m ≡ kept_seen n
    says_same (Total v) (Total w) h = ap kept_messages (each_same (λ (x y : Vec (SharedMessage A) A). pointwise same_message x.items y.items) trees_seen trees_test v.items w.items (sym (total v w) ∙ h))
    says_same (ByProcess v) (ByProcess w) h = ap kept_by_process (each_same (λ (x y : Vec (Vec (SharedMessage A) A) A). pointwise (λ a b. pointwise same_message a.items b.items) x.items y.items) lists_seen processes_test v.items w.items (sym (process v w) ∙ h))
    says_same (Total v) (ByProcess w) h = absurd (no_way (test (Total v) (ByProcess w)) (neither v w).0 h)
    says_same (ByProcess v) (Total w) h = absurd (no_way (test (ByProcess v) (Total w)) (neither w v).1 h)

    pub same_says : (m n : KeptListings A) → kept_seen m ≡ kept_seen n → test m n ≡ true
    same_says (Total v) (Total w) h =
        let same : map trees_seen v.items ≡ map trees_seen w.items = cc in
        total v w ∙ each_holds (λ (x y : Vec (SharedMessage A) A). pointwise same_message x.items y.items) trees_seen trees_test v.items w.items same
    same_says (ByProcess v) (ByProcess w) h =
        let same : map lists_seen v.items ≡ map lists_seen w.items = cc in
        process v w ∙ each_holds (λ (x y : Vec (Vec (SharedMessage A) A) A). pointwise (λ a b. pointwise same_message a.items b.items) x.items y.items) lists_seen processes_test v.items w.items same
    same_says (Total v) (ByProcess w) h = cc
    same_says (ByProcess v) (Total w) h = cc

    pub by_kept : (m n : KeptListings A) → (test m n ≡ true → kept_seen m ≡ kept_seen n) × (kept_seen m ≡ kept_seen n → test m n ≡ true)
    by_kept m n = (says_same m n, same_says m n)
