-- What workers did, as a report.
use Rattle.std.proofs.Common.{◌≡◌, ◌≢◌, ℕ, zero, suc, ◌+◌, ◌*◌, ◌≤◌, List, [], ◌∷◌, ◌++◌, length, take, drop, vec_len, slice_index_or, All, Option, Some, None, IfSome, IsSome, is_some, sym, refl, ap, ap₂, ◌∙◌, subst, arith, append_assoc, length-append}
use Rattle.std.specs.Option.{option_to_list}
use Rattle.std.proofs.lemmas.List.{append-nil, take_all, map-append}
use Rattle.std.proofs.lemmas.List.Elements.{All-append}
use Rattle.def_script.specs.Program.{Program}
use Rattle.tn_live.specs.declared.entry.Receipt.{Receipt}
use Rattle.tn_live.specs.States.{SeatState}
use Rattle.tn_pool.specs.declared.report.PoolFault.{PoolFault}
use Rattle.tn_pool.specs.declared.report.Report.{Report}
use Rattle.tn_pool.specs.declared.worker.Worker.{Worker}
use Rattle.tn_pool.specs.Earnings.{Works, WorksFew}
use Rattle.tn_pool.specs.Endings.{IsNoFullJournal, IsReady, IsAccounted, first_fault}
use Rattle.tn_pool.specs.Reports.{Member, seats_of, receipts_of, member_tokens, member_fault, member_count, IsNew, AreNew, HasWorked, WorksAt, EachWorks, IsNothingDone, Reports, TellsEndings}
use Rattle.tn_pool.proofs.SeatReceipts.{works-still}
use Rattle.tn_pool.proofs.WorkerEnds.{first_of_three, some_first, some_later, both_real}

-- ---- ends that hold nothing

all-front : {X : Type 0} (P : X → Type 0) (xs ys : List X) → All P (xs ++ ys) → All P xs
all-front P [] ys h k d lt = absurd (omega arith)
all-front P (x ∷ xs) ys h zero d lt = h zero d (omega arith)
all-front P (x ∷ xs) ys h (suc k) d lt = all-front P xs ys (λ j e less. h (suc j) e (omega arith)) k d (omega arith)

all-last : {X : Type 0} (P : X → Type 0) (xs : List X) (x : X) → All P (xs ++ x ∷ []) → P x
all-last P [] x h = h zero x (omega arith)
all-last P (y ∷ xs) x h = all-last P xs x (λ j e less. h (suc j) e (omega arith))

-- one end is taken from after
pub unused_still : (old new : List (List ℕ)) (end : List ℕ) → old ≡ new ++ end ∷ [] → All (λ view. view ≡ []) old → All (λ view. view ≡ []) new
unused_still old new end e h = all-front (λ view. view ≡ []) new (end ∷ []) (subst (λ views. All (λ view. view ≡ []) views) e h)

pub unused_last : (old new : List (List ℕ)) (end : List ℕ) → old ≡ new ++ end ∷ [] → All (λ view. view ≡ []) old → end ≡ []
unused_last old new end e h = all-last (λ view. view ≡ []) new end (subst (λ views. All (λ view. view ≡ []) views) e h)

-- ---- one more token, one more fault

one-more : (k : Option ℕ) (xs : List ℕ) (n : ℕ) → length xs ≤ n → length (option_to_list k ++ xs) ≤ n + 1
one-more None xs n h = omega arith
one-more (Some x) xs n h = omega arith

faulted-more : (k : Option ℕ) (xs : List ℕ) (a b : Option PoolFault) → (IsSome k → IsSome a) → (xs ≢ [] → IsSome b) → option_to_list k ++ xs ≢ [] → IsSome (first_fault a b)
faulted-more None xs a b f g has = some_later a b (g has)
faulted-more (Some x) xs a b f g has = some_first a b (f refl)

first-none : (a : Option PoolFault) → first_fault a None ≡ a
first-none None = refl
first-none (Some fault) = refl

module _ {A J : Type 0} where
  pub receipts-append : (ms ns : List (Member A J)) → receipts_of (ms ++ ns) ≡ receipts_of ms ++ receipts_of ns
  receipts-append [] ns = refl
  receipts-append (m ∷ ms) ns = ap (λ l. m.1.receipts.items ++ l) (receipts-append ms ns) ∙ sym (append_assoc m.1.receipts.items (receipts_of ms) (receipts_of ns))

  -- one more seat has its end
  pub packed : (ms ns : List (Member A J)) (m : Member A J) (seat : SeatState) (rest rest1 all : List SeatState) → seats_of ms ++ rest ≡ all → ns ≡ ms ++ m ∷ [] → m.1.seat ≡ seat → rest ≡ seat ∷ rest1 → seats_of ns ++ rest1 ≡ all
  packed ms ns m seat rest rest1 all was e s r =
      rw (e, map-append (λ (k : Member A J). k.1.seat) ms (m ∷ [])) (append_assoc (seats_of ms) (m.1.seat ∷ []) rest1 ∙ (ap (λ y. seats_of ms ++ y ∷ rest1) s ∙ (ap (λ l. seats_of ms ++ l) (sym r) ∙ was)))

  one-new : (m : Member A J) → IsNew m → AreNew (m ∷ [])
  one-new m s zero d lt = s
  one-new m s (suc k) d lt = absurd (omega arith)

  pub all_new : (ms ns : List (Member A J)) (m : Member A J) → AreNew ms → ns ≡ ms ++ m ∷ [] → IsNew m → AreNew ns
  all_new ms ns m h e s = rw e (All-append (λ (k : Member A J). IsNew k) ms (m ∷ []) h (one-new m s))

  -- the receipts of a worker that had none
  earned-all : (p : Program) (most : ℕ) (m n : Member A J) → IsNew m → WorksFew p most m.1 n.1 → Works p m.1.seat n.1.seat n.1.receipts.items × (vec_len n.1.receipts ≤ most)
  earned-all p most m n new w =
      let all : n.1.receipts.items ≡ w.works.more = w.works.receipts ∙ ap (λ l. l ++ w.works.more) new.0 in
      (rw all w.works.works, omega (arith, w.few, new.1))

  pub reports : (p : Program) (most : ℕ) (ms ns : List (Member A J)) → AreNew ms → length ns ≡ length ms → EachWorks p most ms ns → Reports p (seats_of ms) (seats_of ns) (receipts_of ns) × (member_count ns ≤ length ms * most)
  reports p most [] [] new l each = ((refl, refl), omega arith)
  reports p most [] (n ∷ ns) new l each = absurd (omega (arith, l))
  reports p most (m ∷ ms) [] new l each = absurd (omega (arith, l))
  reports p most (m ∷ ms) (n ∷ ns) new l each =
      let first = earned-all p most m n (new 0 m (omega arith)) (each 0 m (omega arith)).works in
      let others = reports p most ms ns (λ k d lt. new (suc k) d (omega arith)) (omega (arith, l)) (λ i d lt. each (suc i) d (omega arith)) in (
        (n.1.seat, seats_of ns, n.1.receipts.items, receipts_of ns, refl, refl, first.0, others.0),
        omega (arith, first.1, others.1),
      )

  -- a worker that has just its end
  pub ready_at : (held : List ℕ) (w : Worker A J) → held ≡ [] → IsReady [] w → IsReady held w
  ready_at held w none r = record { holds_none = none; keeps_none = r.keeps_none; unfailed = r.unfailed }

  -- ---- tokens and faults

  receipts_length : (ms : List (Member A J)) → length (receipts_of ms) ≡ member_count ms
  receipts_length [] = refl
  receipts_length (m ∷ ms) = length-append m.1.receipts.items (receipts_of ms) ∙ ap₂ (λ x y. x + y) (sym m.1.receipts.ok.0) (receipts_length ms)

  -- what is told of the tokens and the fault of these workers
  abbrev AreTold : List (Member A J) → Type 0
  AreTold ms = (length (member_tokens ms) ≤ length ms) × (member_tokens ms ≢ [] → IsSome (member_fault ms)) × IfSome (member_fault ms) IsNoFullJournal

  told_more : (m : Member A J) (ms : List (Member A J)) → IsAccounted m.0 m.1 → AreTold ms → AreTold (m ∷ ms)
  told_more m ms first others = (
    omega (arith, one-more m.1.kept (member_tokens ms) (length ms) others.0),
    faulted-more m.1.kept (member_tokens ms) m.1.fault (member_fault ms) first.faulted others.1,
    both_real m.1.fault (member_fault ms) first.real others.2,
  )

  ends_told : (p : Program) (most : ℕ) (ms ns : List (Member A J)) → AreNew ms → length ns ≡ length ms → EachWorks p most ms ns → AreTold ns
  ends_told p most [] [] new l each = (omega arith, λ has. absurd (has refl), tt)
  ends_told p most [] (n ∷ ns) new l each = absurd (omega (arith, l))
  ends_told p most (m ∷ ms) [] new l each = absurd (omega (arith, l))
  ends_told p most (m ∷ ms) (n ∷ ns) new l each =
      told_more n ns ((each 0 m (omega arith)).accounted (new 0 m (omega arith)).2)
      (ends_told p most ms ns (λ k d lt. new (suc k) d (omega arith)) (omega (arith, l)) (λ i d lt. each (suc i) d (omega arith)))

  -- one more worker is in the report
  pub seats_on : (old new : List SeatState) (m : Member A J) (rest rest1 : List (Member A J)) (all : List SeatState) → old ++ seats_of rest ≡ all → rest ≡ m ∷ rest1 → new ≡ old ++ m.1.seat ∷ [] → new ++ seats_of rest1 ≡ all
  seats_on old new m rest rest1 all was e adds =
      ap (λ l. l ++ seats_of rest1) adds ∙ (append_assoc old (m.1.seat ∷ []) (seats_of rest1) ∙ (ap (λ l. old ++ seats_of l) (sym e) ∙ was))

  pub receipts_on : (old new : List (Receipt A)) (m : Member A J) (rest rest1 : List (Member A J)) (all : List (Receipt A)) → old ++ receipts_of rest ≡ all → rest ≡ m ∷ rest1 → new ≡ old ++ m.1.receipts.items → new ++ receipts_of rest1 ≡ all
  receipts_on old new m rest rest1 all was e adds =
      ap (λ l. l ++ receipts_of rest1) adds ∙ (append_assoc old m.1.receipts.items (receipts_of rest1) ∙ (ap (λ l. old ++ receipts_of l) (sym e) ∙ was))

  pub seats_all : (old all : List SeatState) (rest : List (Member A J)) → rest ≡ [] → old ++ seats_of rest ≡ all → old ≡ all
  seats_all old all rest e was = sym (append-nil old) ∙ (ap (λ l. old ++ seats_of l) (sym e) ∙ was)

  pub tokens_on : (old new : List ℕ) (m : Member A J) (rest rest1 : List (Member A J)) (all : List ℕ) → old ++ member_tokens rest ≡ all → rest ≡ m ∷ rest1 → new ≡ old ++ option_to_list m.1.kept → new ++ member_tokens rest1 ≡ all
  tokens_on old new m rest rest1 all was e adds =
      ap (λ l. l ++ member_tokens rest1) adds ∙ (append_assoc old (option_to_list m.1.kept) (member_tokens rest1) ∙ (ap (λ l. old ++ member_tokens l) (sym e) ∙ was))

  pub tokens_all : (old all : List ℕ) (rest : List (Member A J)) → rest ≡ [] → old ++ member_tokens rest ≡ all → old ≡ all
  tokens_all old all rest e was = sym (append-nil old) ∙ (ap (λ l. old ++ member_tokens l) (sym e) ∙ was)

  pub fault_on : (old new : Option PoolFault) (m : Member A J) (rest rest1 : List (Member A J)) (all : Option PoolFault) → first_fault old (member_fault rest) ≡ all → rest ≡ m ∷ rest1 → new ≡ first_fault old m.1.fault
      → first_fault new (member_fault rest1) ≡ all
  fault_on old new m rest rest1 all was e adds =
      ap (λ f. first_fault f (member_fault rest1)) adds ∙ (first_of_three old m.1.fault (member_fault rest1) ∙ (ap (λ l. first_fault old (member_fault l)) (sym e) ∙ was))

  pub fault_all : (old all : Option PoolFault) (rest : List (Member A J)) → rest ≡ [] → first_fault old (member_fault rest) ≡ all → old ≡ all
  fault_all old all rest e was = sym (first-none old) ∙ (ap (λ l. first_fault old (member_fault l)) (sym e) ∙ was)

  -- the report of no worker has none
  pub none_yet : (fault : Option PoolFault) (all : List (Member A J)) → fault ≡ None → first_fault fault (member_fault all) ≡ member_fault all
  none_yet fault all e = ap (λ f. first_fault f (member_fault all)) e

  pub receipts_all : (old all : List (Receipt A)) (rest : List (Member A J)) → rest ≡ [] → old ++ receipts_of rest ≡ all → old ≡ all
  receipts_all old all rest e was = sym (append-nil old) ∙ (ap (λ l. old ++ receipts_of l) (sym e) ∙ was)

-- where no turn was taken
pub none_taken : (A : Type 0) (p : Program) (seats : List SeatState) → Reports {A = A} p seats seats []
none_taken A p [] = (refl, refl)
none_taken A p (s ∷ seats) = (s, seats, [], [], refl, refl, works-still A p s s refl, none_taken A p seats)

pub nothing_left : {A : Type 0} (xs : List A) → length xs ≡ 0 → xs ≡ []
nothing_left [] none = refl
nothing_left (x ∷ xs) none = absurd (omega arith)

drop-past : {A : Type 0} (n : ℕ) (ys : List A) → length ys ≤ n → drop n ys ≡ []
drop-past zero [] le = refl
drop-past (suc n) [] le = refl
drop-past zero (y ∷ ys) le = absurd (omega arith)
drop-past (suc n) (y ∷ ys) le = drop-past n ys (omega arith)

-- what a whole vector is after a write of all of it
pub whole : {A : Type 0} (n : ℕ) (xs ys : List A) → length xs ≡ length ys → n ≡ length ys → take n (xs ++ drop (length xs) ys) ≡ xs
whole n xs ys l m =
    ap (λ w. take n (xs ++ w)) (drop-past (length xs) ys (omega (arith, l))) ∙ (ap (λ w. take n w) (append-nil xs) ∙ take_all n xs (omega (arith, l, m)))

module _ {A J : Type 0} where
  -- the report of a run over a whole vector of workers
  pub run_reports : (p : Program) (most n : ℕ) (ws0 ws vs : List (Member A J)) (seats back : List SeatState) (receipts : List (Receipt A)) → seats_of ws0 ≡ seats → AreNew ws0 → ws ≡ ws0 → length vs ≡ length ws → EachWorks p most ws vs → n ≡ length ws0 → back ≡ seats_of (take n (vs ++ drop (length vs) ws0))
      → receipts ≡ receipts_of (take n (vs ++ drop (length vs) ws0))
      → Reports p seats back receipts
  run_reports p most n ws0 ws vs seats back receipts s new e l each m b r =
      let new' = subst (λ y. AreNew y) (sym e) new in
      let l' : length vs ≡ length ws0 = l ∙ ap (λ y. length y) e in
      let q = whole n vs ws0 l' m in
      let x : seats_of ws ≡ seats = ap (λ y. seats_of y) e ∙ s in
      rw (b ∙ ap (λ y. seats_of y) q, r ∙ ap (λ y. receipts_of y) q) (subst (λ y. Reports p y (seats_of vs) (receipts_of vs)) x (reports p most ws vs new' l each).0)

  -- and how many receipts there are
  pub run_count : (p : Program) (most n : ℕ) (ws0 ws vs : List (Member A J)) → AreNew ws0 → ws ≡ ws0 → length vs ≡ length ws → EachWorks p most ws vs → n ≡ length ws0 → member_count (take n (vs ++ drop (length vs) ws0)) ≤ n * most
  run_count p most n ws0 ws vs new e l each m =
      let new' = subst (λ y. AreNew y) (sym e) new in
      let l' : length vs ≡ length ws0 = l ∙ ap (λ y. length y) e in
      let q = whole n vs ws0 l' m in
      let k : length ws ≡ n = ap (λ y. length y) e ∙ sym m in
      let few : member_count vs ≤ n * most = subst (λ y. member_count vs ≤ y * most) k (reports p most ws vs new' l each).1 in
      rw q few

  -- and what is told of tokens and faults
  pub run_endings : (p : Program) (most n : ℕ) (ws0 ws vs : List (Member A J)) (seats : ℕ) (r : Report A J) → AreNew ws0 → ws ≡ ws0 → length vs ≡ length ws → EachWorks p most ws vs → n ≡ length ws0 → n ≡ seats
      → r.receipts.items ≡ receipts_of (take n (vs ++ drop (length vs) ws0)) → r.tokens.items ≡ member_tokens (take n (vs ++ drop (length vs) ws0)) → r.fault ≡ member_fault (take n (vs ++ drop (length vs) ws0))
      → TellsEndings seats most r
  run_endings p most n ws0 ws vs seats r new e l each m s rs ts f =
      let new' = subst (λ y. AreNew y) (sym e) new in
      let l' : length vs ≡ length ws0 = l ∙ ap (λ y. length y) e in
      let q = whole n vs ws0 l' m in
      let size : length vs ≡ seats = l' ∙ sym m ∙ s in
      let reported = ends_told p most ws vs new' l each in
      let kept : r.tokens.items ≡ member_tokens vs = ts ∙ ap (λ y. member_tokens y) q in
      let fault : r.fault ≡ member_fault vs = f ∙ ap (λ y. member_fault y) q in
      let receipts : length r.receipts.items ≡ member_count (take n (vs ++ drop (length vs) ws0)) = ap length rs ∙ receipts_length (take n (vs ++ drop (length vs) ws0)) in
      record {
        few = omega (arith, receipts, run_count p most n ws0 ws vs new e l each m, ap (λ y. y * most) s);
        tokens = omega (arith, ap length kept, reported.0, size);
        faulted = λ has. subst (λ o. IsSome o) (sym fault) (reported.1 (λ none. has (kept ∙ none)));
        real = subst (λ o. IfSome o IsNoFullJournal) (sym fault) reported.2;
      }

  pub at_place : (p : Program) (most : ℕ) (old new : List (Member A J)) (i : ℕ) (d x y : Member A J) → x ≡ slice_index_or old i d → y ≡ slice_index_or new i d → HasWorked p most x y → WorksAt p most old new i d
  at_place p most old new i d x y e f w = subst (λ v. HasWorked p most (slice_index_or old i d) v) f (subst (λ v. HasWorked p most v y) e w)

-- where no turn was taken
pub nothing_ends : {A J : Type 0} (seats most : ℕ) (r : Report A J) → IsNothingDone r → TellsEndings seats most r
nothing_ends seats most r h = record {
  few = omega (arith, ap length h.receipts);
  tokens = omega (arith, ap length h.tokens);
  faulted = λ has. ap is_some h.refused;
  real = subst (λ o. IfSome o IsNoFullJournal) (sym h.refused) tt;
}
