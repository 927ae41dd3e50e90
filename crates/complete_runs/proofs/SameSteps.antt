-- Cores of one journal answer the same.
use Rattle.std.proofs.Common.{◌≡◌, ◌∙◌, ℕ, ◌<◌, List, [], ◌∷◌, ◌++◌, length, Option, Some, None, IfSome, Result, Ok, Err, IsErrOf, refl, sym, ap, subst, arith}
use Rattle.std.proofs.lemmas.List.{append-nil, length_push}
use Rattle.std.specs.Result.{IsOkAnd}
use Rattle.std.specs.Option.{IsSomeAnd, option_map}
use Rattle.std.specs.Borrow.{Bor}
use Rattle.def_script.specs.Program.{Program}
use Rattle.def_run.specs.Run.{JOURNAL, moves}
use Rattle.def_run.specs.Listing.{Item as DefinedItem, answer, messages}
use Rattle.def_run.specs.Laws.{IsIdleAfter}
use Rattle.def_run.proofs.Runs.{idle_moved}
use Rattle.tn_text.specs.declared.written_term.WrittenTerm.{WrittenTerm}
use Rattle.tn_trace.specs.Cores.{CoreValue, core_of, spent_core, Lists, IsStepOf, creation_numbered}
use Rattle.tn_trace.specs.declared.item.Answer.{Answer}
use Rattle.tn_trace.specs.declared.item.Answer.TheVariants.{Moved, Idle}
use Rattle.tn_trace.specs.declared.item.StepFault.{StepFault}
use Rattle.tn_trace.specs.declared.item.StepFault.TheVariants.{LimitReached, Spent, OutOfMemory}
use Rattle.complete_scripts.specs.Agreement.{Agree}
use Rattle.complete_scripts.proofs.Agreements.{agree_by}
use Rattle.complete_runs.specs.Alike.{StepAlike, listing_seen, seen_by, step_seen}
use Rattle.complete_runs.proofs.Both.{where_both}

-- the messages of a listing are determined
tallies_seen : {A : Type 0} (p : Program) (picks : List ℕ) (n : ℕ) (o : Option (Bor (List (WrittenTerm A)))) → Lists p picks n o → listing_seen o ≡ option_map (λ s. messages s.0 p picks) (creation_numbered p n)
tallies_seen p picks n None h = ap (option_map (λ s. messages s.0 p picks)) (sym h)
tallies_seen p picks n (Some v) h = ap Some h.2 ∙ ap (option_map (λ s. messages s.0 p picks)) (sym h.1)

lists_all : {A : Type 0} (p : Program) (n : ℕ) (o : Option (List ℕ)) (r : Result (Option (Bor (List (WrittenTerm A)))) StepFault) → IfSome o (λ picks. IsOkAnd r (Lists p picks n))
    → IfSome o (λ picks. IsOkAnd r (λ v. listing_seen v ≡ option_map (λ s. messages s.0 p picks) (creation_numbered p n)))
lists_all p n None r h = h
lists_all p n (Some picks) (Ok v) h = tallies_seen p picks n v h
lists_all p n (Some picks) (Err e) h = h

-- what a call answers that reads a core: this of its journal, or that it was refused memory
abbrev pub read_of : {Y : Type 0} → Option (List ℕ) → (List ℕ → Y) → Result Y StepFault
read_of None y = Err Spent
read_of (Some picks) y = Ok (y picks)

pub is_read : {X Y : Type 0} (see : X → Y) (o : Option (List ℕ)) (y : List ℕ → Y) (r : Result X StepFault) → IfSome o (λ picks. IsOkAnd r (λ x. see x ≡ y picks)) → (o ≡ None → r ≡ Err Spent)
    → seen_by see r ≡ read_of o y
is_read see None y r h k = ap (seen_by see) (k refl)
is_read see (Some picks) y (Ok x) h k = ap Ok h
is_read see (Some picks) y (Err f) h k = absurd h

pub is_listed : {A : Type 0} (p : Program) (n : ℕ) (o : Option (List ℕ)) (r : Result (Option (Bor (List (WrittenTerm A)))) StepFault) → IfSome o (λ picks. IsOkAnd r (Lists p picks n)) → (o ≡ None → r ≡ Err Spent)
    → seen_by listing_seen r ≡ read_of o (λ picks. option_map (λ s. messages s.0 p picks) (creation_numbered p n))
is_listed p n o r h k = is_read listing_seen o (λ picks. option_map (λ s. messages s.0 p picks) (creation_numbered p n)) r (lists_all p n o r h) k

-- ---- steps

-- what a step of a core of this journal answers
abbrev Comes : Program → List ℕ → ℕ → Result (Option (List DefinedItem)) StepFault → Type 0
Comes p picks pick (Ok (Some items)) =
    (length picks < JOURNAL) × (moves p (picks ++ pick ∷ []) ≡ picks ++ pick ∷ []) × (items ≡ answer p (picks ++ pick ∷ []) (length picks))
Comes p picks pick (Ok None) = (length picks < JOURNAL) × IsIdleAfter p picks pick × (moves p picks ≡ picks)
Comes p picks pick (Err LimitReached) = length picks ≡ JOURNAL
Comes p picks pick (Err Spent) = ⊥
Comes p picks pick (Err OutOfMemory) = ⊥

-- of a full journal
full_stays : {A : Type 0} (p : Program) (picks : List ℕ) (pick : ℕ) (new : CoreValue) (r : Result (Answer A) StepFault) → length picks ≡ JOURNAL
    → IsStepOf p picks pick new r → (r ≡ Err LimitReached) × (new ≡ core_of p picks)
full_stays p picks pick new (Ok (Moved items)) full h = absurd (omega (arith, full, h.room))
full_stays p picks pick new (Ok Idle) full h = absurd (omega (arith, full, h.room))
full_stays p picks pick new (Err LimitReached) full h = (refl, h.1)
full_stays p picks pick new (Err Spent) full h = absurd h
full_stays p picks pick new (Err OutOfMemory) full h = absurd (omega (arith, full, h.0))

pub step_of_full : {A : Type 0} (p : Program) (o : Option (List ℕ)) (pick : ℕ) (new : CoreValue) (r : Result (Answer A) StepFault) → IsSomeAnd o (λ picks. length picks ≡ JOURNAL)
    → IfSome o (λ picks. IsStepOf p picks pick new r) → (r ≡ Err LimitReached) × (new ≡ record { program = p; journal = o })
step_of_full p None pick new r full h = absurd full
step_of_full p (Some picks) pick new r full h = full_stays p picks pick new r full h

-- a pick doesn't both move and rest
pub not_both : (p : Program) (picks : List ℕ) (pick : ℕ) → moves p (picks ++ pick ∷ []) ≡ picks ++ pick ∷ [] → IsIdleAfter p picks pick → moves p picks ≡ picks → ⊥
not_both p picks pick moved idle was =
    let e : picks ++ pick ∷ [] ≡ picks = sym moved ∙ idle_moved p picks pick [] idle ∙ ap (moves p) (append-nil picks) ∙ was in
    omega (arith, length_push picks pick, ap length e)

one_answer : (p : Program) (picks : List ℕ) (pick : ℕ) (x y : Result (Option (List DefinedItem)) StepFault) → Comes p picks pick x → Comes p picks pick y → x ≡ y
one_answer p picks pick (Ok (Some items)) (Ok (Some others)) h i = ap (λ z. Ok (Some z)) (h.2 ∙ sym i.2)
one_answer p picks pick (Ok (Some items)) (Ok None) h i = absurd (not_both p picks pick h.1 i.1 i.2)
one_answer p picks pick (Ok None) (Ok (Some items)) h i = absurd (not_both p picks pick i.1 h.1 h.2)
one_answer p picks pick (Ok None) (Ok None) h i = refl
one_answer p picks pick (Ok (Some items)) (Err LimitReached) h i = absurd (omega (arith, h.0, i))
one_answer p picks pick (Ok None) (Err LimitReached) h i = absurd (omega (arith, h.0, i))
one_answer p picks pick (Err LimitReached) (Ok (Some items)) h i = absurd (omega (arith, h, i.0))
one_answer p picks pick (Err LimitReached) (Ok None) h i = absurd (omega (arith, h, i.0))
one_answer p picks pick (Err LimitReached) (Err LimitReached) h i = refl
one_answer p picks pick (Err Spent) y h i = absurd h
one_answer p picks pick (Err OutOfMemory) y h i = absurd h
one_answer p picks pick (Ok x) (Err Spent) h i = absurd i
one_answer p picks pick (Ok x) (Err OutOfMemory) h i = absurd i
one_answer p picks pick (Err LimitReached) (Err Spent) h i = absurd i
one_answer p picks pick (Err LimitReached) (Err OutOfMemory) h i = absurd i

comes : {A : Type 0} (p : Program) (picks : List ℕ) (pick : ℕ) (new : CoreValue) (r : Result (Answer A) StepFault) → IsStepOf p picks pick new r → IfSome (step_seen r) (Comes p picks pick)
comes p picks pick new (Ok (Moved items)) h = (h.room, h.moved, h.answered)
comes p picks pick new (Ok Idle) h = (h.room, h.idle, h.moved)
comes p picks pick new (Err LimitReached) h = h.0
comes p picks pick new (Err Spent) h = h
comes p picks pick new (Err OutOfMemory) h = tt

-- the journal afterwards
abbrev journal_after : List ℕ → ℕ → Result (Option (List DefinedItem)) StepFault → List ℕ
journal_after picks pick (Ok (Some items)) = picks ++ pick ∷ []
journal_after picks pick (Ok None) = picks
journal_after picks pick (Err fault) = picks

abbrev IsAfter : Program → List ℕ → ℕ → CoreValue → Result (Option (List DefinedItem)) StepFault → Type 0
IsAfter p picks pick new x = new ≡ core_of p (journal_after picks pick x)

is_after : {A : Type 0} (p : Program) (picks : List ℕ) (pick : ℕ) (new : CoreValue) (r : Result (Answer A) StepFault) → IsStepOf p picks pick new r → IfSome (step_seen r) (IsAfter p picks pick new)
is_after p picks pick new (Ok (Moved items)) h = h.after
is_after p picks pick new (Ok Idle) h = h.after
is_after p picks pick new (Err LimitReached) h = h.1
is_after p picks pick new (Err Spent) h = absurd h
is_after p picks pick new (Err OutOfMemory) h = tt

refused : {A : Type 0} (p : Program) (picks : List ℕ) (pick : ℕ) (new : CoreValue) (r : Result (Answer A) StepFault) → IsStepOf p picks pick new r → IsErrOf r OutOfMemory → new ≡ spent_core p
refused {A} p picks pick new r h e = let k : IsStepOf {A = A} p picks pick new (Err OutOfMemory) = subst (IsStepOf {A = A} p picks pick new) e h in k.1

same_there : {A : Type 0} (p : Program) (picks : List ℕ) (pick : ℕ) (one : CoreValue) (r : Result (Answer A) StepFault) (other : CoreValue) (q : Result (Answer A) StepFault)
    → IsStepOf p picks pick one r → IsStepOf p picks pick other q → StepAlike p r one q other
same_there p picks pick one r other q h i =
    let agree : Agree (step_seen r) (step_seen q) = agree_by (Comes p picks pick) (one_answer p picks pick) _ _ (comes p picks pick one r h) (comes p picks pick other q i) in
    record {
      answers = agree;
      after =
          where_both (IsAfter p picks pick one) (IsAfter p picks pick other)
          (λ x y e k l. k ∙ ap (λ z. core_of p (journal_after picks pick z)) e ∙ sym l)
          _ _ agree (is_after p picks pick one r h) (is_after p picks pick other q i);
      refused = refused p picks pick one r h;
    }

-- of a core that was refused memory
spent_alike : {A : Type 0} (p : Program) (v one : CoreValue) (r : Result (Answer A) StepFault) (other : CoreValue) (q : Result (Answer A) StepFault)
    → r ≡ Err Spent → one ≡ v → q ≡ Err Spent → other ≡ v → StepAlike p r one q other
spent_alike p v one r other q e k f l =
    subst (λ z. StepAlike p z one q other) (sym e) (subst (λ z. StepAlike p (Err Spent) one z other) (sym f) (record { answers = refl; after = k ∙ sym l; refused = λ is. absurd (cc is) }))

pub same_step : {A : Type 0} (p : Program) (o : Option (List ℕ)) (pick : ℕ) (one : CoreValue) (r : Result (Answer A) StepFault) (other : CoreValue) (q : Result (Answer A) StepFault)
    → IfSome o (λ picks. IsStepOf p picks pick one r) → (o ≡ None → (r ≡ Err Spent) × (one ≡ record { program = p; journal = o }))
    → IfSome o (λ picks. IsStepOf p picks pick other q) → (o ≡ None → (q ≡ Err Spent) × (other ≡ record { program = p; journal = o })) → StepAlike p r one q other
same_step p None pick one r other q h k i l =
    let m = k refl in
    let n = l refl in
    spent_alike p (spent_core p) one r other q m.0 m.1 n.0 n.1
same_step p (Some picks) pick one r other q h k i l = same_there p picks pick one r other q h i
