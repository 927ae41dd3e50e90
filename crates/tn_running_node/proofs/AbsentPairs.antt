-- The pairs of sessions before any move.
use Rattle.std.proofs.Common.{◌≡◌, ◌∙◌, ℕ, suc, Bool, true, false, if◌then◌else◌, List, [], ◌∷◌, ◌++◌, map, refl, sym, ap, subst, append-nil, Option}
use Rattle.std.specs.Prelude.{filter}
use Rattle.std.proofs.lemmas.List.Elements.{filter-append}
use Rattle.def_term.specs.Names.{Name}
use Rattle.def_term.specs.Tree.{Tree}
use Rattle.def_script.specs.Exports.{Exports}
use Rattle.def_session.specs.State.{alive_at_start}
use Rattle.def_explain.specs.RunTexts.{is_session}
use Rattle.def_running_node.specs.NodeComparisons.{pair_at_start}
use Rattle.tn_trace.specs.Slots.{IsTracked, EachPair}
use Rattle.tn_trace.specs.Tracks.{tracks_from}
use Rattle.tn_trace.specs.declared.discard.Discard.{Discard}
use Rattle.tn_trace.specs.declared.slot.Slot.{Slot}
use Rattle.tn_running_node.specs.Pairs.{IsPair, absent_pair, absent_pairs}
use Rattle.tn_running_node.specs.declared.pair.SessionPair.{SessionPair}

-- one more slot, which isn't selected
pub absent_no_more : {A : Type 0} (n : Option Name) (slots : List (Slot A Discard)) (s : Slot A Discard) (pairs : List (SessionPair A)) → is_session n s.name ≡ false → pairs ≡ absent_pairs n slots → pairs ≡ absent_pairs n (slots ++ s ∷ [])
absent_no_more n slots s pairs is so_far =
    let front = filter (λ x. is_session n x.name) slots in
    let last : filter (λ x. is_session n x.name) (s ∷ []) ≡ [] = ap (λ b. if b then s ∷ [] else []) is in
    so_far ∙ sym (ap (map absent_pair) (filter-append (λ x. is_session n x.name) slots (s ∷ []) ∙ ap (λ xs. front ++ xs) last ∙ append-nil front))

one-first : {T U S V : Type 0} (P : U → V → Type 0) (f : T → U) (g : S → V) (b : Bool) (t : T) (s : S) (ts : List T) (ss : List S) → P (f t) (g s) → EachPair P (map f ts) (map g ss) → EachPair P (map f (if b then t ∷ ts else ts)) (map g (if b then s ∷ ss else ss))
one-first P f g true t s ts ss first others = (first, others)
one-first P f g false t s ts ss first others = others

-- the pairs of the sessions of the control list
pub pairs_at_start : {A : Type 0} (o : Exports) (n : Option Name) (i : ℕ) (cs : List (Name × Name)) (slots : List (Slot A Discard)) → EachPair (IsTracked (λ (k : Discard) (ts : List Tree). Unit {0}) o (alive_at_start o.processes)) (tracks_from o [] i cs) slots
    → EachPair (IsPair o (alive_at_start o.processes)) (map (λ c. pair_at_start o c.0) (filter (λ c. is_session n c.0) cs)) (absent_pairs n slots)
pairs_at_start o n i [] [] h = tt
pairs_at_start o n i [] (s ∷ ss) h = absurd h
pairs_at_start o n i (c ∷ cs) [] h = absurd h
pairs_at_start o n i (c ∷ cs) (s ∷ ss) h =
    let living = alive_at_start o.processes in
    let others = pairs_at_start o n (suc i) cs ss h.1 in
    let first : IsPair o living (pair_at_start o c.0) (absent_pair s) = record { name = h.0.name; here = h.0.session; there = (refl, refl); determined = refl } in
    subst
    (λ b. EachPair (IsPair o living) (map (λ x. pair_at_start o x.0) (filter (λ x. is_session n x.0) (c ∷ cs))) (map absent_pair (if b then s ∷ filter (λ x. is_session n x.name) ss else filter (λ x. is_session n x.name) ss)))
    (ap (is_session n) (sym h.0.name))
    (one-first (IsPair o living) (λ x. pair_at_start o x.0) absent_pair (is_session n c.0) c s (filter (λ x. is_session n x.0) cs) (filter (λ x. is_session n x.name) ss) first others)
