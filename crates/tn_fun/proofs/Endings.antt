-- Where an expression may end.
use Rattle.std.proofs.Common.{◌≡◌, ℕ, ◌+◌, ◌<◌, ◌≤◌, List, [], ◌∷◌, length, get_or, drop, arith, nat_eq, Bool, true, false, ◌&&◌, nat_le, if◌then◌else◌, Some, None, is_some, refl, ap, sym, ◌∙◌}
use Rattle.std.proofs.lemmas.Bool.Decides.{nat_tests}
use Rattle.std.proofs.lemmas.List.{drop_more, drop_all}
use Rattle.def_fun.specs.Operators as op
use Rattle.def_fun.specs.Operators.{FunOperator, operator_binding, level_of}
use Rattle.def_fun.specs.Trees.{FunExpr, before, between}
use Rattle.def_fun.specs.Reading.{OpenPart, in_open_parens, in_open_call, in_open_list, in_open_tail, in_open_tuple, after_left, after_prefix, wants, gather, if_none_open}
use Rattle.tn_fun.specs.declared.part.Part.{Part}
use Rattle.tn_fun.specs.States.{open_part_seen, open_parts_onto, open_parts_seen}
use Rattle.tn_fun.specs.FunStates.{waits_for_operand, wait_for_operands, is_expr_start}

some_level : (o : FunOperator) → nat_le 1 (level_of (operator_binding o)) ≡ true
some_level op.or_else = refl
some_level o = refl

-- an operand ends where operators alone wait for it
pub ends_alone : (e : FunExpr) (fs : List OpenPart) → is_some (if_none_open (gather 1 e fs)) ≡ wait_for_operands fs
ends_alone e [] = refl
ends_alone e (in_open_parens at ∷ fs) = refl
ends_alone e (in_open_call at s es ∷ fs) = refl
ends_alone e (in_open_list at es ∷ fs) = refl
ends_alone e (in_open_tail at es ∷ fs) = refl
ends_alone e (in_open_tuple at es ∷ fs) = refl
ends_alone e (after_prefix at o ∷ fs) = ends_alone (before at o e) fs
ends_alone e (after_left at o l ∷ fs) = ap (λ b. is_some (if_none_open (if b then gather 1 (between at o l e) fs else (e, after_left at o l ∷ fs)))) (some_level o) ∙ ends_alone (between at o l e) fs

-- from the front of the vector
abbrev pub all_wait : {A : Type 0} → List ℕ → List (Part A) → Bool
all_wait text [] = true
all_wait text (v ∷ vs) = waits_for_operand (open_part_seen text v) && all_wait text vs

and_swap : (a b c : Bool) → (b && (a && c)) ≡ ((a && b) && c)
and_swap true true c = refl
and_swap true false c = refl
and_swap false true c = refl
and_swap false false c = refl

onto_waits : {A : Type 0} (text : List ℕ) (vs : List (Part A)) (stack : List OpenPart) → wait_for_operands (open_parts_onto text vs stack) ≡ (all_wait text vs && wait_for_operands stack)
onto_waits text [] stack = refl
onto_waits text (v ∷ vs) stack = onto_waits text vs (open_part_seen text v ∷ stack) ∙ and_swap (waits_for_operand (open_part_seen text v)) (all_wait text vs) (wait_for_operands stack)

and_true : (a : Bool) → (a && true) ≡ a
and_true true = refl
and_true false = refl

pub parts_wait : {A : Type 0} (text : List ℕ) (vs : List (Part A)) → all_wait text vs ≡ wait_for_operands (open_parts_seen text vs)
parts_wait text vs = sym (and_true (all_wait text vs)) ∙ sym (onto_waits text vs [])

pub wait_here : {A : Type 0} (text : List ℕ) (vs : List (Part A)) (i : ℕ) (v : Part A) → i < length vs → v ≡ get_or vs i v → all_wait text (drop i vs) ≡ (waits_for_operand (open_part_seen text v) && all_wait text (drop (i + 1) vs))
wait_here text vs i v below is = ap (all_wait text) (drop_more vs i v below) ∙ ap (λ z. waits_for_operand (open_part_seen text z) && all_wait text (drop (i + 1) vs)) (sym is)

pub wait_past : {A : Type 0} (text : List ℕ) (vs : List (Part A)) (i : ℕ) → length vs ≤ i → all_wait text (drop i vs) ≡ true
wait_past text vs i past = ap (all_wait text) (drop_all i vs past)

-- ---- no part at all

pub starts_empty : (fs : List OpenPart) → nat_eq (length fs) 0 ≡ is_expr_start (wants fs)
starts_empty [] = refl
starts_empty (f ∷ fs) = grind (arith, nat_tests)

pub ends_empty : (e : FunExpr) (fs : List OpenPart) → length fs ≡ 0 → if_none_open (e, fs) ≡ Some e
ends_empty e [] h = refl
ends_empty e (f ∷ fs) h = absurd (omega (arith, h))

pub ends_open : (e : FunExpr) (fs : List OpenPart) → 0 < length fs → if_none_open (e, fs) ≡ None
ends_open e [] h = absurd (omega (arith, h))
ends_open e (f ∷ fs) h = refl
