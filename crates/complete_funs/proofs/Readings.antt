-- Two answers of the reader of funs.
use Rattle.std.proofs.Common.{◌≡◌, ℕ, List, Option, Some, None, Result, Ok, Err, refl, ap, sym, ◌∙◌}
use Rattle.std.specs.declared.vec.Vec.{Vec}
use Rattle.def_fun.specs.Trees.{FunClause}
use Rattle.def_fun.specs.Refusals.{FunRefusal, OrRefusal}
use Rattle.def_fun.specs.Answers.{fun_of_text}
use Rattle.tn_fun.specs.Clauses.{fun_clauses_seen}
use Rattle.tn_fun.specs.Answers.{IsRefusedFun, IsFunRead}
use Rattle.tn_fun.specs.declared.clause.Clause.{Clause}
use Rattle.tn_fun.specs.declared.fault.ReadFault.{ReadFault}
use Rattle.tn_fun.specs.declared.fault.ReadFault.TheVariants as faults
use Rattle.complete_funs.specs.Answers.{fun_refusal_seen, AreSameRefusals, AreFunsAlike}

same_refusal : (r : OrRefusal (List FunClause)) (p q : FunRefusal) → r ≡ Err p → Some p ≡ Some q → r ≡ Err q
same_refusal r p q h e = let same : p ≡ q = cc in h ∙ ap (λ x. Err x) same

pub refused_as : (text : List ℕ) (f : ReadFault) (r : OrRefusal (List FunClause)) (q : FunRefusal) → IsRefusedFun text f r → fun_refusal_seen text f ≡ Some q → r ≡ Err q
refused_as text faults.TooLong r q h e = same_refusal r _ q h e
refused_as text (faults.Token at) r q h e = same_refusal r _ q h e
refused_as text (faults.NoSuch v) r q h e = same_refusal r _ q h e
refused_as text (faults.TooDeep at) r q h e = same_refusal r _ q h e
refused_as text (faults.TooLarge at) r q h e = same_refusal r _ q h e
refused_as text faults.OutOfMemory r q h e = absurd (let none : None ≡ Some q = e in cc)

same_clauses : (r : OrRefusal (List FunClause)) (ks ls : List FunClause) → r ≡ Ok ks → r ≡ Ok ls → ks ≡ ls
same_clauses r ks ls h k = let same : ◌≡◌ {A = OrRefusal (List FunClause)} (Ok ks) (Ok ls) = sym h ∙ k in cc

never_both : {P : Type 0} (r : OrRefusal (List FunClause)) (ks : List FunClause) (q : FunRefusal) → r ≡ Ok ks → r ≡ Err q → P
never_both r ks q h k = absurd (let same : ◌≡◌ {A = OrRefusal (List FunClause)} (Ok ks) (Err q) = sym h ∙ k in cc)

read_or_memory : (text : List ℕ) (ks : List FunClause) (f : ReadFault) (o : Option FunRefusal) → fun_refusal_seen text f ≡ o → fun_of_text text ≡ Ok ks → IsRefusedFun text f (fun_of_text text) → fun_refusal_seen text f ≡ None
read_or_memory text ks f None is h r = is
read_or_memory text ks f (Some q) is h r = never_both (fun_of_text text) ks q h (refused_as text f (fun_of_text text) q r is)

one_refusal : (r : OrRefusal (List FunClause)) (p q : FunRefusal) → r ≡ Err p → r ≡ Err q → p ≡ q
one_refusal r p q h k = let same : ◌≡◌ {A = OrRefusal (List FunClause)} (Err p) (Err q) = sym h ∙ k in cc

pub refused_alike : (text : List ℕ) (f g : ReadFault) (o p : Option FunRefusal) → fun_refusal_seen text f ≡ o → fun_refusal_seen text g ≡ p → IsRefusedFun text f (fun_of_text text) → IsRefusedFun text g (fun_of_text text) → AreSameRefusals o p
refused_alike text f g None p is are h k = tt
refused_alike text f g (Some q) None is are h k = tt
refused_alike text f g (Some q) (Some r) is are h k = one_refusal (fun_of_text text) q r (refused_as text f (fun_of_text text) q h is) (refused_as text g (fun_of_text text) r k are)

pub read_alike : {A : Type 0} (text : List ℕ) (r s : Result (Vec (Clause A) A) ReadFault) → IsFunRead text r → IsFunRead text s → AreFunsAlike text r s
read_alike text (Ok v) (Ok w) h k = same_clauses (fun_of_text text) (fun_clauses_seen text v.items) (fun_clauses_seen text w.items) h k
read_alike text (Ok v) (Err f) h k = read_or_memory text (fun_clauses_seen text v.items) f (fun_refusal_seen text f) refl h k
read_alike text (Err f) (Ok v) h k = read_or_memory text (fun_clauses_seen text v.items) f (fun_refusal_seen text f) refl k h
read_alike text (Err f) (Err g) h k = refused_alike text f g (fun_refusal_seen text f) (fun_refusal_seen text g) refl refl h k
