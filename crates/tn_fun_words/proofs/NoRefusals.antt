-- The text of the words of a fun is no refused one.
use Rattle.std.proofs.Common.{◌≡◌, ◌∙◌, List, Result, Ok, Err, sym}
use Rattle.std.proofs.Math.Logic.{∥∥₁_elim}
use Rattle.def_fun.specs.Trees.{FunClause}
use Rattle.def_fun.specs.Answers.{fun_of_text}
use Rattle.def_fun.specs.Refusals.{FunRefusal, OrRefusal}
use Rattle.tn_fun.specs.Clauses.{fun_clauses_seen}
use Rattle.tn_fun_words.specs.declared.fun_words.FunWords.{FunWords}

never_both : (r : OrRefusal (List FunClause)) (ks : List FunClause) (q : FunRefusal) → r ≡ Ok ks → r ≡ Err q → ⊥
never_both r ks q h k = let same : ◌≡◌ {A = OrRefusal (List FunClause)} (Ok ks) (Err q) = sym h ∙ k in cc

pub no_refusal : {A : Type 0} (w : FunWords A) (q : FunRefusal) → fun_of_text w.bytes.now ≡ Err q → ⊥
no_refusal w q h = ∥∥₁_elim w.read (λ x y. absurd x) (λ e. never_both (fun_of_text w.bytes.now) (fun_clauses_seen w.bytes.now w.clauses.items) q e h)
