-- What the term of a specification answers.
use Rattle.std.proofs.Common.{◌≡◌, ℕ, List, Result, Err, subst}
use Rattle.def_term.specs.Tree.{Tree}
use Rattle.def_fun.specs.FunTexts as texts
use Rattle.tn_spec.specs.declared.func.Dialect.{Dialect}
use Rattle.tn_fun_text.specs.FunsOfSpecs.{IsFunOfAnyTerm, IsFunOfTerm, IsSpec}
use Rattle.tn_fun_text.specs.Reasons.{no_fun_seen}
use Rattle.tn_fun_text.specs.WrittenFuns.{HasReason, IsPrinted}
use Rattle.tn_fun_text.specs.declared.clause_check.FunTextFault.{FunTextFault}
use Rattle.tn_fun_text.specs.declared.clause_check.FunTextFault.TheVariants as faults
use Rattle.tn_fun_text.specs.declared.no_fun.NoFun.{NoFun}
use Rattle.tn_fun_text.specs.declared.funs_of_specs.FunOfSpec.{FunOfSpec}
use Rattle.tn_fun_text.specs.declared.funs_of_specs.FunOfSpec.TheVariants as answers

pub of_spec : {A : Type 0} (d : Dialect) (t : Tree) → IsSpec d t → (a : FunOfSpec A) → IsFunOfTerm d t a → IsFunOfAnyTerm d t a
of_spec d t spec (answers.Fun text) is = (spec, is)
of_spec d t spec (answers.NoFun line) is = (spec, is)
of_spec d t spec (answers.NoTerm fault) is = absurd is
of_spec d t spec (answers.NoSpec fault) is = absurd is

-- the reason that a fault has
pub no_fun_printed : {A : Type 0} (U : Type 0) (r : Result (List ℕ) texts.NoFun) (old new : List ℕ) (fault : FunTextFault A) (n : NoFun A) → fault ≡ faults.NoFun n → IsPrinted {A = A} {U = U} r old new (Err fault)
    → HasReason r (no_fun_seen n) old new
no_fun_printed {A} U r old new fault n is printed = subst (λ (f : FunTextFault A). IsPrinted {A = A} {U = U} r old new (Err f)) is printed
