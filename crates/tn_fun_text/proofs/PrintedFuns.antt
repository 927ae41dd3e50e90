-- The text that is added, or the reason.
use Rattle.std.proofs.Common.{◌≡◌, ◌∙◌, ℕ, List, ◌++◌, Result, Err, None, refl, sym, ap}
use Rattle.def_term.specs.Tree.{Tree}
use Rattle.def_spec.specs.Expressions.{Dialect}
use Rattle.def_fun.specs.FunTexts.{NoFun, fun_printed}
use Rattle.tn_fun_text.specs.declared.clause_check.FunTextFault.{FunTextFault}
use Rattle.tn_fun_text.specs.declared.clause_check.FunTextFault.TheVariants as faults
use Rattle.tn_fun_text.specs.Clauses.{no_fun_in, SaysNoFun}
use Rattle.tn_fun_text.specs.Reasons.{no_fun_seen}
use Rattle.tn_fun_text.specs.WrittenFuns.{HasText, IsPrinted}
use Rattle.tn_fun_text.specs.Texts.{whole_text}
use Rattle.tn_fun_text.proofs.ClauseChecks.{printed_text, not_printed}
use Rattle.tn_fun_text.proofs.WrittenTexts.{fun_said}

pub not_added : {A : Type 0} (U V : Type 0) (r : Result (List ℕ) NoFun) (o : List ℕ) (e : FunTextFault A) → SaysNoFun {A = A} {U = U} (no_fun_in r) (Err e) → IsPrinted {A = A} {U = V} r o o (Err e)
not_added U V r o (faults.NoFun n) said = record { printed = not_printed r (no_fun_seen n) said; same = refl }
not_added U V r o faults.OutOfMemory said = tt

pub text_added : (d : Dialect) (t : Tree) (old new : List ℕ) → no_fun_in (fun_printed d t) ≡ None → new ≡ old ++ whole_text d t → HasText (fun_printed d t) old new
text_added d t old new printed wrote =
    let u = printed_text (fun_printed d t) printed in
    record { text = u.0; printed = u.1; added = wrote ∙ ap (λ x. old ++ x) (sym (fun_said d t u.0 u.1)) }
