-- Two answers of the printer of funs.
use Rattle.std.proofs.Common.{◌≡◌, ◌∙◌, ℕ, List, ◌++◌, Result, Ok, Err, sym, ap₂}
use Rattle.def_fun.specs.FunTexts as texts
use Rattle.tn_fun_text.specs.declared.clause_check.FunTextFault.{FunTextFault}
use Rattle.tn_fun_text.specs.declared.clause_check.FunTextFault.TheVariants as faults
use Rattle.tn_fun_text.specs.WrittenFuns.{IsPrinted}
use Rattle.tn_fun_text.specs.Reasons.{no_fun_seen}
use Rattle.complete_funs.specs.PrintedAnswers.{ArePrintedAlike}

one_ok : (u v : List ℕ) (r : Result (List ℕ) texts.NoFun) → r ≡ Ok u → r ≡ Ok v → u ≡ v
one_ok u v r h k = cc

one_err : (n m : texts.NoFun) (r : Result (List ℕ) texts.NoFun) → r ≡ Err n → r ≡ Err m → n ≡ m
one_err n m r h k = cc

never_both : (u : List ℕ) (n : texts.NoFun) (r : Result (List ℕ) texts.NoFun) → r ≡ Ok u → r ≡ Err n → ⊥
never_both u n r h k = cc

pub printed_alike : {A U V : Type 0} (r : Result (List ℕ) texts.NoFun) (old other a b : List ℕ) (x : Result U (FunTextFault A)) (y : Result V (FunTextFault A)) → old ≡ other → IsPrinted r old a x → IsPrinted r other b y → ArePrintedAlike x a y b
printed_alike r old other a b (Ok u) (Ok v) same h k = h.added ∙ ap₂ (λ o t. o ++ t) same (one_ok h.text k.text r h.printed k.printed) ∙ sym k.added
printed_alike r old other a b (Ok u) (Err (faults.NoFun n)) same h k = never_both h.text (no_fun_seen n) r h.printed k.printed
printed_alike r old other a b (Ok u) (Err faults.OutOfMemory) same h k = tt
printed_alike r old other a b (Err (faults.NoFun n)) (Ok v) same h k = never_both k.text (no_fun_seen n) r k.printed h.printed
printed_alike r old other a b (Err (faults.NoFun n)) (Err (faults.NoFun m)) same h k = (one_err (no_fun_seen n) (no_fun_seen m) r h.printed k.printed, h.same ∙ same ∙ sym k.same)
printed_alike r old other a b (Err (faults.NoFun n)) (Err faults.OutOfMemory) same h k = tt
printed_alike r old other a b (Err faults.OutOfMemory) y same h k = tt
