-- What the code's reasons why no fun has a specification stand for.
use Rattle.std.specs.Prelude.{◌≡◌, Option, Some, None, Result, Ok, Err}
use Rattle.def_fun.specs.FunTexts as texts
use Rattle.def_fun.specs.FunTexts.{NoFunReason, OrReason}
use Rattle.tn_term.specs.Views.{tree_of}
use Rattle.tn_fun_text.specs.declared.reason.Reason.{Reason}
use Rattle.tn_fun_text.specs.declared.reason.Reason.TheVariants as reasons
use Rattle.tn_fun_text.specs.declared.no_fun.ClausePart.{ClausePart}
use Rattle.tn_fun_text.specs.declared.no_fun.ClausePart.TheVariants as parts
use Rattle.tn_fun_text.specs.declared.no_fun.NoFun.{NoFun}
use Rattle.tn_fun_text.specs.declared.check.CheckFault.{CheckFault}
use Rattle.tn_fun_text.specs.declared.check.CheckFault.TheVariants as faults

abbrev pub no_fun_reason_seen : {A : Type 0} → Reason A → NoFunReason
no_fun_reason_seen (reasons.WrongOrder k n) = texts.wrong_order k n
no_fun_reason_seen (reasons.HeadAtom s) = texts.no_head_atom s.now
no_fun_reason_seen (reasons.Pid n) = texts.no_pid n
no_fun_reason_seen (reasons.DollarAtom s) = texts.no_dollar_atom s.now
no_fun_reason_seen (reasons.OtherConst t) = texts.no_other_const (tree_of t.now)
no_fun_reason_seen (reasons.NoCall s n) = texts.no_such_call s.now n
no_fun_reason_seen (reasons.Computed t) = texts.is_computed (tree_of t.now)
no_fun_reason_seen reasons.EmptyBody = texts.empty_body

abbrev pub clause_part_seen : ClausePart → texts.ClausePart
clause_part_seen parts.Head = texts.the_head
clause_part_seen (parts.Condition k) = texts.the_condition k
clause_part_seen (parts.Expression k) = texts.the_expression k
clause_part_seen parts.Body = texts.the_body

abbrev pub no_fun_seen : {A : Type 0} → NoFun A → texts.NoFun
no_fun_seen n = record { clause = n.clause; part = clause_part_seen n.part; reason = no_fun_reason_seen n.reason }

-- the reason, where nothing is printed
abbrev pub no_fun_reason : {X : Type 0} → OrReason X → Option NoFunReason
no_fun_reason (Ok x) = None
no_fun_reason (Err r) = Some r

-- there is no reason, or this one; where memory ran out nothing is said
abbrev pub SaysReason : {A U : Type 0} → Option NoFunReason → Result U (CheckFault A) → Type 0
SaysReason o (Ok u) = o ≡ None
SaysReason o (Err (faults.Reason r)) = o ≡ Some (no_fun_reason_seen r)
SaysReason o (Err faults.OutOfMemory) = Unit {0}

-- the definition prints it, or has this reason
abbrev pub IsChecked : {A X U : Type 0} → OrReason X → Result U (CheckFault A) → Type 0
IsChecked r result = SaysReason (no_fun_reason r) result
