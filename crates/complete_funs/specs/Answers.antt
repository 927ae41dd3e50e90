-- Two answers of the reader of funs that are alike.
use Rattle.std.specs.Prelude.{◌≡◌, ℕ, List, Option, Some, None, Result, Ok, Err}
use Rattle.std.specs.declared.vec.Vec.{Vec}
use Rattle.def_fun.specs.Refusals.{FunRefusal, too_long, misplaced_token, no_such, too_deep_at, too_large_at}
use Rattle.tn_fun.specs.States.{token_there}
use Rattle.tn_fun.specs.Clauses.{fun_clauses_seen}
use Rattle.tn_fun.specs.Answers.{left_out_name}
use Rattle.tn_fun.specs.declared.clause.Clause.{Clause}
use Rattle.tn_fun.specs.declared.fault.ReadFault.{ReadFault}
use Rattle.tn_fun.specs.declared.fault.ReadFault.TheVariants as faults

-- the refusal that a fault is; where memory ran out there is none
abbrev pub fun_refusal_seen : List ℕ → ReadFault → Option FunRefusal
fun_refusal_seen text faults.TooLong = Some too_long
fun_refusal_seen text (faults.Token at) = Some (misplaced_token at)
fun_refusal_seen text (faults.NoSuch v) = Some (no_such (left_out_name (token_there text v)) v.from)
fun_refusal_seen text (faults.TooDeep at) = Some (too_deep_at at)
fun_refusal_seen text (faults.TooLarge at) = Some (too_large_at at)
fun_refusal_seen text faults.OutOfMemory = None

-- the same refusal, where both are one
abbrev pub AreSameRefusals : Option FunRefusal → Option FunRefusal → Type 0
AreSameRefusals (Some r) (Some s) = r ≡ s
AreSameRefusals r s = Unit {0}

-- the same clauses or the same refusal, unless memory ran out
abbrev pub AreFunsAlike : {A : Type 0} → List ℕ → Result (Vec (Clause A) A) ReadFault → Result (Vec (Clause A) A) ReadFault → Type 0
AreFunsAlike text (Ok v) (Ok w) = fun_clauses_seen text v.items ≡ fun_clauses_seen text w.items
AreFunsAlike text (Ok v) (Err f) = fun_refusal_seen text f ≡ None
AreFunsAlike text (Err f) (Ok v) = fun_refusal_seen text f ≡ None
AreFunsAlike text (Err f) (Err g) = AreSameRefusals (fun_refusal_seen text f) (fun_refusal_seen text g)
