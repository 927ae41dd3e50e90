-- Why the code refuses a text, and the refusal of the definition that it stands for.
use Rattle.std.specs.Prelude.{◌≡◌, List, ℕ, Option, Some, None, Result, Ok, Err}
use Rattle.def_fun.specs.Refusals.{FunRefusal, too_long, misplaced_token, no_such, too_deep_at, too_large_at, unbound, no_function, unsupported, head_atom, list_with_tail, minus_alone, whole_head, OrRefusal}
use Rattle.tn_fun.specs.Trees.{token_name}
use Rattle.tn_fun.specs.States.{token_there}
use Rattle.tn_fun.specs.Answers.{left_out_name}
use Rattle.tn_fun.specs.declared.fault.ReadFault.{ReadFault}
use Rattle.tn_fun.specs.declared.fault.ReadFault.TheVariants as reading
use Rattle.tn_translation.specs.declared.fault.FunFault.{FunFault}
use Rattle.tn_translation.specs.declared.fault.FunFault.TheVariants as faults

-- the refusal; memory that ran out is none
abbrev pub fun_fault_seen : List ℕ → FunFault → Option FunRefusal
fun_fault_seen text faults.TooLong = Some too_long
fun_fault_seen text (faults.Token at) = Some (misplaced_token at)
fun_fault_seen text (faults.NoSuch v) = Some (no_such (left_out_name (token_there text v)) v.from)
fun_fault_seen text (faults.TooDeep at) = Some (too_deep_at at)
fun_fault_seen text (faults.TooLarge at) = Some (too_large_at at)
fun_fault_seen text (faults.Unbound v) = Some (unbound (token_name text v) v.from)
fun_fault_seen text (faults.NoFunction v n) = Some (no_function (token_name text v) n v.from)
fun_fault_seen text (faults.Unsupported v) = Some (unsupported (token_name text v) v.from)
fun_fault_seen text (faults.HeadAtom v) = Some (head_atom (token_name text v) v.from)
fun_fault_seen text (faults.ListWithTail at) = Some (list_with_tail at)
fun_fault_seen text (faults.MinusAlone at) = Some (minus_alone at)
fun_fault_seen text (faults.WholeHead v) = Some (whole_head (token_name text v) v.from)
fun_fault_seen text faults.OutOfMemory = None

-- a refusal of reading is one of the text
abbrev pub reading_fault : ReadFault → FunFault
reading_fault reading.TooLong = faults.TooLong
reading_fault (reading.Token at) = faults.Token at
reading_fault (reading.NoSuch v) = faults.NoSuch v
reading_fault (reading.TooDeep at) = faults.TooDeep at
reading_fault (reading.TooLarge at) = faults.TooLarge at
reading_fault reading.OutOfMemory = faults.OutOfMemory

-- the definition has this refusal; where memory ran out nothing is said
abbrev pub RefusedBy : {Y : Type 0} → Option FunRefusal → OrRefusal Y → Type 0
RefusedBy None r = Unit {0}
RefusedBy (Some x) r = r ≡ Err x

-- the definition has this value, or this refusal
abbrev pub GivesFun : {X Y : Type 0} → (X → Y) → List ℕ → Result X FunFault → OrRefusal Y → Type 0
GivesFun view text (Ok x) r = r ≡ Ok (view x)
GivesFun view text (Err f) r = RefusedBy (fun_fault_seen text f) r
