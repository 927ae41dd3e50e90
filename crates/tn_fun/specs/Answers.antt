-- What reading a fun's text answers.
use Rattle.std.specs.Prelude.{◌≡◌, ℕ, List, [], ◌∷◌, length, Result, Ok, Err, codes}
use Rattle.std.specs.declared.vec.Vec.{Vec}
use Rattle.def_term.specs.Names.{Name}
use Rattle.def_text.specs.Faults.{FaultKind, misplaced}
use Rattle.def_fun.specs.Tokens as token
use Rattle.def_fun.specs.Tokens.{FunToken, FunSpan}
use Rattle.def_fun.specs.Trees.{FunClause}
use Rattle.def_fun.specs.Reading as reading
use Rattle.def_fun.specs.Reading.{FunFault}
use Rattle.def_fun.specs.Refusals.{too_long, misplaced_token, no_such, too_deep_at, too_large_at, OrRefusal}
use Rattle.def_fun.specs.Answers.{reading_refusal, fun_of_text}
use Rattle.tn_fun.specs.Tokens.{span_seen}
use Rattle.tn_fun.specs.States.{token_there}
use Rattle.tn_fun.specs.Clauses.{fun_clauses_seen}
use Rattle.tn_fun.specs.FunStates.{fun_state_seen, IsCountedState}
use Rattle.tn_fun.specs.declared.clause.Clause.{Clause}
use Rattle.tn_fun.specs.declared.token.Token.{Token}
use Rattle.tn_fun.specs.declared.fun_state.FunState.{FunState}
use Rattle.tn_fun.specs.declared.fault.ReadFault.{ReadFault}
use Rattle.tn_fun.specs.declared.fault.ReadFault.TheVariants as faults

-- the name of what is left out, of `fun` and of `=`
abbrev pub left_out_name : FunToken → Name
left_out_name (token.left_out s) = s
left_out_name token.fun_word = codes "fun"
left_out_name token.match = codes "="
left_out_name t = []

-- the refusal of the text; where memory ran out nothing is said
abbrev pub IsRefusedFun : List ℕ → ReadFault → OrRefusal (List FunClause) → Type 0
IsRefusedFun text faults.TooLong r = r ≡ Err too_long
IsRefusedFun text (faults.Token at) r = r ≡ Err (misplaced_token at)
IsRefusedFun text (faults.NoSuch v) r = r ≡ Err (no_such (left_out_name (token_there text v)) v.from)
IsRefusedFun text (faults.TooDeep at) r = r ≡ Err (too_deep_at at)
IsRefusedFun text (faults.TooLarge at) r = r ≡ Err (too_large_at at)
IsRefusedFun text faults.OutOfMemory r = Unit {0}

-- the clauses of the fun, or the refusal of the text
abbrev pub IsFunRead : {A : Type 0} → List ℕ → Result (Vec (Clause A) A) ReadFault → Type 0
IsFunRead text (Ok v) = fun_of_text text ≡ Ok (fun_clauses_seen text v.items)
IsFunRead text (Err f) = IsRefusedFun text f (fun_of_text text)

-- the refusal that the definition has of that kind, of a token and whatever is after it
abbrev pub RefusesAs : List ℕ → ReadFault → Token → FaultKind → Type 0
RefusesAs text f v k = (xs : List FunSpan) → IsRefusedFun text f (Err (reading_refusal (length text) k (span_seen text v ∷ xs)))

-- the refusal of a step with a token
abbrev pub IsFaultAt : {S : Type 0} → List ℕ → ReadFault → Token → Result S FaultKind → Type 0
IsFaultAt text faults.OutOfMemory v r = Unit {0}
IsFaultAt text f v r = (k : FaultKind) × (r ≡ Err k) × RefusesAs text f v k

-- the step that the definition takes
abbrev pub TakesFunToken : {A : Type 0} → List ℕ → Result (FunState A) ReadFault → Token → Result reading.FunState FaultKind → Type 0
TakesFunToken text (Ok s) v r = (r ≡ Ok (fun_state_seen text s)) × IsCountedState text s
TakesFunToken text (Err f) v r = IsFaultAt text f v r

-- what is read at the end of the text
abbrev pub FinishesFun : {A : Type 0} → List ℕ → Result (Vec (Clause A) A) ReadFault → ℕ → Result (List FunClause) FunFault → Type 0
FinishesFun text (Ok v) end r = r ≡ Ok (fun_clauses_seen text v.items)
FinishesFun text (Err f) end r = (f ≡ faults.Token end) × (r ≡ Err (misplaced, []))
