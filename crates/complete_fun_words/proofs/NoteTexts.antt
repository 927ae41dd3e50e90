-- Two answers what the notes on a fun are.
use Rattle.std.proofs.Common.{◌≡◌, ◌∙◌, ℕ, List, Result, Ok, Err, IfOk, sym, ap}
use Rattle.std.specs.declared.vec.Vec.{Vec}
use Rattle.def_fun_words.specs.Notes.{notes_text}

-- of two texts that are equal
pub noted_alike : {A E : Type 0} (source other : List ℕ) (a b : Result (Vec ℕ A) E) → source ≡ other → IfOk a (λ v. v.items ≡ notes_text source) → IfOk b (λ v. v.items ≡ notes_text other) → IfOk a (λ v. IfOk b (λ w. v.items ≡ w.items))
noted_alike source other (Ok v) (Ok w) same x y = x ∙ ap notes_text same ∙ sym y
noted_alike source other (Ok v) (Err f) same x y = tt
noted_alike source other (Err e) b same x y = tt
