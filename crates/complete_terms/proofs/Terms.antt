-- A text is read as one term, or as the terms of one script, or has one refusal.
use Rattle.std.proofs.Common.{◌≡◌, ◌≤◌, ℕ, List, length, map, true, Result, Ok, Err, sym, subst}
use Rattle.std.specs.declared.vec.Vec.{Vec}
use Rattle.def_term.specs.Tree.{Tree}
use Rattle.def_term.specs.Text.{w}
use Rattle.def_text.specs.Limits.{DEPTH, Fits}
use Rattle.def_text.specs.Spelling.{LENGTH, Spells, IsRefusedAt}
use Rattle.def_text.specs.Scripts.{SpellsTerms, ScriptRefused}
use Rattle.def_text.specs.Writable.{is_writable}
use Rattle.def_text.proofs.One.{one, refused}
use Rattle.def_text.proofs.Whole.{spells}
use Rattle.def_text.proofs.Either.{once, script_one, script_refused, script_once}
use Rattle.tn_term.specs.declared.term.Term.{Term}
use Rattle.tn_term.specs.Views.{tree_of}
use Rattle.tn_text.specs.declared.fault.TextFault.{TextFault}
use Rattle.tn_text.specs.declared.fault.TextFault.TheVariants.{TooLong, Token as NoToken, TooDeep, TooLarge, OutOfMemory}
use Rattle.tn_text.specs.Answers.{IsTermRead, IsTextRefusal, IsReadScript, IsScriptRefusal}
use Rattle.complete_terms.specs.Answers.{AreAlike, ReadsAs}
use Rattle.complete_terms.proofs.Readings.{IsDetermined, IsRefusalBy, IsAnswerBy, answers_alike, read_or_refused}

term_determined : (bytes : List ℕ) → IsDetermined bytes (Spells bytes) (IsRefusedAt bytes)
term_determined bytes = record {
  one = one bytes;
  refused = refused bytes;
  once = once bytes;
  short = λ x s. s.short;
  short_too = λ kind at r. r.short;
}

refusal_by : (bytes : List ℕ) (f : TextFault) → IsTextRefusal bytes f → IsRefusalBy bytes (IsRefusedAt bytes) f
refusal_by bytes TooLong p = p
refusal_by bytes (NoToken at) p = p
refusal_by bytes (TooDeep at) p = p
refusal_by bytes (TooLarge at) p = p
refusal_by bytes OutOfMemory p = p

answer_by : {A : Type 0} (bytes : List ℕ) (r : Result (Term A) TextFault) → IsTermRead bytes r → IsAnswerBy bytes tree_of (Spells bytes) (IsRefusedAt bytes) r
answer_by bytes (Ok t) p = p
answer_by bytes (Err f) p = refusal_by bytes f p

pub read_alike : {A : Type 0} (bytes : List ℕ) (r s : Result (Term A) TextFault) → IsTermRead bytes r → IsTermRead bytes s → AreAlike tree_of r s
read_alike bytes r s p q =
    answers_alike bytes tree_of (Spells bytes) (IsRefusedAt bytes) (term_determined bytes) r s (answer_by bytes r p) (answer_by bytes s q)

read_as : {A : Type 0} (bytes : List ℕ) (t : Tree) (r : Result (Term A) TextFault) → Spells bytes t → IsTermRead bytes r → ReadsAs t r
read_as bytes t (Ok u) s p = one bytes (tree_of u) t p s
read_as bytes t (Err f) s p = read_or_refused bytes (Spells bytes) (IsRefusedAt bytes) (term_determined bytes) t f s (refusal_by bytes f p)

-- what is written of a term within the limits is read as that term
pub written_read : {A : Type 0} (bytes : List ℕ) (t : Tree) (r : Result (Term A) TextFault) → bytes ≡ w t → is_writable t ≡ true → Fits DEPTH true t → length (w t) ≤ LENGTH → IsTermRead bytes r → ReadsAs t r
written_read bytes t r is writable fits short p = read_as bytes t r (subst (λ b. Spells b t) (sym is) (spells t writable fits short)) p

script_determined : (bytes : List ℕ) → IsDetermined bytes (SpellsTerms bytes) (ScriptRefused bytes)
script_determined bytes = record {
  one = script_one bytes;
  refused = script_refused bytes;
  once = script_once bytes;
  short = λ x s. s.short;
  short_too = λ kind at r. r.short;
}

script_refusal_by : (bytes : List ℕ) (f : TextFault) → IsScriptRefusal bytes f → IsRefusalBy bytes (ScriptRefused bytes) f
script_refusal_by bytes TooLong p = p
script_refusal_by bytes (NoToken at) p = p
script_refusal_by bytes (TooDeep at) p = p
script_refusal_by bytes (TooLarge at) p = p
script_refusal_by bytes OutOfMemory p = p

script_answer_by : {A : Type 0} (bytes : List ℕ) (r : Result (Vec (Term A) A) TextFault) → IsReadScript bytes r →
    IsAnswerBy bytes (λ v. map tree_of v.items) (SpellsTerms bytes) (ScriptRefused bytes) r
script_answer_by bytes (Ok v) p = p
script_answer_by bytes (Err f) p = script_refusal_by bytes f p

pub script_alike : {A : Type 0} (bytes : List ℕ) (r s : Result (Vec (Term A) A) TextFault) → IsReadScript bytes r → IsReadScript bytes s →
    AreAlike (λ v. map tree_of v.items) r s
script_alike bytes r s p q =
    answers_alike bytes (λ v. map tree_of v.items) (SpellsTerms bytes) (ScriptRefused bytes) (script_determined bytes) r s (script_answer_by bytes r p) (script_answer_by bytes s q)
