-- A text within the length spells a term or is refused, once and not both; and so a list of terms.
use Rattle.std.proofs.Common.{◌≡◌, ℕ, ◌≤◌, List, [], ◌∷◌, ◌++◌, length, drop, true, Result, Ok, Err, refl, ap, sym, ◌∙◌, subst, arith, length-append, ◌⊎◌, inl, inr}
use Rattle.std.proofs.lemmas.List.{drop_at, length-map}
use Rattle.def_term.specs.Tree.{Tree}
use Rattle.def_text.specs.Tokens.{Token, TokenSpan, Tokens}
use Rattle.def_text.specs.Grammar.{DerivesScript}
use Rattle.def_text.specs.Limits.{DEPTH}
use Rattle.def_text.specs.Faults.{FaultKind, Fault, IsFirstFault}
use Rattle.def_text.specs.Spelling.{LENGTH, Spells, IsRefusedAt, tokens_of, offset_of}
use Rattle.def_text.specs.Reading.{read}
use Rattle.def_text.specs.Scripts.{EachFits, IsFirstScriptFault, SpellsTerms, ScriptRefused}
use Rattle.def_text.specs.ScriptReading.{read_script}
use Rattle.def_text.proofs.Unique.{same_tokens}
use Rattle.def_text.proofs.TokensExist.{tokens_exist}
use Rattle.def_text.proofs.Faults.{found, refused}
use Rattle.def_text.proofs.ScriptFaults as script
use Rattle.def_text.proofs.OneFault.{one_fault, one_script_fault, script_denied}

-- the spans from those tokens on
abbrev pub PartedAt : List TokenSpan → List Token → List Token → Type 0
PartedAt xs a b = (front : List TokenSpan) × (rest : List TokenSpan) × (xs ≡ front ++ rest) × (tokens_of rest ≡ b)

pub part_at : (xs : List TokenSpan) (a b : List Token) → tokens_of xs ≡ a ++ b → PartedAt xs a b
part_at xs [] b e = ([], xs, refl, e)
part_at [] (t ∷ a) b e = absurd (cc)
part_at (x ∷ xs) (t ∷ a) b e = let more : tokens_of xs ≡ a ++ b = cc in let p = part_at xs a b more in (x ∷ p.0, p.1, ap (λ ys. x ∷ ys) p.2, p.3)

-- what is left over of the same list, with as many tokens, is the same
pub same_rest : (f r g s : List TokenSpan) → f ++ r ≡ g ++ s → tokens_of r ≡ tokens_of s → r ≡ s
same_rest f r g s e same =
    let token_of = λ (x : TokenSpan). x.token in
    let many : length (tokens_of r) ≡ length (tokens_of s) = ap length same in
    let size = ap length e in
    let left : length f ≡ length g = omega (arith, size, many, length-append f r, length-append g s, length-map r token_of, length-map s token_of) in
    sym (drop_at f r (length f) refl) ∙ ap (drop (length f)) e ∙ drop_at g s (length f) (sym left)

-- terms
abbrev pub ReadOrRefused : List ℕ → Type 0
ReadOrRefused bytes = ((t : Tree) × Spells bytes t) ⊎ ((kind : FaultKind) × (at : ℕ) × IsRefusedAt bytes kind at)

pub refused_there : (bytes : List ℕ) (xs : List TokenSpan) (r : Fault) → length bytes ≤ LENGTH → Tokens bytes xs → IsFirstFault DEPTH (tokens_of xs) r → (at : ℕ) × IsRefusedAt bytes r.0 at
refused_there bytes xs r short are h =
    let p = part_at xs h.0 r.1 h.1 in (
      offset_of (length bytes) p.1,
      record {
        short = short;
        front = p.0;
        rest = p.1;
        are = subst (Tokens bytes) p.2 are;
        first = subst (λ ys. IsFirstFault DEPTH (tokens_of ys) (r.0, tokens_of p.1)) p.2 (subst (λ b. IsFirstFault DEPTH (tokens_of xs) (r.0, b)) (sym p.3) h);
        offset = refl;
      },
    )

by_reading : (bytes : List ℕ) (xs : List TokenSpan) (q : Result Tree Fault) → length bytes ≤ LENGTH → Tokens bytes xs → read DEPTH true (tokens_of xs) ≡ q → ReadOrRefused bytes
by_reading bytes xs (Ok t) short are e = let f = found DEPTH (tokens_of xs) t e in inl (t, record { short = short; tokens = xs; are = are; derives = f.0; fits = f.1 })
by_reading bytes xs (Err r) short are e = let there = refused_there bytes xs r short are (refused DEPTH (tokens_of xs) r e) in inr (r.0, there.0, there.1)

pub either : (bytes : List ℕ) → length bytes ≤ LENGTH → ((t : Tree) × Spells bytes t) ⊎ ((kind : FaultKind) × (at : ℕ) × IsRefusedAt bytes kind at)
either bytes short = let x = tokens_exist bytes in by_reading bytes x.0 (read DEPTH true (tokens_of x.0)) short x.1 refl

pub once : (bytes : List ℕ) (kind other : FaultKind) (at there : ℕ) → IsRefusedAt bytes kind at → IsRefusedAt bytes other there → (kind ≡ other) × (at ≡ there)
once bytes kind other at there r q =
    let same = same_tokens 0 bytes (r.front ++ r.rest) (q.front ++ q.rest) r.are q.are in
    let one = one_fault DEPTH (tokens_of (r.front ++ r.rest)) (kind, tokens_of r.rest) (other, tokens_of q.rest) r.first (subst (λ ys. IsFirstFault DEPTH (tokens_of ys) (other, tokens_of q.rest)) (sym same) q.first) in
    (one.0, r.offset ∙ ap (offset_of (length bytes)) (same_rest r.front r.rest q.front q.rest same one.1) ∙ sym q.offset)

-- scripts
pub script_refused_there : (bytes : List ℕ) (xs : List TokenSpan) (r : Fault) → length bytes ≤ LENGTH → Tokens bytes xs → IsFirstScriptFault DEPTH (tokens_of xs) r → (at : ℕ) × ScriptRefused bytes r.0 at
script_refused_there bytes xs r short are h =
    let p = part_at xs h.0 r.1 h.1 in (
      offset_of (length bytes) p.1,
      record {
        short = short;
        front = p.0;
        rest = p.1;
        are = subst (Tokens bytes) p.2 are;
        first = subst (λ ys. IsFirstScriptFault DEPTH (tokens_of ys) (r.0, tokens_of p.1)) p.2 (subst (λ b. IsFirstScriptFault DEPTH (tokens_of xs) (r.0, b)) (sym p.3) h);
        offset = refl;
      },
    )

abbrev pub ScriptReadOrRefused : List ℕ → Type 0
ScriptReadOrRefused bytes = ((ts : List Tree) × SpellsTerms bytes ts) ⊎ ((kind : FaultKind) × (at : ℕ) × ScriptRefused bytes kind at)

by_script_reading : (bytes : List ℕ) (xs : List TokenSpan) (q : Result (List Tree) Fault) → length bytes ≤ LENGTH → Tokens bytes xs → read_script DEPTH true (tokens_of xs) ≡ q → ScriptReadOrRefused bytes
by_script_reading bytes xs (Ok ts) short are e = let f = script.found DEPTH (tokens_of xs) ts e in inl (ts, record { short = short; tokens = xs; are = are; derives = f.0; fits = f.1 })
by_script_reading bytes xs (Err r) short are e = let there = script_refused_there bytes xs r short are (script.refused DEPTH (tokens_of xs) r e) in inr (r.0, there.0, there.1)

pub script_either : (bytes : List ℕ) → length bytes ≤ LENGTH → ((ts : List Tree) × SpellsTerms bytes ts) ⊎ ((kind : FaultKind) × (at : ℕ) × ScriptRefused bytes kind at)
script_either bytes short = let x = tokens_exist bytes in by_script_reading bytes x.0 (read_script DEPTH true (tokens_of x.0)) short x.1 refl

pub script_once : (bytes : List ℕ) (kind other : FaultKind) (at there : ℕ) → ScriptRefused bytes kind at → ScriptRefused bytes other there → (kind ≡ other) × (at ≡ there)
script_once bytes kind other at there r q =
    let same = same_tokens 0 bytes (r.front ++ r.rest) (q.front ++ q.rest) r.are q.are in
    let one = one_script_fault DEPTH (tokens_of (r.front ++ r.rest)) (kind, tokens_of r.rest) (other, tokens_of q.rest) r.first (subst (λ ys. IsFirstScriptFault DEPTH (tokens_of ys) (other, tokens_of q.rest)) (sym same) q.first) in
    (one.0, r.offset ∙ ap (offset_of (length bytes)) (same_rest r.front r.rest q.front q.rest same one.1) ∙ sym q.offset)

one_list : (xs : List Token) (ts us : List Tree) → DerivesScript xs ts → EachFits DEPTH true ts → DerivesScript xs us → EachFits DEPTH true us → ts ≡ us
one_list xs ts us d f e g = let a = script.only DEPTH xs ts d f in let b = script.only DEPTH xs us e g in let both = sym a ∙ b in cc

pub script_one : (bytes : List ℕ) (ts us : List Tree) → SpellsTerms bytes ts → SpellsTerms bytes us → ts ≡ us
script_one bytes ts us s r =
    let same = same_tokens 0 bytes s.tokens r.tokens s.are r.are in
    one_list (tokens_of s.tokens) ts us s.derives s.fits (subst (λ xs. DerivesScript (tokens_of xs) us) (sym same) r.derives) r.fits

pub script_refused : (bytes : List ℕ) (ts : List Tree) (kind : FaultKind) (at : ℕ) → SpellsTerms bytes ts → ScriptRefused bytes kind at → ⊥
script_refused bytes ts kind at s r =
    let same = same_tokens 0 bytes s.tokens (r.front ++ r.rest) s.are r.are in
    let d = subst (λ xs. DerivesScript (tokens_of xs) ts) same s.derives in
    let first = r.first in
    script_denied DEPTH first.0 kind (tokens_of r.rest) ts first.3 (subst (λ xs. DerivesScript xs ts) first.1 d) s.fits
