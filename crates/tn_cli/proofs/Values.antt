-- What a text between a beginning and an end names: a process, or a session.
use Rattle.std.proofs.Common.{◌≡◌, ◌∙◌, sym, refl, ap, subst, ℕ, ◌-◌, ◌<◌, cond, List, ◌++◌}
use Rattle.std.proofs.Common.{Option, Some, None, IfNone, length, codes, inl, inr, length-append, arith}
use Rattle.std.specs.Prelude.{◌&&◌, SomeIff}
use Rattle.std.specs.List.{list_all}
use Rattle.std.specs.Str.{bytes_eq}
use Rattle.std.specs.Str.Parse.{digits_value}
use Rattle.std.proofs.Math.Seq.{take-append_seam}
use Rattle.std.proofs.lemmas.List.{append_cancel_left, append_cancel_right}
use Rattle.std.proofs.lemmas.Slice.Eq.{bytes_eq-Decides}
use Rattle.tn_command.specs.Numbers.{IsPlainNumber}
use Rattle.tn_cli.specs.Requests.{NamesNoProcess, is_inner, inner_text, session_named}

-- a pid is no number: `<` is no digit
pid_no_number : (digits : List ℕ) → IsPlainNumber (codes "<0." ++ digits ++ codes ".0>") → ⊥
pid_no_number digits plain = let bad : 36 < 10 = plain.0.1.0 in absurd (omega arith)

-- a pid has one text of digits
one_text : (inner digits : List ℕ) → codes "<0." ++ inner ++ codes ".0>" ≡ codes "<0." ++ digits ++ codes ".0>" → inner ≡ digits
one_text inner digits same = append_cancel_right inner digits (codes ".0>") (append_cancel_left (codes "<0.") _ _ same)

-- where the text of digits is no number, the pid names no process
no_process : (text inner : List ℕ) → text ≡ codes "<0." ++ inner ++ codes ".0>" → (IsPlainNumber inner → ⊥) → NamesNoProcess text
no_process text inner is none n (inl number) = pid_no_number inner (subst IsPlainNumber is number.0)
no_process text inner is none n (inr named) =
    none (subst IsPlainNumber (sym (one_text inner named.0 (sym is ∙ named.1))) named.2.0)

-- the same of what reads the digits
pub no_process_read : (text inner : List ℕ) (r : Option ℕ) → text ≡ codes "<0." ++ inner ++ codes ".0>"
    → SomeIff r (IsPlainNumber inner) (digits_value 10 inner) → IfNone r (NamesNoProcess text)
no_process_read text inner (Some n) is read = tt
no_process_read text inner None is read = no_process text inner is read

-- the text between quotes
between_quotes : (inner : List ℕ) → inner_text (codes "'" ++ inner ++ codes "'") ≡ inner
between_quotes inner =
    let long : length (codes "'" ++ inner ++ codes "'") - 2 ≡ length inner = grind (arith, length-append) in
    rw long (take-append_seam inner (codes "'"))

-- what a text in quotes names
at_quotes : (inner : List ℕ)
    → session_named (codes "'" ++ inner ++ codes "'") ≡ cond (list_all is_inner inner) inner (codes "'" ++ inner ++ codes "'")
at_quotes inner =
    let whole : List ℕ = codes "'" ++ inner ++ codes "'" in
    ap (λ i. cond (bytes_eq whole (codes "'" ++ i ++ codes "'") && list_all is_inner i) i whole) (between_quotes inner)
    ∙ ap (λ b. cond (b && list_all is_inner inner) inner whole) ((bytes_eq-Decides whole whole).1 refl)

pub named_inner : (text inner : List ℕ) → text ≡ codes "'" ++ inner ++ codes "'" → session_named text ≡ cond (list_all is_inner inner) inner text
named_inner text inner is = subst (λ t. session_named t ≡ cond (list_all is_inner inner) inner t) (sym is) (at_quotes inner)
