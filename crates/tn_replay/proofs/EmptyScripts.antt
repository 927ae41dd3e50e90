-- A text is blanks and comments alone where their length is the text's.
use Rattle.std.proofs.Common.{◌≡◌, ◌∙◌, ℕ, ◌≤◌, Bool, true, false, nat_eq, List, length, drop, refl, sym, ap, arith, length-drop}
use Rattle.std.proofs.lemmas.List.{drop_all}
use Rattle.std.proofs.lemmas.Bool.{eqb-true, eq-eqb}
use Rattle.def_text.specs.Tokens.{gap_len}
use Rattle.def_explain.specs.EmptyScripts.{is_gap}
use Rattle.def_explain.proofs.EmptyScripts.{empty_script_is_gap}

gap_by : (bytes : List ℕ) (n : ℕ) (b c : Bool) → n ≡ gap_len false bytes → n ≤ length bytes → nat_eq n (length bytes) ≡ b → is_gap false bytes ≡ c → b ≡ c
gap_by bytes n true true is fits e g = refl
gap_by bytes n false false is fits e g = refl
gap_by bytes n true false is fits e g =
    let whole = eqb-true n (length bytes) e in
    let all : length bytes ≤ gap_len false bytes = omega (arith, is, whole) in
    let there = (empty_script_is_gap bytes).1 (drop_all (gap_len false bytes) bytes all) in
    sym there ∙ g
gap_by bytes n false true is fits e g =
    let none : length (drop (gap_len false bytes) bytes) ≡ 0 = ap length ((empty_script_is_gap bytes).0 g) in
    let all : n ≡ length bytes = omega (arith, is, fits, none, length-drop (gap_len false bytes) bytes) in
    sym e ∙ eq-eqb n (length bytes) all

pub gap_is_all : (bytes : List ℕ) (n : ℕ) → n ≡ gap_len false bytes → n ≤ length bytes → nat_eq n (length bytes) ≡ is_gap false bytes
gap_is_all bytes n is fits = gap_by bytes n (nat_eq n (length bytes)) (is_gap false bytes) is fits refl refl
