-- How much of a text is shown.
use Rattle.std.proofs.Common.{◌≡◌, ◌∙◌, ℕ, ◌+◌, ◌-◌, ◌<◌, nat_le, false, if◌then◌else◌, List, ◌++◌, length, take, drop, codes, Result, Ok, Err, OnOk, is_ok, sym, ap, append_assoc, arith}
use Rattle.std.proofs.lemmas.Bool.Decides.{nat_tests}
use Rattle.std.proofs.lemmas.List.{take-append-drop, take-take, drop-take, length-drop}
use Rattle.def_wording.specs.ShownTexts.{shown_text}

is_long : (m : ℕ) → 60 < m → nat_le m 60 ≡ false
is_long m long = grind (arith, nat_tests, long)

front : (o : List ℕ) (n : ℕ) → take (n + 60) o ≡ take n o ++ take 60 (drop n o)
front o n =
    sym (take-append-drop n (take (n + 60) o))
    ∙ ap (λ l. l ++ drop n (take (n + 60) o)) (take-take n (n + 60) o (omega arith))
    ∙ ap (λ l. take n o ++ l) (drop-take n 60 o)

cut : (o : List ℕ) (n : ℕ) → 60 < length o - n → take (n + 60) o ++ codes ".." ≡ take n o ++ shown_text (drop n o)
cut o n long =
    let rest = drop n o in
    ap (λ l. l ++ codes "..") (front o n) ∙ append_assoc (take n o) (take 60 rest) (codes "..")
    ∙ ap (λ b. take n o ++ (if b then rest else take 60 rest ++ codes "..")) (sym (is_long (length rest) (omega (arith, long, length-drop n o))))

-- the first so many, and two dots where they could be written
pub cut_off : {T E : Type 0} (done : Result T E) (o t d : List ℕ) (n : ℕ) → 60 < length o - n → t ≡ take (n + 60) o → d ≡ (if is_ok done then t ++ codes ".." else t) → OnOk done (d ≡ take n o ++ shown_text (drop n o))
cut_off (Ok v) o t d n long front is = is ∙ ap (λ l. l ++ codes "..") front ∙ cut o n long
cut_off (Err e) o t d n long front is = tt
