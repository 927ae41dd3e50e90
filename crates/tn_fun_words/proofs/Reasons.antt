-- Why a clause doesn't fire, in pieces.
use Rattle.std.proofs.Common.{◌≡◌, ◌≢◌, ◌∙◌, ℕ, suc, List, [], ◌∷◌, ◌++◌, flat_map, Option, Result, Ok, Err, OnOk, codes, decimal, refl, sym, ap, append_assoc, append-nil}
use Rattle.def_term.specs.Tree.{Tree}
use Rattle.def_term.specs.Names.{Name}
use Rattle.def_term.specs.Text.{w}
use Rattle.def_explain.specs.Mismatches.{HeadPart, is_term, is_bound, is_tuple_of, is_list_of, mismatch}
use Rattle.def_explain.specs.Heads.{after_matching}
use Rattle.def_explain.specs.Reasons.{ConditionReason, Reason, by_condition}
use Rattle.def_explain.specs.ReasonTexts.{found_text}
use Rattle.def_explain.specs.Texts.{head_reason_text, condition_reason_text, reason_text}
use Rattle.def_fun_words.specs.Words.{ClauseWords}
use Rattle.def_fun_words.specs.WordTexts.{line_part_text, line_parts_text, clause_after, variable_words, variable_named, name_numbered, head_parts, reason_parts, line_in, failed_line}
use Rattle.tn_verdict.specs.MismatchTexts.{level_text}

-- one text alone is one part
pub alone_ok : {T E : Type 0} (done : Result T E) (o x d : List ℕ) → OnOk done (d ≡ o ++ x) → OnOk done (d ≡ o ++ (x ++ []))
alone_ok (Ok v) o x d h = h ∙ ap (λ s. o ++ s) (sym (append-nil x))
alone_ok (Err e) o x d h = tt

-- a head that differs at no variable
pub plain_ok : {T E : Type 0} (done : Result T E) (ws : Option ClauseWords) (n : ℕ) (place : List ℕ) (p : HeadPart) (v : Tree) (o d : List ℕ) → ((k : ℕ) (t : Tree) → p ≢ is_bound k t)
    → OnOk done (d ≡ o ++ head_reason_text (after_matching n (mismatch place p v))) → OnOk done (d ≡ o ++ line_parts_text ws (head_parts (after_matching n (mismatch place p v))))
plain_ok done ws n place (is_term t) v o d other h = alone_ok done o (head_reason_text (after_matching n (mismatch place (is_term t) v))) d h
plain_ok done ws n place (is_bound k t) v o d other h = absurd (other k t refl)
plain_ok done ws n place (is_tuple_of m) v o d other h = alone_ok done o (head_reason_text (after_matching n (mismatch place (is_tuple_of m) v))) d h
plain_ok done ws n place (is_list_of m) v o d other h = alone_ok done o (head_reason_text (after_matching n (mismatch place (is_list_of m) v))) d h

bound_pieces : (o place name is value found last : List ℕ) → ((((o ++ place) ++ name) ++ is) ++ value) ++ (found ++ last) ≡ o ++ (place ++ (name ++ (((is ++ value) ++ (found ++ last)) ++ [])))
bound_pieces o place name is value found last = simp (append_assoc, append-nil)

-- a head that differs at a variable
pub bound_written : (ws : Option ClauseWords) (ns : List Name) (n k : ℕ) (place : List ℕ) (t v : Tree) (o z : List ℕ) → ((j : ℕ) → name_numbered ns j ≡ variable_named ws j)
    → z ≡ ((((o ++ (((codes "the head doesn't match at element " ++ decimal (suc n)) ++ flat_map level_text place) ++ codes ": ")) ++ variable_words (name_numbered ns k) k) ++ codes " is ") ++ w t) ++ found_text v
    → z ≡ o ++ line_parts_text ws (head_parts (after_matching n (mismatch place (is_bound k t) v)))
bound_written ws ns n k place t v o z h made =
    made
    ∙ bound_pieces o (((codes "the head doesn't match at element " ++ decimal (suc n)) ++ flat_map level_text place) ++ codes ": ") (variable_words (name_numbered ns k) k) (codes " is ") (w t) (codes ", found ") (w v)
    ∙ ap (λ x. o ++ ((((codes "the head doesn't match at element " ++ decimal (suc n)) ++ flat_map level_text place) ++ codes ": ") ++ (variable_words x k ++ (((codes " is " ++ w t) ++ found_text v) ++ [])))) (h k)

-- a fault, of whose reason the words of `spec` are left out at the front
pub fault_ok : {T E : Type 0} (done : Result T E) (r : ConditionReason) (o d rest : List ℕ) → rest ≡ condition_reason_text r → OnOk done (d ≡ o ++ rest) → OnOk done (d ≡ o ++ condition_reason_text r)
fault_ok (Ok v) r o d rest same h = h ∙ ap (λ s. o ++ s) same
fault_ok (Err e) r o d rest same h = tt

failed_pieces : (o number colon reason : List ℕ) → (((o ++ number) ++ colon) ++ reason) ++ 10 ∷ [] ≡ o ++ ((number ++ (colon ++ reason)) ++ 10 ∷ [])
failed_pieces o number colon reason = simp append_assoc

pub failed_written : (ws : Option ClauseWords) (n : ℕ) (r : Reason) (o z : List ℕ) → z ≡ (((o ++ line_part_text ws (clause_after n)) ++ codes ": ") ++ line_parts_text ws (reason_parts r)) ++ 10 ∷ [] → z ≡ o ++ line_in ws (failed_line n r)
failed_written ws n r o z made = made ∙ failed_pieces o (line_part_text ws (clause_after n)) (codes ": ") (line_parts_text ws (reason_parts r))

-- four pieces, of which the last is refused or not
four_pieces : (o a n p q : List ℕ) → (((o ++ a) ++ n) ++ p) ++ q ≡ o ++ (((a ++ n) ++ p) ++ q)
four_pieces o a n p q = simp append_assoc

pub four_ok : {T E : Type 0} (done : Result T E) (o a n p q x y z d : List ℕ) → x ≡ o ++ a → y ≡ x ++ n → z ≡ y ++ p → OnOk done (d ≡ z ++ q) → OnOk done (d ≡ o ++ (((a ++ n) ++ p) ++ q))
four_ok (Ok v) o a n p q x y z d first second third last =
    last ∙ ap (λ s. s ++ q) (third ∙ ap (λ s. s ++ p) (second ∙ ap (λ s. s ++ n) first)) ∙ four_pieces o a n p q
four_ok (Err e) o a n p q x y z d first second third last = tt

-- the five pieces after the place of a variable, and the place
pub bound_made : (o place name is value found last b c d e f z : List ℕ) → b ≡ o ++ place → c ≡ b ++ name → d ≡ c ++ is → e ≡ d ++ value → f ≡ e ++ found → z ≡ f ++ last
    → z ≡ ((((o ++ place) ++ name) ++ is) ++ value) ++ (found ++ last)
bound_made o place name is value found last b c d e f z one two three four five six =
    six ∙ ap (λ s. s ++ last) (five ∙ ap (λ s. s ++ found) (four ∙ ap (λ s. s ++ value) (three ∙ ap (λ s. s ++ is) (two ∙ ap (λ s. s ++ name) one))))
    ∙ append_assoc ((((o ++ place) ++ name) ++ is) ++ value) found last

-- what is after the number of a condition
pub after_number : (k : ℕ) (r : ConditionReason) (whole front full start nothing none : List ℕ) → whole ≡ full → full ≡ nothing ++ reason_text (by_condition k r) → nothing ≡ [] → front ≡ start → start ≡ none ++ (codes "condition " ++ decimal (suc k)) → none ≡ []
    → whole ≡ front ++ condition_reason_text r
after_number k r whole front full start nothing none same written empty also begun too =
    same ∙ written ∙ ap (λ s. s ++ reason_text (by_condition k r)) empty ∙ ap (λ s. s ++ condition_reason_text r) (sym (also ∙ begun ∙ ap (λ s. s ++ (codes "condition " ++ decimal (suc k))) too))
