-- Texts that are written one after the other.
use Rattle.std.proofs.Common.{◌≡◌, ◌≢◌, ◌∙◌, ne_eqb, None, ℕ, Bool, if◌then◌else◌, List, [], ◌∷◌, ◌++◌, length, codes, decimal, sym, ap, append_assoc, append-nil}
use Rattle.def_formats.specs.Summaries.{NumberedLine, longest_line, Load, load_of, load_line, longest, kind_lines, kinds_of_signals, kinds_of_calls, kinds_of_processes, kinds_of_links, session_summary}

pub after_three : (old l1 l2 l3 a b c : List ℕ) → l1 ≡ old ++ a → l2 ≡ l1 ++ b → l3 ≡ l2 ++ c → l3 ≡ old ++ (a ++ (b ++ (c ++ [])))
after_three old l1 l2 l3 a b c h1 h2 h3 =
    h3 ∙ ap (λ l. l ++ c) (h2 ∙ ap (λ l. l ++ b) h1) ∙ ap (λ l. ((old ++ a) ++ b) ++ l) (sym (append-nil c)) ∙ simp append_assoc

pub after_six : (old l1 l2 l3 l4 l5 l6 a b c d e f : List ℕ) → l1 ≡ old ++ a → l2 ≡ l1 ++ b → l3 ≡ l2 ++ c → l4 ≡ l3 ++ d → l5 ≡ l4 ++ e → l6 ≡ l5 ++ f → l6 ≡ old ++ (a ++ b ++ c ++ d ++ e ++ f)
after_six old l1 l2 l3 l4 l5 l6 a b c d e f h1 h2 h3 h4 h5 h6 =
    h6 ∙ ap (λ l. l ++ f) (h5 ∙ ap (λ l. l ++ e) (h4 ∙ ap (λ l. l ++ d) (h3 ∙ ap (λ l. l ++ c) (h2 ∙ ap (λ l. l ++ b) h1)))) ∙ simp append_assoc

pub after_seven : (old l1 l2 l3 l4 l5 l6 l7 a b c d e f g : List ℕ) → l1 ≡ old ++ a → l2 ≡ l1 ++ b → l3 ≡ l2 ++ c → l4 ≡ l3 ++ d → l5 ≡ l4 ++ e → l6 ≡ l5 ++ f → l7 ≡ l6 ++ g → l7 ≡ old ++ (a ++ b ++ c ++ d ++ e ++ f ++ g)
after_seven old l1 l2 l3 l4 l5 l6 l7 a b c d e f g h1 h2 h3 h4 h5 h6 h7 =
    h7 ∙ ap (λ l. l ++ g) (after_six old l1 l2 l3 l4 l5 l6 a b c d e f h1 h2 h3 h4 h5 h6) ∙ simp append_assoc

pub greatest_written : (m : NumberedLine) (old text new : List ℕ) → m.number ≢ 0
    → text ≡ codes "greatest: bytes " ++ decimal (length m.line) ++ codes ", line " ++ decimal m.number ++ codes ", " ++ m.line ++ 10 ∷ []
    → new ≡ old ++ text → new ≡ old ++ longest_line m
greatest_written m old text new some is added =
    added ∙ ap (λ l. old ++ l) (is ∙ ap (λ (b : Bool). if b then [] else (codes "greatest: bytes " ++ decimal (length m.line) ++ codes ", line " ++ decimal m.number ++ codes ", " ++ m.line ++ 10 ∷ [])) (sym (ne_eqb m.number 0 some)))

pub session_written : (lines : List (List ℕ)) (old l1 l2 l3 l4 l5 l6 : List ℕ) (l : Load) (m : NumberedLine)
    → l1 ≡ old ++ kind_lines kinds_of_signals lines → l2 ≡ l1 ++ kind_lines kinds_of_calls lines → l3 ≡ l2 ++ kind_lines kinds_of_processes lines → l4 ≡ l3 ++ kind_lines kinds_of_links lines
    → l5 ≡ l4 ++ load_line (codes "total") l → l6 ≡ l5 ++ longest_line m → l ≡ load_of None lines → m ≡ longest lines → l6 ≡ old ++ session_summary lines
session_written lines old l1 l2 l3 l4 l5 l6 l m h1 h2 h3 h4 h5 h6 is_load is_longest =
    after_six old l1 l2 l3 l4 l5 l6 _ _ _ _ _ _ h1 h2 h3 h4 (h5 ∙ ap (λ x. l4 ++ load_line (codes "total") x) is_load) (h6 ∙ ap (λ x. l5 ++ longest_line x) is_longest)
