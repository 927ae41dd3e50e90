-- A terminal shows a line in colours as the line.
use Rattle.std.proofs.Common.{◌≡◌, ◌∙◌, ◌==◌, Bool, true, false, not, if◌then◌else◌, ℕ, List, [], ◌∷◌, ◌++◌, codes, refl, ap, append_assoc}
use Rattle.std.proofs.lemmas.Bool.{and_parts}
use Rattle.std.specs.List.{list_all}
use Rattle.def_formats.specs.Colours.{Style, as_it_is, bold, green, yellow, magenta, cyan, line_style, rendition, in_style, text_without_colours}
use Rattle.def_formats.specs.Laws.{HasNoEscape, ColouredLineIsShown}

no_escape : (b : Bool) → not b ≡ true → b ≡ false
no_escape true e = absurd (cc)
no_escape false e = refl

-- what has no escape is shown
shown_front : (line rest : List ℕ) → HasNoEscape line → text_without_colours false (line ++ rest) ≡ line ++ text_without_colours false rest
shown_front [] rest h = refl
shown_front (b ∷ bs) rest h =
    let parts = and_parts (not (b == 27)) (list_all (λ c. not (c == 27)) bs) h in
    ap (λ (e : Bool). if e then text_without_colours true (bs ++ rest) else b ∷ text_without_colours false (bs ++ rest)) (no_escape (b == 27) parts.0) ∙ ap (λ l. b ∷ l) (shown_front bs rest parts.1)

shown_before_none : (line : List ℕ) → HasNoEscape line → text_without_colours false ((line ++ rendition (codes "0")) ++ 10 ∷ []) ≡ line ++ 10 ∷ []
shown_before_none line h = ap (λ l. text_without_colours false l) (append_assoc line (rendition (codes "0")) (10 ∷ [])) ∙ shown_front line (rendition (codes "0") ++ 10 ∷ []) h

shown_in_style : (s : Style) (line : List ℕ) → HasNoEscape line → text_without_colours false (in_style s line ++ 10 ∷ []) ≡ line ++ 10 ∷ []
shown_in_style as_it_is line h = shown_front line (10 ∷ []) h
shown_in_style bold line h = shown_before_none line h
shown_in_style green line h = shown_before_none line h
shown_in_style yellow line h = shown_before_none line h
shown_in_style magenta line h = shown_before_none line h
shown_in_style cyan line h = shown_before_none line h

pub coloured_line_is_shown : ColouredLineIsShown
coloured_line_is_shown line h = shown_in_style (line_style line) line h
