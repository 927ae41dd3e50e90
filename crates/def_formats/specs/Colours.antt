-- The output of a run in colours, for a terminal (ECMA-48, "Select graphic rendition") (own).
-- Depends on the lines of a text and on the kinds of trace messages.
use Rattle.std.specs.Prelude.{ℕ, ◌==◌, nat_eq, Bool, true, false, ◌||◌, if◌then◌else◌, List, [], ◌∷◌, ◌++◌, flat_map, codes}
use Rattle.std.specs.List.{starts_with}
use Rattle.std.specs.Str.{bytes_eq}
use Rattle.def_formats.specs.Lines.{text_lines, message_kind}
use Rattle.def_formats.specs.Summaries.{kinds_of_signals, kinds_of_calls, kinds_of_processes, kinds_of_links}

-- how a line is shown
pub data Style : Type 0 where
  as_it_is : Style
  bold : Style
  green : Style
  yellow : Style
  magenta : Style
  cyan : Style

-- the kind is one of these
abbrev pub is_kind_among : List (List ℕ) → List ℕ → Bool
is_kind_among [] kind = false
is_kind_among (k ∷ ks) kind = bytes_eq kind k || is_kind_among ks kind

-- messages that are sent and that arrive, calls, processes and links have a colour each
abbrev pub kind_style : List ℕ → Style
kind_style kind =
    if is_kind_among kinds_of_signals kind then cyan
    else if is_kind_among kinds_of_calls kind then green
    else if is_kind_among kinds_of_processes kind then yellow
    else if is_kind_among kinds_of_links kind then magenta
    else as_it_is

-- the first line of a section is bold, and a trace message has the colour of its kind
abbrev pub line_style : List ℕ → Style
line_style line =
    if starts_with nat_eq line (codes "== ") then bold
    else if starts_with nat_eq line (codes "{trace,") then kind_style (message_kind line)
    else as_it_is

-- ---- the sequences of a terminal

-- with this parameter
abbrev pub rendition : List ℕ → List ℕ
rendition parameter = 27 ∷ 91 ∷ (parameter ++ codes "m")

-- a text in a style, after which the style is none
abbrev pub in_style : Style → List ℕ → List ℕ
in_style as_it_is text = text
in_style bold text = rendition (codes "1") ++ text ++ rendition (codes "0")
in_style green text = rendition (codes "32") ++ text ++ rendition (codes "0")
in_style yellow text = rendition (codes "33") ++ text ++ rendition (codes "0")
in_style magenta text = rendition (codes "35") ++ text ++ rendition (codes "0")
in_style cyan text = rendition (codes "36") ++ text ++ rendition (codes "0")

-- a line with its line feed
abbrev pub coloured_line : List ℕ → List ℕ
coloured_line line = in_style (line_style line) line ++ 10 ∷ []

-- the output, line by line
abbrev pub coloured_text : List ℕ → List ℕ
coloured_text output = flat_map coloured_line (text_lines output)

-- ---- what a terminal shows

-- a text without its sequences; whether one is begun
abbrev pub text_without_colours : (is_sequence : Bool) → List ℕ → List ℕ
text_without_colours is_sequence [] = []
text_without_colours true (b ∷ bs) = if b == 109 then text_without_colours false bs else text_without_colours true bs
text_without_colours false (b ∷ bs) = if b == 27 then text_without_colours true bs else b ∷ text_without_colours false bs
