-- Worked rows, computed: the texts of small pictures and their parts.
use Rattle.std.proofs.Common.{◌≡◌, List, [], ◌∷◌, ◌++◌, replicate, codes, refl, None}
use Rattle.std.specs.Fmt.{digits}
use Rattle.def_term.specs.Names.{word}
use Rattle.def_term.specs.Text.{is_written_bare}
use Rattle.def_term.specs.Tree.{pid}
use Rattle.def_script.specs.Program.{Command, Program, send, receive}
use Rattle.def_run.proofs.Samples.{function, entry, program, creates, sets, lines}
use Rattle.def_picture.specs.Picture.{Life, arrow, frame_start, column_of, picture_of, message_or}
use Rattle.def_picture.specs.Templates.{fill, xml_text}
use Rattle.def_picture.specs.Svg.{column_x, columns_end, arrow_svg, shape_svg, label_svg, first_letters, whole_svg}
use Rattle.def_picture.specs.Plain.{pad, life_cell, arrow_cell, mark_cell, shape_cell, cell_text, reporters_text, row_plain, session_plain, lives_plain, plain_text}

-- ---- templates

two_numbers : fill (codes "<a x=\"@\" y=\"@\"/>") (1 ∷ 20 ∷ []) ≡ codes "<a x=\"1\" y=\"20\"/>"
unfolding fill digits
two_numbers = refl

no_number_left : fill (codes "@-@") (7 ∷ []) ≡ codes "7-@"
unfolding fill digits
no_number_left = refl

names_of_bytes : xml_text (codes "<0.1.0> & \"x\"") ≡ codes "&lt;0.1.0&gt; &amp; &quot;x&quot;"
names_of_bytes = refl

-- ---- shapes

abbrev two_lives : List Life
two_lives = record { pid = 100; first = 0; last = 9; depth = 1 } ∷ record { pid = 101; first = 3; last = 9; depth = 20 } ∷ []

-- a pid that no process has is right of the last
unknown_column : column_of two_lives 7 ≡ 2
unknown_column = refl

arrow_right : shape_svg two_lives 80 (arrow 100 101) ≡ codes "<path d=\"M80 80H190l-8 -4m8 4l-8 4\"/>"
unfolding shape_svg arrow_svg fill digits
arrow_right = refl

arrow_left : shape_svg two_lives 80 (arrow 101 100) ≡ codes "<path d=\"M190 80H80l8 -4m-8 4l8 4\"/>"
unfolding shape_svg arrow_svg fill digits
arrow_left = refl

deeper_frame : shape_svg two_lives 104 (frame_start 101 2) ≡ codes "<path d=\"M206 104v-6l9 6l-9 6z\"/>"
unfolding shape_svg fill digits
deeper_frame = refl

-- a column is as wide as the frame at depth 20 needs, but at least 110
columns_of_two : (column_x two_lives 0 ≡ 80) × (column_x two_lives 1 ≡ 190) × (columns_end two_lives ≡ 390)
columns_of_two = (refl, refl, refl)

-- the text of a row that no session reports is grey
grey_label : label_svg 60 104 [] ≡ codes "<text x=\"60\" y=\"108\" fill=\"#777\">"
unfolding label_svg fill digits
grey_label = refl

-- a row that a session reports shows its message, with the last element that it has there
message_of_a_session : message_or (codes "{trace,<0.100.0>,call,{m,go,[]}}") (record { session = 2; text = codes "{trace,<0.100.0>,call,{m,go,[]},last}" } ∷ []) ≡ codes "{trace,<0.100.0>,call,{m,go,[]},last}"
message_of_a_session = refl

-- a text of 101 letters is cut after 100, and whole in its tooltip
cut_letters : first_letters (replicate 101 97) ≡ replicate 100 97 ++ codes ".."
cut_letters = refl

whole_letters : whole_svg (replicate 101 97) ≡ codes "<title>" ++ replicate 101 97 ++ codes "</title>"
whole_letters = refl

uncut_letters : (first_letters (replicate 100 97) ≡ replicate 100 97) × (whole_svg (replicate 100 97) ≡ [])
uncut_letters = (refl, refl)

-- ---- a run

-- a process that sends `hi` to another, which takes it; s1 traces sends and s2 receives
abbrev commands : List Command
commands = creates "s1" "t1" ∷ creates "s2" "t2" ∷ sets "s1" (word "all") ("send" ∷ []) ∷ sets "s2" (word "all") ("receive" ∷ []) ∷ []

abbrev one_send : Program
one_send = program (function "go" [] (send (pid 101) (word "hi") ∷ []) ∷ function "peer" [] (receive None ∷ []) ∷ []) (entry "go" [] ∷ entry "peer" [] ∷ []) commands

-- the last pick takes the message out of the mailbox, and has no row
picture_of_a_send : plain_text (picture_of one_send (0 ∷ 0 ∷ 0 ∷ 0 ∷ 100 ∷ 101 ∷ 100 ∷ 101 ∷ [])) ≡ lines (
    "=>1 session s1"
    ∷ "=>2 session s2"
    ∷ "        <0.100.0>   <0.101.0>   "
    ∷ "1       =========== =========== session_create s1 t1"
    ∷ "2       =========== =========== session_create s2 t2"
    ∷ "3       =========== =========== process s1 all true [send]"
    ∷ "4       =========== =========== process s2 all true ['receive']"
    ∷ "5       [1          |           {trace,<0.100.0>,call,{m,go,[]}}"
    ∷ "6       |           [1          {trace,<0.101.0>,call,{m,peer,[]}}"
    ∷ "7       *----------->           {trace,<0.100.0>,send,hi,<0.101.0>} =>1"
    ∷ "7       |           o           {trace,<0.101.0>,'receive',hi} =>2"
    ∷ [])
unfolding fill pad life_cell arrow_cell mark_cell shape_cell cell_text reporters_text row_plain session_plain lives_plain is_written_bare digits
picture_of_a_send = refl
