-- The rows of an output with the moves of its messages: worked rows, that each is read back, and that the journal is read.
use Rattle.std.proofs.Common.{◌≡◌, ◌∙◌, ℕ, ◌<◌, ◌^◌, List, [], ◌∷◌, ◌++◌, length, map, flat_map, Option, Some, None, codes, refl, ap, arith}
use Rattle.std.specs.Prelude.{slice_get, ◌-◌}
use Rattle.std.specs.Fmt.{digits}
use Rattle.std.proofs.lemmas.List.Elements.{All-cons}
use Rattle.json.specs.Print.{print_from, escape_byte}
use Rattle.json.specs.Word.{after_number}
use Rattle.def_term.specs.Names.{Name}
use Rattle.def_term.specs.Text.{w}
use Rattle.def_script.specs.Script.{creations}
use Rattle.def_run.specs.Run.{moves}
use Rattle.def_run.specs.Picks.{picks_text}
use Rattle.def_run.specs.Listing.{messages}
use Rattle.def_formats.specs.Lines.{message_kind, message_pid}
use Rattle.def_formats.specs.Sections.{session_section, replies_section, journal_section}
use Rattle.def_formats.specs.MovedRows.{number_or_null, moved_row, moved_json, journal_part, journal_text}
use Rattle.def_formats.specs.Laws.{IsReadBack, MovedRowsAreRead, JournalIsRead, session_head}
use Rattle.def_formats.proofs.SummaryRows.{one_send}
use Rattle.def_formats.proofs.OutputSections.{sections_are_of_the_run}
use Rattle.def_formats.proofs.ReadRows.{IsShallow, object_read, text_leaf, number_leaf, null_leaf, rows_read, output_rows_are_read}

-- ---- worked rows

one_send_moved : moved_json ((4 ∷ []) ∷ []) one_send ≡ codes "{\"session\":\"s1\",\"tracer\":\"t1\",\"messages\":1}\n{\"session\":\"s1\",\"tracer\":\"t1\",\"message\":1,\"move\":4,\"kind\":\"send\",\"pid\":\"<0.100.0>\",\"text\":\"{trace,<0.100.0>,send,{hi,1},<0.101.0>}\"}\n{\"reply\":1,\"text\":\"{session,s1}\"}\n{\"reply\":2,\"text\":\"2\"}\n{\"journal\":[0,0,100,100]}\n"
unfolding digits print_from escape_byte after_number
one_send_moved = refl

-- the second session has the second list of moves; a message without one has null
two_sessions_moved : moved_json ((7 ∷ []) ∷ (8 ∷ []) ∷ []) (codes "== session a tracer b\nx,p,k,\n== session c tracer d\ny,q,l,\nz,r,m,\n") ≡ codes "{\"session\":\"a\",\"tracer\":\"b\",\"messages\":1}\n{\"session\":\"a\",\"tracer\":\"b\",\"message\":1,\"move\":7,\"kind\":\"k\",\"pid\":\"p\",\"text\":\"x,p,k,\"}\n{\"session\":\"c\",\"tracer\":\"d\",\"messages\":2}\n{\"session\":\"c\",\"tracer\":\"d\",\"message\":1,\"move\":8,\"kind\":\"l\",\"pid\":\"q\",\"text\":\"y,q,l,\"}\n{\"session\":\"c\",\"tracer\":\"d\",\"message\":2,\"move\":null,\"kind\":\"m\",\"pid\":\"r\",\"text\":\"z,r,m,\"}\n"
unfolding digits print_from escape_byte after_number
two_sessions_moved = refl

one_send_journal : journal_text one_send ≡ codes "0 0 100 100"
one_send_journal = refl

-- ---- rows that are read back

value_leaf : (o : Option ℕ) → ((m : ℕ) → o ≡ Some m → m < 2 ^ 64) → IsShallow 0 (number_or_null o)
value_leaf None h = null_leaf
value_leaf (Some m) h = number_leaf m (h m refl)

moved_read : (name tracer moves : List ℕ) → ((n m : ℕ) → slice_get moves n ≡ Some m → m < 2 ^ 64) → (n : ℕ) (line : List ℕ) → n < 2 ^ 64 → IsReadBack (moved_row name tracer moves n line)
moved_read name tracer moves known n line small =
    object_read 0 _ (omega arith)
    (text_leaf name, (text_leaf tracer, (number_leaf n small, (value_leaf (slice_get moves (n - 1)) (known (n - 1)), (text_leaf (message_kind line), (text_leaf (message_pid line), (text_leaf line, tt)))))))

pub moved_rows_are_read : MovedRowsAreRead
moved_rows_are_read moves (session_section name tracer) lines small known =
    All-cons IsReadBack _ _
    (object_read 0 _ (omega arith) (text_leaf name, (text_leaf tracer, (number_leaf (length lines) (omega (arith, small)), tt))))
    (rows_read (moved_row name tracer moves) (moved_read name tracer moves known) 1 lines small)
moved_rows_are_read moves replies_section lines small known = output_rows_are_read replies_section lines small
moved_rows_are_read moves journal_section lines small known = output_rows_are_read journal_section lines small

-- ---- the journal

none_of : {X : Type 0} (f : X → List ℕ) → ((x : X) → f x ≡ []) → (xs : List X) → flat_map f xs ≡ []
none_of f h [] = refl
none_of f h (x ∷ xs) = ap (λ l. l ++ flat_map f xs) (h x) ∙ none_of f h xs

no_journal : (name tracer : Name) (lines : List (List ℕ)) → journal_part (session_head name tracer) lines ≡ []
no_journal name tracer lines = refl

pub journal_is_read : JournalIsRead
journal_is_read p picks h =
    sections_are_of_the_run journal_part p picks h
    ∙ ap (λ l. l ++ picks_text (moves p picks)) (none_of (λ s. journal_part (session_head s.0 s.1) (map w (messages s.0 p picks))) (λ s. no_journal s.0 s.1 (map w (messages s.0 p picks))) (creations p.commands))
