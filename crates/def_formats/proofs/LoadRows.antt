-- The rows of a summary as JSON: worked rows, worked out by hand, and that each is read back.
use Rattle.std.proofs.Common.{◌≡◌, ℕ, suc, ◌+◌, ◌<◌, ◌≤◌, ◌^◌, ◌==◌, nat_lt, Bool, true, false, if◌then◌else◌, List, [], ◌∷◌, ◌++◌, All, length, map, filter, sum, Option, Some, None, codes, refl, arith}
use Rattle.std.specs.Fmt.{digits}
use Rattle.std.proofs.lemmas.List.Elements.{All-nil, All-cons, All-append}
use Rattle.std.proofs.lemmas.List.Sums.{sum_by-cons, count_by-le-length}
use Rattle.std.proofs.lemmas.List.Splits.{length-slice_split}
use Rattle.json.specs.Json.{Json}
use Rattle.json.specs.Print.{print_from, escape_byte}
use Rattle.json.specs.Word.{after_number}
use Rattle.def_formats.specs.Sections.{session_section, replies_section, journal_section}
use Rattle.def_formats.specs.Summaries.{Load, load_of, is_message_of_kind, NumberedLine, longest_from, longest, kinds_of_signals, kinds_of_calls, kinds_of_processes, kinds_of_links, picks_in, journal_picks}
use Rattle.def_formats.specs.LoadRows.{kind_row, total_row, greatest_row, rows_of_kind, rows_of_kinds, greatest_rows, session_load_rows, summary_json}
use Rattle.def_formats.specs.Laws.{IsReadBack, LoadRowsAreRead}
use Rattle.def_formats.proofs.SummaryRows.{one_send}
use Rattle.def_formats.proofs.ReadRows.{object_read, text_leaf, number_leaf}

-- ---- worked rows

one_send_loads : summary_json one_send ≡ codes "{\"session\":\"s1\",\"tracer\":\"t1\",\"kind\":\"send\",\"messages\":1,\"bytes\":39}\n{\"session\":\"s1\",\"tracer\":\"t1\",\"messages\":1,\"bytes\":39}\n{\"session\":\"s1\",\"tracer\":\"t1\",\"greatest\":1,\"bytes\":39,\"text\":\"{trace,<0.100.0>,send,{hi,1},<0.101.0>}\"}\n{\"commands\":2}\n{\"moves\":4}\n"
unfolding digits print_from escape_byte after_number
one_send_loads = refl

-- a session without messages, one command and one move
no_message_loads : summary_json (codes "== session s tracer t\n== replies\n{session,s}\n== journal\n0\n") ≡ codes "{\"session\":\"s\",\"tracer\":\"t\",\"messages\":0,\"bytes\":0}\n{\"commands\":1}\n{\"moves\":1}\n"
unfolding digits print_from escape_byte after_number
no_message_loads = refl

-- no session, no command and no move
no_run_loads : summary_json (codes "== replies\n== journal\n\n") ≡ codes "{\"commands\":0}\n{\"moves\":0}\n"
unfolding digits print_from escape_byte after_number
no_run_loads = refl

-- ---- numbers that are small enough

-- so many lines, with so many bytes
record IsWithin (lines : List (List ℕ)) (l : Load) : Type 0 where
  messages : l.messages ≤ length lines
  bytes : l.bytes ≤ sum (map length lines)

abbrev load_in : List (List ℕ) → Load
load_in own = record { messages = length own; bytes = sum (map length own) }

bytes_of : (l : List ℕ) (ls : List (List ℕ)) → sum (map length (l ∷ ls)) ≡ length l + sum (map length ls)
bytes_of l ls = sum_by-cons (λ n. n) (length l) (map length ls)

kept : (l : List ℕ) (own ls : List (List ℕ)) (b : Bool) → IsWithin ls (load_in own) → IsWithin (l ∷ ls) (load_in (if b then l ∷ own else own))
kept l own ls true h = record { messages = omega (arith, h.messages); bytes = omega (arith, h.bytes, bytes_of l own, bytes_of l ls) }
kept l own ls false h = record { messages = omega (arith, h.messages); bytes = omega (arith, h.bytes, bytes_of l ls) }

load_within : (kind : Option (List ℕ)) (lines : List (List ℕ)) → IsWithin lines (load_of kind lines)
load_within kind [] = record { messages = omega arith; bytes = omega arith }
load_within kind (l ∷ ls) = kept l (filter (is_message_of_kind kind) ls) ls (is_message_of_kind kind l) (load_within kind ls)

-- the number of the greatest message is that of a line, and its bytes are among all
record IsNumbered (n m : ℕ) (best : NumberedLine) : Type 0 where
  number : best.number ≤ n
  bytes : length best.line ≤ m

chosen : (b : Bool) (n m : ℕ) (l : List ℕ) (best : NumberedLine) → IsNumbered n m best
    → IsNumbered (suc n) (length l + m) (if b then record { number = suc n; line = l } else best)
chosen true n m l best h = record { number = omega arith; bytes = omega arith }
chosen false n m l best h = record { number = omega (arith, h.number); bytes = omega (arith, h.bytes) }

longest_within : (n m : ℕ) (best : NumberedLine) (lines : List (List ℕ)) → IsNumbered n m best → IsNumbered (n + length lines) (m + sum (map length lines)) (longest_from (suc n) best lines)
longest_within n m best [] h = record { number = omega (arith, h.number); bytes = omega (arith, h.bytes) }
longest_within n m best (l ∷ ls) h =
    let b : Bool = nat_lt (length best.line) (length l) in
    let rest = longest_within (suc n) (length l + m) (if b then record { number = suc n; line = l } else best) ls (chosen b n m l best h) in
    record { number = omega (arith, rest.number); bytes = omega (arith, rest.bytes, bytes_of l ls) }

picks_within : (line : List ℕ) → length (picks_in line) ≤ length line + 1
picks_within [] = omega arith
picks_within (c ∷ cs) = omega (arith, length-slice_split (λ b. b == 32) (c ∷ cs), count_by-le-length (λ b. b == 32) (c ∷ cs))

-- ---- rows that are read back

load_row : (name tracer kind : List ℕ) (l : Load) → l.messages < 2 ^ 64 → l.bytes < 2 ^ 64 → IsReadBack (kind_row name tracer kind l)
load_row name tracer kind l few short =
    object_read 0 _ (omega arith) (text_leaf name, (text_leaf tracer, (text_leaf kind, (number_leaf l.messages few, (number_leaf l.bytes short, tt)))))

unless_none : (b : Bool) (v : Json) → IsReadBack v → All IsReadBack (if b then [] else v ∷ [])
unless_none true v h = All-nil IsReadBack
unless_none false v h = All-cons IsReadBack v [] h (All-nil IsReadBack)

kind_read : (name tracer : List ℕ) (lines : List (List ℕ)) → length lines + sum (map length lines) + 1 < 2 ^ 64 → (kind : List ℕ) → All IsReadBack (rows_of_kind name tracer lines kind)
kind_read name tracer lines small kind =
    let l : Load = load_of (Some kind) lines in
    let h = load_within (Some kind) lines in
    unless_none (l.messages == 0) (kind_row name tracer kind l) (load_row name tracer kind l (omega (arith, small, h.messages)) (omega (arith, small, h.bytes)))

kinds_read : (name tracer : List ℕ) (lines : List (List ℕ)) → length lines + sum (map length lines) + 1 < 2 ^ 64 → (kinds : List (List ℕ)) → All IsReadBack (rows_of_kinds name tracer kinds lines)
kinds_read name tracer lines small [] = All-nil IsReadBack
kinds_read name tracer lines small (k ∷ ks) =
    All-append IsReadBack (rows_of_kind name tracer lines k) (rows_of_kinds name tracer ks lines) (kind_read name tracer lines small k) (kinds_read name tracer lines small ks)

total_read : (name tracer : List ℕ) (lines : List (List ℕ)) → length lines + sum (map length lines) + 1 < 2 ^ 64 → IsReadBack (total_row name tracer (load_of None lines))
total_read name tracer lines small =
    let l : Load = load_of None lines in
    let h = load_within None lines in
    object_read 0 _ (omega arith) (text_leaf name, (text_leaf tracer, (number_leaf l.messages (omega (arith, small, h.messages)), (number_leaf l.bytes (omega (arith, small, h.bytes)), tt))))

greatest_read : (name tracer : List ℕ) (lines : List (List ℕ)) → length lines + sum (map length lines) + 1 < 2 ^ 64 → All IsReadBack (greatest_rows name tracer (longest lines))
greatest_read name tracer lines small =
    let m : NumberedLine = longest lines in
    let none : NumberedLine = record { number = 0; line = [] } in
    let h = longest_within 0 0 none lines (record { number = omega arith; bytes = omega arith }) in
    unless_none (m.number == 0) (greatest_row name tracer m)
    (object_read 0 _ (omega arith)
    (text_leaf name, (text_leaf tracer, (number_leaf m.number (omega (arith, small, h.number)), (number_leaf (length m.line) (omega (arith, small, h.bytes)), (text_leaf m.line, tt))))))

one_read : (v : Json) → IsReadBack v → All IsReadBack (v ∷ [])
one_read v h = All-cons IsReadBack v [] h (All-nil IsReadBack)

moves_within : (lines : List (List ℕ)) → length (journal_picks lines) ≤ sum (map length lines) + 1
moves_within [] = omega arith
moves_within (l ∷ ls) = omega (arith, picks_within l, bytes_of l ls)

both_read : (us vs : List Json) → All IsReadBack us → All IsReadBack vs → All IsReadBack (us ++ vs)
both_read us vs h k = All-append IsReadBack us vs h k

session_read : (name tracer : List ℕ) (lines : List (List ℕ)) → length lines + sum (map length lines) + 1 < 2 ^ 64 → All IsReadBack (session_load_rows name tracer lines)
session_read name tracer lines small =
    let of = kinds_read name tracer lines small in
    let total : List Json = total_row name tracer (load_of None lines) ∷ [] in
    let greatest : List Json = greatest_rows name tracer (longest lines) in
    let links : List Json = rows_of_kinds name tracer kinds_of_links lines in
    let processes : List Json = rows_of_kinds name tracer kinds_of_processes lines in
    let calls : List Json = rows_of_kinds name tracer kinds_of_calls lines in
    let signals : List Json = rows_of_kinds name tracer kinds_of_signals lines in
    both_read ((((signals ++ calls) ++ processes) ++ links) ++ total) greatest
    (both_read (((signals ++ calls) ++ processes) ++ links) total
    (both_read ((signals ++ calls) ++ processes) links
    (both_read (signals ++ calls) processes (both_read signals calls (of kinds_of_signals) (of kinds_of_calls)) (of kinds_of_processes))
    (of kinds_of_links))
    (one_read _ (total_read name tracer lines small)))
    (greatest_read name tracer lines small)

pub load_rows_are_read : LoadRowsAreRead
load_rows_are_read (session_section name tracer) lines small = session_read name tracer lines small
load_rows_are_read replies_section lines small = one_read _ (object_read 0 _ (omega arith) (number_leaf (length lines) (omega (arith, small)), tt))
load_rows_are_read journal_section lines small =
    one_read _ (object_read 0 _ (omega arith) (number_leaf (length (journal_picks lines)) (omega (arith, small, moves_within lines)), tt))
