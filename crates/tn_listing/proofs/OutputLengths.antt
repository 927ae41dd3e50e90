-- An output is as long as its listings together, and longer.
use Rattle.std.proofs.Common.{◌≡◌, ◌∙◌, ℕ, ◌+◌, ◌≤◌, List, [], ◌∷◌, ◌++◌, length, map, ap, append_assoc, length-append, arith, codes}
use Rattle.std.proofs.lemmas.List.Sums.{sum_by-cons}
use Rattle.def_term.specs.Tree.{Tree}
use Rattle.def_term.specs.Names.{Name}
use Rattle.def_script.specs.Program.{Program}
use Rattle.def_script.specs.Script.{creations}
use Rattle.def_run.specs.Run.{moves}
use Rattle.def_run.specs.Picks.{picks_text}
use Rattle.def_run.specs.Listing.{messages, replies, lines_of, header_line, listings_text, program_output}
use Rattle.tn_trace.specs.Transcripts.{bytes_in_all, listing_bytes}
use Rattle.tn_listing.specs.Outputs.{all_listings, OutputHasTheListings}

-- the lines of the sessions with these messages
abbrev bytes_over : (Name → List Tree) → List (Name × Name) → ℕ
bytes_over ms ss = bytes_in_all (map (λ s. lines_of (ms s.0)) ss)

-- the listings are as long as the lines
listings_long : (ms : Name → List Tree) (ss : List (Name × Name)) → bytes_over ms ss ≤ length (listings_text ms ss)
listings_long ms [] = omega arith
listings_long ms (s ∷ ss) =
    let own : List ℕ = lines_of (ms s.0) in
    let head : List ℕ = header_line s.0 s.1 in
    let rest : List ℕ = listings_text ms ss in
    let first : bytes_over ms (s ∷ ss) ≡ length own + bytes_over ms ss = sum_by-cons (λ n. n) (length own) (map length (map (λ s. lines_of (ms s.0)) ss)) in
    let one : length (listings_text ms (s ∷ ss)) ≡ length (head ++ own) + length rest = length-append (head ++ own) rest in
    let headed : length (head ++ own) ≡ length head + length own = length-append head own in
    omega (arith, first, one, headed, listings_long ms ss)

longer : (xs ys : List ℕ) → length xs ≤ length (xs ++ ys)
longer xs ys = omega (arith, length-append xs ys)

first_part : (a b c d e f : List ℕ) → length a ≤ length (a ++ b ++ c ++ d ++ e ++ f)
first_part a b c d e f = omega (arith, longer a b, longer (a ++ b) c, longer (a ++ b ++ c) d, longer (a ++ b ++ c ++ d) e, longer (a ++ b ++ c ++ d ++ e) f)

pub output_has_the_listings : OutputHasTheListings
output_has_the_listings p picks =
    let whole : length (all_listings p picks) ≤ length (program_output p picks) =
    first_part (all_listings p picks) (codes "== replies\n") (lines_of (replies p picks)) (codes "== journal\n") (picks_text (moves p picks)) (10 ∷ []) in
    let lines : listing_bytes p picks ≤ length (all_listings p picks) = listings_long (λ s. messages s p picks) (creations p.commands) in
    omega (arith, whole, lines)
