-- The listings of an output, session by session, and its parts.
use Rattle.std.proofs.Common.{◌≡◌, ◌∙◌, ℕ, zero, suc, ◌+◌, ◌≤◌, List, [], ◌∷◌, ◌++◌, length, take, Option, Some, None, refl, sym, ap, append_assoc, append-nil, add-one, codes, arith, true, eqb, vec_len}
use Rattle.std.specs.Prelude.{slice_get, slice_set, option_to_list}
use Rattle.std.specs.Option.{option_map}
use Rattle.std.specs.declared.vec.Vec.{Vec}
use Rattle.std.proofs.lemmas.Bool.{eqb-true}
use Rattle.std.proofs.lemmas.Option.{slice_get-map}
use Rattle.def_term.specs.Tree.{Tree}
use Rattle.def_term.specs.Names.{Name}
use Rattle.def_script.specs.Program.{Program}
use Rattle.def_script.specs.Script.{creations}
use Rattle.def_run.specs.Run.{moves}
use Rattle.def_run.specs.Picks.{picks_text}
use Rattle.def_run.specs.Listing.{messages, replies, lines_of, header_line, listing_text, listings_text, program_output}
use Rattle.tn_trace.specs.Transcripts.{TranscriptValue, transcript_of, without_lines}
use Rattle.tn_listing.specs.Outputs.{listing_numbered, all_listings}

-- one more session
listings_next : (ms : Name → List Tree) (ss : List (Name × Name)) (i : ℕ) → listings_text ms (take (suc i) ss) ≡ listings_text ms (take i ss) ++ listings_text ms (option_to_list (slice_get ss i))
listings_next ms [] zero = refl
listings_next ms [] (suc i) = refl
listings_next ms (s ∷ ss) zero = refl
listings_next ms (s ∷ ss) (suc i) =
    ap (λ r. listing_text s.0 s.1 (ms s.0) ++ r) (listings_next ms ss i)
    ∙ sym (append_assoc (listing_text s.0 s.1 (ms s.0)) (listings_text ms (take i ss)) (listings_text ms (option_to_list (slice_get ss i))))

pub one_more_listing : (p : Program) (picks : List ℕ) (i : ℕ) (before now after : List ℕ)
    → now ≡ before ++ listings_text (λ s. messages s p picks) (take i (creations p.commands)) → after ≡ now ++ listing_numbered p picks i
    → after ≡ before ++ listings_text (λ s. messages s p picks) (take (i + 1) (creations p.commands))
one_more_listing p picks i before now after so_far added =
    added
    ∙ ap (λ l. l ++ listing_numbered p picks i) so_far
    ∙ append_assoc before (listings_text (λ s. messages s p picks) (take i (creations p.commands))) (listing_numbered p picks i)
    ∙ ap (λ l. before ++ l) (sym (listings_next (λ s. messages s p picks) (creations p.commands) i))
    ∙ ap (λ n. before ++ listings_text (λ s. messages s p picks) (take n (creations p.commands))) (sym (add-one i))

take_past : {X : Type 0} (xs : List X) (i : ℕ) → length xs ≤ i → take i xs ≡ xs
take_past [] zero h = refl
take_past [] (suc i) h = refl
take_past (x ∷ xs) zero h = absurd (omega arith)
take_past (x ∷ xs) (suc i) h = ap (λ l. x ∷ l) (take_past xs i (omega arith))

pub all_are_listed : (p : Program) (picks : List ℕ) (i n : ℕ) (before now : List ℕ) → n ≡ length (creations p.commands) → n ≤ i
    → now ≡ before ++ listings_text (λ s. messages s p picks) (take i (creations p.commands)) → now ≡ before ++ all_listings p picks
all_are_listed p picks i n before now size past so_far =
    so_far ∙ ap (λ ss. before ++ listings_text (λ s. messages s p picks) ss) (take_past (creations p.commands) i (omega arith))

-- the lines at a place of a transcript are those of the session there
lines_there : (p : Program) (picks : List ℕ) (i : ℕ) (t : TranscriptValue) (o : Option (List ℕ)) → t ≡ transcript_of p picks → o ≡ slice_get t.listings i
    → o ≡ option_map (λ s. lines_of (messages s.0 p picks)) (slice_get (creations p.commands) i)
lines_there p picks i t o is at =
    at ∙ ap (λ (v : TranscriptValue). slice_get v.listings i) is ∙ slice_get-map (λ (s : Name × Name). lines_of (messages s.0 p picks)) (creations p.commands) i

none_there : {X Y : Type 0} (f : X → Y) (o : Option X) → None ≡ option_map f o → o ≡ None
none_there f None e = refl
none_there f (Some x) e = absurd (cc e)

-- no session has this number
pub none_listed : (p : Program) (picks : List ℕ) (i : ℕ) (t : TranscriptValue) (text : List ℕ) → t ≡ transcript_of p picks → None ≡ slice_get t.listings i → text ≡ text ++ listing_numbered p picks i
none_listed p picks i t text is at =
    let none : slice_get (creations p.commands) i ≡ None = none_there _ _ (lines_there p picks i t None is at) in
    sym (append-nil text) ∙ ap (λ r. text ++ listings_text (λ s. messages s p picks) (option_to_list r)) (sym none)

headed_lines : (before header reported lines headed after : List ℕ) → headed ≡ before ++ header → after ≡ headed ++ lines → lines ≡ reported → after ≡ before ++ (header ++ reported)
headed_lines before header reported lines headed after head added own =
    added ∙ ap (λ l. l ++ lines) head ∙ append_assoc before header lines ∙ ap (λ l. before ++ (header ++ l)) own

pub listed_as : (ms : Name → List Tree) (ss : List (Name × Name)) (i : ℕ) (s : Name × Name) → Some s ≡ slice_get ss i → header_line s.0 s.1 ++ lines_of (ms s.0) ≡ listings_text ms (option_to_list (slice_get ss i))
listed_as ms ss i s named =
    sym (append-nil (header_line s.0 s.1 ++ lines_of (ms s.0))) ∙ ap (λ q. listings_text ms (option_to_list q)) named

-- the lines of the session at this place
pub one_listed : (p : Program) (picks : List ℕ) (i : ℕ) (t : TranscriptValue) (v : List ℕ) (s : Name × Name) (before headed after : List ℕ) → t ≡ transcript_of p picks → Some v ≡ slice_get t.listings i
    → Some s ≡ slice_get (creations p.commands) i → headed ≡ before ++ header_line s.0 s.1 → after ≡ headed ++ v → after ≡ before ++ listing_numbered p picks i
one_listed p picks i t v s before headed after is at named head added =
    let those : Some v ≡ Some (lines_of (messages s.0 p picks)) =
    lines_there p picks i t (Some v) is at ∙ ap (option_map (λ (n : Name × Name). lines_of (messages n.0 p picks))) (sym named) in
    let own_lines : v ≡ lines_of (messages s.0 p picks) = cc in
    headed_lines before (header_line s.0 s.1) (lines_of (messages s.0 p picks)) v headed after head added own_lines
    ∙ ap (λ l. before ++ l) (listed_as (λ n. messages n p picks) (creations p.commands) i s named)

-- from this place on the transcript has the lines of the other, and it has its replies and its journal
pub record IsRestFrom (n : ℕ) (t whole : TranscriptValue) : Type 0 where
  pub later : (m : ℕ) → n ≤ m → slice_get t.listings m ≡ slice_get whole.listings m
  pub replied : t.replied ≡ whole.replied
  pub journal : t.journal ≡ whole.journal

later_get : {X : Type 0} (xs : List X) (n m : ℕ) (y : X) → n + 1 ≤ m → slice_get (slice_set xs n y) m ≡ slice_get xs m
later_get [] n m y h = refl
later_get (x ∷ xs) zero zero y h = absurd (omega (arith, h))
later_get (x ∷ xs) zero (suc m) y h = refl
later_get (x ∷ xs) (suc n) zero y h = absurd (omega (arith, h))
later_get (x ∷ xs) (suc n) (suc m) y h = later_get xs n m y (omega (arith, h))

-- once the lines at a place have left, the rest begins at the next one
pub rest_after : (n : ℕ) (t left whole : TranscriptValue) → left ≡ without_lines t n → IsRestFrom n t whole → IsRestFrom (n + 1) left whole
rest_after n t left whole is rest = record {
  later = λ m past. ap (λ (v : TranscriptValue). slice_get v.listings m) is ∙ later_get t.listings n m [] past ∙ rest.later m (omega (arith, past));
  replied = ap (λ (v : TranscriptValue). v.replied) is ∙ rest.replied;
  journal = ap (λ (v : TranscriptValue). v.journal) is ∙ rest.journal;
}

pub all_parts : (start l1 l2 l3 l4 l5 l6 a b c d e f : List ℕ) → start ≡ [] → l1 ≡ start ++ a → l2 ≡ l1 ++ b → l3 ≡ l2 ++ c → l4 ≡ l3 ++ d → l5 ≡ l4 ++ e → l6 ≡ l5 ++ f → l6 ≡ a ++ b ++ c ++ d ++ e ++ f
all_parts start l1 l2 l3 l4 l5 l6 a b c d e f h0 h1 h2 h3 h4 h5 h6 =
    h6 ∙ ap (λ l. l ++ f) (h5 ∙ ap (λ l. l ++ e) (h4 ∙ ap (λ l. l ++ d) (h3 ∙ ap (λ l. l ++ c) (h2 ∙ ap (λ l. l ++ b) (h1 ∙ ap (λ l. l ++ a) h0)))))
    ∙ simp append_assoc

pub whole_run : (p : Program) (picks replied journal out : List ℕ) → replied ≡ lines_of (replies p picks) → journal ≡ moves p picks
    → out ≡ all_listings p picks ++ codes "== replies\n" ++ replied ++ codes "== journal\n" ++ picks_text journal ++ 10 ∷ [] → out ≡ program_output p picks
whole_run p picks replied journal out are_replies is_journal made =
    made
    ∙ ap (λ l. all_listings p picks ++ codes "== replies\n" ++ l ++ codes "== journal\n" ++ picks_text journal ++ 10 ∷ []) are_replies
    ∙ ap (λ l. all_listings p picks ++ codes "== replies\n" ++ lines_of (replies p picks) ++ codes "== journal\n" ++ picks_text l ++ 10 ∷ []) is_journal

no_length : {X : Type 0} (xs : List X) → length xs ≡ 0 → xs ≡ []
no_length [] e = refl
no_length (x ∷ xs) e = absurd (omega (arith, e))

-- nothing is in an empty vector
pub nothing_there : {A X : Type 0} (v : Vec X A) → true ≡ eqb (vec_len v) 0 → v.len ≡ length v.items → v.items ≡ []
nothing_there v empty size = let none = eqb-true (vec_len v) 0 (sym empty) in no_length v.items (omega (arith, size, none))
