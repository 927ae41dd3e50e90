-- The listing of a session, from its header and its lines.
use Rattle.std.proofs.Common.{Bor, ◌≡◌, ◌∙◌, ℕ, suc, ◌+◌, ◌<◌, List, [], ◌++◌, length, drop, map, get_or, Some, sym, ap, append_assoc, append-nil}
use Rattle.std.proofs.lemmas.List.{drop_more}
use Rattle.std.specs.Prelude.{slice_get, Result, Ok, Err, IfOk}
use Rattle.def_term.specs.Tree.{Tree}
use Rattle.def_term.specs.Names.{Name}
use Rattle.def_script.specs.Program.{Program}
use Rattle.def_script.specs.Script.{creations}
use Rattle.def_run.specs.Listing.{messages, header_line, line_of, lines_of, listing_text}
use Rattle.tn_text.specs.WrittenTrees.{written_tree}
use Rattle.tn_text.specs.declared.written_term.WrittenTerm.{WrittenTerm}
use Rattle.tn_trace.specs.Cores.{Lists}
use Rattle.tn_listing.specs.Outputs.{listing_numbered}
use Rattle.tn_listing.proofs.OutputLemmas.{listed_as}

-- a header, and lines after it
headed : (before header lines middle after : List ℕ) → middle ≡ before ++ (header ++ []) → after ≡ middle ++ lines → after ≡ before ++ (header ++ lines)
headed before header lines middle after head added =
    added ∙ ap (λ l. l ++ lines) head ∙ append_assoc before (header ++ []) lines ∙ ap (λ l. before ++ (l ++ lines)) (append-nil header)

-- the header and the lines of the session of this number
pub terms_listed : {A : Type 0} (p : Program) (picks : List ℕ) (i : ℕ) (v : Bor (List (WrittenTerm A))) (s : Name × Name) (before middle after : List ℕ) → Lists p picks (suc i) (Some v)
    → Some s ≡ slice_get (creations p.commands) i → middle ≡ before ++ listing_text s.0 s.1 [] → after ≡ middle ++ lines_of (map written_tree v.now) → after ≡ before ++ listing_numbered p picks i
terms_listed p picks i v s before middle after lent named head added =
    let which : Some lent.0 ≡ Some s = sym lent.1 ∙ sym named in
    let own : lent.0 ≡ s = cc in
    let reported : map written_tree v.now ≡ messages s.0 p picks = lent.2 ∙ ap (λ (n : Name × Name). messages n.0 p picks) own in
    headed before (header_line s.0 s.1) (lines_of (map written_tree v.now)) middle after head added
    ∙ ap (λ ts. before ++ listing_text s.0 s.1 ts) reported
    ∙ ap (λ l. before ++ l) (listed_as (λ n. messages n p picks) (creations p.commands) i s named)

pub if_ok_of : {T E : Type 0} (P Q : T → Type 0) (r : Result T E) → ((x : T) → P x → Q x) → IfOk r P → IfOk r Q
if_ok_of P Q (Ok x) f h = f x h
if_ok_of P Q (Err e) f h = tt

-- one more line
pub next_line : {X : Type 0} (g : X → Tree) (xs : List X) (i : ℕ) (x : X) (now after whole : List ℕ) → i < length xs → x ≡ get_or xs i x
    → now ++ lines_of (map g (drop i xs)) ≡ whole → after ≡ now ++ line_of (g x) → after ++ lines_of (map g (drop (i + 1) xs)) ≡ whole
next_line g xs i x now after whole below is so_far made =
    ap (λ l. l ++ lines_of (map g (drop (i + 1) xs))) made
    ∙ append_assoc now (line_of (g x)) (lines_of (map g (drop (i + 1) xs)))
    ∙ ap (λ y. now ++ (line_of (g y) ++ lines_of (map g (drop (i + 1) xs)))) is
    ∙ ap (λ ys. now ++ lines_of (map g ys)) (sym (drop_more xs i x below))
    ∙ so_far
