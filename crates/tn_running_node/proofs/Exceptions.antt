-- The lines of exceptions, from the newest mark down.
use Rattle.std.proofs.Common.{◌≡◌, ◌∙◌, ℕ, suc, ◌<◌, List, [], ◌∷◌, ◌++◌, length, map, take, get_or, sym, ap, append_assoc, append-nil}
use Rattle.std.proofs.lemmas.List.{map-append}
use Rattle.std.proofs.Math.Seq.{take-suc}
use Rattle.def_term.specs.Text.{w}
use Rattle.def_term.specs.Tree.{Tree}
use Rattle.def_running_node.specs.NodeSessions.{NodeMark}
use Rattle.def_running_node.specs.NodeRuns.{exceptions_at, exceptions_of}

-- the newest is the last
newest_first : (ms : List NodeMark) (m : NodeMark) (p : ℕ) (x : Tree) → exceptions_of (ms ++ m ∷ []) p x ≡ exceptions_at m p x ++ exceptions_of ms p x
newest_first [] m p x = sym (append-nil (exceptions_at m p x))
newest_first (n ∷ ms) m p x = ap (λ ts. ts ++ exceptions_at n p x) (newest_first ms m p x) ∙ append_assoc (exceptions_at m p x) (exceptions_of ms p x) (exceptions_at n p x)

-- the frames below one more
pub one_more_frame : {M : Type 0} (f : M → NodeMark) (ms : List M) (n up down : ℕ) (m : M) (p : ℕ) (x : Tree) (now next whole : List (List ℕ)) → n < length ms → up ≡ suc n → down ≡ n → m ≡ get_or ms n m
    → next ≡ now ++ map w (exceptions_at (f m) p x) → now ++ map w (exceptions_of (map f (take up ms)) p x) ≡ whole → next ++ map w (exceptions_of (map f (take down ms)) p x) ≡ whole
one_more_frame f ms n up down m p x now next whole below upper lower is made so_far =
    let rest = exceptions_of (map f (take n ms)) p x in
    ap (λ k. next ++ map w (exceptions_of (map f (take k ms)) p x)) lower
    ∙ ap (λ l. l ++ map w rest) made
    ∙ append_assoc now (map w (exceptions_at (f m) p x)) (map w rest)
    ∙ ap (λ l. now ++ l) (sym (map-append w (exceptions_at (f m) p x) rest))
    ∙ ap (λ ts. now ++ map w ts) (sym (newest_first (map f (take n ms)) (f m) p x))
    ∙ ap (λ ks. now ++ map w (exceptions_of ks p x)) (sym (map-append f (take n ms) (m ∷ [])))
    ∙ ap (λ k. now ++ map w (exceptions_of (map f (take n ms ++ k ∷ [])) p x)) is
    ∙ ap (λ ks. now ++ map w (exceptions_of (map f ks) p x)) (sym (take-suc ms n m below))
    ∙ ap (λ k. now ++ map w (exceptions_of (map f (take k ms)) p x)) (sym upper)
    ∙ so_far

-- none is left
pub no_frame_left : {M : Type 0} (f : M → NodeMark) (ms : List M) (left p : ℕ) (x : Tree) (now whole : List (List ℕ)) → left ≡ 0 → now ++ map w (exceptions_of (map f (take left ms)) p x) ≡ whole → now ≡ whole
no_frame_left f ms left p x now whole none so_far = sym (append-nil now) ∙ ap (λ k. now ++ map w (exceptions_of (map f (take k ms)) p x)) (sym none) ∙ so_far
