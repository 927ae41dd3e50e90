-- What is written in parts.
use Rattle.std.proofs.Common.{◌≡◌, ℕ, ◌+◌, ◌<◌, ◌≤◌, List, [], ◌∷◌, ◌++◌, length, get_or, drop, Result, Ok, Err, OnOk, IsErrAnd, ap, sym, ◌∙◌, subst, arith, append_assoc, append-nil, false, eqb, vec_len, flat_map}
use Rattle.std.specs.declared.vec.Vec.{Vec}
use Rattle.std.proofs.lemmas.Bool.{eqb-false}
use Rattle.std.proofs.lemmas.List.{drop_more, drop_all}
use Rattle.def_term.specs.Tree.{Trees}
use Rattle.def_term.specs.Text.{w, comma_list, each_after_comma, escape}
use Rattle.tn_term.specs.declared.term.Term.{Term}
use Rattle.tn_term.specs.Views.{tree_of, trees_of}
use Rattle.tn_text.specs.Writes.{Grows, enclose}

pub grows_none : (a : List ℕ) → Grows a a
grows_none a = record { added = []; whole = sym (append-nil a) }

pub grows_on : {a b d : List ℕ} → Grows a b → Grows b d → Grows a d
grows_on {a} p q = record { added = p.added ++ q.added; whole = q.whole ∙ ap (λ x. x ++ q.added) p.whole ∙ append_assoc a p.added q.added }

-- where the call failed nothing is said of what was written
pub on_failed : {T E : Type 0} (r : Result T E) (P : Type 0) (Q : E → Type 0) → IsErrAnd r Q → OnOk r P
on_failed (Ok x) P Q h = absurd h
on_failed (Err y) P Q h = tt

pub on_done : {T E : Type 0} (r : Result T E) {P Q : Type 0} → (P → Q) → OnOk r P → OnOk r Q
on_done (Ok x) f h = f h
on_done (Err y) f h = tt

-- the text of a value, known under another name
pub written_as : {T E : Type 0} (r : Result T E) (a b : List ℕ) {x y : List ℕ} → x ≡ y → OnOk r (b ≡ a ++ y) → OnOk r (b ≡ a ++ x)
written_as r a b same h = subst (λ z. OnOk r (b ≡ a ++ z)) (sym same) h

pub some_there : {A : Type 0} (v : Vec (Term A) A) → false ≡ eqb (vec_len v) 0 → v.len ≡ length v.items → 0 < length v.items
some_there v filled size = let some = eqb-false (vec_len v) 0 (sym filled) in omega (arith, size, some)

-- the first of the texts
pub first_written : {A : Type 0} (items : List (Term A)) (x : Term A) (a b : List ℕ) → 0 < length items → x ≡ get_or items 0 x → b ≡ a ++ w (tree_of x) → b ++ each_after_comma (trees_of (drop 1 items)) ≡ a ++ comma_list (trees_of items)
first_written [] x a b some is e = absurd (omega (arith, some))
first_written (y ∷ ys) x a b some is e =
    let rest = each_after_comma (trees_of ys) in
    ap (λ o. o ++ rest) e ∙ append_assoc a (w (tree_of x)) rest ∙ ap (λ t. a ++ (w (tree_of t) ++ rest)) is

-- one more after a comma
pub one_more : {A : Type 0} (items : List (Term A)) (i : ℕ) (x : Term A) (a b d z : List ℕ) → i < length items → x ≡ get_or items i x
    → a ++ each_after_comma (trees_of (drop i items)) ≡ z → b ≡ a ++ 44 ∷ [] → d ≡ b ++ w (tree_of x) → d ++ each_after_comma (trees_of (drop (i + 1) items)) ≡ z
one_more items i x a b d z below is so_far comma text =
    let rest = each_after_comma (trees_of (drop (i + 1) items)) in
    let opened : each_after_comma (trees_of (drop i items)) ≡ 44 ∷ (w (tree_of (get_or items i x)) ++ rest) = ap (λ ts. each_after_comma (trees_of ts)) (drop_more items i x below) in
    let same : w (tree_of x) ≡ w (tree_of (get_or items i x)) = ap (λ t. w (tree_of t)) is in
    let whole : d ≡ (a ++ 44 ∷ []) ++ w (tree_of (get_or items i x)) = text ∙ ap (λ o. o ++ w (tree_of x)) comma ∙ ap (λ t. (a ++ 44 ∷ []) ++ t) same in
    let first = w (tree_of (get_or items i x)) in
    ap (λ o. o ++ rest) whole ∙ append_assoc (a ++ 44 ∷ []) first rest ∙ append_assoc a (44 ∷ []) (first ++ rest) ∙ ap (λ t. a ++ t) (sym opened) ∙ so_far

pub all_written : {A : Type 0} (items : List (Term A)) (i : ℕ) (a z : List ℕ) → length items ≤ i → a ++ each_after_comma (trees_of (drop i items)) ≡ z → a ≡ z
all_written items i a z over so_far = sym (append-nil a) ∙ sym (ap (λ ts. a ++ each_after_comma (trees_of ts)) (drop_all i items over)) ∙ so_far

pub enclosed_written : (ts : Trees) (left right : ℕ) (a b d e : List ℕ) → b ≡ a ++ left ∷ [] → d ≡ b ++ comma_list ts → e ≡ d ++ right ∷ [] → e ≡ a ++ enclose left ts right
enclosed_written ts left right a b d e first between last =
    last ∙ ap (λ o. o ++ right ∷ []) (between ∙ ap (λ o. o ++ comma_list ts) first) ∙ append_assoc (a ++ left ∷ []) (comma_list ts) (right ∷ []) ∙ append_assoc a (left ∷ []) (comma_list ts ++ right ∷ [])

-- one more byte, escaped
pub escaped_more : (bytes : List ℕ) (i : ℕ) (a b z : List ℕ) → i < length bytes → a ++ flat_map escape (drop i bytes) ≡ z → b ≡ a ++ escape (get_or bytes i 0) → b ++ flat_map escape (drop (i + 1) bytes) ≡ z
escaped_more bytes i a b z below so_far text =
    let rest = flat_map escape (drop (i + 1) bytes) in
    let first = escape (get_or bytes i 0) in
    ap (λ o. o ++ rest) text ∙ append_assoc a first rest ∙ ap (λ t. a ++ t) (sym (ap (flat_map escape) (drop_more bytes i 0 below))) ∙ so_far

pub all_escaped : (bytes : List ℕ) (i : ℕ) (a z : List ℕ) → length bytes ≤ i → a ++ flat_map escape (drop i bytes) ≡ z → a ≡ z
all_escaped bytes i a z over so_far = sym (append-nil a) ∙ sym (ap (λ bs. a ++ flat_map escape bs) (drop_all i bytes over)) ∙ so_far
