-- The items of forms that are read: the terms of a function's steps, and the first term of a list that isn't read.
use Rattle.std.proofs.Common.{◌≡◌, ◌≢◌, ℕ, suc, ◌+◌, ◌≤◌, Bool, List, [], ◌∷◌, ◌++◌, length, map, Option, Some, None, refl, sym, ap, ◌∙◌, append_assoc, arith}
use Rattle.std.proofs.lemmas.List.{length-map, length-append}
use Rattle.std.specs.Option.{option_map}
use Rattle.def_term.specs.Tree.{Tree}
use Rattle.def_term.specs.Names.{Name}
use Rattle.def_script.specs.Shapes.{both, all_four, function_from}
use Rattle.def_refusal.specs.Items.{or_position, position_without_shape, terms_as_steps}
use Rattle.tn_term.specs.declared.term.Term.{Term}
use Rattle.tn_term.specs.Views.{tree_of}
use Rattle.tn_script.proofs.Functions.{head_of}

-- ---- the terms of the steps of a function

not_six : (ts : List Tree) → length ts ≢ 6 → None ≡ terms_as_steps ts
not_six [] h = refl
not_six (a ∷ []) h = refl
not_six (a ∷ b ∷ []) h = refl
not_six (a ∷ b ∷ c ∷ []) h = refl
not_six (a ∷ b ∷ c ∷ d ∷ []) h = refl
not_six (a ∷ b ∷ c ∷ d ∷ e ∷ []) h = refl
not_six (a ∷ b ∷ c ∷ d ∷ e ∷ f ∷ []) h = absurd (h refl)
not_six (a ∷ b ∷ c ∷ d ∷ e ∷ f ∷ k ∷ ts) h = refl

pub no_steps : {A : Type 0} (xs : List (Term A)) → length xs ≢ 6 → None ≡ terms_as_steps (map tree_of xs)
no_steps xs h = not_six (map tree_of xs) (λ e. h (sym (length-map xs tree_of) ∙ e))

-- the terms, where all else is there
abbrev pub listed_by : Option Name → Option Name → Option Bool → Option (List Name) → Option (List Tree) → Option (List Tree)
listed_by om of oe op ol = both (λ make ts. ts) (all_four function_from om of oe op) ol

pub headless_terms : (om of : Option Name) (oe : Option Bool) (op : Option (List Name)) (ol : Option (List Tree)) → None ≡ head_of om of oe → None ≡ listed_by om of oe op ol
headless_terms None of oe op ol e = refl
headless_terms (Some m) None oe op ol e = refl
headless_terms (Some m) (Some f) None op ol e = refl
headless_terms (Some m) (Some f) (Some x) op ol e = cc

pub terms_without_params : (om of : Option Name) (oe : Option Bool) (op : Option (List Name)) (ol : Option (List Tree)) → None ≡ op → None ≡ listed_by om of oe op ol
terms_without_params None of oe op ol e = refl
terms_without_params (Some m) None oe op ol e = refl
terms_without_params (Some m) (Some f) None op ol e = refl
terms_without_params (Some m) (Some f) (Some x) None ol e = refl
terms_without_params (Some m) (Some f) (Some x) (Some ps) ol e = cc

pub terms_listed : (om of : Option Name) (oe : Option Bool) (op : Option (List Name)) (ol : Option (List Tree)) (h : Name × Name × Bool) (ps : List Name)
    → Some h ≡ head_of om of oe → Some ps ≡ op → ol ≡ listed_by om of oe op ol
terms_listed None of oe op ol h ps e i = cc
terms_listed (Some m) None oe op ol h ps e i = cc
terms_listed (Some m) (Some f) None op ol h ps e i = cc
terms_listed (Some m) (Some f) (Some x) None ol h ps e i = cc
terms_listed (Some m) (Some f) (Some x) (Some qs) None h ps e i = refl
terms_listed (Some m) (Some f) (Some x) (Some qs) (Some ts) h ps e i = refl

-- ---- the first term that isn't read

-- all terms so far are read
pub record WithoutSo {X Z : Type 0} (f : Tree → Option Z) (g : X → Tree) (xs yielded rest : List X) (n : ℕ) : Type 0 where
  pub whole : xs ≡ yielded ++ rest
  pub count : n ≡ length yielded + 1
  pub so_far : position_without_shape f 1 (map g xs) ≡ position_without_shape f n (map g rest)

pub without_begins : {X Z : Type 0} (f : Tree → Option Z) (g : X → Tree) (xs : List X) → WithoutSo f g xs [] xs 1
without_begins f g xs = record { whole = refl; count = refl; so_far = refl }

without_more : {X Z : Type 0} (f : Tree → Option Z) (g : X → Tree) (rest next : List X) (x : X) (n : ℕ) (o : Option Z) → rest ≡ x ∷ next → f (g x) ≡ o
    → position_without_shape f n (map g rest) ≡ or_position n o (position_without_shape f (suc n) (map g next))
without_more f g rest next x n o left is =
    ap (λ ys. position_without_shape f n (map g ys)) left ∙ ap (λ p. or_position n p (position_without_shape f (suc n) (map g next))) is

pub without_next : {X Z : Type 0} (f : Tree → Option Z) (g : X → Tree) (xs yielded rest next : List X) (x : X) (n : ℕ) (z : Z)
    → rest ≡ x ∷ next → f (g x) ≡ Some z → WithoutSo f g xs yielded rest n → WithoutSo f g xs (yielded ++ x ∷ []) next (n + 1)
without_next f g xs yielded rest next x n z left read so = record {
  whole = so.whole ∙ ap (λ r. yielded ++ r) left ∙ sym (append_assoc yielded (x ∷ []) next);
  count = let more : length (yielded ++ x ∷ []) ≡ length yielded + 1 = length-append yielded (x ∷ []) in let k = so.count in omega arith;
  so_far = let later : suc n ≡ n + 1 = omega arith in so.so_far ∙ without_more f g rest next x n (Some z) left read ∙ ap (λ k. position_without_shape f k (map g next)) later;
}

pub without_found : {X Z : Type 0} (f : Tree → Option Z) (g : X → Tree) (xs yielded rest next : List X) (x : X) (n : ℕ)
    → rest ≡ x ∷ next → f (g x) ≡ None → WithoutSo f g xs yielded rest n → Some n ≡ position_without_shape f 1 (map g xs)
without_found f g xs yielded rest next x n left unread so = sym (so.so_far ∙ without_more f g rest next x n None left unread)

pub without_none : {X Z : Type 0} (f : Tree → Option Z) (g : X → Tree) (xs yielded rest : List X) (n : ℕ) → length rest ≡ 0 → WithoutSo f g xs yielded rest n → None ≡ position_without_shape f 1 (map g xs)
without_none f g xs yielded [] n e so = sym so.so_far
without_none f g xs yielded (x ∷ rest) n e so = absurd (omega (arith, e))

pub room : {X Z : Type 0} (f : Tree → Option Z) (g : X → Tree) (xs yielded rest next : List X) (x : X) (n : ℕ) → rest ≡ x ∷ next → WithoutSo f g xs yielded rest n → n ≤ length xs
room f g xs yielded rest next x n left so =
    let all : length xs ≡ length yielded + length rest = ap length so.whole ∙ length-append yielded rest in
    let one : length rest ≡ suc (length next) = ap length left in
    let k = so.count in
    omega arith
