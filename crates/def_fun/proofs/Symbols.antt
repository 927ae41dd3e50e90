-- Symbols: the longest one is found, and no other.
use Rattle.std.proofs.Common.{◌≡◌, ℕ, ◌+◌, ◌<◌, ◌≤◌, List, [], ◌∷◌, ◌++◌, length, take, drop, Bool, true, false, not, ◌&&◌, ◌||◌, ◌==◌, nat_le, cond, Option, Some, None, refl, ap, sym, ◌∙◌, subst, arith, length-append}
use Rattle.std.proofs.lemmas.Bool.{and_parts, leb-true}
use Rattle.std.proofs.lemmas.List.{take_at, length-take, take-append-drop}
use Rattle.std.proofs.lemmas.Slice.Eq.{bytes_eq-Decides}
use Rattle.std.specs.Str.{bytes_eq}
use Rattle.def_term.specs.Names.{Name}
use Rattle.def_term.specs.Text.{is_digit, is_lower, is_upper}
use Rattle.def_fun.specs.Tokens.{FunToken, token_named, symbols, IsSymbol}
use Rattle.def_fun.specs.Scan.{or_found, symbol_at}

-- the bytes of each row pass the test
abbrev pub all_rows : (List ℕ → Bool) → List (Name × FunToken) → Bool
all_rows p [] = true
all_rows p (r ∷ rs) = p r.0 && all_rows p rs

named_by : (p : List ℕ → Bool) (r : Name × FunToken) (rs : List (Name × FunToken)) (u : Name) (t : FunToken) (b : Bool) → bytes_eq u r.0 ≡ b → p r.0 ≡ true → (token_named rs u ≡ Some t → p u ≡ true) → cond b (Some r.1) (token_named rs u) ≡ Some t → p u ≡ true
named_by p r rs u t true e here later h = subst (λ x. p x ≡ true) (sym ((bytes_eq-Decides u r.0).0 e)) here
named_by p r rs u t false e here later h = later h

pub named_passes : (p : List ℕ → Bool) (rs : List (Name × FunToken)) (u : Name) (t : FunToken) → all_rows p rs ≡ true → token_named rs u ≡ Some t → p u ≡ true
named_passes p [] u t all h = absurd (cc)
named_passes p (r ∷ rs) u t all h = let parts = and_parts (p r.0) (all_rows p rs) all in named_by p r rs u t (bytes_eq u r.0) refl parts.0 (λ g. named_passes p rs u t parts.1 g) h

-- after a first `.` comes another
abbrev pub is_no_stop : ℕ → List ℕ → Bool
is_no_stop b [] = not (b == 46)
is_no_stop b (c ∷ bs) = not (b == 46) || (c == 46)

-- what the bytes of each symbol are: one to three, of which the first begins no other token
abbrev pub is_symbol_text : List ℕ → Bool
is_symbol_text [] = false
is_symbol_text (b ∷ bs) =
    not (is_lower b) && (not (is_upper b || (b == 95)) && (not (is_digit b) && (not (b == 36) && (not (b == 39) && (not (b == 34) && (is_no_stop b bs && nat_le (length bs) 2))))))

pub symbol_text : (u : Name) (t : FunToken) → token_named symbols u ≡ Some t → is_symbol_text u ≡ true
symbol_text u t h = named_passes is_symbol_text symbols u t refl h

short_text : (u : Name) → is_symbol_text u ≡ true → (0 < length u) × (length u ≤ 3)
short_text [] h = absurd (cc)
short_text (b ∷ bs) h =
    let a = and_parts (not (is_lower b)) _ h in
    let c = and_parts (not (is_upper b || (b == 95))) _ a.1 in
    let d = and_parts (not (is_digit b)) _ c.1 in
    let e = and_parts (not (b == 36)) _ d.1 in
    let f = and_parts (not (b == 39)) _ e.1 in
    let g = and_parts (not (b == 34)) _ f.1 in
    let k = and_parts (is_no_stop b bs) _ g.1 in
    let few = leb-true (length bs) 2 k.1 in
    (omega arith, omega (arith, few))

pub symbol_length : (u : Name) (t : FunToken) → token_named symbols u ≡ Some t → (0 < length u) × (length u ≤ 3)
symbol_length u t h = short_text u (symbol_text u t h)

-- two fronts of the same length
same_fronts : (u rest v more : List ℕ) → u ++ rest ≡ v ++ more → length u ≡ length v → u ≡ v
same_fronts u rest v more e n = sym (take_at u rest (length u) refl) ∙ ap (take (length u)) e ∙ take_at v more (length u) (sym n)

-- ---- each symbol is found

same_found : (s t : FunToken) (m n : ℕ) → s ≡ t → m ≡ n → ◌≡◌ {A = Option (FunToken × ℕ)} (Some (s, m)) (Some (t, n))
same_found s t m n e f = cc

found_by : (n : ℕ) (u rest : List ℕ) (t : FunToken) (o : Option (FunToken × ℕ)) (q : Option FunToken) → IsSymbol u rest t → length u ≤ n → token_named symbols (take n (u ++ rest)) ≡ q → (q ≡ None → o ≡ Some (t, length u)) → or_found q (length (take n (u ++ rest))) o ≡ Some (t, length u)
found_by n u rest t o None is most e later = later refl
found_by n u rest t o (Some s) is most e later =
    let bs = u ++ rest in
    let v = take n bs in
    let all : bs ≡ v ++ drop n bs = sym (take-append-drop n bs) in
    let less = is.longest v (drop n bs) s all e in
    let size = length-take n bs in
    let same : length u ≡ length v = omega (arith, less, size, most, length-append u rest) in
    let is_u : u ≡ v = same_fronts u rest v (drop n bs) all same in
    let token : Some s ≡ Some t = sym e ∙ ap (token_named symbols) (sym is_u) ∙ is.row in
    let token' : s ≡ t = cc in
    same_found s t (length v) (length u) token' (sym same)

not_none : (n : ℕ) (u rest : List ℕ) (t : FunToken) → token_named symbols u ≡ Some t → length u ≡ n → token_named symbols (take n (u ++ rest)) ≡ None → ⊥
not_none n u rest t row e gone = let none_of : token_named symbols u ≡ None = ap (token_named symbols) (sym (take_at u rest n e)) ∙ gone in let both = sym row ∙ none_of in absurd (cc)

by_not : (n : ℕ) (u : List ℕ) → length u ≤ n + 1 → (length u ≡ n + 1 → ⊥) → length u ≤ n
by_not n u h other = omega (arith, h, other)

pub symbol_seen : (u rest : List ℕ) (t : FunToken) → IsSymbol u rest t → symbol_at (u ++ rest) ≡ Some (t, length u)
symbol_seen u rest t is =
    let bs = u ++ rest in
    let some = (symbol_length u t is.row).0 in
    let few = (symbol_length u t is.row).1 in
    found_by 3 u rest t _ (token_named symbols (take 3 bs)) is few refl
    (λ no3.
    let two : length u ≤ 2 = by_not 2 u few (λ e. not_none 3 u rest t is.row e no3) in
    found_by 2 u rest t _ (token_named symbols (take 2 bs)) is two refl
    (λ no2.
    let one : length u ≤ 1 = by_not 1 u two (λ e. not_none 2 u rest t is.row e no2) in
    found_by 1 u rest t None (token_named symbols (take 1 bs)) is one refl
    (λ no1. absurd (not_none 1 u rest t is.row (omega (arith, one, some)) no1))))

-- ---- what is found is a symbol

pub record SymbolCut (bytes : List ℕ) (t : FunToken) (n : ℕ) : Type 0 where
  pub text : List ℕ
  pub rest : List ℕ
  pub split : bytes ≡ text ++ rest
  pub len : n ≡ length text
  pub is : IsSymbol text rest t

abbrev pub SymbolAt : List ℕ → Option (FunToken × ℕ) → Type 0
SymbolAt bytes None = Unit {0}
SymbolAt bytes (Some p) = SymbolCut bytes p.0 p.1

-- no symbol has more bytes
abbrev NoLonger : ℕ → List ℕ → Type 0
NoLonger n bs = (v more : List ℕ) (s : FunToken) → bs ≡ v ++ more → token_named symbols v ≡ Some s → length v ≤ n

found_is : (n : ℕ) (bs : List ℕ) (o : Option (FunToken × ℕ)) (q : Option FunToken) → NoLonger n bs → token_named symbols (take n bs) ≡ q → (q ≡ None → SymbolAt bs o) → SymbolAt bs (or_found q (length (take n bs)) o)
found_is n bs o None most e later = later refl
found_is n bs o (Some t) limit e later = record {
  text = take n bs;
  rest = drop n bs;
  split = sym (take-append-drop n bs);
  len = refl;
  is = record {
    row = e;
    longest = λ v more s split row.
        let most = limit v more s (sym (take-append-drop n bs) ∙ split) row in
        let all : length bs ≡ length (v ++ more) = ap length (sym (take-append-drop n bs) ∙ split) in
        omega (arith, most, length-take n bs, all, length-append v more);
  };
}

shorter : (n : ℕ) (bs : List ℕ) → NoLonger (n + 1) bs → token_named symbols (take (n + 1) bs) ≡ None → NoLonger n bs
shorter n bs limit gone v more s e row = by_not n v (limit v more s e row) (λ len. not_none (n + 1) v more s row len (ap (λ x. token_named symbols (take (n + 1) x)) (sym e) ∙ gone))

pub symbol_sound : (bs : List ℕ) → SymbolAt bs (symbol_at bs)
symbol_sound bs =
    let three : NoLonger 3 bs = λ v more s e row. (symbol_length v s row).1 in
    found_is 3 bs _ (token_named symbols (take 3 bs)) three refl
    (λ no3.
    let two = shorter 2 bs three no3 in
    found_is 2 bs _ (token_named symbols (take 2 bs)) two refl
    (λ no2.
    let one = shorter 1 bs two no2 in
    found_is 1 bs None (token_named symbols (take 1 bs)) one refl (λ no1. tt)))
