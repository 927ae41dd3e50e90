-- Symbols and reserved words are text.
use Rattle.std.proofs.Common.{◌≡◌, ℕ, min, List, [], ◌∷◌, length, take, Bool, true, nat_lt, Option, Some, None, refl, ap, sym, ◌∙◌, length-take}
use Rattle.std.proofs.lemmas.List.{take_min}
use Rattle.std.specs.Str.{IsUtf8, IsAscii}
use Rattle.std.specs.Option.{unwrap_or}
use Rattle.std.proofs.lemmas.Str.{IsUtf8-from_ascii}
use Rattle.std.proofs.lemmas.Str.Ascii.{IsAscii-nil, IsAscii-cons}
use Rattle.std.proofs.lemmas.Bool.{and_parts, ltb-true}
use Rattle.def_term.specs.Names.{Name}
use Rattle.def_text.specs.Tokens.{all_are}
use Rattle.def_fun.specs.Tokens.{FunToken, atom, token_named, symbols, fun_words}
use Rattle.def_fun.specs.Scan.{word_token, or_found, symbol_or, symbol_at}
use Rattle.tn_fun.specs.Scan.{symbol_named, word_named, with_length, symbol_of_first}
use Rattle.def_fun.proofs.Symbols.{all_rows, named_passes}

abbrev is_ascii_text : List ℕ → Bool
is_ascii_text u = all_are (λ b. nat_lt b 128) u

ascii_text : (bs : List ℕ) → is_ascii_text bs ≡ true → IsAscii bs
ascii_text [] h = IsAscii-nil
ascii_text (b ∷ bs) h = let parts = and_parts (nat_lt b 128) (all_are (λ x. nat_lt x 128) bs) h in IsAscii-cons b bs (ltb-true b 128 parts.0) (ascii_text bs parts.1)

none_by : (rs : List (Name × FunToken)) (u : Name) (o : Option FunToken) → token_named rs u ≡ o → all_rows is_ascii_text rs ≡ true → (IsUtf8 u → ⊥) → token_named rs u ≡ None
none_by rs u None is all no_text = is
none_by rs u (Some t) is all no_text = absurd (no_text (IsUtf8-from_ascii u (ascii_text u (named_passes is_ascii_text rs u t all is))))

pub no_symbol : (u : Name) → (IsUtf8 u → ⊥) → symbol_named u ≡ None
unfolding symbol_named
no_symbol u no_text = none_by symbols u (token_named symbols u) refl refl no_text

pub no_word : (u : Name) → (IsUtf8 u → ⊥) → word_named u ≡ None
unfolding word_named
no_word u no_text = none_by fun_words u (token_named fun_words u) refl refl no_text

-- a name is a reserved word or an atom
pub bare_word : (u : Name) → word_named u ≡ None → atom u ≡ word_token u
unfolding word_named
bare_word u none = ap (λ o. unwrap_or o (atom u)) (sym none)

pub named_word : (u : Name) (t : FunToken) → Some t ≡ word_named u → t ≡ word_token u
unfolding word_named
named_word u t is = ap (λ o. unwrap_or o (atom u)) is

-- ---- the longest symbol

abbrev or_some : Option (FunToken × ℕ) → Option (FunToken × ℕ) → Option (FunToken × ℕ)
or_some None o = o
or_some (Some x) o = Some x

or_found_is : (x : Option FunToken) (n : ℕ) (o : Option (FunToken × ℕ)) → or_found x n o ≡ or_some (with_length n x) o
or_found_is None n o = refl
or_found_is (Some t) n o = refl

symbol_or_is : (n : ℕ) (bs : List ℕ) (o : Option (FunToken × ℕ)) → symbol_or n bs o ≡ or_some (symbol_of_first n bs) o
unfolding symbol_named
symbol_or_is n bs o = or_found_is (token_named symbols (take n bs)) (length (take n bs)) o

or_none : (o : Option (FunToken × ℕ)) → or_some o None ≡ o
or_none None = refl
or_none (Some x) = refl

longest_is : (bs : List ℕ) → symbol_at bs ≡ or_some (symbol_of_first 3 bs) (or_some (symbol_of_first 2 bs) (symbol_of_first 1 bs))
longest_is bs =
    symbol_or_is 3 bs (symbol_or 2 bs (symbol_or 1 bs None))
    ∙ ap (or_some (symbol_of_first 3 bs)) (symbol_or_is 2 bs (symbol_or 1 bs None) ∙ ap (or_some (symbol_of_first 2 bs)) (symbol_or_is 1 bs None ∙ or_none (symbol_of_first 1 bs)))

pub longest_of_three : (bs : List ℕ) (x : FunToken × ℕ) → Some x ≡ symbol_of_first 3 bs → Some x ≡ symbol_at bs
longest_of_three bs x is = sym (longest_is bs ∙ ap (λ o. or_some o (or_some (symbol_of_first 2 bs) (symbol_of_first 1 bs))) (sym is))

pub longest_of_two : (bs : List ℕ) (x : FunToken × ℕ) → None ≡ symbol_of_first 3 bs → Some x ≡ symbol_of_first 2 bs → Some x ≡ symbol_at bs
longest_of_two bs x none is = sym (longest_is bs ∙ ap (λ o. or_some o (or_some (symbol_of_first 2 bs) (symbol_of_first 1 bs))) (sym none) ∙ ap (λ o. or_some o (symbol_of_first 1 bs)) (sym is))

pub longest_of_one : (bs : List ℕ) (o : Option (FunToken × ℕ)) → None ≡ symbol_of_first 3 bs → None ≡ symbol_of_first 2 bs → o ≡ symbol_of_first 1 bs → o ≡ symbol_at bs
longest_of_one bs o none no_two is = sym (longest_is bs ∙ ap (λ p. or_some p (or_some (symbol_of_first 2 bs) (symbol_of_first 1 bs))) (sym none) ∙ ap (λ p. or_some p (symbol_of_first 1 bs)) (sym no_two) ∙ sym is)

-- the symbol of the first bytes, at most so many
pub first_symbol : (bs : List ℕ) (most len : ℕ) (t : FunToken) → len ≡ min most (length bs) → Some t ≡ symbol_named (take len bs) → Some (t, len) ≡ symbol_of_first most bs
first_symbol bs most len t is found =
    let same : take len bs ≡ take most bs = ap (λ k. take k bs) is ∙ take_min most bs in
    ap (λ k. Some (t, k)) (is ∙ sym (length-take most bs)) ∙ ap (with_length (length (take most bs))) (found ∙ ap symbol_named same)

pub no_first_symbol : (bs : List ℕ) (most len : ℕ) → len ≡ min most (length bs) → None ≡ symbol_named (take len bs) → None ≡ symbol_of_first most bs
no_first_symbol bs most len is none =
    let same : take len bs ≡ take most bs = ap (λ k. take k bs) is ∙ take_min most bs in
    ap (with_length (length (take most bs))) (none ∙ ap symbol_named same)
