-- Lines and columns of bytes put together, and the two laws of places.
use Rattle.std.proofs.Common.{◌≡◌, ℕ, zero, suc, ◌+◌, ◌==◌, cond, Bool, true, false, List, [], ◌∷◌, ◌++◌, length, take, Some, slice_get, eqb-true, inl, inr, refl, ap, sym, ◌∙◌, arith}
use Rattle.std.proofs.lemmas.Option.{none-some}
use Rattle.std.specs.Option.{unwrap_or}
use Rattle.def_text.specs.Places.{LineColumn, line_feeds, column_from, place_after, AreLines, IsPlace, after_byte}
use Rattle.def_text.specs.PlaceLaws.{PlaceIsThere, PlaceIsOne, OneByteOn}

-- ---- bytes put together

more-feeds : (b : Bool) (m n k : ℕ) → m ≡ n + k → cond b (m + 1) m ≡ cond b (n + 1) n + k
more-feeds true m n k e = omega arith
more-feeds false m n k e = e

pub line_feeds-append : (xs ys : List ℕ) → line_feeds (xs ++ ys) ≡ line_feeds xs + line_feeds ys
line_feeds-append [] ys = omega arith
line_feeds-append (x ∷ xs) ys = more-feeds (x == 10) (line_feeds (xs ++ ys)) (line_feeds xs) (line_feeds ys) (line_feeds-append xs ys)

pub column_from-append : (c : ℕ) (xs ys : List ℕ) → column_from c (xs ++ ys) ≡ column_from (column_from c xs) ys
column_from-append c [] ys = refl
column_from-append c (x ∷ xs) ys = column_from-append (cond (x == 10) 1 (c + 1)) xs ys

-- after whole lines stands the first column
column-lines : (xs : List ℕ) → AreLines xs → column_from 1 xs ≡ 1
column-lines xs (inl e) = ap (column_from 1) e
column-lines xs (inr w) = ap (column_from 1) w.1 ∙ column_from-append 1 w.0 (10 ∷ [])

-- no line feed among them
none-more : (b : Bool) (n : ℕ) → cond b (n + 1) n ≡ 0 → (b ≡ false) × (n ≡ 0)
none-more true n e = absurd (omega arith)
none-more false n e = (refl, e)

column-within : (c : ℕ) (xs : List ℕ) → line_feeds xs ≡ 0 → column_from c xs ≡ length xs + c
column-within c [] e = omega arith
column-within c (x ∷ xs) e =
    let no = none-more (x == 10) (line_feeds xs) e in
    let here : cond (x == 10) 1 (c + 1) ≡ c + 1 = ap (λ b. cond b 1 (c + 1)) no.0 in
    let rest = column-within (c + 1) xs no.1 in
    ap (λ k. column_from k xs) here ∙ omega (arith, rest)

-- ---- a place is what it counts

line-is : (passed : List ℕ) (p : LineColumn) → IsPlace passed p → p.line ≡ line_feeds passed + 1
line-is passed p is = omega (arith, is.line, is.within, ap line_feeds is.split, line_feeds-append is.lines is.rest)

column-is : (passed : List ℕ) (p : LineColumn) → IsPlace passed p → p.column ≡ column_from 1 passed
column-is passed p is =
    let all : column_from 1 passed ≡ column_from (column_from 1 is.lines) is.rest = ap (column_from 1) is.split ∙ column_from-append 1 is.lines is.rest in
    let first : column_from (column_from 1 is.lines) is.rest ≡ column_from 1 is.rest = ap (λ c. column_from c is.rest) (column-lines is.lines is.whole) in
    omega (arith, is.column, all, first, column-within 1 is.rest is.within)

pub one : PlaceIsOne
one passed p q is also = (line-is passed p is ∙ sym (line-is passed q also), column-is passed p is ∙ sym (column-is passed q also))

-- ---- and there is one

record Parts (passed : List ℕ) : Type 0 where
  pub lines : List ℕ
  pub rest : List ℕ
  pub split : passed ≡ lines ++ rest
  pub whole : AreLines lines
  pub within : line_feeds rest ≡ 0

-- a byte before lines is of the first of them
before-lines : (b : ℕ) (bs : List ℕ) (s : Parts bs) (front : List ℕ) → s.lines ≡ front ++ 10 ∷ [] → Parts (b ∷ bs)
before-lines b bs s front e = record {
  lines = b ∷ s.lines;
  rest = s.rest;
  split = ap (λ l. b ∷ l) s.split;
  whole = inr (b ∷ front, ap (λ l. b ∷ l) e);
  within = s.within;
}

ten : (b : ℕ) → (b == 10) ≡ true → b ≡ 10
ten b is = eqb-true b 10 is

-- a byte before no line
before-none : (b : ℕ) (bs : List ℕ) (s : Parts bs) (t : Bool) → s.lines ≡ [] → (b == 10) ≡ t → Parts (b ∷ bs)
before-none b bs s true e is = record {
  lines = 10 ∷ [];
  rest = s.rest;
  split = ap (λ k. k ∷ bs) (ten b is) ∙ ap (λ l. 10 ∷ l) (s.split ∙ ap (λ l. l ++ s.rest) e);
  whole = inr ([], refl);
  within = s.within;
}
before-none b bs s false e is = record {
  lines = [];
  rest = b ∷ s.rest;
  split = ap (λ l. b ∷ l) (s.split ∙ ap (λ l. l ++ s.rest) e);
  whole = inl refl;
  within = ap (λ t. cond t (line_feeds s.rest + 1) (line_feeds s.rest)) is ∙ s.within;
}

with-byte : (b : ℕ) (bs : List ℕ) (s : Parts bs) → AreLines s.lines → Parts (b ∷ bs)
with-byte b bs s (inl e) = before-none b bs s (b == 10) e refl
with-byte b bs s (inr w) = before-lines b bs s w.0 w.1

parts : (passed : List ℕ) → Parts passed
parts [] = record { lines = []; rest = []; split = refl; whole = inl refl; within = refl }
parts (b ∷ bs) = let s = parts bs in with-byte b bs s s.whole

behind : (passed : List ℕ) (s : Parts passed) → IsPlace passed (place_after passed)
behind passed s =
    let feeds : line_feeds passed ≡ line_feeds s.lines + line_feeds s.rest = ap line_feeds s.split ∙ line_feeds-append s.lines s.rest in
    let all : column_from 1 passed ≡ column_from (column_from 1 s.lines) s.rest = ap (column_from 1) s.split ∙ column_from-append 1 s.lines s.rest in
    let first : column_from (column_from 1 s.lines) s.rest ≡ column_from 1 s.rest = ap (λ c. column_from c s.rest) (column-lines s.lines s.whole) in
    record {
      lines = s.lines;
      rest = s.rest;
      split = s.split;
      whole = s.whole;
      within = s.within;
      line = omega (arith, feeds, s.within);
      column = omega (arith, all, first, column-within 1 s.rest s.within);
    }

pub some : PlaceIsThere
some bytes at = behind (take at bytes) (parts (take at bytes))

-- ---- one byte on

one_more : (bytes : List ℕ) (at b : ℕ) → slice_get bytes at ≡ Some b → take (suc at) bytes ≡ take at bytes ++ b ∷ []
one_more [] at b e = absurd (none-some b e)
one_more (x ∷ xs) zero b e = ap (λ o. unwrap_or o x ∷ []) e
one_more (x ∷ xs) (suc at) b e = ap (λ l. x ∷ l) (one_more xs at b e)

line-on : (t : Bool) (n : ℕ) → n + cond t 1 0 + 1 ≡ cond t (n + 1 + 1) (n + 1)
line-on true n = omega arith
line-on false n = omega arith

place-on : (passed : List ℕ) (b : ℕ) → place_after (passed ++ b ∷ []) ≡ after_byte (place_after passed) b
place-on passed b =
    let lines : line_feeds (passed ++ b ∷ []) + 1 ≡ cond (b == 10) (line_feeds passed + 1 + 1) (line_feeds passed + 1) = ap (λ n. n + 1) (line_feeds-append passed (b ∷ [])) ∙ line-on (b == 10) (line_feeds passed) in
    let columns : column_from 1 (passed ++ b ∷ []) ≡ cond (b == 10) 1 (column_from 1 passed + 1) = column_from-append 1 passed (b ∷ []) in
    ap (λ l. record { line = l; column = column_from 1 (passed ++ b ∷ []) }) lines ∙ ap (λ c. record { line = cond (b == 10) (line_feeds passed + 1 + 1) (line_feeds passed + 1); column = c }) columns

pub on : OneByteOn
on bytes at b e =
    let suc-at : at + 1 ≡ suc at = omega arith in
    ap (λ n. place_after (take n bytes)) suc-at ∙ ap place_after (one_more bytes at b e) ∙ place-on (take at bytes) b
