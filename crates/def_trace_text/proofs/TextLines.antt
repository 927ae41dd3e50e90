-- The lines of a text.
use Rattle.std.proofs.Common.{◌≡◌, ◌∙◌, inl, inr, ℕ, ◌+◌, ◌-◌, ◌<◌, ◌==◌, Bool, true, false, not, ◌&&◌, cond, List, [], ◌∷◌, ◌++◌, length, take, get_or, refl, ap, sym, subst, rules, arith, append_assoc}
use Rattle.std.specs.Prelude.{slice_index, if◌then◌else◌}
use Rattle.std.specs.List.{list_all, slice_split, onto_first, join_with_byte}
use Rattle.std.specs.Str.Lines.{lines_of_parts}
use Rattle.std.proofs.lemmas.List.Splits.{join_with_byte-slice_split}
use Rattle.std.proofs.lemmas.List.{take_more}
use Rattle.std.proofs.Math.Seq.{take-length}
use Rattle.def_trace_text.specs.Lines.{AreTextLines, trace_text_lines}

abbrev has_no_feed : List ℕ → Bool
has_no_feed line = list_all (λ b. not (b == 10)) line

abbrev HaveNoFeed : List (List ℕ) → Type 0
HaveNoFeed [] = Unit {0}
HaveNoFeed (x ∷ xs) = (has_no_feed x ≡ true) × HaveNoFeed xs

-- ---- cutting

fed : (b : ℕ) (x : List ℕ) → (b == 10) ≡ false → has_no_feed x ≡ true → has_no_feed (b ∷ x) ≡ true
fed b x e h = rw (e, h) refl

onto : (b : ℕ) (parts : List (List ℕ)) → (b == 10) ≡ false → HaveNoFeed parts → HaveNoFeed (onto_first b parts)
onto b [] e h = (fed b [] e refl, tt)
onto b (x ∷ xs) e h = (fed b x e h.0, h.1)

cut : (c : Bool) (b : ℕ) (parts : List (List ℕ)) → (b == 10) ≡ c → HaveNoFeed parts → HaveNoFeed (cond c ([] ∷ parts) (onto_first b parts))
cut true b parts e h = (refl, h)
cut false b parts e h = onto b parts e h

parts_have_none : (text : List ℕ) → HaveNoFeed (slice_split (λ b. b == 10) text)
parts_have_none [] = (refl, tt)
parts_have_none (b ∷ bs) = cut (b == 10) b (slice_split (λ x. x == 10) bs) refl (parts_have_none bs)

-- ---- the byte at the end

same_byte : (x c : ℕ) → (x == c) ≡ true → x ≡ c
same_byte x c e = search rules

-- the last byte, with what is before it
pub last_byte : (c : ℕ) (text : List ℕ) → 0 < c → (slice_index text (length text - 1) == c) ≡ true → text ≡ take (length text - 1) text ++ c ∷ []
last_byte c [] some e = let is : 0 ≡ c = same_byte 0 c e in absurd (omega (arith, some, is))
last_byte c (b ∷ bs) some e =
    let text = b ∷ bs in
    let n : length (b ∷ bs) - 1 + 1 ≡ length (b ∷ bs) = omega arith in
    let is : get_or (b ∷ bs) (length (b ∷ bs) - 1) 0 ≡ c = same_byte (get_or (b ∷ bs) (length (b ∷ bs) - 1) 0) c e in
    let more = take_more (b ∷ bs) (length (b ∷ bs) - 1) 0 (omega arith) in
    sym (take-length text) ∙ ap (λ k. take k text) (sym n) ∙ more ∙ ap (λ x. take (length text - 1) text ++ x ∷ []) is

and_left : (a b : Bool) → a && b ≡ true → a ≡ true
and_left true b h = refl
and_left false b h = h

and_right : (a b : Bool) → a && b ≡ true → b ≡ true
and_right true b h = h
and_right false b h = absurd (cc)

none_before : (front back : List ℕ) → has_no_feed (front ++ back) ≡ true → has_no_feed front ≡ true
none_before [] back h = refl
none_before (b ∷ bs) back h =
    let first : not (b == 10) ≡ true = and_left (not (b == 10)) (has_no_feed (bs ++ back)) h in
    let others = none_before bs back (and_right (not (b == 10)) (has_no_feed (bs ++ back)) h) in
    rw (first, others) refl

-- ---- lines

line_with_end : (c : Bool) (x rest : List ℕ) → (slice_index x (length x - 1) == 13) ≡ c → has_no_feed x ≡ true → (lines : List (List ℕ)) → AreTextLines rest lines → AreTextLines (x ++ 10 ∷ rest) ((cond c (take (length x - 1) x) x) ∷ lines)
line_with_end true x rest e h lines r =
    let is = last_byte 13 x (omega arith) e in
    let front = take (length x - 1) x in
    (none_before front (13 ∷ []) (subst (λ y. has_no_feed y ≡ true) is h), inr (13 ∷ 10 ∷ [], rest, inr refl, ap (λ y. y ++ 10 ∷ rest) is ∙ append_assoc front (13 ∷ []) (10 ∷ rest), r))
line_with_end false x rest e h lines r = (h, inr (10 ∷ [], rest, inl refl, refl, r))

pub no_bytes : (x : List ℕ) → (length x == 0) ≡ true → x ≡ []
no_bytes [] e = refl
no_bytes (b ∷ bs) e = let none : length (b ∷ bs) ≡ 0 = same_byte (length (b ∷ bs)) 0 e in absurd (omega (arith, none))

-- a last part that is empty is no line
last_part : (c : Bool) (x : List ℕ) → (length x == 0) ≡ c → has_no_feed x ≡ true → AreTextLines x (if c then [] else x ∷ [])
last_part true x e h = no_bytes x e
last_part false x e h = (h, inl (refl, refl))

lines_of : (parts : List (List ℕ)) → HaveNoFeed parts → AreTextLines (join_with_byte 10 parts) (lines_of_parts parts)
lines_of [] h = refl
lines_of (x ∷ []) h = last_part (length x == 0) x refl h.0
lines_of (x ∷ y ∷ more) h = line_with_end (slice_index x (length x - 1) == 13) x (join_with_byte 10 (y ∷ more)) refl h.0 (lines_of_parts (y ∷ more)) (lines_of (y ∷ more) h.1)

pub lines_are : (text : List ℕ) → AreTextLines text (trace_text_lines text)
lines_are text = subst (λ t. AreTextLines t (trace_text_lines text)) (join_with_byte-slice_split 10 text) (lines_of (slice_split (λ b. b == 10) text) (parts_have_none text))
