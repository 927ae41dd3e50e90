-- A text spells one list of picks at most, and every run has one output.
use Rattle.std.proofs.Common.{◌≡◌, ◌+◌, ◌*◌, ◌-◌, ◌<◌, ◌≤◌, ◌/◌, ◌%◌, ◌^◌, ◌==◌, nat_lt, ℕ, List, [], ◌∷◌, ◌++◌, length, Bool, true, false, if◌then◌else◌, All, ◌⊎◌, inl, inr, decimal, refl, ap, ap₂, sym, subst, ◌∙◌, arith, append_assoc, append-nil, length-append}
use Rattle.std.proofs.lemmas.Fmt.{decimal_by_steps, decimal_nonempty}
use Rattle.std.proofs.lemmas.Bool.{cond-false, ne_eqb}
use Rattle.std.proofs.lemmas.Bool.Decides.{nat_tests}
use Rattle.std.proofs.lemmas.List.Elements.{All-nil, All-cons, All-head, All-tail}
use Rattle.std.proofs.lemmas.Slice.Eq.{bytes_eq-Decides}
use Rattle.std.specs.Str.{bytes_eq}
use Rattle.def_script.specs.Program.{Program}
use Rattle.def_script.specs.Script.{Refusal, bad_picks, IsScript, IsRefused}
use Rattle.def_script.proofs.OneScript.{one_program, not_both, refused_once, either_way}
use Rattle.def_run.specs.Listing.{program_output}
use Rattle.def_run.specs.Picks.{SpellsPicks, picks_text}
use Rattle.def_run.specs.Round.{round}
use Rattle.def_run.specs.Output.{HasBadPicks, refusal_text, IsOutput, lists, refuses, refuses_picks, IsRoundOutput, lists_round, refuses_round}
use Rattle.def_run.specs.Laws.{PicksAreOne, OutputIsOne, RoundOutputIsOne}

-- the numbers of a text with single spaces, after so much of the first
abbrev numbers_from : ℕ → List ℕ → List ℕ
numbers_from n [] = n ∷ []
numbers_from n (b ∷ bs) = if b == 32 then n ∷ numbers_from 0 bs else numbers_from (n * 10 + (b - 48)) bs

abbrev numbers_of : List ℕ → List ℕ
numbers_of [] = []
numbers_of (b ∷ bs) = numbers_from 0 (b ∷ bs)

abbrev IsRead : ℕ → List ℕ → Type 0
IsRead n ds = (rest : List ℕ) → numbers_from 0 (ds ++ rest) ≡ numbers_from n rest

digit_read : (m k : ℕ) (rest : List ℕ) → numbers_from m ((48 + k) ∷ rest) ≡ numbers_from (m * 10 + k) rest
digit_read m k rest =
    cond-false (48 + k == 32) _ _ (ne_eqb (48 + k) 32 (λ e. omega (arith, e)))
    ∙ ap (λ n. numbers_from n rest) (let e : m * 10 + (48 + k - 48) ≡ m * 10 + k = omega arith in e)

one_read : (n : ℕ) → n < 10 → IsRead n ((48 + n) ∷ [])
one_read n small rest = digit_read 0 n rest ∙ ap (λ m. numbers_from m rest) (let e : 0 * 10 + n ≡ n = omega arith in e)

more_read : (n : ℕ) (ds : List ℕ) → 10 ≤ n → IsRead (n / 10) ds → IsRead n (ds ++ (48 + n % 10) ∷ [])
more_read n ds big h rest =
    ap (numbers_from 0) (append_assoc ds ((48 + n % 10) ∷ []) rest)
    ∙ h ((48 + n % 10) ∷ rest)
    ∙ digit_read (n / 10) (n % 10) rest
    ∙ ap (λ m. numbers_from m rest) (let e : n / 10 * 10 + n % 10 ≡ n = omega arith in e)

number_read : (n : ℕ) → n < 2 ^ 32 → IsRead n (decimal n)
number_read n small = decimal_by_steps IsRead one_read more_read n (omega (arith, small))

picks_read : (p : ℕ) (ps : List ℕ) → All (λ q. q < 2 ^ 32) (p ∷ ps) → numbers_from 0 (picks_text (p ∷ ps)) ≡ p ∷ ps
picks_read p [] fit = ap (numbers_from 0) (sym (append-nil (decimal p))) ∙ number_read p (All-head (λ q. q < 2 ^ 32) p [] fit) []
picks_read p (q ∷ ps) fit =
    number_read p (All-head (λ q. q < 2 ^ 32) p (q ∷ ps) fit) (32 ∷ picks_text (q ∷ ps))
    ∙ ap (λ xs. p ∷ xs) (picks_read q ps (All-tail (λ q. q < 2 ^ 32) p (q ∷ ps) fit))

some_digit : (p : ℕ) → p < 2 ^ 32 → 0 < length (decimal p)
some_digit p small = decimal_nonempty p (omega (arith, small))

-- the text of one pick or more is not empty
text_some : (p : ℕ) (ps : List ℕ) → All (λ q. q < 2 ^ 32) (p ∷ ps) → 0 < length (picks_text (p ∷ ps))
text_some p [] fit = some_digit p (All-head (λ q. q < 2 ^ 32) p [] fit)
text_some p (q ∷ ps) fit = let e = length-append (decimal p) (32 ∷ picks_text (q ∷ ps)) in omega (arith, e)

nonempty_from : (xs : List ℕ) → 0 < length xs → numbers_of xs ≡ numbers_from 0 xs
nonempty_from [] h = absurd (omega (arith, h))
nonempty_from (x ∷ xs) h = refl

spelled_are : (text picks : List ℕ) → SpellsPicks text picks → numbers_of text ≡ picks
spelled_are text [] h = ap numbers_of h.spelled
spelled_are text (p ∷ ps) h = ap numbers_of h.spelled ∙ nonempty_from (picks_text (p ∷ ps)) (text_some p ps h.fit) ∙ picks_read p ps h.fit

pub picks_are_one : PicksAreOne
picks_are_one text ps qs h i = sym (spelled_are text ps h) ∙ spelled_are text qs i

-- ---- a text spells picks or none

small_or_not : (n m : ℕ) → (n ≤ m) ⊎ (m < n)
small_or_not n m = elim (nat_lt m n) as (λ b. nat_lt m n ≡ b → (n ≤ m) ⊎ (m < n)) [ true ↦ λ e. inr (grind (arith, nat_tests, e)) | false ↦ λ e. inl (grind (arith, nat_tests, e)) ] refl

both_fit : (p : ℕ) (ps : List ℕ) → (p ≤ 4294967295) ⊎ (4294967295 < p) → All (λ q. q < 2 ^ 32) ps ⊎ (All (λ q. q < 2 ^ 32) ps → ⊥) → All (λ q. q < 2 ^ 32) (p ∷ ps) ⊎ (All (λ q. q < 2 ^ 32) (p ∷ ps) → ⊥)
both_fit p ps (inl small) (inl fit) = inl (All-cons (λ q. q < 2 ^ 32) p ps (omega (arith, small)) fit)
both_fit p ps (inl small) (inr not) = inr (λ fit. not (All-tail (λ q. q < 2 ^ 32) p ps fit))
both_fit p ps (inr large) other = inr (λ fit. let below = All-head (λ q. q < 2 ^ 32) p ps fit in absurd (omega (arith, large, below)))

fit_or_not : (ps : List ℕ) → All (λ q. q < 2 ^ 32) ps ⊎ (All (λ q. q < 2 ^ 32) ps → ⊥)
fit_or_not [] = inl (All-nil (λ q. q < 2 ^ 32))
fit_or_not (p ∷ ps) = both_fit p ps (small_or_not p 4294967295) (fit_or_not ps)

by_text : (text ps : List ℕ) → numbers_of text ≡ ps → length text ≤ 1048576 → All (λ q. q < 2 ^ 32) ps → (b : Bool) → bytes_eq text (picks_text ps) ≡ b → ((picks : List ℕ) × SpellsPicks text picks) ⊎ HasBadPicks text
by_text text ps is short fit true e = inl (ps, record { short = short; fit = fit; spelled = (bytes_eq-Decides text (picks_text ps)).0 e })
by_text text ps is short fit false e =
    inr (λ picks h. let same : ps ≡ picks = sym is ∙ spelled_are text picks h in
    let yes : bytes_eq text (picks_text ps) ≡ true = (bytes_eq-Decides text (picks_text ps)).1 (h.spelled ∙ ap picks_text (sym same)) in
    let no : true ≡ false = sym yes ∙ e in cc)

by_fit : (text ps : List ℕ) → numbers_of text ≡ ps → length text ≤ 1048576 → All (λ q. q < 2 ^ 32) ps ⊎ (All (λ q. q < 2 ^ 32) ps → ⊥) → ((picks : List ℕ) × SpellsPicks text picks) ⊎ HasBadPicks text
by_fit text ps is short (inl fit) = by_text text ps is short fit (bytes_eq text (picks_text ps)) refl
by_fit text ps is short (inr not) = inr (λ picks h. let same : picks ≡ ps = sym (spelled_are text picks h) ∙ is in not (subst (λ qs. All (λ q. q < 2 ^ 32) qs) same h.fit))

by_length : (text : List ℕ) → (length text ≤ 1048576) ⊎ (1048576 < length text) → ((picks : List ℕ) × SpellsPicks text picks) ⊎ HasBadPicks text
by_length text (inl short) = by_fit text (numbers_of text) refl short (fit_or_not (numbers_of text))
by_length text (inr long) = inr (λ picks h. let short = h.short in absurd (omega (arith, long, short)))

picks_or_none : (text : List ℕ) → ((picks : List ℕ) × SpellsPicks text picks) ⊎ HasBadPicks text
picks_or_none text = by_length text (small_or_not (length text) 1048576)

-- ---- one output

abbrev IsOnly : List ℕ → List ℕ → List ℕ → Type 0
IsOnly bytes text output = (other : List ℕ) → IsOutput bytes text other → other ≡ output

only_listed : (bytes text : List ℕ) (p : Program) (picks : List ℕ) → IsScript bytes p → SpellsPicks text picks → IsOnly bytes text (program_output p picks)
only_listed bytes text p picks s h other (lists q ps t i e) = e ∙ ap₂ program_output (one_program bytes q p t s) (picks_are_one text ps picks i h)
only_listed bytes text p picks s h other (refuses r ps d i e) = absurd (not_both bytes p r s d)
only_listed bytes text p picks s h other (refuses_picks bad e) = absurd (bad picks h)

only_refused : (bytes text : List ℕ) (r : Refusal) (picks : List ℕ) → IsRefused bytes r → SpellsPicks text picks → IsOnly bytes text (refusal_text r)
only_refused bytes text r picks d h other (lists q ps t i e) = absurd (not_both bytes q r t d)
only_refused bytes text r picks d h other (refuses q ps c i e) = e ∙ ap refusal_text (refused_once bytes q r c d)
only_refused bytes text r picks d h other (refuses_picks bad e) = absurd (bad picks h)

only_bad : (bytes text : List ℕ) → HasBadPicks text → IsOnly bytes text (refusal_text bad_picks)
only_bad bytes text bad other (lists q ps t i e) = absurd (bad ps i)
only_bad bytes text bad other (refuses q ps c i e) = absurd (bad ps i)
only_bad bytes text bad other (refuses_picks b e) = e

output_by : (bytes text : List ℕ) → ((picks : List ℕ) × SpellsPicks text picks) ⊎ HasBadPicks text → ((p : Program) × IsScript bytes p) ⊎ ((r : Refusal) × IsRefused bytes r) → (output : List ℕ) × IsOutput bytes text output × ((other : List ℕ) → IsOutput bytes text other → other ≡ output)
output_by bytes text (inl h) (inl s) = (program_output s.0 h.0, lists s.0 h.0 s.1 h.1 refl, only_listed bytes text s.0 h.0 s.1 h.1)
output_by bytes text (inl h) (inr d) = (refusal_text d.0, refuses d.0 h.0 d.1 h.1 refl, only_refused bytes text d.0 h.0 d.1 h.1)
output_by bytes text (inr bad) other = (refusal_text bad_picks, refuses_picks bad refl, only_bad bytes text bad)

pub output_is_one : OutputIsOne
output_is_one bytes text = output_by bytes text (picks_or_none text) (either_way bytes)

-- ---- one output of a round

only_round_listed : (bytes : List ℕ) (limit : ℕ) (p : Program) → IsScript bytes p → (other : List ℕ) → IsRoundOutput bytes limit other → other ≡ program_output p (round p limit)
only_round_listed bytes limit p s other (lists_round q t e) = e ∙ ap (λ k. program_output k (round k limit)) (one_program bytes q p t s)
only_round_listed bytes limit p s other (refuses_round r d e) = absurd (not_both bytes p r s d)

only_round_refused : (bytes : List ℕ) (limit : ℕ) (r : Refusal) → IsRefused bytes r → (other : List ℕ) → IsRoundOutput bytes limit other → other ≡ refusal_text r
only_round_refused bytes limit r d other (lists_round q t e) = absurd (not_both bytes q r t d)
only_round_refused bytes limit r d other (refuses_round q c e) = e ∙ ap refusal_text (refused_once bytes q r c d)

round_output_by : (bytes : List ℕ) (limit : ℕ) → ((p : Program) × IsScript bytes p) ⊎ ((r : Refusal) × IsRefused bytes r) → (output : List ℕ) × IsRoundOutput bytes limit output × ((other : List ℕ) → IsRoundOutput bytes limit other → other ≡ output)
round_output_by bytes limit (inl s) = (program_output s.0 (round s.0 limit), lists_round s.0 s.1 refl, only_round_listed bytes limit s.0 s.1)
round_output_by bytes limit (inr d) = (refusal_text d.0, refuses_round d.0 d.1 refl, only_round_refused bytes limit d.0 d.1)

pub round_output_is_one : RoundOutputIsOne
round_output_is_one bytes limit = round_output_by bytes limit (either_way bytes)
