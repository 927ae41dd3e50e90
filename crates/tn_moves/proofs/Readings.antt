-- What is read of a text of moves so far, and of a piece.
use Rattle.std.proofs.Common.{◌≡◌, ◌≢◌, ◌∙◌, ◌+◌, ◌<◌, ◌≤◌, ℕ, suc, List, [], ◌∷◌, ◌++◌, map, codes, length, take, drop, get_or, ◌-◌, Bool, true, false, not, ◌==◌, if◌then◌else◌, refl, sym, ap, ap₂, subst, inl, inr, arith, decimal, append-nil, append_assoc}
use Rattle.std.proofs.lemmas.Fmt.{decimal_injective}
use Rattle.std.proofs.lemmas.List.{drop-drop, at_drop_more, drop_all, take_rest, length-map, get_or-map}
use Rattle.def_text.specs.Tokens.{gap_len}
use Rattle.std.proofs.Math.Dec.{eqb-suc-zero}
use Rattle.std.proofs.lemmas.Slice.Eq.{bytes_eq-Decides}
use Rattle.std.specs.Str.{bytes_eq}
use Rattle.def_term.specs.Text.{atom_text}
use Rattle.def_script.specs.Program.{Entry, Program}
use Rattle.def_moves.specs.Directives.{Directive, times, until_idle, everybody}
use Rattle.def_moves.specs.Texts.{MovesPiece, IsMover, IsCount, IsPieceOf, IsNoPiece, StandsFor, IsFaultAfter, IsMovesFault, after_gap, after_piece, first_piece, piece_len, mover_len, ends_mover, pids_from}
use Rattle.tn_moves.specs.Pieces.{IsPieceAt, piece_seen}
use Rattle.tn_moves.specs.declared.piece.Piece.{Piece}

-- ---- how often

-- of a text that begins with `*` the bytes after it
module _ (text rest : List ℕ) (some : 1 ≤ length text) (is : rest ≡ take (length text - 1) (drop 1 text)) where
  tail_is : (n : ℕ) → text ≡ 42 ∷ decimal n → rest ≡ decimal n
  tail_is n e = is ∙ take_rest text 1 ∙ ap (drop 1) e

  not_empty : text ≡ [] → ⊥
  not_empty e = let none : length text ≡ 0 = ap length e in omega arith

  pub no_count : ((n : ℕ) → n < 4294967296 → rest ≢ decimal n) → (n : ℕ) → IsCount text n → ⊥
  no_count none n (inl a) = not_empty a.0
  no_count none n (inr a) = none n (omega (arith, a.1)) (tail_is n a.0)

  pub no_large_count : (m : ℕ) → rest ≡ decimal m → m < 4294967296 → 65536 ≤ m → (n : ℕ) → IsCount text n → ⊥
  no_large_count m same small large n (inl a) = not_empty a.0
  no_large_count m same small large n (inr a) =
      let one : m ≡ n = decimal_injective m n (omega arith) (omega (arith, a.1)) (sym same ∙ tail_is n a.0) in
      absurd (omega (arith, a.1))

-- ---- how many bytes say who moves

module _ (bytes : List ℕ) (i : ℕ) (below : i < length bytes) where
  abbrev here_byte : ℕ
  here_byte = get_or bytes i 0

  pub next_escaped : (inside escaped inside' escaped' : Bool) (all : ℕ) → escaped ≡ true → inside' ≡ inside → escaped' ≡ false
      → i + mover_len inside escaped (drop i bytes) ≡ all → i + 1 + mover_len inside' escaped' (drop (i + 1) bytes) ≡ all
  next_escaped inside escaped inside' escaped' all e is was h =
      let here : mover_len inside escaped (drop i bytes) ≡ mover_len inside true (drop i bytes) = ap (λ x. mover_len inside x (drop i bytes)) e in
      let more : mover_len inside true (drop i bytes) ≡ mover_len inside false (drop (i + 1) bytes) + 1 = at_drop_more (mover_len inside true) bytes i 0 below in
      let same : mover_len inside' escaped' (drop (i + 1) bytes) ≡ mover_len inside false (drop (i + 1) bytes) = ap₂ (λ x y. mover_len x y (drop (i + 1) bytes)) is was in
      omega (arith, h, here, more, same)

  pub next_inside : (inside escaped inside' escaped' : Bool) (all : ℕ) → escaped ≡ false → inside ≡ true → inside' ≡ not (here_byte == 39) → escaped' ≡ (here_byte == 92)
      → i + mover_len inside escaped (drop i bytes) ≡ all → i + 1 + mover_len inside' escaped' (drop (i + 1) bytes) ≡ all
  next_inside inside escaped inside' escaped' all e n is was h =
      let here : mover_len inside escaped (drop i bytes) ≡ mover_len true false (drop i bytes) = ap₂ (λ x y. mover_len x y (drop i bytes)) n e in
      let more : mover_len true false (drop i bytes) ≡ mover_len (not (here_byte == 39)) (here_byte == 92) (drop (i + 1) bytes) + 1 = at_drop_more (mover_len true false) bytes i 0 below in
      let same : mover_len inside' escaped' (drop (i + 1) bytes) ≡ mover_len (not (here_byte == 39)) (here_byte == 92) (drop (i + 1) bytes) = ap₂ (λ x y. mover_len x y (drop (i + 1) bytes)) is was in
      omega (arith, h, here, more, same)

  pub next_outside : (inside escaped inside' escaped' : Bool) (all : ℕ) → escaped ≡ false → inside ≡ false → ends_mover here_byte ≡ false → inside' ≡ (here_byte == 39) → escaped' ≡ false
      → i + mover_len inside escaped (drop i bytes) ≡ all → i + 1 + mover_len inside' escaped' (drop (i + 1) bytes) ≡ all
  next_outside inside escaped inside' escaped' all e n other is was h =
      let here : mover_len inside escaped (drop i bytes) ≡ mover_len false false (drop i bytes) = ap₂ (λ x y. mover_len x y (drop i bytes)) n e in
      let more : mover_len false false (drop i bytes) ≡ (if ends_mover here_byte then 0 else mover_len (here_byte == 39) false (drop (i + 1) bytes) + 1) = at_drop_more (mover_len false false) bytes i 0 below in
      let one : mover_len false false (drop i bytes) ≡ mover_len (here_byte == 39) false (drop (i + 1) bytes) + 1 = more ∙ ap (λ b. if b then 0 else mover_len (here_byte == 39) false (drop (i + 1) bytes) + 1) other in
      let same : mover_len inside' escaped' (drop (i + 1) bytes) ≡ mover_len (here_byte == 39) false (drop (i + 1) bytes) = ap₂ (λ x y. mover_len x y (drop (i + 1) bytes)) is was in
      omega (arith, h, here, one, same)

-- ---- the pieces so far

-- what is left of the text from this offset on, after pieces that stand for these directives
pub record Reaches (p : Program) (text : List ℕ) (at : ℕ) (found : List Directive) : Type 0 where
  pub within : at ≤ length text
  pub stands : (ds : List Directive) → StandsFor p (drop at text) ds → StandsFor p text (found ++ ds)
  pub fault : (front : List Directive) (place : ℕ) → IsFaultAfter p at (drop at text) front place → IsFaultAfter p 0 text (found ++ front) place

pub reaches_all : (p : Program) (text : List ℕ) → Reaches p text 0 []
reaches_all p text = record { within = omega arith; stands = λ ds h. h; fault = λ front place h. h }

-- a piece has a byte
mover_some : (p : Program) (v : List ℕ) (n : ℕ) → IsMover p v n → 0 < length v
mover_some p [] n h = absurd h
mover_some p (b ∷ v) n h = omega arith

pub piece_some : (p : Program) (x : MovesPiece) (d : Directive) → IsPieceOf p x d → 0 < piece_len x
piece_some p x (times k n) h = let some : 0 < length x.mover = mover_some p x.mover n h.0 in omega arith
piece_some p x (until_idle n) h = let some : 0 < length x.mover = mover_some p x.mover n h.0 in omega arith
piece_some p x everybody h = let one : length x.amount ≡ 1 = ap length h.1 in omega arith

module _ (p : Program) (text : List ℕ) (at : ℕ) (found : List Directive) (x : Piece) (reached : Reaches p text at found) (here : IsPieceAt text at x) where
  abbrev gap : ℕ
  gap = gap_len false (drop at text)

  abbrev size : ℕ
  size = piece_len (first_piece (after_gap (drop at text)))

  same_size : piece_len (piece_seen x) ≡ size
  same_size = ap piece_len here.first

  -- where the next piece may begin
  next_is : (next : ℕ) → next ≡ x.from + piece_len (piece_seen x) → next ≡ at + gap + size
  next_is next is = is ∙ ap (λ n. n + piece_len (piece_seen x)) here.from ∙ ap (λ n. at + gap + n) same_size

  after : (next : ℕ) → next ≡ at + gap + size → drop next text ≡ after_piece (drop at text)
  after next is =
      let sum : next ≡ at + (gap + size) = omega (arith, is) in
      ap (λ n. drop n text) sum ∙ sym (drop-drop (gap + size) at text) ∙ sym (drop-drop size gap (drop at text))

  pub one_more_piece : (d : Directive) (next : ℕ) → next ≡ x.from + piece_len (piece_seen x) → IsPieceOf p (piece_seen x) d → Reaches p text next (found ++ d ∷ [])
  one_more_piece d next is piece =
      let there : next ≡ at + gap + size = next_is next is in
      let first : IsPieceOf p (first_piece (after_gap (drop at text))) d = subst (λ y. IsPieceOf p y d) here.first piece in
      record {
        within = subst (λ n. n ≤ length text) (sym is) here.fits;
        stands = λ ds h. subst (StandsFor p text) (sym (append_assoc found (d ∷ []) ds)) (reached.stands (d ∷ ds) (here.some, first, subst (λ bs. StandsFor p bs ds) (after next there) h));
        fault = λ front place h.
            subst (λ ds. IsFaultAfter p 0 text ds place) (sym (append_assoc found (d ∷ []) front))
            (reached.fault (d ∷ front) place (here.some, first, subst (λ n. IsFaultAfter p n (after_piece (drop at text)) front place) there (subst (λ bs. IsFaultAfter p next bs front place) (after next there) h)));
      }

  pub no_piece : IsNoPiece p (piece_seen x) → IsMovesFault p text x.from
  no_piece none = (found, subst (λ ds. IsFaultAfter p 0 text ds x.from) (append-nil found) (reached.fault [] x.from (here.some, here.from, subst (IsNoPiece p) here.first none)))

pub all_pieces : (p : Program) (text : List ℕ) (at : ℕ) (found : List Directive) → Reaches p text at found → after_gap (drop at text) ≡ [] → StandsFor p text found
all_pieces p text at found reached none = subst (StandsFor p text) (append-nil found) (reached.stands [] none)

-- where nothing is left, nothing follows
pub at_end : (p : Program) (text : List ℕ) (at : ℕ) (found : List Directive) → Reaches p text at found → length text ≤ at → StandsFor p text found
at_end p text at found reached past = all_pieces p text at found reached (ap after_gap (drop_all at text past))

-- ---- pieces that stand for no directive

true_not_false : true ≡ false → ⊥
true_not_false e = cc

-- where it says who moves, and how often isn't said
pub no_directive : (p : Program) (x : MovesPiece) → 0 < length x.mover → (bytes_eq x.amount (codes "!") ≡ false) → ((n : ℕ) → IsCount x.amount n → ⊥) → IsNoPiece p x
no_directive p x some other none (times k n) h = none k h.1
no_directive p x some other none (until_idle n) h = true_not_false (sym ((bytes_eq-Decides x.amount (codes "!")).1 h.1) ∙ other)
no_directive p x some other none everybody h = let none_left : length x.mover ≡ 0 = ap length h.0 in absurd (omega arith)

pub no_bytes : (xs : List ℕ) → (length xs == 0) ≡ true → xs ≡ []
no_bytes [] h = refl
no_bytes (x ∷ xs) h = absurd (true_not_false (sym h ∙ eqb-suc-zero (length xs)))

-- ---- initial processes of a name

pid_here : (name : List ℕ) (n : ℕ) (e : Entry) (es : List Entry) (b : Bool) → b ≡ bytes_eq name (atom_text e.function_name)
    → pids_from name n (e ∷ es) ≡ (if b then n ∷ [] else []) ++ pids_from name (suc n) es
pid_here name n e es true h = ap (λ b. if b then n ∷ pids_from name (suc n) es else pids_from name (suc n) es) (sym h)
pid_here name n e es false h = ap (λ b. if b then n ∷ pids_from name (suc n) es else pids_from name (suc n) es) (sym h)

-- one more of the entries
pub pid_more : {E : Type 0} (seen : E → Entry) (name : List ℕ) (xs : List E) (i : ℕ) (e : E) (b : Bool) (found new all : List ℕ) → i < length xs → e ≡ get_or xs i e → b ≡ bytes_eq name (atom_text (seen e).function_name)
    → all ≡ found ++ pids_from name (100 + i) (drop i (map seen xs))
    → new ≡ found ++ (if b then (100 + i) ∷ [] else [])
    → all ≡ new ++ pids_from name (100 + (i + 1)) (drop (i + 1) (map seen xs))
pid_more seen name xs i e b found new all below is named h grown =
    let es : List Entry = map seen xs in
    let counted : length es ≡ length xs = length-map xs seen in
    let here : get_or es i (seen e) ≡ seen e = get_or-map seen xs i e (seen e) below ∙ ap seen (sym is) in
    let later : suc (100 + i) ≡ 100 + (i + 1) = omega arith in
    let tail : List ℕ = pids_from name (100 + (i + 1)) (drop (i + 1) es) in
    h
    ∙ ap (λ l. found ++ l) (at_drop_more (pids_from name (100 + i)) es i (seen e) (omega arith)
    ∙ ap (λ x. pids_from name (100 + i) (x ∷ drop (i + 1) es)) here
    ∙ pid_here name (100 + i) (seen e) (drop (i + 1) es) b named
    ∙ ap (λ n. (if b then (100 + i) ∷ [] else []) ++ pids_from name n (drop (i + 1) es)) later)
    ∙ sym (append_assoc found (if b then (100 + i) ∷ [] else []) tail)
    ∙ ap (λ l. l ++ tail) (sym grown)
