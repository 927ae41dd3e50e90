-- A text of moves stands for one list of directives, or has one first fault.
use Rattle.std.proofs.Common.{◌≡◌, ◌∙◌, ◌+◌, ◌<◌, ℕ, List, [], ◌∷◌, length, false, refl, sym, ap, ap₂, subst, inl, inr, arith, decimal}
use Rattle.std.proofs.lemmas.Fmt.{decimal_injective}
use Rattle.def_text.specs.Tokens.{gap_len}
use Rattle.def_script.specs.Program.{Program}
use Rattle.def_moves.specs.Directives.{Directive, times, until_idle, everybody, picks_of_directives}
use Rattle.def_moves.specs.Texts.{MovesPiece, IsMover, IsCount, IsPieceOf, StandsFor, IsFaultAfter, after_gap, after_piece, first_piece, piece_len}
use Rattle.def_moves.specs.TextLaws.{MovesAreOne, PicksOfMovesAreOne, MovesFaultIsAlone, MovesFaultIsOne}

head_of : (x y : ℕ) (xs ys : List ℕ) → x ∷ xs ≡ y ∷ ys → x ≡ y
head_of x y xs ys e = cc

tail_of : (x y : ℕ) (xs ys : List ℕ) → x ∷ xs ≡ y ∷ ys → xs ≡ ys
tail_of x y xs ys e = cc

one_mover : (p : Program) (v : List ℕ) (m n : ℕ) → IsMover p v m → IsMover p v n → m ≡ n
one_mover p [] m n a b = absurd a
one_mover p (x ∷ v) m n (inl a) (inl b) = decimal_injective m n (omega (arith, a.2)) (omega (arith, b.2)) (sym a.1 ∙ b.1)
one_mover p (x ∷ v) m n (inl a) (inr b) = cc
one_mover p (x ∷ v) m n (inr a) (inl b) = cc
one_mover p (x ∷ v) m n (inr a) (inr b) = head_of m n [] [] (sym a.1 ∙ b.1)

one_count : (amount : List ℕ) (j k : ℕ) → IsCount amount j → IsCount amount k → j ≡ k
one_count amount j k (inl a) (inl b) = a.1 ∙ sym b.1
one_count amount j k (inl a) (inr b) = cc
one_count amount j k (inr a) (inl b) = cc
one_count amount j k (inr a) (inr b) = decimal_injective j k (omega (arith, a.1)) (omega (arith, b.1)) (tail_of 42 42 (decimal j) (decimal k) (sym a.0 ∙ b.0))

one_directive : (p : Program) (x : MovesPiece) (d e : Directive) → IsPieceOf p x d → IsPieceOf p x e → d ≡ e
one_directive p x (times j m) (times k n) a b = ap₂ times (one_count x.amount j k a.1 b.1) (one_mover p x.mover m n a.0 b.0)
one_directive p x (until_idle m) (until_idle n) a b = ap until_idle (one_mover p x.mover m n a.0 b.0)
one_directive p x everybody everybody a b = refl
one_directive p x (times j m) (until_idle n) (a, inl c) b = cc
one_directive p x (times j m) (until_idle n) (a, inr c) b = cc
one_directive p x (times j m) everybody a b = absurd (subst (λ v. IsMover p v m) b.0 a.0)
one_directive p x (until_idle m) (times k n) a (b, inl c) = cc
one_directive p x (until_idle m) (times k n) a (b, inr c) = cc
one_directive p x (until_idle m) everybody a b = absurd (subst (λ v. IsMover p v m) b.0 a.0)
one_directive p x everybody (times k n) a b = absurd (subst (λ v. IsMover p v n) a.0 b.0)
one_directive p x everybody (until_idle n) a b = absurd (subst (λ v. IsMover p v n) a.0 b.0)

some_left : (bytes : List ℕ) → 0 < length bytes → bytes ≡ [] → ⊥
some_left [] h e = absurd (omega arith)
some_left (b ∷ bs) h e = cc

pub moves_are_one : MovesAreOne
moves_are_one p text [] [] a b = refl
moves_are_one p text [] (e ∷ es) a b = absurd (some_left (after_gap text) b.0 a)
moves_are_one p text (d ∷ ds) [] a b = absurd (some_left (after_gap text) a.0 b)
moves_are_one p text (d ∷ ds) (e ∷ es) a b = ap₂ (λ x xs. x ∷ xs) (one_directive p (first_piece (after_gap text)) d e a.1 b.1) (moves_are_one p (after_piece text) ds es a.2 b.2)

pub picks_of_moves_are_one : PicksOfMovesAreOne
picks_of_moves_are_one p text picks others a b = a.made ∙ ap (picks_of_directives p 65536) (moves_are_one p text a.directives b.directives a.stands b.stands) ∙ sym b.made

no_fault_in : (p : Program) (at : ℕ) (text : List ℕ) (front : List Directive) (place : ℕ) (ds : List Directive) → IsFaultAfter p at text front place → StandsFor p text ds → ⊥
no_fault_in p at text [] place [] a b = some_left (after_gap text) a.0 b
no_fault_in p at text [] place (d ∷ ds) a b = a.2 d b.1
no_fault_in p at text (f ∷ front) place [] a b = some_left (after_gap text) a.0 b
no_fault_in p at text (f ∷ front) place (d ∷ ds) a b = no_fault_in p (at + gap_len false text + piece_len (first_piece (after_gap text))) (after_piece text) front place ds a.2 b.2

pub moves_fault_is_alone : MovesFaultIsAlone
moves_fault_is_alone p text place ds a b = no_fault_in p 0 text a.0 place ds a.1 b

one_fault_in : (p : Program) (at : ℕ) (text : List ℕ) (front others : List Directive) (one other : ℕ) → IsFaultAfter p at text front one → IsFaultAfter p at text others other → one ≡ other
one_fault_in p at text [] [] one other a b = a.1 ∙ sym b.1
one_fault_in p at text [] (e ∷ others) one other a b = absurd (a.2 e b.1)
one_fault_in p at text (d ∷ front) [] one other a b = absurd (b.2 d a.1)
one_fault_in p at text (d ∷ front) (e ∷ others) one other a b = one_fault_in p (at + gap_len false text + piece_len (first_piece (after_gap text))) (after_piece text) front others one other a.2 b.2

pub moves_fault_is_one : MovesFaultIsOne
moves_fault_is_one p text one other a b = one_fault_in p 0 text a.0 b.0 one other a.1 b.1
