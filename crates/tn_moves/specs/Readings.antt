-- What the code reads of a piece of a text of moves, and of a whole text.
use Rattle.std.specs.Prelude.{◌≡◌, ◌≢◌, ◌<◌, ◌≤◌, ◌^◌, ℕ, List, [], ◌∷◌, length, map, decimal, Option, MatchOption, Result, Ok, Err}
use Rattle.std.specs.declared.vec.Vec.{Vec}
use Rattle.def_text.specs.Spelling.{LENGTH}
use Rattle.def_script.specs.Program.{Program}
use Rattle.def_moves.specs.Texts.{MovesPiece, IsMover, IsCount, IsPieceOf, IsNoPiece, StandsFor, IsMovesFault}
use Rattle.tn_moves.specs.Directives.{directive_seen}
use Rattle.tn_moves.specs.declared.directive.Directive.{Directive}
use Rattle.tn_moves.specs.declared.text.MovesRefusal.{MovesRefusal}
use Rattle.tn_moves.specs.declared.text.MovesRefusal.TheVariants.{TooLong, NoDirective}
use Rattle.tn_moves.specs.declared.text.MovesFault.{MovesFault}
use Rattle.tn_moves.specs.declared.text.MovesFault.TheVariants.{Refused, OutOfMemory}

-- the number below 2^32 that the text writes, where it writes one
abbrev pub IsNumberRead : List ℕ → Option ℕ → Type 0
IsNumberRead text number = MatchOption number ((n : ℕ) → n < 2 ^ 32 → text ≢ decimal n) (λ n. (text ≡ decimal n) × (n < 2 ^ 32))

-- the only one of the list, where there is just one
abbrev pub IsOnly : List ℕ → Option ℕ → Type 0
IsOnly xs only = MatchOption only ((n : ℕ) → xs ≢ n ∷ []) (λ n. xs ≡ n ∷ [])

-- the pick that the text says, where it says one
abbrev pub IsMoverRead : Program → List ℕ → Option ℕ → Type 0
IsMoverRead p text pick = MatchOption pick ((n : ℕ) → IsMover p text n → ⊥) (IsMover p text)

-- the number of picks that the text says, where it says one
abbrev pub IsCountRead : List ℕ → Option ℕ → Type 0
IsCountRead text count = MatchOption count ((n : ℕ) → IsCount text n → ⊥) (IsCount text)

-- the directive that the piece stands for, where it stands for one
abbrev pub IsPieceRead : Program → MovesPiece → Option Directive → Type 0
IsPieceRead p x d = MatchOption d (IsNoPiece p x) (λ k. IsPieceOf p x (directive_seen k))

-- the text is longer than a text may be, or its first piece that stands for no directive is there
abbrev pub IsMovesRefusal : Program → List ℕ → MovesRefusal → Type 0
IsMovesRefusal p text TooLong = LENGTH < length text
IsMovesRefusal p text (NoDirective at) = (length text ≤ LENGTH) × IsMovesFault p text at

-- the directives that the text stands for, or its refusal; a lack of memory says nothing of the text
abbrev pub AreDirectives : {A : Type 0} → Program → List ℕ → Result (Vec Directive A) MovesFault → Type 0
AreDirectives p text (Ok v) = (length text ≤ LENGTH) × StandsFor p text (map directive_seen v.items)
AreDirectives p text (Err (Refused r)) = IsMovesRefusal p text r
AreDirectives p text (Err OutOfMemory) = Unit {0}
