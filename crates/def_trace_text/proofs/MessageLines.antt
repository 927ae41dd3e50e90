-- What lines spell, line by line.
use Rattle.std.proofs.Common.{◌≡◌, ◌∙◌, ℕ, Bool, true, false, not, cond, List, [], ◌∷◌, refl, ap, sym, subst}
use Rattle.std.specs.List.{AllZip}
use Rattle.def_term.specs.Tree.{Tree}
use Rattle.def_text.proofs.One.{one}
use Rattle.def_trace_text.specs.Lines.{is_passed_over}
use Rattle.def_trace_text.specs.ErrorMaps.{trace_message_text}
use Rattle.def_trace_text.specs.StackTraces.{without_stacks}
use Rattle.def_trace_text.specs.TraceTexts.{IsTraceLine, lines_with_messages, LinesSpell, SpellsTrace}

-- what the lines spell with this one first, which is passed over or isn't
abbrev WithLine : Bool → List ℕ → List (List ℕ) → List Tree → Type 0
WithLine over line lines ts = AllZip IsTraceLine (cond (not over) (line ∷ lines_with_messages lines) (lines_with_messages lines)) ts

pub passed : (line : List ℕ) (lines : List (List ℕ)) (ts : List Tree) → is_passed_over line ≡ true → LinesSpell (line ∷ lines) ts → LinesSpell lines ts
passed line lines ts e h = subst (λ b. WithLine b line lines ts) e h

pub passed_more : (line : List ℕ) (lines : List (List ℕ)) (ts : List Tree) → is_passed_over line ≡ true → LinesSpell lines ts → LinesSpell (line ∷ lines) ts
passed_more line lines ts e h = subst (λ b. WithLine b line lines ts) (sym e) h

-- the first message is that of the first line
pub record FirstMessage (line : List ℕ) (lines : List (List ℕ)) (ts : List Tree) : Type 0 where
  pub message : Tree
  pub others : List Tree
  pub whole : ts ≡ message ∷ others
  pub spelled : IsTraceLine line message
  pub rest : LinesSpell lines others

first_message : (line : List ℕ) (lines : List (List ℕ)) (ts : List Tree) → WithLine false line lines ts → FirstMessage line lines ts
first_message line lines [] h = absurd h
first_message line lines (t ∷ ts) h = record { message = t; others = ts; whole = refl; spelled = h.0; rest = h.1 }

pub read_first : (line : List ℕ) (lines : List (List ℕ)) (ts : List Tree) → is_passed_over line ≡ false → LinesSpell (line ∷ lines) ts → FirstMessage line lines ts
read_first line lines ts e h = first_message line lines ts (subst (λ b. WithLine b line lines ts) e h)

pub message_more : (line : List ℕ) (lines : List (List ℕ)) (t : Tree) (ts : List Tree) → is_passed_over line ≡ false → IsTraceLine line t → LinesSpell lines ts → LinesSpell (line ∷ lines) (t ∷ ts)
message_more line lines t ts e s h = subst (λ b. WithLine b line lines (t ∷ ts)) (sym e) (s, h)

-- ---- one list

same_message : (line : List ℕ) (t u : Tree) → IsTraceLine line t → IsTraceLine line u → t ≡ u
same_message line t u h g = h.value ∙ ap without_stacks (one (trace_message_text line) h.term g.term h.spelled g.spelled) ∙ sym g.value

same_messages : (lines : List (List ℕ)) (ts us : List Tree) → AllZip IsTraceLine lines ts → AllZip IsTraceLine lines us → ts ≡ us
same_messages [] [] [] h g = refl
same_messages [] [] (u ∷ us) h g = absurd g
same_messages [] (t ∷ ts) us h g = absurd h
same_messages (line ∷ lines) [] us h g = absurd h
same_messages (line ∷ lines) (t ∷ ts) [] h g = absurd g
same_messages (line ∷ lines) (t ∷ ts) (u ∷ us) h g =
    let first : t ≡ u = same_message line t u h.0 g.0 in
    let others : ts ≡ us = same_messages lines ts us h.1 g.1 in
    ap (λ x. x ∷ ts) first ∙ ap (λ xs. u ∷ xs) others

pub one_trace : (text : List ℕ) (ts us : List Tree) → SpellsTrace text ts → SpellsTrace text us → ts ≡ us
one_trace text ts us h g = same_messages _ ts us h g
