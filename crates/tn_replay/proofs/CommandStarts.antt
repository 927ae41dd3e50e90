-- The code's tokens begin commands where those of the definition do.
use Rattle.std.proofs.Common.{◌≡◌, ◌∙◌, ℕ, ℤ, pos, Bool, true, false, List, [], ◌∷◌, ◌++◌, codes, drop, refl, sym, ap, ap₂, subst, if◌then◌else◌}
use Rattle.std.specs.Str.{bytes_eq}
use Rattle.std.proofs.lemmas.Slice.Eq.{bytes_eq-Decides}
use Rattle.def_text.specs.Tokens.{Token, open_brace, close_brace, open_bracket, close_bracket, comma, stop, integer, atom, characters, pid, TokenSpan, Tokens, in_quotes, IsQuoted}
use Rattle.def_text.specs.Scan.{IsTokenOf, unescape}
use Rattle.def_explain.specs.CommandPlaces.{TokenPlace, before_form, at_tag, in_other_form, in_control, place_after_token, begins_command, command_starts}
use Rattle.tn_text.specs.declared.scan.Kind.{Kind}
use Rattle.tn_text.specs.declared.scan.Kind.TheVariants.{OpenBrace, CloseBrace, OpenBracket, CloseBracket, Comma, Stop, Integer, Bare, Quoted, Characters, Pid}
use Rattle.tn_text.specs.declared.lexer.Token as code
use Rattle.tn_text.specs.Kinds.{kind_of}
use Rattle.tn_text.specs.Lexer.{AllShown}
use Rattle.tn_text.specs.Answers.{AreTokens}
use Rattle.tn_text.specs.Values.{inner}
use Rattle.tn_text.proofs.Leaves.{content_is}
use Rattle.tn_replay.specs.CommandStarts.{spells_control, token_of, token_bytes, starts_shown}

-- tokens that are alike for where commands begin
record Alike (t u : Token) : Type 0 where
  pub after : (p : TokenPlace) → place_after_token p t ≡ place_after_token p u
  pub begins : (p : TokenPlace) → begins_command p t ≡ begins_command p u

same-token : (t u : Token) → t ≡ u → Alike t u
same-token t u e = record { after = λ p. ap (place_after_token p) e; begins = λ p. ap (begins_command p) e }

any-integer : (n : ℤ) → Alike (integer n) (integer (pos 0))
any-integer n = record { after = after; begins = begins }
  where
    after : (p : TokenPlace) → place_after_token p (integer n) ≡ place_after_token p (integer (pos 0))
    after before_form = refl
    after at_tag = refl
    after in_other_form = refl
    after (in_control k) = refl

    begins : (p : TokenPlace) → begins_command p (integer n) ≡ begins_command p (integer (pos 0))
    begins before_form = refl
    begins at_tag = refl
    begins in_other_form = refl
    begins (in_control k) = refl

any-characters : (s : List ℕ) → Alike (characters s) (characters [])
any-characters s = record { after = after; begins = begins }
  where
    after : (p : TokenPlace) → place_after_token p (characters s) ≡ place_after_token p (characters [])
    after before_form = refl
    after at_tag = refl
    after in_other_form = refl
    after (in_control k) = refl

    begins : (p : TokenPlace) → begins_command p (characters s) ≡ begins_command p (characters [])
    begins before_form = refl
    begins at_tag = refl
    begins in_other_form = refl
    begins (in_control k) = refl

any-pid : (n : ℕ) → Alike (pid n) (pid 0)
any-pid n = record { after = after; begins = begins }
  where
    after : (p : TokenPlace) → place_after_token p (pid n) ≡ place_after_token p (pid 0)
    after before_form = refl
    after at_tag = refl
    after in_other_form = refl
    after (in_control k) = refl

    begins : (p : TokenPlace) → begins_command p (pid n) ≡ begins_command p (pid 0)
    begins before_form = refl
    begins at_tag = refl
    begins in_other_form = refl
    begins (in_control k) = refl

-- an atom is `control` or isn't
any-atom : (s : List ℕ) (b : Bool) → bytes_eq s (codes "control") ≡ b → Alike (atom s) (atom (if b then codes "control" else []))
any-atom s b e = record { after = λ p. after p b e; begins = begins }
  where
    after : (p : TokenPlace) (b : Bool) → bytes_eq s (codes "control") ≡ b → place_after_token p (atom s) ≡ place_after_token p (atom (if b then codes "control" else []))
    after before_form b e = refl
    after at_tag true e = ap (λ c. if c then in_control 1 else in_other_form) e
    after at_tag false e = ap (λ c. if c then in_control 1 else in_other_form) e
    after in_other_form b e = refl
    after (in_control k) b e = refl

    begins : (p : TokenPlace) → begins_command p (atom s) ≡ begins_command p (atom (if b then codes "control" else []))
    begins before_form = refl
    begins at_tag = refl
    begins in_other_form = refl
    begins (in_control k) = refl

-- the quoted atom `control` is written in one way
quoted-control : (u s : List ℕ) → IsQuoted 39 u s → bytes_eq s (codes "control") ≡ bytes_eq u (codes "'control'")
quoted-control u s h = go (bytes_eq s (codes "control")) (bytes_eq u (codes "'control'")) refl refl
  where
    go : (a b : Bool) → bytes_eq s (codes "control") ≡ a → bytes_eq u (codes "'control'") ≡ b → bytes_eq s (codes "control") ≡ bytes_eq u (codes "'control'")
    go true true e f = e ∙ sym f
    go false false e f = e ∙ sym f
    go true false e f =
        let is : s ≡ codes "control" = (bytes_eq-Decides s (codes "control")).0 e in
        let so : u ≡ codes "'control'" = h.text ∙ ap (in_quotes 39) is in
        e ∙ sym ((bytes_eq-Decides u (codes "'control'")).1 so)
    go false true e f =
        let so : u ≡ codes "'control'" = (bytes_eq-Decides u (codes "'control'")).0 f in
        let is : s ≡ codes "control" = sym (content_is 39 u s h) ∙ ap (λ v. unescape false (inner v)) so in
        (bytes_eq-Decides s (codes "control")).1 is ∙ sym f

-- the code's token is alike
alike : (k : Kind) (u rest : List ℕ) (t : Token) → IsTokenOf (kind_of k) u rest t → Alike t (token_of k (spells_control k u))
alike OpenBrace u rest t h = same-token t open_brace h
alike CloseBrace u rest t h = same-token t close_brace h
alike OpenBracket u rest t h = same-token t open_bracket h
alike CloseBracket u rest t h = same-token t close_bracket h
alike Comma u rest t h = same-token t comma h
alike Stop u rest t h = same-token t stop h
alike Integer u rest t h = subst (λ v. Alike v (integer (pos 0))) (sym h.1) (any-integer h.0)
alike Bare u rest t h =
    let b = bytes_eq u (codes "control") in
    subst (λ v. Alike v (atom (if b then codes "control" else []))) (sym h.1) (any-atom h.0 b (ap (λ v. bytes_eq v (codes "control")) (sym h.2.text)))
alike Quoted u rest t h =
    let b = bytes_eq u (codes "'control'") in
    subst (λ v. Alike v (atom (if b then codes "control" else []))) (sym h.1) (any-atom h.0 b (quoted-control u h.0 h.2))
alike Characters u rest t h = subst (λ v. Alike v (characters [])) (sym h.1) (any-characters h.0)
alike Pid u rest t h = subst (λ v. Alike v (pid 0)) (sym h.1) (any-pid h.0)

starts-are : (bytes : List ℕ) (p : TokenPlace) (vs : List code.Token) (xs : List TokenSpan) → AllShown bytes vs xs → starts_shown bytes p vs ≡ command_starts p xs
starts-are bytes p [] [] h = refl
starts-are bytes p [] (x ∷ xs) h = absurd h
starts-are bytes p (v ∷ vs) [] h = absurd h
starts-are bytes p (v ∷ vs) (x ∷ xs) h =
    let same = alike v.kind (token_bytes bytes v) (drop v.to bytes) x.token h.0.kind in
    ap₂ (λ b q. (if b then v.from ∷ [] else []) ++ starts_shown bytes q vs) (sym (same.begins p)) (sym (same.after p))
    ∙ ap₂ (λ n l. (if begins_command p x.token then n ∷ [] else []) ++ l) h.0.from (starts-are bytes (place_after_token p x.token) vs xs h.1)

-- the starts among the tokens of a text
pub starts_of_text : (bytes starts : List ℕ) (vs : List code.Token) → AreTokens bytes vs → starts ≡ starts_shown bytes before_form vs → (xs : List TokenSpan) × Tokens bytes xs × (starts ≡ command_starts before_form xs)
starts_of_text bytes starts vs l e = (l.tokens, l.are, e ∙ starts-are bytes before_form vs l.tokens l.shown)
