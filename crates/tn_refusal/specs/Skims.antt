-- Going through the bytes of a text, without its tokens, past full stops or past commas.
-- Depends on the tokens of a text and on what they do to a tuple or a list.
use Rattle.std.specs.Prelude.{◌≡◌, ℕ, ◌+◌, ◌-◌, ◌==◌, ◌&&◌, ◌||◌, Bool, true, false, List, [], ◌∷◌, drop, if◌then◌else◌}
use Rattle.def_text.specs.Tokens.{ends_form, TokenSpan, TokensFrom}
use Rattle.def_refusal.specs.ItemStarts.{TokenRole, opener, closer, separator, no_role, depth_after, commas_after}
use Rattle.tn_text.specs.Lexer.{AllGood}
use Rattle.tn_refusal.specs.declared.skim.Zone.{Zone}
use Rattle.tn_refusal.specs.declared.skim.Zone.TheVariants.{Code, Comment, Quoted, Escaped}
use Rattle.tn_refusal.specs.declared.skim.Sign.{Sign}
use Rattle.tn_refusal.specs.declared.skim.Sign.TheVariants.{Opener, Closer, Separator, Stop, Plain}
use Rattle.tn_refusal.specs.declared.skim.Aim.{Aim}
use Rattle.tn_refusal.specs.declared.skim.Aim.TheVariants.{Stops, Commas}

-- where the byte after this one stands
abbrev pub zone_after : Zone → ℕ → Zone
zone_after Code b = if b == 37 then Comment else (if (b == 39) || (b == 34) then Quoted b else Code)
zone_after Comment b = if b == 10 then Code else Comment
zone_after (Quoted q) b = if b == q then Code else (if b == 92 then Escaped q else Quoted q)
zone_after (Escaped q) b = Quoted q

-- what a byte outside of quotes and comments does, before these
abbrev pub sign_of_byte : ℕ → List ℕ → Sign
sign_of_byte b bs =
    if (b == 123) || (b == 91) then Opener else
    if (b == 125) || (b == 93) then Closer else
    if b == 44 then Separator else
    if (b == 46) && ends_form bs then Stop else
    Plain

abbrev pub sign_in : Zone → ℕ → List ℕ → Sign
sign_in Code b bs = sign_of_byte b bs
sign_in Comment b bs = Plain
sign_in (Quoted q) b bs = Plain
sign_in (Escaped q) b bs = Plain

-- the byte does nothing there, and the next one stands there too
pub record IsIdle (z : Zone) (b : ℕ) : Type 0 where
  pub stays : zone_after z b ≡ z
  pub plain : (bs : List ℕ) → sign_in z b bs ≡ Plain

-- what that is of a token that does the same
abbrev pub role_of_sign : Sign → TokenRole
role_of_sign Opener = opener
role_of_sign Closer = closer
role_of_sign Separator = separator
role_of_sign Stop = no_role
role_of_sign Plain = no_role

abbrev pub is_stop_sign : Sign → Bool
is_stop_sign Stop = true
is_stop_sign s = false

-- how many full stops, or commas outside of brackets, are left
abbrev pub left_after : Aim → ℕ → ℕ → Sign → ℕ
left_after Stops d n s = if is_stop_sign s then n - 1 else n
left_after Commas d n s = commas_after d n (role_of_sign s)

-- the offset after so many of them, or the end
abbrev pub offset_past : Aim → Zone → ℕ → ℕ → ℕ → List ℕ → ℕ
offset_past a z d n at [] = at
offset_past a z d n at (b ∷ bs) =
    if n == 0 then at else
    offset_past a (zone_after z b) (depth_after d (role_of_sign (sign_in z b bs))) (left_after a d n (sign_in z b bs)) (at + 1) bs

-- these are the tokens of the text from that offset on, and none is bytes that form no token
pub record AreAhead (bytes : List ℕ) (at : ℕ) (xs : List TokenSpan) : Type 0 where
  pub are : TokensFrom at (drop at bytes) xs
  pub good : AllGood xs
