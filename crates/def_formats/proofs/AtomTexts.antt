-- The text of an atom is cut off whole.
use Rattle.std.proofs.Common.{◌≡◌, ◌∙◌, ℕ, suc, ◌+◌, ◌≤◌, ◌==◌, ◌&&◌, ◌||◌, not, cond, nat_le, Bool, true, false, if◌then◌else◌, List, [], ◌∷◌, ◌++◌, length, take, drop, flat_map, codes, refl, ap, ap₂, append_assoc, length-append, ne_eqb, arith}
use Rattle.std.specs.List.{prefix_len}
use Rattle.std.proofs.Math.Seq.{take-append_seam, drop-append-add}
use Rattle.std.proofs.lemmas.Bool.{and_parts, leb-true}
use Rattle.def_term.specs.Text.{escape, atom_text, is_written_bare, is_name, is_lower, is_upper, is_digit, is_name_byte, are_name_bytes}
use Rattle.def_formats.specs.Lines.{atom_length, quoted_length}
use Rattle.def_formats.specs.Sections.{session_section}
use Rattle.def_formats.specs.Laws.{AtomIsCut, SessionHeadIsRead}

-- one byte of an atom in quotes
one_byte : (b : ℕ) (e1 e2 : Bool) → (b == 39) ≡ e1 → (b == 92) ≡ e2 → (tail : List ℕ)
    → quoted_length false (cond (e1 || e2) (92 ∷ b ∷ []) (b ∷ []) ++ tail) ≡ length (cond (e1 || e2) (92 ∷ b ∷ []) (b ∷ [])) + quoted_length false tail
one_byte b true e2 h1 h2 tail = omega arith
one_byte b false true h1 h2 tail = omega arith
one_byte b false false h1 h2 tail = ap₂ (λ (x y : Bool). if not false && x then 1 else suc (quoted_length (not false && y) tail)) h1 h2 ∙ omega arith

-- all bytes, up to the closing quote
all_bytes : (s rest : List ℕ) → quoted_length false (flat_map escape s ++ 39 ∷ rest) ≡ suc (length (flat_map escape s))
all_bytes [] rest = refl
all_bytes (b ∷ bs) rest =
    let own : List ℕ = flat_map escape bs in
    let step : quoted_length false (escape b ++ (own ++ 39 ∷ rest)) ≡ length (escape b) + quoted_length false (own ++ 39 ∷ rest) = one_byte b (b == 39) (b == 92) refl refl (own ++ 39 ∷ rest) in
    let more = all_bytes bs rest in
    let whole = length-append (escape b) own in
    ap (quoted_length false) (append_assoc (escape b) own (39 ∷ rest)) ∙ step ∙ omega (arith, more, whole)

-- the bytes of a bare atom
bare_bytes : (bs rest : List ℕ) (c : ℕ) → are_name_bytes bs ≡ true → is_name_byte c ≡ false → prefix_len is_name_byte (bs ++ c ∷ rest) ≡ length bs
bare_bytes [] rest c h none = ap (λ (b : Bool). cond b (1 + prefix_len is_name_byte rest) 0) none
bare_bytes (b ∷ bs) rest c h none =
    let parts = and_parts (is_name_byte b) (are_name_bytes bs) h in
    ap (λ (x : Bool). cond x (1 + prefix_len is_name_byte (bs ++ c ∷ rest)) 0) parts.0 ∙ omega (arith, bare_bytes bs rest c parts.1 none)

lower_is_name : (b : ℕ) → is_lower b ≡ true → is_name_byte b ≡ true
lower_is_name b h = ap (λ (x : Bool). x || is_upper b || is_digit b || (b == 95) || (b == 64)) h

bare_atom : (s rest : List ℕ) (c : ℕ) → is_name s ≡ true → is_name_byte c ≡ false → atom_length (s ++ c ∷ rest) ≡ length s
bare_atom [] rest c h none = absurd (cc)
bare_atom (b ∷ bs) rest c h none =
    let parts = and_parts (is_lower b) (are_name_bytes bs) h in
    let least : 97 ≤ b = leb-true 97 b (and_parts (nat_le 97 b) (nat_le b 122) parts.0).0 in
    let no_quote : (b == 39) ≡ false = ne_eqb b 39 (λ e. absurd (omega (arith, e, least))) in
    ap (λ (x : Bool). if x then suc (quoted_length false (bs ++ c ∷ rest)) else cond (is_name_byte b) (1 + prefix_len is_name_byte (bs ++ c ∷ rest)) 0) no_quote
    ∙ ap (λ (x : Bool). cond x (1 + prefix_len is_name_byte (bs ++ c ∷ rest)) 0) (lower_is_name b parts.0)
    ∙ omega (arith, bare_bytes bs rest c parts.1 none)

by_form : (s rest : List ℕ) (c : ℕ) (bare : Bool) → is_written_bare s ≡ bare → is_name_byte c ≡ false
    → atom_length (cond bare s (39 ∷ flat_map escape s ++ 39 ∷ []) ++ c ∷ rest) ≡ length (cond bare s (39 ∷ flat_map escape s ++ 39 ∷ []))
unfolding is_written_bare
by_form s rest c true is none = bare_atom s rest c (and_parts (is_name s) _ is).0 none
by_form s rest c false is none =
    let own : List ℕ = flat_map escape s in
    let quoted = all_bytes s (c ∷ rest) in
    let whole = length-append own (39 ∷ []) in
    ap (λ l. suc (quoted_length false l)) (append_assoc own (39 ∷ []) (c ∷ rest)) ∙ omega (arith, quoted, whole)

pub atom_is_cut : AtomIsCut
atom_is_cut name rest c none = by_form name rest c (is_written_bare name) refl none

-- the names of the first line of a session's section
pub session_head_is_read : SessionHeadIsRead
session_head_is_read name tracer =
    let after : List ℕ = codes "tracer " ++ atom_text tracer in
    let rest : List ℕ = (atom_text name ++ codes " tracer ") ++ atom_text tracer in
    let apart : rest ≡ atom_text name ++ 32 ∷ after = append_assoc (atom_text name) (codes " tracer ") (atom_text tracer) in
    let size : atom_length rest ≡ length (atom_text name) = ap atom_length apart ∙ atom_is_cut name after 32 refl in
    let own : take (atom_length rest) rest ≡ atom_text name = ap₂ take size apart ∙ take-append_seam (atom_text name) (32 ∷ after) in
    let other : drop (atom_length rest + 8) rest ≡ atom_text tracer =
    ap₂ (λ n (l : List ℕ). drop (n + 8) l) size apart ∙ drop-append-add (atom_text name) (32 ∷ after) 8 in
    ap₂ session_section own other
