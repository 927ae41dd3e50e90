-- Two lines of one refusal are the same.
use Rattle.std.proofs.Common.{◌≡◌, ◌∙◌, ℕ, ◌-◌, List, [], ◌∷◌, ◌++◌, length, drop, map, refl, sym, ap, ap₂, arith}
use Rattle.std.proofs.lemmas.List.{drop_at}
use Rattle.def_term.specs.Tree.{Tree}
use Rattle.def_script.specs.Script as script
use Rattle.def_script.specs.Script.{Refusal, IsFirstShapeless}
use Rattle.def_refusal.specs.RefusedItems.{HasForms}
use Rattle.def_wording.specs.SyntaxTexts.{TextKind}
use Rattle.tn_refusal.specs.Details.{TellsDetail}
use Rattle.tn_refusal.specs.Lines.{IsExplained, printable_byte}
use Rattle.tn_refusal.specs.Locations.{IsPlaced, mark_text}
use Rattle.tn_refusal.specs.Refusals.{refused_part}
use Rattle.tn_refusal.specs.Words.{words}
use Rattle.tn_refusal.proofs.Refusals.{refused_placed}
use Rattle.complete_scripts.specs.Lines.{HasOneLine}
use Rattle.complete_scripts.proofs.Fronts.{one_mark}

-- the first term without a shape, and what follows it
from_first : (ts : List Tree) (n : ℕ) (h : IsFirstShapeless ts n) → drop (n - 1) ts ≡ h.term ∷ h.later
from_first ts n h =
    let number = h.number in
    let place : n - 1 ≡ length h.earlier = omega (arith, number) in
    ap₂ drop place h.whole ∙ drop_at h.earlier (h.term ∷ h.later) (length h.earlier) refl

one_detail : (bytes : List ℕ) (r : Refusal) (k : TextKind) (d e : List ℕ) → HasOneLine bytes r → TellsDetail r bytes k [] d → TellsDetail r bytes k [] e → d ≡ e
one_detail bytes script.too_long k d e h p q = p ∙ sym q
one_detail bytes (script.token at) k d e h p q = absurd h
one_detail bytes (script.too_deep at) k d e h p q = absurd h
one_detail bytes (script.too_large at) k d e h p q = absurd h
one_detail bytes (script.form n) k d e h p q =
    let from = from_first h.terms n h.first in
    p h.terms h.first.later h.first.term h.spelled from ∙ sym (q h.terms h.first.later h.first.term h.spelled from)
one_detail bytes script.too_many_forms k d e h p q = p h.terms h.spelled ∙ sym (q h.terms h.spelled)
one_detail bytes (script.broken r n) k d e h p q =
    let forms : HasForms bytes h.forms = record { spelled = h.spelled; few = h.few } in
    p h.forms forms ∙ sym (q h.forms forms)
one_detail bytes script.bad_picks k d e h p q = p ∙ sym q

has_place : (bytes : List ℕ) (r : Refusal) → HasOneLine bytes r → IsPlaced bytes (refused_part r)
has_place bytes script.too_long h = refused_placed bytes script.too_long h
has_place bytes (script.token at) h = absurd h
has_place bytes (script.too_deep at) h = absurd h
has_place bytes (script.too_large at) h = absurd h
has_place bytes (script.form n) h = refused_placed bytes (script.form n) h
has_place bytes script.too_many_forms h = refused_placed bytes script.too_many_forms h
has_place bytes (script.broken r n) h = refused_placed bytes (script.broken r n) h
has_place bytes script.bad_picks h = tt

pub one_line : (k : TextKind) (name bytes : List ℕ) (r : Refusal) (one other : List ℕ) → HasOneLine bytes r → IsExplained k name bytes r one → IsExplained k name bytes r other → one ≡ other
one_line k name bytes r one other h p q =
    let detail = one_detail bytes r k p.details.detail q.details.detail h p.details.told q.details.told in
    let rest : p.rest ≡ q.rest = p.details.shown ∙ ap (map printable_byte) detail ∙ sym q.details.shown in
    let mark = one_mark bytes r (refused_part r) p.mark q.mark (has_place bytes r h) p.place q.place in
    p.text ∙ ap₂ (λ m x. mark_text name m ++ words r ++ x) mark rest ∙ sym q.text
