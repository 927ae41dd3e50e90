-- A text is a script of one program, or is refused in one way, and never both.
use Rattle.std.proofs.Common.{◌≡◌, ℕ, suc, ◌+◌, ◌<◌, ◌≤◌, nat_lt, Bool, true, false, List, [], ◌∷◌, ◌++◌, length, Option, Some, None, refl, sym, ap, ap₂, subst, ◌∙◌, ◌⊎◌, inl, inr, arith}
use Rattle.std.proofs.lemmas.Bool.Decides.{nat_tests}
use Rattle.def_term.specs.Tree.{Tree}
use Rattle.def_text.specs.Faults as faults
use Rattle.def_text.specs.Faults.{FaultKind}
use Rattle.def_text.specs.Spelling.{LENGTH}
use Rattle.def_text.specs.Scripts.{SpellsTerms, ScriptRefused}
use Rattle.def_text.proofs.Either.{script_one, script_refused, script_once, script_either}
use Rattle.def_script.specs.Limits.{FORMS}
use Rattle.def_script.specs.Program.{Form, Program}
use Rattle.def_script.specs.Shapes.{both, form_in, forms_in}
use Rattle.def_script.specs.Rules.{Rule, Breaks, first_broken}
use Rattle.def_script.specs.Script.{program_from, SpellsForms, IsScript, IsFirstShapeless, Refusal, too_long, token, too_deep, too_large, form, too_many_forms, broken, bad_picks, IsRefused, refusal_line}
use Rattle.def_script.specs.Laws.{Answer, a_program, a_line, IsAnswered, ExactlyOneAnswer}
use Rattle.def_script.proofs.FirstBroken.{first_is, first_only, none_broken}

-- ---- the first term without a shape

abbrev pub next_shapeless : Option Form → ℕ → ℕ → ℕ
next_shapeless None n later = n
next_shapeless (Some f) n later = later

-- the number of the first one, counted from n
abbrev pub shapeless_from : ℕ → List Tree → ℕ
shapeless_from n [] = n
shapeless_from n (t ∷ ts) = next_shapeless (form_in t) n (shapeless_from (suc n) ts)

some_none : {X : Type 0} (P : Type 0) (x : X) → Some x ≡ None → P
some_none P x e = cc

none_some : {X : Type 0} (P : Type 0) (x : X) → None ≡ Some x → P
none_some P x e = cc

the_same : {X : Type 0} (x y : X) → Some x ≡ Some y → x ≡ y
the_same x y e = cc

both_there : {X Y Z : Type 0} (f : X → Y → Z) (o : Option X) (p : Option Y) (z : Z) → both f o p ≡ Some z → (x : X) × (y : Y) × (o ≡ Some x) × (p ≡ Some y) × (f x y ≡ z)
both_there f None p z e = none_some _ z e
both_there f (Some x) None z e = none_some _ z e
both_there f (Some x) (Some y) z e = (x, y, refl, refl, the_same (f x y) z e)

shapeless_is : (earlier : List Tree) (t : Tree) (later : List Tree) (fs : List Form) (n : ℕ) → forms_in earlier ≡ Some fs → form_in t ≡ None → shapeless_from n (earlier ++ t ∷ later) ≡ n + length earlier
shapeless_is [] t later fs n shaped none = ap (λ o. next_shapeless o n (shapeless_from (suc n) later)) none ∙ omega arith
shapeless_is (u ∷ us) t later fs n shaped none =
    let parts = both_there (λ f gs. f ∷ gs) (form_in u) (forms_in us) fs shaped in
    let rest : shapeless_from (suc n) (us ++ t ∷ later) ≡ suc n + length us = shapeless_is us t later parts.1 (suc n) parts.3 none in
    ap (λ o. next_shapeless o n (shapeless_from (suc n) (us ++ t ∷ later))) parts.2 ∙ omega (arith, rest)

shapeless_one : (ts : List Tree) (n : ℕ) → IsFirstShapeless ts n → n ≡ shapeless_from 1 ts
shapeless_one ts n h =
    let e : shapeless_from 1 ts ≡ 1 + length h.earlier = ap (shapeless_from 1) h.whole ∙ shapeless_is h.earlier h.term h.later h.forms 1 h.shaped h.none in
    omega (arith, e, h.number)

-- the terms before it have shapes
none_in : (t : Tree) (ts : List Tree) → forms_in ts ≡ None → (n : ℕ) × IsFirstShapeless ts n → (f : Form) → form_in t ≡ Some f → (n : ℕ) × IsFirstShapeless (t ∷ ts) n
none_in t ts e found f is =
    let h = found.1 in (
      suc found.0,
      record {
        earlier = t ∷ h.earlier;
        term = h.term;
        later = h.later;
        whole = ap (λ us. t ∷ us) h.whole;
        number = ap suc h.number;
        none = h.none;
        forms = f ∷ h.forms;
        shaped = ap₂ (both (λ g gs. g ∷ gs)) is h.shaped;
      },
    )

second_none : {X : Type 0} (o : Option X) (p : Option (List X)) (x : X) → o ≡ Some x → both (λ y ys. y ∷ ys) o p ≡ None → p ≡ None
second_none None p x is e = none_some (p ≡ None) x is
second_none (Some y) None x is e = refl
second_none (Some y) (Some ys) x is e = some_none (Some ys ≡ None) (y ∷ ys) e

shapeless_some : (ts : List Tree) → forms_in ts ≡ None → (n : ℕ) × IsFirstShapeless ts n
shapeless_some [] e = some_none _ [] e
shapeless_some (t ∷ ts) e =
    elim (form_in t) as (λ o. form_in t ≡ o → (n : ℕ) × IsFirstShapeless (t ∷ ts) n) [
      | None ↦ λ k. (1, record { earlier = []; term = t; later = ts; whole = refl; number = refl; none = k; forms = []; shaped = refl })
      | Some f ↦ λ k. let rest : forms_in ts ≡ None = second_none (form_in t) (forms_in ts) f k e in none_in t ts rest (shapeless_some ts rest) f k
    ] refl

shaped_all : (earlier : List Tree) (t : Tree) (later : List Tree) (fs : List Form) → forms_in (earlier ++ t ∷ later) ≡ Some fs → form_in t ≡ None → ⊥
shaped_all [] t later fs e none = let parts = both_there (λ f gs. f ∷ gs) (form_in t) (forms_in later) fs e in none_some ⊥ parts.0 (sym none ∙ parts.2)
shaped_all (u ∷ us) t later fs e none = let parts = both_there (λ f gs. f ∷ gs) (form_in u) (forms_in (us ++ t ∷ later)) fs e in shaped_all us t later parts.1 parts.3 none

shaped_not : (ts : List Tree) (fs : List Form) (n : ℕ) → forms_in ts ≡ Some fs → IsFirstShapeless ts n → ⊥
shaped_not ts fs n shaped h = shaped_all h.earlier h.term h.later fs (ap forms_in (sym h.whole) ∙ shaped) h.none

forms_length : (ts : List Tree) (fs : List Form) → forms_in ts ≡ Some fs → length fs ≡ length ts
forms_length [] fs e = ap length (sym (the_same [] fs e))
forms_length (t ∷ ts) fs e =
    let parts = both_there (λ f gs. f ∷ gs) (form_in t) (forms_in ts) fs e in
    ap length (sym parts.4) ∙ ap suc (forms_length ts parts.1 parts.3)

-- ---- the terms of a text that spells terms

-- the refusal of a list of terms, if there is one
abbrev pub rule_refusal : Option (ℕ × Rule) → Option Refusal
rule_refusal None = None
rule_refusal (Some p) = Some (broken p.1 p.0)

abbrev pub form_refusal : List Tree → Option (List Form) → Option Refusal
form_refusal ts None = Some (form (shapeless_from 1 ts))
form_refusal ts (Some fs) = rule_refusal (first_broken fs)

abbrev pub many_refusal : List Tree → Bool → Option Refusal
many_refusal ts true = Some too_many_forms
many_refusal ts false = form_refusal ts (forms_in ts)

abbrev pub terms_refusal : List Tree → Option Refusal
terms_refusal ts = many_refusal ts (nat_lt FORMS (length ts))

is_many : (n : ℕ) → FORMS < n → nat_lt FORMS n ≡ true
is_many n h = grind (arith, nat_tests, h)

is_few : (n : ℕ) → n ≤ FORMS → nat_lt FORMS n ≡ false
is_few n h = grind (arith, nat_tests, h)

few_terms : (ts : List Tree) → length ts ≤ FORMS → terms_refusal ts ≡ form_refusal ts (forms_in ts)
few_terms ts few = ap (many_refusal ts) (is_few (length ts) few)

not_shaped : (ts : List Tree) (n : ℕ) (o : Option (List Form)) → forms_in ts ≡ o → IsFirstShapeless ts n → form_refusal ts o ≡ Some (form n)
not_shaped ts n None e first = ap (λ m. Some (form m)) (sym (shapeless_one ts n first))
not_shaped ts n (Some fs) e first = absurd (shaped_not ts fs n e first)

-- a refusal of such a text is that of its terms
spelled_refusal : (bytes : List ℕ) (ts : List Tree) (r : Refusal) → SpellsTerms bytes ts → IsRefused bytes r → terms_refusal ts ≡ Some r
spelled_refusal bytes ts too_long s h = absurd (omega (arith, s.short, h))
spelled_refusal bytes ts (token at) s h = absurd (script_refused bytes ts faults.misplaced at s h)
spelled_refusal bytes ts (too_deep at) s h = absurd (script_refused bytes ts faults.too_deep at s h)
spelled_refusal bytes ts (too_large at) s h = absurd (script_refused bytes ts faults.too_large at s h)
spelled_refusal bytes ts (form n) s h =
    let same : h.terms ≡ ts = script_one bytes h.terms ts h.spelled s in
    let few : length ts ≤ FORMS = subst (λ us. length us ≤ FORMS) same h.few in
    let first : IsFirstShapeless ts n = subst (λ us. IsFirstShapeless us n) same h.first in
    few_terms ts few ∙ not_shaped ts n (forms_in ts) refl first
spelled_refusal bytes ts too_many_forms s h =
    let same : h.terms ≡ ts = script_one bytes h.terms ts h.spelled s in
    ap (many_refusal ts) (is_many (length ts) (subst (λ us. FORMS < length us) same h.many))
spelled_refusal bytes ts (broken r n) s h =
    let same : h.spelled.terms ≡ ts = script_one bytes h.spelled.terms ts h.spelled.spelled s in
    let shaped : forms_in ts ≡ Some h.forms = ap forms_in (sym same) ∙ h.spelled.shaped in
    let few : length ts ≤ FORMS = omega (arith, forms_length ts h.forms shaped, h.few) in
    few_terms ts few ∙ ap (form_refusal ts) shaped ∙ ap rule_refusal (first_only h.forms n r h.first)
spelled_refusal bytes ts bad_picks s h = absurd h

-- ---- the ways out

abbrev of_kind : FaultKind → ℕ → Refusal
of_kind faults.misplaced at = token at
of_kind faults.too_deep at = too_deep at
of_kind faults.too_large at = too_large at

denied_refusal : (bytes : List ℕ) (kind : FaultKind) (at : ℕ) (r : Refusal) → ScriptRefused bytes kind at → IsRefused bytes r → r ≡ of_kind kind at
denied_refusal bytes kind at too_long d h = absurd (omega (arith, d.short, h))
denied_refusal bytes kind at (token n) d h = let e = script_once bytes faults.misplaced kind n at h d in ap₂ of_kind e.0 e.1
denied_refusal bytes kind at (too_deep n) d h = let e = script_once bytes faults.too_deep kind n at h d in ap₂ of_kind e.0 e.1
denied_refusal bytes kind at (too_large n) d h = let e = script_once bytes faults.too_large kind n at h d in ap₂ of_kind e.0 e.1
denied_refusal bytes kind at (form n) d h = absurd (script_refused bytes h.terms kind at h.spelled d)
denied_refusal bytes kind at too_many_forms d h = absurd (script_refused bytes h.terms kind at h.spelled d)
denied_refusal bytes kind at (broken r n) d h = absurd (script_refused bytes h.spelled.terms kind at h.spelled.spelled d)
denied_refusal bytes kind at bad_picks d h = absurd h

long_refusal : (bytes : List ℕ) (r : Refusal) → LENGTH < length bytes → IsRefused bytes r → r ≡ too_long
long_refusal bytes too_long l h = refl
long_refusal bytes (token at) l h = absurd (omega (arith, h.short, l))
long_refusal bytes (too_deep at) l h = absurd (omega (arith, h.short, l))
long_refusal bytes (too_large at) l h = absurd (omega (arith, h.short, l))
long_refusal bytes (form n) l h = absurd (omega (arith, h.spelled.short, l))
long_refusal bytes too_many_forms l h = absurd (omega (arith, h.spelled.short, l))
long_refusal bytes (broken r n) l h = absurd (omega (arith, h.spelled.spelled.short, l))
long_refusal bytes bad_picks l h = absurd h

by_length : (n m : ℕ) → (n ≤ m) ⊎ (m < n)
by_length n m = elim (nat_lt m n) as (λ b. nat_lt m n ≡ b → (n ≤ m) ⊎ (m < n)) [ true ↦ λ e. inr (grind (arith, nat_tests, e)) | false ↦ λ e. inl (grind (arith, nat_tests, e)) ] refl

-- a text is too long, or spells terms, or is refused as a script
data Way (bytes : List ℕ) : Type 0 where
  long : LENGTH < length bytes → Way bytes
  spelled : (ts : List Tree) → SpellsTerms bytes ts → Way bytes
  denied : (kind : FaultKind) → (at : ℕ) → ScriptRefused bytes kind at → Way bytes

way_within : (bytes : List ℕ) → (((ts : List Tree) × SpellsTerms bytes ts) ⊎ ((kind : FaultKind) × (at : ℕ) × ScriptRefused bytes kind at)) → Way bytes
way_within bytes (inl s) = spelled s.0 s.1
way_within bytes (inr d) = denied d.0 d.1 d.2

way_by : (bytes : List ℕ) → (length bytes ≤ LENGTH) ⊎ (LENGTH < length bytes) → Way bytes
way_by bytes (inl short) = way_within bytes (script_either bytes short)
way_by bytes (inr l) = long l

way : (bytes : List ℕ) → Way bytes
way bytes = way_by bytes (by_length (length bytes) LENGTH)

once_by : (bytes : List ℕ) (r s : Refusal) → Way bytes → IsRefused bytes r → IsRefused bytes s → r ≡ s
once_by bytes r s (long l) h i = long_refusal bytes r l h ∙ sym (long_refusal bytes s l i)
once_by bytes r s (spelled ts w) h i = the_same r s (sym (spelled_refusal bytes ts r w h) ∙ spelled_refusal bytes ts s w i)
once_by bytes r s (denied kind at d) h i = denied_refusal bytes kind at r d h ∙ sym (denied_refusal bytes kind at s d i)

-- ---- the laws

pub refused_once : (bytes : List ℕ) (r s : Refusal) → IsRefused bytes r → IsRefused bytes s → r ≡ s
refused_once bytes r s h i = once_by bytes r s (way bytes) h i

pub one_program : (bytes : List ℕ) (p q : Program) → IsScript bytes p → IsScript bytes q → p ≡ q
one_program bytes p q h i =
    let same : h.spelled.terms ≡ i.spelled.terms = script_one bytes h.spelled.terms i.spelled.terms h.spelled.spelled i.spelled.spelled in
    let forms : h.forms ≡ i.forms = the_same h.forms i.forms (sym h.spelled.shaped ∙ ap forms_in same ∙ i.spelled.shaped) in
    h.made ∙ ap program_from forms ∙ sym i.made

kept_none : (fs : List Form) (o : Option (ℕ × Rule)) → first_broken fs ≡ o → ((n : ℕ) (r : Rule) → Breaks fs n r → ⊥) → o ≡ None
kept_none fs None e kept = refl
kept_none fs (Some p) e kept = absurd (kept p.0 p.1 (first_is fs p.0 p.1 e).breaks_it)

script_kept : (bytes : List ℕ) (p : Program) → IsScript bytes p → (ts : List Tree) × SpellsTerms bytes ts × (terms_refusal ts ≡ None)
script_kept bytes p h =
    let few : length h.spelled.terms ≤ FORMS = omega (arith, forms_length h.spelled.terms h.forms h.spelled.shaped, h.few) in
    (h.spelled.terms, h.spelled.spelled, few_terms h.spelled.terms few ∙ ap (form_refusal h.spelled.terms) h.spelled.shaped ∙ ap rule_refusal (kept_none h.forms (first_broken h.forms) refl h.kept))

pub not_both : (bytes : List ℕ) (p : Program) (r : Refusal) → IsScript bytes p → IsRefused bytes r → ⊥
not_both bytes p r h i = let k = script_kept bytes p h in none_some ⊥ r (sym k.2 ∙ spelled_refusal bytes k.0 r k.1 i)

by_rules : (bytes : List ℕ) (fs : List Form) → SpellsForms bytes fs → length fs ≤ FORMS → (o : Option (ℕ × Rule)) → first_broken fs ≡ o → ((p : Program) × IsScript bytes p) ⊎ ((r : Refusal) × IsRefused bytes r)
by_rules bytes fs s few None e = inl (program_from fs, record { forms = fs; spelled = s; few = few; kept = none_broken fs e; made = refl })
by_rules bytes fs s few (Some p) e = inr (broken p.1 p.0, record { forms = fs; spelled = s; few = few; first = first_is fs p.0 p.1 e })

refused_or_not : (bytes : List ℕ) (ts : List Tree) → SpellsTerms bytes ts → (o : Option (List Form)) → forms_in ts ≡ o → length ts ≤ FORMS → ((p : Program) × IsScript bytes p) ⊎ ((r : Refusal) × IsRefused bytes r)
refused_or_not bytes ts s None e few = let first = shapeless_some ts e in inr (form first.0, record { terms = ts; spelled = s; few = few; first = first.1 })
refused_or_not bytes ts s (Some fs) e few = by_rules bytes fs (record { terms = ts; spelled = s; shaped = e }) (omega (arith, forms_length ts fs e, few)) (first_broken fs) refl

many_or_not : (bytes : List ℕ) (ts : List Tree) → SpellsTerms bytes ts → (length ts ≤ FORMS) ⊎ (FORMS < length ts) → ((p : Program) × IsScript bytes p) ⊎ ((r : Refusal) × IsRefused bytes r)
many_or_not bytes ts s (inl few) = refused_or_not bytes ts s (forms_in ts) refl few
many_or_not bytes ts s (inr many) = inr (too_many_forms, record { terms = ts; spelled = s; many = many })

either_by : (bytes : List ℕ) → Way bytes → ((p : Program) × IsScript bytes p) ⊎ ((r : Refusal) × IsRefused bytes r)
either_by bytes (long l) = inr (too_long, l)
either_by bytes (spelled ts s) = many_or_not bytes ts s (by_length (length ts) FORMS)
either_by bytes (denied faults.misplaced at d) = inr (token at, d)
either_by bytes (denied faults.too_deep at d) = inr (too_deep at, d)
either_by bytes (denied faults.too_large at d) = inr (too_large at, d)

pub either_way : (bytes : List ℕ) → ((p : Program) × IsScript bytes p) ⊎ ((r : Refusal) × IsRefused bytes r)
either_way bytes = either_by bytes (way bytes)

-- ---- exactly one answer

only_program : (bytes : List ℕ) (p : Program) → IsScript bytes p → (b : Answer) → IsAnswered bytes b → b ≡ a_program p
only_program bytes p s (a_program q) h = ap a_program (one_program bytes q p h s)
only_program bytes p s (a_line l) h = absurd (not_both bytes p h.0 s h.1)

only_line : (bytes : List ℕ) (r : Refusal) → IsRefused bytes r → (b : Answer) → IsAnswered bytes b → b ≡ a_line (refusal_line r)
only_line bytes r d (a_program q) h = absurd (not_both bytes q r h d)
only_line bytes r d (a_line l) h = ap a_line (h.2 ∙ ap refusal_line (refused_once bytes h.0 r h.1 d))

answer_by : (bytes : List ℕ) → ((p : Program) × IsScript bytes p) ⊎ ((r : Refusal) × IsRefused bytes r) → (a : Answer) × IsAnswered bytes a × ((b : Answer) → IsAnswered bytes b → b ≡ a)
answer_by bytes (inl s) = (a_program s.0, s.1, only_program bytes s.0 s.1)
answer_by bytes (inr d) = (a_line (refusal_line d.0), (d.0, d.1, refl), only_line bytes d.0 d.1)

pub exactly_one : ExactlyOneAnswer
exactly_one bytes = answer_by bytes (either_way bytes)
