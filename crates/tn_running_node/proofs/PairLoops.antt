-- The sessions here and on a node, one after the other.
use Rattle.std.proofs.Common.{◌≡◌, ◌∙◌, ℕ, ◌+◌, ◌<◌, ◌≤◌, Bool, true, false, ◌||◌, List, [], ◌∷◌, ◌++◌, length, drop, get_or, refl, sym, ap, append-nil, append_assoc}
use Rattle.std.specs.Prelude.{flat_map}
use Rattle.std.specs.List.{list_any}
use Rattle.std.proofs.Math.ListN.{set}
use Rattle.std.specs.declared.vec.Vec.{Vec}
use Rattle.def_running_node.specs.NodeComparisons.{NamedLine, named_line_text, lines_differ, lines_are_open}
use Rattle.tn_trace.specs.Slots.{EachPair, EachUpTo}
use Rattle.tn_trace.proofs.Places.{up_to_none, up_to_all, all_dropped, place_here}
use Rattle.tn_running_node.specs.Comparisons.{PutsNamed}
use Rattle.tn_running_node.specs.declared.lines.LineKinds.{LineKinds}

-- ---- lines of several sessions

text-append : (xs ys : List NamedLine) → flat_map named_line_text (xs ++ ys) ≡ flat_map named_line_text xs ++ flat_map named_line_text ys
text-append [] ys = refl
text-append (x ∷ xs) ys = ap (λ l. named_line_text x ++ l) (text-append xs ys) ∙ sym (append_assoc (named_line_text x) (flat_map named_line_text xs) (flat_map named_line_text ys))

or-assoc : (a b c : Bool) → ((a || b) || c) ≡ (a || (b || c))
or-assoc true b c = refl
or-assoc false b c = refl

or-none : (a : Bool) → (a || false) ≡ a
or-none true = refl
or-none false = refl

any-append : (p : NamedLine → Bool) (xs ys : List NamedLine) → list_any p (xs ++ ys) ≡ (list_any p xs || list_any p ys)
any-append p [] ys = refl
any-append p (x ∷ xs) ys = ap (λ b. p x || b) (any-append p xs ys) ∙ sym (or-assoc (p x) (list_any p xs) (list_any p ys))

-- lines after lines
pub puts_both : {A : Type 0} (xs ys : List NamedLine) (out now next : Vec ℕ A) (first second both : LineKinds) → PutsNamed xs out now first → PutsNamed ys now next second
    → both.differs ≡ (first.differs || second.differs) → both.is_open ≡ (first.is_open || second.is_open) → PutsNamed (xs ++ ys) out next both
puts_both xs ys out now next first second both a b differs opens = record {
  written =
      b.written ∙ ap (λ l. l ++ flat_map named_line_text ys) a.written ∙ append_assoc out.items (flat_map named_line_text xs) (flat_map named_line_text ys) ∙ ap (λ l. out.items ++ l) (sym (text-append xs ys));
  differs = differs ∙ ap (λ q. q || second.differs) a.differs ∙ ap (λ q. lines_differ xs || q) b.differs ∙ sym (any-append _ xs ys);
  open_lines = opens ∙ ap (λ q. q || second.is_open) a.open_lines ∙ ap (λ q. lines_are_open xs || q) b.open_lines ∙ sym (any-append _ xs ys);
}

pub puts_none : {A : Type 0} (out : Vec ℕ A) (kinds : LineKinds) → kinds.differs ≡ false → kinds.is_open ≡ false → PutsNamed [] out out kinds
puts_none out kinds differs opens = record { written = sym (append-nil out.items); differs = differs; open_lines = opens }

-- ---- a loop over places

-- what some places add, and then the others
pub record IsHalfway {A T S : Type 0} (Q P : T → S → Type 0) (lines : T → List NamedLine) (ts : List T) (n : ℕ) (ss : List S) (out now : Vec ℕ A) (kinds : LineKinds) : Type 0 where
  pub seen : EachUpTo Q P n ts ss
  pub front : List NamedLine
  pub put : PutsNamed front out now kinds
  pub all : flat_map lines ts ≡ front ++ flat_map lines (drop n ts)

module _ {A T S : Type 0} (Q P : T → S → Type 0) (lines : T → List NamedLine) (ts : List T) where
  pub none_yet : (ss : List S) (out : Vec ℕ A) (kinds : LineKinds) → EachPair P ts ss → kinds.differs ≡ false → kinds.is_open ≡ false → IsHalfway Q P lines ts 0 ss out out kinds
  none_yet ss out kinds h differs opens = record { seen = up_to_none Q P ts ss h; front = []; put = puts_none out kinds differs opens; all = refl }

  pub one_more : (n : ℕ) (ss : List S) (old new : S) (out now next : Vec ℕ A) (kinds one both : LineKinds) → n < length ss → old ≡ get_or ss n old → ((t : T) → P t old → Q t new × PutsNamed (lines t) now next one)
      → both.differs ≡ (kinds.differs || one.differs) → both.is_open ≡ (kinds.is_open || one.is_open) → IsHalfway Q P lines ts n ss out now kinds → IsHalfway Q P lines ts (n + 1) (set ss n new) out next both
  one_more n ss old new out now next kinds one both below is made differs opens h =
      let here = place_here Q P n ts ss old new below is h.seen in
      let m = made here.here here.before in
      record {
        seen = here.after m.0;
        front = h.front ++ lines here.here;
        put = puts_both h.front (lines here.here) out now next kinds one both h.put m.1 differs opens;
        all = h.all ∙ ap (λ xs. h.front ++ flat_map lines xs) here.back ∙ sym (append_assoc h.front (lines here.here) (flat_map lines (drop (n + 1) ts)));
      }

  pub all_of_them : (n : ℕ) (ss : List S) (out now : Vec ℕ A) (kinds : LineKinds) → length ss ≤ n → IsHalfway Q P lines ts n ss out now kinds → EachPair Q ts ss × PutsNamed (flat_map lines ts) out now kinds
  all_of_them n ss out now kinds past h =
      let whole : flat_map lines ts ≡ h.front = h.all ∙ ap (λ xs. h.front ++ flat_map lines xs) (all_dropped Q P n ts ss past h.seen) ∙ append-nil h.front in (
        up_to_all Q P n ts ss past h.seen,
        record {
          written = h.put.written ∙ ap (λ ls. out.items ++ flat_map named_line_text ls) (sym whole);
          differs = h.put.differs ∙ ap lines_differ (sym whole);
          open_lines = h.put.open_lines ∙ ap lines_are_open (sym whole);
        },
      )
