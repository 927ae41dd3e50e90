-- The lines between those of a session and those of a node are what is computed.
use Rattle.std.proofs.Common.{◌≡◌, ◌≢◌, ℕ, Bool, true, false, List, [], ◌∷◌, ◌++◌, map, filter_map, Option, Some, None, bytes_eq, refl, ap, ap₂, sym, ◌∙◌, subst, append-nil, if◌then◌else◌}
use Rattle.std.proofs.lemmas.Bool.{false≢true}
use Rattle.std.proofs.lemmas.List.{append_cancel_right}
use Rattle.std.proofs.lemmas.Slice.Eq.{bytes_eq-Decides}
use Rattle.def_running_node.specs.NodeRuns.{NodeLine, lacks, adds, is_open, lines_between}
use Rattle.def_running_node.specs.Laws.{DifferAtFirst, AreBetween, LinesAreBetween, NoLineWhereSame, SameLinesSameNode}

other-lines : (m n : List ℕ) → m ≢ n → bytes_eq m n ≡ false
other-lines m n h = go (bytes_eq m n) refl
  where
    go : (b : Bool) → bytes_eq m n ≡ b → b ≡ false
    go true e = absurd (h ((bytes_eq-Decides m n).0 e))
    go false e = refl

-- what is computed is between
between : (here there : List (List ℕ)) → AreBetween here there (lines_between here there)
between [] ns = record { both = []; here_alone = []; there_alone = ns; of_here = refl; of_there = refl; differ = tt; in_order = refl }
between (m ∷ ms) [] =
    record { both = []; here_alone = m ∷ ms; there_alone = []; of_here = refl; of_there = refl; differ = tt; in_order = sym (append-nil (map lacks (m ∷ ms))) }
between (m ∷ ms) (n ∷ ns) = go (bytes_eq m n) refl (between ms ns)
  where
    go : (b : Bool) → bytes_eq m n ≡ b → AreBetween ms ns (lines_between ms ns)
        → AreBetween (m ∷ ms) (n ∷ ns) (if b then lines_between ms ns else map lacks (m ∷ ms) ++ map adds (n ∷ ns))
    go true e h =
        record {
          both = m ∷ h.both;
          here_alone = h.here_alone;
          there_alone = h.there_alone;
          of_here = ap (λ ls. m ∷ ls) h.of_here;
          of_there = let is : m ≡ n = (bytes_eq-Decides m n).0 e in ap₂ (λ l ls. l ∷ ls) (sym is) h.of_there;
          differ = h.differ;
          in_order = h.in_order;
        }
    go false e h =
        record {
          both = [];
          here_alone = m ∷ ms;
          there_alone = n ∷ ns;
          of_here = refl;
          of_there = refl;
          differ = λ k. false≢true (sym e ∙ (bytes_eq-Decides m n).1 k);
          in_order = refl;
        }

-- and nothing else is
at-first : (a b : List (List ℕ)) → DifferAtFirst a b → lines_between a b ≡ map lacks a ++ map adds b
at-first [] b h = refl
at-first (m ∷ ms) [] h = sym (append-nil (map lacks (m ∷ ms)))
at-first (m ∷ ms) (n ∷ ns) h = ap (λ b. if b then lines_between ms ns else map lacks (m ∷ ms) ++ map adds (n ∷ ns)) (other-lines m n h)

after-both : (both a b : List (List ℕ)) → DifferAtFirst a b → lines_between (both ++ a) (both ++ b) ≡ map lacks a ++ map adds b
after-both [] a b h = at-first a b h
after-both (m ∷ both) a b h =
    ap (λ t. if t then lines_between (both ++ a) (both ++ b) else map lacks (m ∷ both ++ a) ++ map adds (m ∷ both ++ b)) ((bytes_eq-Decides m m).1 refl)
    ∙ after-both both a b h

the-one : (here there : List (List ℕ)) (ls : List NodeLine) → AreBetween here there ls → ls ≡ lines_between here there
the-one here there ls h = h.in_order ∙ sym (ap₂ lines_between h.of_here h.of_there ∙ after-both h.both h.here_alone h.there_alone h.differ)

pub lines_are_between : LinesAreBetween
lines_are_between here there ls = (the-one here there ls, λ e. subst (AreBetween here there) (sym e) (between here there))

-- ---- none

no-lines : (a b : List (List ℕ)) → map lacks a ++ map adds b ≡ [] → (a ≡ []) × (b ≡ [])
no-lines [] [] e = (refl, refl)
no-lines [] (n ∷ ns) e = absurd (cc e)
no-lines (m ∷ ms) b e = absurd (cc e)

of-none : (here there : List (List ℕ)) → AreBetween here there (lines_between here there) → lines_between here there ≡ [] → here ≡ there
of-none here there h e =
    let none : (h.here_alone ≡ []) × (h.there_alone ≡ []) = no-lines h.here_alone h.there_alone (sym h.in_order ∙ e) in
    h.of_here ∙ ap (λ a. h.both ++ a) (none.0 ∙ sym none.1) ∙ sym h.of_there

of-same : (ls : List (List ℕ)) → [] ≡ lines_between ls ls
of-same ls =
    let none : AreBetween ls ls [] = record { both = ls; here_alone = []; there_alone = []; of_here = sym (append-nil ls); of_there = sym (append-nil ls); differ = tt; in_order = refl } in
    the-one ls ls [] none

pub no_line_where_same : NoLineWhereSame
no_line_where_same here there = (of-none here there (between here there), λ e. ap (λ ls. lines_between here ls) (sym e) ∙ sym (of-same here))

-- ---- what a node has

-- the text of a line that is here alone, and that is there alone
abbrev text_here : NodeLine → Option (List ℕ)
text_here (lacks text) = Some text
text_here (adds text) = None
text_here is_open = None

abbrev text_there : NodeLine → Option (List ℕ)
text_there (lacks text) = None
text_there (adds text) = Some text
text_there is_open = None

texts-here : (a b : List (List ℕ)) → filter_map text_here (map lacks a ++ map adds b) ≡ a
texts-here [] [] = refl
texts-here [] (n ∷ ns) = texts-here [] ns
texts-here (m ∷ ms) b = ap (λ ls. m ∷ ls) (texts-here ms b)

texts-there : (a b : List (List ℕ)) → filter_map text_there (map lacks a ++ map adds b) ≡ b
texts-there [] [] = refl
texts-there [] (n ∷ ns) = ap (λ ls. n ∷ ls) (texts-there [] ns)
texts-there (m ∷ ms) b = texts-there ms b

same-there : (here there other : List (List ℕ)) (g : AreBetween here there (lines_between here there)) (h : AreBetween here other (lines_between here other))
    → lines_between here there ≡ lines_between here other → there ≡ other
same-there here there other g h e =
    let lines : map lacks g.here_alone ++ map adds g.there_alone ≡ map lacks h.here_alone ++ map adds h.there_alone = sym g.in_order ∙ e ∙ h.in_order in
    let a : g.here_alone ≡ h.here_alone = sym (texts-here g.here_alone g.there_alone) ∙ ap (filter_map text_here) lines ∙ texts-here h.here_alone h.there_alone in
    let b : g.there_alone ≡ h.there_alone = sym (texts-there g.here_alone g.there_alone) ∙ ap (filter_map text_there) lines ∙ texts-there h.here_alone h.there_alone in
    let begin : g.both ≡ h.both = append_cancel_right g.both h.both h.here_alone (ap (λ x. g.both ++ x) (sym a) ∙ sym g.of_here ∙ h.of_here) in
    g.of_there ∙ ap₂ (λ x y. x ++ y) begin b ∙ sym h.of_there

pub same_lines_same_node : SameLinesSameNode
same_lines_same_node here there other e = same-there here there other (between here there) (between here other) e
