-- A loop that reads each of some terms, and ends at the first fault.
use Rattle.std.proofs.Common.{◌≡◌, ◌∙◌, ℕ, ◌+◌, ◌<◌, ◌≤◌, List, [], ◌∷◌, ◌++◌, length, get_or, drop, map, refl, sym, ap, subst, append_assoc}
use Rattle.std.specs.Prelude.{Ok, Err}
use Rattle.std.proofs.lemmas.List.{drop_more, drop_all, append-nil, map-append}
use Rattle.def_term.specs.Tree.{Tree, of_elements}
use Rattle.def_spec.specs.Matching.{Pattern, and_pattern}
use Rattle.def_spec.specs.Expressions.{Dialect, Position, Expr, and_expr}
use Rattle.def_spec.specs.Reading.{Reads, then_read, pattern_of, patterns_of, expr_of, exprs_of, clause_of, clauses_of}
use Rattle.tn_spec.specs.declared.fault.SpecFault.{SpecFault}
use Rattle.tn_spec.specs.declared.fault.SpecFault.TheVariants.{Badarg, Unsupported, TooLarge, OutOfMemory}
use Rattle.tn_spec.specs.Views.{patterns_from, exprs_from}
use Rattle.tn_spec.specs.Answers.{IsFaultOf, each_read}

-- ---- faults

pub fault_then : {A X Y : Type 0} (r : Reads X) (k : X → Reads Y) (e : SpecFault A) → IsFaultOf r e → IsFaultOf (then_read r k) e
fault_then r k Badarg h = ap (λ q. then_read q k) h
fault_then r k (Unsupported s) h = ap (λ q. then_read q k) h
fault_then r k TooLarge h = h
fault_then r k OutOfMemory h = tt

pub ok_then : {X Y : Type 0} (r : Reads X) (k : X → Reads Y) (x : X) → r ≡ Ok x → then_read r k ≡ k x
ok_then r k x h = ap (λ q. then_read q k) h

-- ---- the loop

-- what was read so far, before the rest
abbrev pub prepended : {Z : Type 0} → List Z → Reads (List Z) → Reads (List Z)
prepended zs r = then_read r (λ ys. Ok (zs ++ ys))

prepended_nil : {Z : Type 0} (r : Reads (List Z)) → r ≡ prepended [] r
prepended_nil (Ok ys) = refl
prepended_nil (Err e) = refl

prepended_one : {Z : Type 0} (done : List Z) (z : Z) (r : Reads (List Z)) → prepended done (then_read r (λ zs. Ok (z ∷ zs))) ≡ prepended (done ++ z ∷ []) r
prepended_one done z (Ok ys) = ap Ok (sym (append_assoc done (z ∷ []) ys))
prepended_one done z (Err e) = refl

module _ {X Y Z : Type 0} (f : Tree → Reads Z) (g : X → Tree) (h : Y → Z) (whole : Reads (List Z)) (xs : List X) (i : ℕ) (done : List Y) where
  -- the rest is read after what was read so far
  abbrev pub ReadSo : Type 0
  ReadSo = whole ≡ prepended (map h done) (each_read f (map g (drop i xs)))

  pub read_begins : whole ≡ each_read f (map g (drop i xs)) → done ≡ [] → ReadSo
  read_begins e empty = e ∙ prepended_nil (each_read f (map g (drop i xs))) ∙ ap (λ ds. prepended (map h ds) (each_read f (map g (drop i xs)))) (sym empty)

  here : (x : X) → i < length xs → x ≡ get_or xs i x → each_read f (map g (drop i xs)) ≡ then_read (f (g x)) (λ z. then_read (each_read f (map g (drop (i + 1) xs))) (λ zs. Ok (z ∷ zs)))
  here x below is = ap (λ ys. each_read f (map g ys)) (drop_more xs i x below) ∙ ap (λ y. each_read f (map g (y ∷ drop (i + 1) xs))) (sym is)

  pub read_fails : {A : Type 0} (x : X) (e : SpecFault A) → i < length xs → x ≡ get_or xs i x → IsFaultOf (f (g x)) e → ReadSo → IsFaultOf whole e
  read_fails x e below is fault so_far =
      subst (λ r. IsFaultOf r e) (sym (so_far ∙ ap (prepended (map h done)) (here x below is)))
      (fault_then _ _ e (fault_then _ _ e fault))

  pub read_ends : length xs ≤ i → ReadSo → whole ≡ Ok (map h done)
  read_ends past so_far =
      so_far ∙ ap (λ ys. prepended (map h done) (each_read f (map g ys))) (drop_all i xs past) ∙ ap Ok (append-nil (map h done))

pub read_next : {X Y Z : Type 0} (f : Tree → Reads Z) (g : X → Tree) (h : Y → Z) (whole : Reads (List Z)) (xs : List X) (i : ℕ) (x : X) (done new : List Y) (y : Y)
    → i < length xs → x ≡ get_or xs i x → f (g x) ≡ Ok (h y) → new ≡ done ++ y ∷ [] → ReadSo f g h whole xs i done → ReadSo f g h whole xs (i + 1) new
read_next f g h whole xs i x done new y below is read pushed so_far =
    so_far ∙ ap (prepended (map h done)) (here f g h whole xs i done x below is ∙ ok_then _ _ (h y) read)
    ∙ prepended_one (map h done) (h y) (each_read f (map g (drop (i + 1) xs)))
    ∙ ap (λ zs. prepended zs (each_read f (map g (drop (i + 1) xs)))) (sym (ap (map h) pushed ∙ map-append h done (y ∷ [])))

-- ---- the same, in the words of what is read

fold_one : {Z W : Type 0} (cons : Z → W → W) (fold : List Z → W) (p : Reads Z) (q : Reads (List Z)) (r : Reads W)
    → ((z : Z) (zs : List Z) → cons z (fold zs) ≡ fold (z ∷ zs)) → r ≡ then_read q (λ zs. Ok (fold zs))
    → then_read p (λ z. then_read r (λ w. Ok (cons z w))) ≡ then_read (then_read p (λ z. then_read q (λ zs. Ok (z ∷ zs)))) (λ zs. Ok (fold zs))
fold_one cons fold (Ok z) (Ok zs) r step e = ap (λ x. then_read x (λ w. Ok (cons z w))) e ∙ ap Ok (step z zs)
fold_one cons fold (Ok z) (Err d) r step e = ap (λ x. then_read x (λ w. Ok (cons z w))) e
fold_one cons fold (Err d) q r step e = refl

patterns_each : (ts : List Tree) → patterns_of (of_elements ts) ≡ then_read (each_read pattern_of ts) (λ ps. Ok (patterns_from ps))
patterns_each [] = refl
patterns_each (t ∷ ts) = fold_one and_pattern patterns_from (pattern_of t) (each_read pattern_of ts) (patterns_of (of_elements ts)) (λ z zs. refl) (patterns_each ts)

pub patterns_read : (ts : List Tree) (ps : List Pattern) → each_read pattern_of ts ≡ Ok ps → patterns_of (of_elements ts) ≡ Ok (patterns_from ps)
patterns_read ts ps e = patterns_each ts ∙ ok_then _ _ ps e

pub patterns_fail : {A : Type 0} (ts : List Tree) (e : SpecFault A) → IsFaultOf (each_read pattern_of ts) e → IsFaultOf (patterns_of (of_elements ts)) e
patterns_fail ts e h = subst (λ r. IsFaultOf r e) (sym (patterns_each ts)) (fault_then _ _ e h)

module _ (d : Dialect) (part : Position) (head : Pattern) where
  exprs_each : (ts : List Tree) → exprs_of d part head (of_elements ts) ≡ then_read (each_read (expr_of d part head) ts) (λ es. Ok (exprs_from es))
  exprs_each [] = refl
  exprs_each (t ∷ ts) =
      fold_one and_expr exprs_from (expr_of d part head t) (each_read (expr_of d part head) ts) (exprs_of d part head (of_elements ts)) (λ z zs. refl) (exprs_each ts)

  pub exprs_read : (ts : List Tree) (es : List Expr) → each_read (expr_of d part head) ts ≡ Ok es → exprs_of d part head (of_elements ts) ≡ Ok (exprs_from es)
  exprs_read ts es e = exprs_each ts ∙ ok_then _ _ es e

  pub exprs_fail : {A : Type 0} (ts : List Tree) (e : SpecFault A) → IsFaultOf (each_read (expr_of d part head) ts) e → IsFaultOf (exprs_of d part head (of_elements ts)) e
  exprs_fail ts e h = subst (λ r. IsFaultOf r e) (sym (exprs_each ts)) (fault_then _ _ e h)

pub clauses_each : (d : Dialect) (ts : List Tree) → clauses_of d (of_elements ts) ≡ each_read (clause_of d) ts
clauses_each d [] = refl
clauses_each d (t ∷ ts) = ap (λ r. then_read (clause_of d t) (λ k. then_read r (λ ks. Ok (k ∷ ks)))) (clauses_each d ts)
