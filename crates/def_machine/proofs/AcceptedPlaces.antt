-- Going through placed code: where ways from before lead, which registers are set, and what is accepted from a place on.
-- T tells which places are targets: those after the part gone through that its ways may lead to.
use Rattle.std.proofs.Common.{◌≡◌, ℕ, zero, suc, ◌+◌, ◌-◌, ◌<◌, ◌≤◌, List, [], ◌∷◌, length, drop, Option, Some, None, refl, sym, ap, ◌∙◌, subst, arith, true, ◌==◌, nat_le, nat_lt, slice_get, unwrap_or, inl, inr, ◌⊎◌, ⊎_elim, eq-eqb, length-append}
use Rattle.std.specs.Bool.{⊤}
use Rattle.std.proofs.lemmas.Bool.{cases_lt, and_from, or_left, or_right, le-leb}
use Rattle.std.proofs.lemmas.Option.{slice_get-get_or}
use Rattle.def_machine.specs.Instructions.{Instruction}
use Rattle.def_machine.specs.Validity.{Each, Way, onward, ways, leads_to, reads}
use Rattle.def_machine.specs.Acceptance.{all_of_them, where_standing, stops_at, sets_before, is_set_before}
use Rattle.def_machine.specs.Compilation.{at_place, code_from}
use Rattle.def_machine.proofs.Runs.{Before}
use Rattle.def_machine.proofs.PlacedCode.{placed-length}
use Rattle.def_machine.proofs.AcceptedTests.{below-all, below-some, each-tested, each-on}

drop-next : (n : ℕ) (code : List Instruction) (i : Instruction) (rest : List Instruction) → drop n code ≡ i ∷ rest → drop (suc n) code ≡ rest
drop-next zero [] i rest e = cc
drop-next zero (j ∷ code) i rest e = cc
drop-next (suc n) [] i rest e = cc
drop-next (suc n) (j ∷ code) i rest e = drop-next n code i rest e

placed-get : (p q r : ℕ) (code : List Instruction) (i : Instruction) (rest : List Instruction) → r ≡ p + q → drop q code ≡ i ∷ rest → slice_get (code_from p code) q ≡ Some (at_place (suc r) i)
placed-get p zero r [] i rest e d = cc
placed-get p zero r (j ∷ code) i rest e d =
    let same : p ≡ r = omega (arith, e) in
    let first : j ≡ i = cc in
    ap (λ x. Some (at_place (suc x) j)) same ∙ ap (λ y. Some (at_place (suc r) y)) first
placed-get p (suc q) r [] i rest e d = cc
placed-get p (suc q) r (j ∷ code) i rest e d = placed-get (suc p) q r code i rest (omega (arith, e)) d

-- code is as long as what is left of it, or longer
pub longer : (code rest : List Instruction) (m : ℕ) → Before code rest → m ≤ length rest → m ≤ length code
longer code rest m b l = let n : length code ≡ length b.0 + length rest = ap length b.1 ∙ length-append b.0 rest in omega (arith, n, l)

-- on to the next place, or to a target
abbrev pub GoesOn : (ℕ → Type 0) → Option ℕ → Type 0
GoesOn T None = ⊤
GoesOn T (Some n) = T n

-- to a target
abbrev pub GoesAway : (ℕ → Type 0) → Option ℕ → Type 0
GoesAway T None = ⊥
GoesAway T (Some n) = T n

module _ (left : List Instruction) where
  -- each way from before leads here at most, or to a target
  abbrev pub LeadHere : ℕ → (ℕ → Type 0) → Type 0
  LeadHere a T = (j : ℕ) (i : Instruction) → j < a → slice_get (code_from 0 left) j ≡ Some i → Each (λ w. (leads_to j w ≤ a) ⊎ T (leads_to j w)) (ways i)

  -- this is left from place a on, and ways from before lead here at most, or to a target
  pub record Reached (a : ℕ) (rest : List Instruction) (T : ℕ → Type 0) : Type 0 where
    pub is_left : drop a left ≡ rest
    pub size : a + length rest ≡ length left
    pub lead_here : LeadHere a T

  -- the register is set before place a, for reads before the last m instructions
  pub record IsSet (a m r : ℕ) : Type 0 where
    pub setter : ℕ
    pub before : setter < a
    pub sets : (p : ℕ) → p + m < length left → sets_before (code_from 0 left) p r setter ≡ true

  -- a register that is set stays so, at later places and for fewer reads
  pub set_later : (a b m l r : ℕ) → a ≤ b → m ≤ l → IsSet a m r → IsSet b l r
  set_later a b m l r ab ml h = record { setter = h.setter; before = omega (arith, h.before, ab); sets = λ p lt. h.sets p (omega (arith, lt, ml)) }

  pub set_on : (a b m r : ℕ) → a ≤ b → IsSet a m r → IsSet b m r
  set_on a b m r ab h = set_later a b m m r ab (omega arith) h

  pub next_set : (a m r : ℕ) → IsSet a m r → IsSet (suc a) m r
  next_set a m r h = set_on a (suc a) m r (omega arith) h

  -- from place a on the test accepts what is read
  abbrev pub ReadsAccepted : ℕ → Type 0
  ReadsAccepted a = (p : ℕ) (i : Instruction) → a ≤ p → slice_get (code_from 0 left) p ≡ Some i → all_of_them (is_set_before (code_from 0 left) p) (reads i) ≡ true

  -- with other targets, where each former one is one of them or has been reached
  pub other_targets : (a : ℕ) (rest : List Instruction) (T U : ℕ → Type 0) → ((n : ℕ) → T n → (n ≤ a) ⊎ U n) → Reached a rest T → Reached a rest U
  other_targets a rest T U on h = record {
    is_left = h.is_left;
    size = h.size;
    lead_here = λ j i l at. each-on (λ w. (leads_to j w ≤ a) ⊎ T (leads_to j w)) (λ w. (leads_to j w ≤ a) ⊎ U (leads_to j w)) (ways i)
        (λ w x. ⊎_elim (λ le. inl le) (λ t. on (leads_to j w) t) x) (h.lead_here j i l at);
  }

  -- a jump to where f instructions are left leads to the target there
  pub jump_target : (a f : ℕ) (i : Instruction) (rest : List Instruction) (T : ℕ → Type 0) → Reached a (i ∷ rest) T → f ≤ length rest → T (length left - f) → T (suc a + (length rest - f))
  jump_target a f i rest T h le t = let e : length left - f ≡ suc a + (length rest - f) = omega (arith, h.size, le) in subst T e t

  there-is : (j : ℕ) (i : Instruction) → j < length left → (k : Instruction) × (slice_get (code_from 0 left) j ≡ Some k)
  there-is j i l = (_, slice_get-get_or (code_from 0 left) j i (omega (arith, l, placed-length 0 left)))

  module _ (a : ℕ) (i : Instruction) (rest : List Instruction) (T : ℕ → Type 0) (here : Reached a (i ∷ rest) T) where
    stands : slice_get (code_from 0 left) a ≡ Some (at_place (suc a) i)
    stands = placed-get 0 a a left i rest (omega arith) here.is_left

    is_it : (j : ℕ) (k : Instruction) → j ≡ a → slice_get (code_from 0 left) j ≡ Some k → at_place (suc a) i ≡ k
    is_it j k e at = ap (λ x. unwrap_or x k) (sym stands ∙ ap (slice_get (code_from 0 left)) (sym e) ∙ at)

    from_here : (w : Way) → GoesOn T w.elsewhere → (leads_to a w ≤ suc a) ⊎ T (leads_to a w)
    from_here w g = at w.elsewhere g
      where
        at : (x : Option ℕ) → GoesOn T x → (unwrap_or x (suc a) ≤ suc a) ⊎ T (unwrap_or x (suc a))
        at None g = inl (omega arith)
        at (Some n) g = inr g

    lead_on : Each (λ w. GoesOn T w.elsewhere) (ways (at_place (suc a) i)) → LeadHere (suc a) T
    lead_on goes j k l at = ⊎_elim
        (λ lt. each-on (λ w. (leads_to j w ≤ a) ⊎ T (leads_to j w)) (λ w. (leads_to j w ≤ suc a) ⊎ T (leads_to j w)) (ways k)
        (λ w x. ⊎_elim (λ le. inl (omega (arith, le))) (λ t. inr t) x) (here.lead_here j k lt at))
        (λ le.
        let e : j ≡ a = omega (arith, l, le) in
        subst (λ x. Each (λ w. (leads_to x w ≤ suc a) ⊎ T (leads_to x w)) (ways k)) (sym e)
        (subst (λ y. Each (λ w. (leads_to a w ≤ suc a) ⊎ T (leads_to a w)) (ways y)) (is_it j k e at)
        (each-on (λ w. GoesOn T w.elsewhere) (λ w. (leads_to a w ≤ suc a) ⊎ T (leads_to a w)) (ways (at_place (suc a) i)) from_here goes)))
        (cases_lt j a)

    reached_next : Each (λ w. GoesOn T w.elsewhere) (ways (at_place (suc a) i)) → Reached (suc a) rest T
    reached_next goes = record { is_left = drop-next a left i rest here.is_left; size = omega (arith, here.size); lead_here = lead_on goes }

    read_accepted : (m : ℕ) → m ≤ length rest → (r : ℕ) → IsSet a m r → is_set_before (code_from 0 left) a r ≡ true
    read_accepted m few r h = below-some a (sets_before (code_from 0 left) a r) h.setter h.before (h.sets a (omega (arith, here.size, few)))

    accepted_from : (m : ℕ) → m ≤ length rest → Each (IsSet a m) (reads (at_place (suc a) i)) → ReadsAccepted (suc a) → ReadsAccepted a
    accepted_from m few set after p k le at = ⊎_elim
        (λ lt. after p k (omega (arith, lt)) at)
        (λ ge.
        let e : p ≡ a = omega (arith, le, ge) in
        subst (λ x. all_of_them (is_set_before (code_from 0 left) x) (reads k) ≡ true) (sym e)
        (subst (λ y. all_of_them (is_set_before (code_from 0 left) a) (reads y) ≡ true) (is_it p k e at)
        (each-tested (IsSet a m) (is_set_before (code_from 0 left) a) (reads (at_place (suc a) i)) (read_accepted m few) set)))
        (cases_lt a p)

    -- an instruction that reads what is set, and then the others
    pub by_step : (m : ℕ) → m ≤ length rest → Each (IsSet a m) (reads (at_place (suc a) i)) → Each (λ w. GoesOn T w.elsewhere) (ways (at_place (suc a) i)) → (Reached (suc a) rest T → ReadsAccepted (suc a)) → ReadsAccepted a
    by_step m few set goes after = accepted_from m few set (after (reached_next goes))

    module _ (d m : ℕ) (above : (n : ℕ) → T n → length left ≤ n + m) where
      stops_before : (p j : ℕ) (w : Way) → p + m < length left → (leads_to j w ≤ a) ⊎ T (leads_to j w) → stops_at a p d j w ≡ true
      stops_before p j w l x = ⊎_elim
          (λ le. or_left (nat_le (leads_to j w) a) _ (le-leb (leads_to j w) a le))
          (λ t. or_right (nat_le (leads_to j w) a) _ (or_left (nat_lt p (leads_to j w)) _ (le-leb (suc p) (leads_to j w) (omega (arith, l, above (leads_to j w) t)))))
          x

      stops_away : (p : ℕ) (w : Way) → p + m < length left → GoesAway T w.elsewhere → stops_at a p d a w ≡ true
      stops_away p w l g = or_right (nat_le (leads_to a w) a) _ (or_left (nat_lt p (leads_to a w)) _ (le-leb (suc p) (leads_to a w) (at w.elsewhere g)))
        where
          at : (x : Option ℕ) → GoesAway T x → p < unwrap_or x (suc a)
          at None g = absurd g
          at (Some n) g = omega (arith, l, above n g)

      sets_it : (p : ℕ) → stops_at a p d a (onward (d ∷ [])) ≡ true
      sets_it p = or_right (nat_le (suc a) a) _ (or_right (nat_lt p (suc a)) _ (and_from (a == a) _ (eq-eqb a a refl) (or_left (d == d) _ (eq-eqb d d refl))))

      set_here : (ws : List Way) → ways (at_place (suc a) i) ≡ onward (d ∷ []) ∷ ws → Each (λ w. GoesAway T w.elsewhere) ws → IsSet (suc a) m d
      set_here ws is away = record {
        setter = a;
        before = omega arith;
        sets = λ p l. below-all (suc a) (λ j. where_standing (λ k. all_of_them (stops_at a p d j) (ways k)) (slice_get (code_from 0 left) j)) (λ j lj. ⊎_elim
            (λ lt.
            let k : (k : Instruction) × (slice_get (code_from 0 left) j ≡ Some k) = there-is j i (omega (arith, lt, here.size)) in
            subst (λ x. where_standing (λ y. all_of_them (stops_at a p d j) (ways y)) x ≡ true) (sym k.1)
            (each-tested (λ w. (leads_to j w ≤ a) ⊎ T (leads_to j w)) (stops_at a p d j) (ways k.0) (λ w x. stops_before p j w l x) (here.lead_here j k.0 lt k.1)))
            (λ le.
            let e : a ≡ j = omega (arith, lj, le) in
            subst (λ z. where_standing (λ y. all_of_them (stops_at a p d z) (ways y)) (slice_get (code_from 0 left) z) ≡ true) e
            (subst (λ x. where_standing (λ y. all_of_them (stops_at a p d a) (ways y)) x ≡ true) (sym stands)
            (subst (λ x. all_of_them (stops_at a p d a) x ≡ true) (sym is)
            (and_from (stops_at a p d a (onward (d ∷ []))) _ (sets_it p) (each-tested (λ w. GoesAway T w.elsewhere) (stops_at a p d a) ws (λ w g. stops_away p w l g) away)))))
            (cases_lt j a));
      }

      goes_there : (ws : List Way) → Each (λ w. GoesAway T w.elsewhere) ws → Each (λ w. GoesOn T w.elsewhere) ws
      goes_there ws away = each-on (λ w. GoesAway T w.elsewhere) (λ w. GoesOn T w.elsewhere) ws (λ w g. at w.elsewhere g) away
        where
          at : (x : Option ℕ) → GoesAway T x → GoesOn T x
          at None g = absurd g
          at (Some n) g = g

      -- one that sets register d where it goes on to the next place, and then the others
      pub by_setting : (ws : List Way) → ways (at_place (suc a) i) ≡ onward (d ∷ []) ∷ ws → Each (λ w. GoesAway T w.elsewhere) ws → m ≤ length rest → Each (IsSet a m) (reads (at_place (suc a) i)) → (Reached (suc a) rest T → IsSet (suc a) m d → ReadsAccepted (suc a)) → ReadsAccepted a
      by_setting ws is away few set after =
          by_step m few set (subst (Each (λ w. GoesOn T w.elsewhere)) (sym is) (tt, goes_there ws away)) (λ next. after next (set_here ws is away))
