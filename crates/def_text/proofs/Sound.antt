-- What is read derives the term.
use Rattle.std.proofs.Common.{◌≡◌, ℕ, List, [], ◌∷◌, ◌++◌, refl, ap, sym, ◌∙◌, subst, append_assoc, Ok, Bool, inl, inr}
use Rattle.def_term.specs.Tree.{Tree, int, atom, pid, list, of_elements}
use Rattle.def_text.specs.Tokens as text
use Rattle.def_text.specs.Tokens.{Token, comma}
use Rattle.def_text.specs.Grammar.{of_codes, Derives, DerivesAll, DerivesRest}
use Rattle.def_text.specs.Reading.{Bracket, brace, bracket, node, open_token, close_token, first, next, behind, OpenFrame, frame, ReadState, inside, done, put, leaf_at, open_at, close_top, comma_at, step}
use Rattle.def_text.proofs.FoldStates.{CommaEach, Open, LedFirst, LedAfter, Led}
use Rattle.def_text.proofs.Steps.{leaf_ok, open_ok, comma_ok, close_ok}

-- one more term with a comma after it
each_more : (f : List Tree) (ts : List Token) (t : Tree) (last : List Token) → CommaEach f ts → Derives last t → CommaEach (f ++ t ∷ []) (ts ++ (last ++ comma ∷ []))
each_more [] ts t last h d = (last, [], ap (λ xs. xs ++ (last ++ comma ∷ [])) h, d, refl)
each_more (s ∷ f) ts t last h d =
    (h.0, h.1 ++ (last ++ comma ∷ []), ap (λ xs. xs ++ (last ++ comma ∷ [])) h.2 ∙ append_assoc h.0 (comma ∷ h.1) (last ++ comma ∷ []), h.3, each_more f h.1 t last h.4 d)

-- the last term, and the bracket: after a comma, as all of the list
rest_ends : (c : Token) (f : List Tree) (ts : List Token) (t : Tree) (last : List Token) → CommaEach f ts → Derives last t → DerivesRest c (comma ∷ (ts ++ (last ++ c ∷ []))) (of_elements (f ++ t ∷ []))
rest_ends c [] ts t last h d = (last, c ∷ [], ap (λ xs. comma ∷ (xs ++ (last ++ c ∷ []))) h, d, refl)
rest_ends c (s ∷ f) ts t last h d =
    (h.0, comma ∷ (h.1 ++ (last ++ c ∷ [])), ap (λ xs. comma ∷ (xs ++ (last ++ c ∷ []))) h.2 ∙ ap (λ xs. comma ∷ xs) (append_assoc h.0 (comma ∷ h.1) (last ++ c ∷ [])), h.3, rest_ends c f h.1 t last h.4 d)

all_ends : (c : Token) (f : List Tree) (ts : List Token) (t : Tree) (last : List Token) → CommaEach f ts → Derives last t → DerivesAll c (ts ++ (last ++ c ∷ [])) (of_elements (f ++ t ∷ []))
all_ends c [] ts t last h d = (last, c ∷ [], ap (λ xs. xs ++ (last ++ c ∷ [])) h, d, refl)
all_ends c (s ∷ f) ts t last h d =
    (h.0, comma ∷ (h.1 ++ (last ++ c ∷ [])), ap (λ xs. xs ++ (last ++ c ∷ [])) h.2 ∙ append_assoc h.0 (comma ∷ h.1) (last ++ c ∷ []), h.3, rest_ends c f h.1 t last h.4 d)

node_derives : (b : Bracket) (inner : List Token) (f : List Tree) → DerivesAll (close_token b) inner (of_elements f) → Derives (open_token b ∷ inner) (node b (of_elements f))
node_derives brace inner f d = (inner, refl, d)
node_derives bracket inner f d = inl (inner, refl, d)

put_led : (fs : List OpenFrame) (front : List Token) (t : Tree) (last : List Token) → Open fs front → Derives last t → Led (put t fs) (front ++ last)
put_led [] front t last o d = subst (λ xs. Derives (xs ++ last) t) (sym o) d
put_led (frame b f ∷ fs) front t last o d = (f, t, front, last, refl, refl, o, d)

first_opens : (fs : List OpenFrame) (ts : List Token) → LedFirst fs ts → Open fs ts
first_opens [] ts h = absurd h
first_opens (frame b f ∷ fs) ts h = h.1

leaf_led : (limit : ℕ) (sized : Bool) (t : Tree) (fs : List OpenFrame) (ts : List Token) (x : Token) (s : ReadState) → Open fs ts → Derives (x ∷ []) t → leaf_at limit sized t fs ≡ Ok s → Led s (ts ++ x ∷ [])
leaf_led limit sized t fs ts x s o d e = let h = leaf_ok limit sized t fs s e in subst (λ z. Led z (ts ++ x ∷ [])) h.2 (put_led fs ts t (x ∷ []) o d)

opened_led : (limit : ℕ) (b : Bracket) (fs : List OpenFrame) (ts : List Token) (s : ReadState) → Open fs ts → open_at limit b fs ≡ Ok s → Led s (ts ++ open_token b ∷ [])
opened_led limit b fs ts s o e = let h = open_ok limit b fs s e in subst (λ z. Led z (ts ++ open_token b ∷ [])) h.1 (refl, (ts, [], refl, o, refl))

-- the bracket after the first or a later term
closed_first : (b : Bracket) (fs : List OpenFrame) (ts : List Token) (s : ReadState) → LedFirst fs ts → close_top b fs ≡ Ok s → Led s (ts ++ close_token b ∷ [])
closed_first b fs ts s h e =
    let k = close_ok b fs s e in
    let f = k.0 in
    let gs = k.1 in
    let h' : LedFirst (frame b f ∷ gs) ts = subst (λ x. LedFirst x ts) k.2 h in
    let outer = h'.1.0 in
    let inner = h'.1.1 in
    let c = close_token b in
    let none_in : inner ≡ [] = subst (λ g. CommaEach g inner) h'.0 h'.1.4 in
    let d : Derives (open_token b ∷ c ∷ []) (node b (of_elements f)) = node_derives b (c ∷ []) f (subst (λ g. DerivesAll c (c ∷ []) (of_elements g)) (sym h'.0) refl) in
    let whole : ts ++ c ∷ [] ≡ outer ++ (open_token b ∷ c ∷ []) = ap (λ xs. xs ++ c ∷ []) (h'.1.2 ∙ ap (λ xs. outer ++ open_token b ∷ xs) none_in) ∙ append_assoc outer (open_token b ∷ []) (c ∷ []) in
    subst (λ x. Led x (ts ++ c ∷ [])) k.3 (subst (λ xs. Led (put (node b (of_elements f)) gs) xs) (sym whole) (put_led gs outer (node b (of_elements f)) (open_token b ∷ c ∷ []) h'.1.3 d))

closed_after : (b : Bracket) (fs : List OpenFrame) (ts : List Token) (s : ReadState) → LedAfter fs ts → close_top b fs ≡ Ok s → Led s (ts ++ close_token b ∷ [])
closed_after b fs ts s h e =
    let k = close_ok b fs s e in
    let g = k.0 in
    let gs = k.1 in
    let h' : LedAfter (frame b g ∷ gs) ts = subst (λ x. LedAfter x ts) k.2 h in
    let f = h'.0 in
    let t = h'.1 in
    let last = h'.3 in
    let o = h'.6 in
    let outer = o.0 in
    let inner = o.1 in
    let c = close_token b in
    let body = inner ++ (last ++ c ∷ []) in
    let whole : Derives (open_token b ∷ body) (node b (of_elements g)) = node_derives b body g (subst (λ x. DerivesAll c body (of_elements x)) (sym h'.4) (all_ends c f inner t last o.4 h'.7)) in
    let split : ts ++ c ∷ [] ≡ outer ++ (open_token b ∷ body) =
    ap (λ xs. xs ++ c ∷ []) (h'.5 ∙ ap (λ xs. xs ++ last) o.2) ∙ append_assoc (outer ++ open_token b ∷ inner) last (c ∷ []) ∙ append_assoc outer (open_token b ∷ inner) (last ++ c ∷ []) in
    subst (λ x. Led x (ts ++ c ∷ [])) k.3 (subst (λ xs. Led (put (node b (of_elements g)) gs) xs) (sym split) (put_led gs outer (node b (of_elements g)) (open_token b ∷ body) o.3 whole))

comma_after : (sized : Bool) (fs : List OpenFrame) (ts : List Token) (s : ReadState) → LedAfter fs ts → comma_at sized fs ≡ Ok s → Led s (ts ++ comma ∷ [])
comma_after sized [] ts s h e = absurd h
comma_after sized (frame b g ∷ fs) ts s (f, t, front, last, g_is, ts_is, o, d) e =
    let k = comma_ok sized b g fs s e in
    let more : Open (frame b g ∷ fs) (ts ++ comma ∷ []) = (
      o.0,
      o.1 ++ (last ++ comma ∷ []),
      ap (λ xs. xs ++ comma ∷ []) (ts_is ∙ ap (λ xs. xs ++ last) o.2) ∙ append_assoc (o.0 ++ open_token b ∷ o.1) last (comma ∷ []) ∙ append_assoc o.0 (open_token b ∷ o.1) (last ++ comma ∷ []),
      o.3,
      subst (λ x. CommaEach x (o.1 ++ (last ++ comma ∷ []))) (sym g_is) (each_more f o.1 t last o.4 d),
    ) in
    subst (λ x. Led x (ts ++ comma ∷ [])) k.1 more

-- a term may stand here
entered : (limit : ℕ) (sized : Bool) (fs : List OpenFrame) (ts : List Token) (x : Token) (s : ReadState) → Open fs ts → step limit sized (inside next fs) x ≡ Ok s → Led s (ts ++ x ∷ [])
entered limit sized fs ts (text.integer n) s o e = leaf_led limit sized (int n) fs ts _ s o refl e
entered limit sized fs ts (text.atom a) s o e = leaf_led limit sized (atom a) fs ts _ s o refl e
entered limit sized fs ts (text.pid n) s o e = leaf_led limit sized (pid n) fs ts _ s o refl e
entered limit sized fs ts (text.characters a) s o e = leaf_led limit sized (list (of_codes a)) fs ts _ s o (inr (a, refl, refl)) e
entered limit sized fs ts text.open_brace s o e = opened_led limit brace fs ts s o e
entered limit sized fs ts text.open_bracket s o e = opened_led limit bracket fs ts s o e
entered limit sized fs ts text.close_brace s o e = absurd (cc)
entered limit sized fs ts text.close_bracket s o e = absurd (cc)
entered limit sized fs ts text.comma s o e = absurd (cc)
entered limit sized fs ts text.stop s o e = absurd (cc)
entered limit sized fs ts text.bad s o e = absurd (cc)

-- a step leads on
pub step_led : (limit : ℕ) (sized : Bool) (s : ReadState) (ts : List Token) (x : Token) (s' : ReadState) → Led s ts → step limit sized s x ≡ Ok s' → Led s' (ts ++ x ∷ [])
step_led limit sized (done t) ts x s' h e = absurd (cc)
step_led limit sized (inside next fs) ts x s' h e = entered limit sized fs ts x s' h e
step_led limit sized (inside first fs) ts text.close_brace s' h e = closed_first brace fs ts s' h e
step_led limit sized (inside first fs) ts text.close_bracket s' h e = closed_first bracket fs ts s' h e
step_led limit sized (inside first fs) ts (text.integer n) s' h e = entered limit sized fs ts (text.integer n) s' (first_opens fs ts h) e
step_led limit sized (inside first fs) ts (text.atom n) s' h e = entered limit sized fs ts (text.atom n) s' (first_opens fs ts h) e
step_led limit sized (inside first fs) ts (text.pid n) s' h e = entered limit sized fs ts (text.pid n) s' (first_opens fs ts h) e
step_led limit sized (inside first fs) ts (text.characters n) s' h e = entered limit sized fs ts (text.characters n) s' (first_opens fs ts h) e
step_led limit sized (inside first fs) ts text.open_brace s' h e = entered limit sized fs ts text.open_brace s' (first_opens fs ts h) e
step_led limit sized (inside first fs) ts text.open_bracket s' h e = entered limit sized fs ts text.open_bracket s' (first_opens fs ts h) e
step_led limit sized (inside first fs) ts text.comma s' h e = absurd (cc)
step_led limit sized (inside first fs) ts text.stop s' h e = absurd (cc)
step_led limit sized (inside first fs) ts text.bad s' h e = absurd (cc)
step_led limit sized (inside behind fs) ts text.close_brace s' h e = closed_after brace fs ts s' h e
step_led limit sized (inside behind fs) ts text.close_bracket s' h e = closed_after bracket fs ts s' h e
step_led limit sized (inside behind fs) ts text.comma s' h e = comma_after sized fs ts s' h e
step_led limit sized (inside behind fs) ts (text.integer n) s' h e = absurd (cc)
step_led limit sized (inside behind fs) ts (text.atom n) s' h e = absurd (cc)
step_led limit sized (inside behind fs) ts (text.pid n) s' h e = absurd (cc)
step_led limit sized (inside behind fs) ts (text.characters n) s' h e = absurd (cc)
step_led limit sized (inside behind fs) ts text.open_brace s' h e = absurd (cc)
step_led limit sized (inside behind fs) ts text.open_bracket s' h e = absurd (cc)
step_led limit sized (inside behind fs) ts text.stop s' h e = absurd (cc)
step_led limit sized (inside behind fs) ts text.bad s' h e = absurd (cc)
