-- The texts of the elements of a message.
use Rattle.std.proofs.Common.{◌≡◌, ◌∙◌, ℕ, ◌+◌, ◌<◌, ◌≤◌, List, [], ◌∷◌, ◌++◌, Bool, true, false, append_assoc, refl, sym, ap, codes, length, map, get_or, drop, vec_len, eqb, arith}
use Rattle.std.specs.declared.vec.Vec.{Vec}
use Rattle.std.proofs.lemmas.Bool.{eqb-false}
use Rattle.std.proofs.lemmas.List.{append-nil, drop_more, drop_all}
use Rattle.def_term.specs.Tree.{Tree, atom, pid, of_elements}
use Rattle.def_term.specs.Names.{Mfa, word}
use Rattle.tn_text.specs.Writes.{Grows}
use Rattle.def_term.specs.Text.{w, is_written_bare, atom_text, comma_list, each_after_comma}
use Rattle.def_node.specs.Event.{Event, sent, received, called, returned, raised, spawning, spawned, exited, linked, unlinked, getting_linked, getting_unlinked}
use Rattle.def_script.specs.Program.{Class}
use Rattle.def_session.specs.Messages.{class_term, exception_term, elements_of, process_of}
use Rattle.tn_session.specs.Messages.{event_name, details_of, front_text, names_text}

-- the elements by their parts
pub parts_are : (short : Bool) (e : Event) → elements_of short e ≡ word "trace" ∷ pid (process_of e) ∷ atom (event_name e) ∷ details_of short e
parts_are short (sent p t to true) = refl
parts_are short (sent p t to false) = refl
parts_are short (received p sender t) = refl
parts_are short (called p c) = refl
parts_are short (returned p f t depth) = refl
parts_are short (raised p f c t depth) = refl
parts_are short (spawning p child f args) = refl
parts_are short (spawned p parent f args) = refl
parts_are short (exited p r) = refl
parts_are short (linked p q) = refl
parts_are short (unlinked p q) = refl
parts_are short (getting_linked p q) = refl
parts_are short (getting_unlinked p q) = refl

after_more : (ts us : List Tree) → each_after_comma (of_elements (ts ++ us)) ≡ each_after_comma (of_elements ts) ++ each_after_comma (of_elements us)
after_more [] us = refl
after_more (t ∷ ts) us = ap (λ s. 44 ∷ (w t ++ s)) (after_more ts us) ∙ ap (λ s. 44 ∷ s) (sym (append_assoc (w t) (each_after_comma (of_elements ts)) (each_after_comma (of_elements us))))

joined_more : (t : Tree) (ts us : List Tree) → comma_list (of_elements (t ∷ ts ++ us)) ≡ comma_list (of_elements (t ∷ ts)) ++ each_after_comma (of_elements us)
joined_more t ts us = ap (λ s. w t ++ s) (after_more ts us) ∙ sym (append_assoc (w t) (each_after_comma (of_elements ts)) (each_after_comma (of_elements us)))

trace_text : atom_text (codes "trace") ≡ codes "trace"
unfolding is_written_bare
trace_text = refl

after_a_comma : (s t : List ℕ) → (s ++ 44 ∷ []) ++ t ≡ s ++ 44 ∷ (t ++ [])
after_a_comma s t = append_assoc s (44 ∷ []) t ∙ ap (λ u. s ++ 44 ∷ u) (sym (append-nil t))

front_is : (e : Event) → front_text e ≡ 123 ∷ comma_list (of_elements (word "trace" ∷ pid (process_of e) ∷ atom (event_name e) ∷ []))
front_is e =
    let p = w (pid (process_of e)) in
    let k = atom_text (event_name e) in
    ap (λ s. codes "{trace," ++ s) (after_a_comma p k) ∙ ap (λ s. 123 ∷ (s ++ 44 ∷ (p ++ 44 ∷ (k ++ [])))) (sym trace_text)

-- the front, and then the rest
pub front_and_details : (short : Bool) (e : Event) → 123 ∷ comma_list (of_elements (elements_of short e)) ≡ front_text e ++ each_after_comma (of_elements (details_of short e))
front_and_details short e =
    ap (λ s. 123 ∷ s) (ap (λ ts. comma_list (of_elements ts)) (parts_are short e) ∙ joined_more (word "trace") (pid (process_of e) ∷ atom (event_name e) ∷ []) (details_of short e))
    ∙ ap (λ s. s ++ each_after_comma (of_elements (details_of short e))) (sym (front_is e))

pub details_of_send : (short : Bool) (p : ℕ) (t : Tree) (to : ℕ) (alive : Bool) → details_of short (sent p t to alive) ≡ t ∷ pid to ∷ []
details_of_send short p t to true = refl
details_of_send short p t to false = refl

pub two_details : (t u : Tree) → each_after_comma (of_elements (t ∷ u ∷ [])) ≡ (44 ∷ w t) ++ 44 ∷ w u
two_details t u = ap (λ s. 44 ∷ (w t ++ 44 ∷ s)) (append-nil (w u))

-- `,{M,F,`, what stands there, and `}`
pub names_closed : (f : Mfa) (s : List ℕ) → 44 ∷ 123 ∷ ((atom_text f.module_name ++ 44 ∷ (atom_text f.function_name ++ 44 ∷ (s ++ []))) ++ 125 ∷ []) ≡ (names_text f ++ s) ++ 125 ∷ []
names_closed f s = simp (append_assoc, append-nil)

-- `,{`, the class, a comma with the value, and `}`
pub exception_closed : (c : Class) (t : Tree) → 44 ∷ w (exception_term c t) ≡ ((44 ∷ 123 ∷ w (class_term c)) ++ 44 ∷ w t) ++ 125 ∷ []
exception_closed c t = simp (append_assoc, append-nil)

-- ---- what is written piece by piece

pub twice : (o x y z b c : List ℕ) → b ≡ o ++ x → c ≡ b ++ y → z ≡ x ++ y → c ≡ o ++ z
twice o x y z b c first second whole = second ∙ ap (λ s. s ++ y) first ∙ append_assoc o x y ∙ ap (λ s. o ++ s) (sym whole)

pub thrice : (o x y z u b c d : List ℕ) → b ≡ o ++ x → c ≡ b ++ y → d ≡ c ++ z → u ≡ (x ++ y) ++ z → d ≡ o ++ u
thrice o x y z u b c d first second third whole = twice o (x ++ y) z u c d (twice o x y (x ++ y) b c first second refl) third whole

pub four_times : (o x y z u v b c d e : List ℕ) → b ≡ o ++ x → c ≡ b ++ y → d ≡ c ++ z → e ≡ d ++ u → v ≡ ((x ++ y) ++ z) ++ u → e ≡ o ++ v
four_times o x y z u v b c d e first second third fourth whole = twice o ((x ++ y) ++ z) u v d e (thrice o x y z ((x ++ y) ++ z) b c d first second third refl) fourth whole

-- more elements at the end
pub more_at_the_end : (short : Bool) (e : Event) (us : List Tree) → comma_list (of_elements (elements_of short e)) ++ each_after_comma (of_elements us) ≡ comma_list (of_elements (elements_of short e ++ us))
more_at_the_end short e us =
    ap (λ ts. comma_list (of_elements ts) ++ each_after_comma (of_elements us)) (parts_are short e)
    ∙ sym (joined_more (word "trace") (pid (process_of e) ∷ atom (event_name e) ∷ details_of short e) us)
    ∙ ap (λ ts. comma_list (of_elements (ts ++ us))) (sym (parts_are short e))

-- what a refused call leaves as it was
pub grows_same : {a b : List ℕ} → b ≡ a → Grows a b
grows_same {a} e = record { added = []; whole = e ∙ sym (append-nil a) }

-- there is one, where the list isn't empty
pub one_there : {X A : Type 0} (v : Vec X A) → false ≡ eqb (vec_len v) 0 → v.len ≡ length v.items → 0 < length v.items
one_there v filled size = let some = eqb-false (vec_len v) 0 (sym filled) in omega (arith, size, some)

-- the first of the texts
pub first_text : {X : Type 0} (seen : X → Tree) (items : List X) (x : X) (a b : List ℕ) → 0 < length items → x ≡ get_or items 0 x → b ≡ a ++ w (seen x)
    → b ++ each_after_comma (of_elements (map seen (drop 1 items))) ≡ a ++ comma_list (of_elements (map seen items))
first_text seen [] x a b some is e = absurd (omega (arith, some))
first_text seen (y ∷ ys) x a b some is e =
    let rest = each_after_comma (of_elements (map seen ys)) in
    ap (λ o. o ++ rest) e ∙ append_assoc a (w (seen x)) rest ∙ ap (λ t. a ++ (w (seen t) ++ rest)) is

-- a comma and the next text
pub next_text : {X : Type 0} (seen : X → Tree) (items : List X) (i : ℕ) (x : X) (a d z : List ℕ) → i < length items → x ≡ get_or items i x
    → a ++ each_after_comma (of_elements (map seen (drop i items))) ≡ z → d ≡ a ++ 44 ∷ w (seen x) → d ++ each_after_comma (of_elements (map seen (drop (i + 1) items))) ≡ z
next_text seen items i x a d z below is so_far text =
    let rest = each_after_comma (of_elements (map seen (drop (i + 1) items))) in
    let opened : each_after_comma (of_elements (map seen (drop i items))) ≡ 44 ∷ (w (seen (get_or items i x)) ++ rest) = ap (λ xs. each_after_comma (of_elements (map seen xs))) (drop_more items i x below) in
    ap (λ o. o ++ rest) (text ∙ ap (λ t. a ++ 44 ∷ w (seen t)) is) ∙ append_assoc a (44 ∷ w (seen (get_or items i x))) rest ∙ ap (λ t. a ++ t) (sym opened) ∙ so_far

-- nothing comes after the last
pub last_text : {X : Type 0} (seen : X → Tree) (items : List X) (i : ℕ) (a z : List ℕ) → length items ≤ i → a ++ each_after_comma (of_elements (map seen (drop i items))) ≡ z → a ≡ z
last_text seen items i a z over so_far = sym (append-nil a) ∙ sym (ap (λ xs. a ++ each_after_comma (of_elements (map seen xs))) (drop_all i items over)) ∙ so_far

-- what was written grows by it
pub grows_by : {a b : List ℕ} (x : List ℕ) → b ≡ a ++ x → Grows a b
grows_by x e = record { added = x; whole = e }
