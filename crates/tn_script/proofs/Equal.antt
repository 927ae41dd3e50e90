-- Lists, seen by a view, compared from the front.
use Rattle.std.proofs.Common.{◌≡◌, ◌↔◌, ℕ, ◌+◌, ◌<◌, List, ◌∷◌, length, get_or, drop, map, sym, ap, ap₂, ◌∙◌, Bool, IsTrue}
use Rattle.def_term.specs.Names.{Name}
use Rattle.def_script.specs.Program.{Step}
use Rattle.def_script.specs.Shapes.{function_from}
use Rattle.std.proofs.lemmas.List.{drop_more, length-map}

abbrev pub EqualSo : {X Z : Type 0} (f : X → Z) (xs ys : List X) (i : ℕ) → Type 0
EqualSo f xs ys i = (map f (drop i xs) ≡ map f (drop i ys)) ↔ (map f xs ≡ map f ys)

pub equal_length : {X Z : Type 0} (f : X → Z) (xs ys : List X) → map f xs ≡ map f ys → length xs ≡ length ys
equal_length f xs ys e = sym (length-map xs f) ∙ ap length e ∙ length-map ys f

here : {X Z : Type 0} (f : X → Z) (xs : List X) (i : ℕ) (x : X) → i < length xs → x ≡ get_or xs i x → map f (drop i xs) ≡ f x ∷ map f (drop (i + 1) xs)
here f xs i x below is = ap (map f) (drop_more xs i x below) ∙ ap (λ z. f z ∷ map f (drop (i + 1) xs)) (sym is)

heads : {Z : Type 0} (a b : Z) (cs ds : List Z) → a ∷ cs ≡ b ∷ ds → a ≡ b
heads a b cs ds e = cc

tails : {Z : Type 0} (a b : Z) (cs ds : List Z) → a ∷ cs ≡ b ∷ ds → cs ≡ ds
tails a b cs ds e = cc

pub equal_here : {X Z : Type 0} (f : X → Z) (xs ys : List X) (i : ℕ) (x y : X) → i < length xs → i < length ys → x ≡ get_or xs i x → y ≡ get_or ys i y → EqualSo f xs ys i → map f xs ≡ map f ys → f x ≡ f y
equal_here f xs ys i x y p q is js so_far all = heads (f x) (f y) (map f (drop (i + 1) xs)) (map f (drop (i + 1) ys)) (sym (here f xs i x p is) ∙ so_far.1 all ∙ here f ys i y q js)

pub equal_next : {X Z : Type 0} (f : X → Z) (xs ys : List X) (i : ℕ) (x y : X) → i < length xs → i < length ys → x ≡ get_or xs i x → y ≡ get_or ys i y → f x ≡ f y → EqualSo f xs ys i → EqualSo f xs ys (i + 1)
equal_next f xs ys i x y p q is js e so_far = (
  λ rest. so_far.0 (here f xs i x p is ∙ ap₂ (λ a cs. a ∷ cs) e rest ∙ sym (here f ys i y q js)),
  λ all. tails (f x) (f y) (map f (drop (i + 1) xs)) (map f (drop (i + 1) ys)) (sym (here f xs i x p is) ∙ so_far.1 all ∙ here f ys i y q js),
)

-- what a test of lent lists says of the lists
pub seen_equal : {X Z : Type 0} (f : X → Z) (xs ys vs ws : List X) (r : Bool) → vs ≡ xs → ws ≡ ys → IsTrue r ↔ (map f vs ≡ map f ws) → IsTrue r ↔ (map f xs ≡ map f ys)
seen_equal f xs ys vs ws r a b tells = (λ yes. ap (map f) (sym a) ∙ tells.0 yes ∙ ap (map f) b, λ e. tells.1 (ap (map f) a ∙ e ∙ ap (map f) (sym b)))

same_function_parts : (m n f h : Name) (d e : Bool) (ps qs : List Name) (ss ts : List Step) → m ≡ n → f ≡ h → d ≡ e → ps ≡ qs → ss ≡ ts → function_from m f d ps ss ≡ function_from n h e qs ts
same_function_parts m n f h d e ps qs ss ts a b c g i =
    ap (λ x. function_from x f d ps ss) a ∙ ap (λ x. function_from n x d ps ss) b ∙ ap (λ x. function_from n h x ps ss) c ∙ ap (λ x. function_from n h e x ss) g ∙ ap (λ x. function_from n h e qs x) i

pub function_equal : (m n f h : Name) (d e : Bool) (ps qs : List Name) (ss ts : List Step) (r : Bool) → m ≡ n → f ≡ h → d ≡ e → ps ≡ qs → IsTrue r ↔ (ss ≡ ts) → IsTrue r ↔ (function_from m f d ps ss ≡ function_from n h e qs ts)
function_equal m n f h d e ps qs ss ts r a b c g tells = (λ yes. same_function_parts m n f h d e ps qs ss ts a b c g (tells.0 yes), λ i. tells.1 (ap (λ k. k.steps) i))
