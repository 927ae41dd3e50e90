-- The parts of the forms, gathered form by form.
use Rattle.std.proofs.Common.{◌≡◌, ◌↔◌, Bool, IsTrue, List, [], ◌∷◌, ◌++◌, length, map, flat_map, sym, ap, ◌∙◌, append_assoc}
use Rattle.def_script.specs.Program.{Function, Entry, Command, Program}
use Rattle.std.proofs.lemmas.List.{append-nil, nil_from_length}

-- what was gathered, and what is still to come, is all
abbrev pub GatheredSo : {X Y Z W : Type 0} (part : X → List Y) (f : W → X) (h : Z → Y) (all rest : List W) (done : List Z) → Type 0
GatheredSo part f h all rest done = flat_map part (map f all) ≡ map h done ++ flat_map part (map f rest)

pub gathered_none : {X Y Z W : Type 0} (part : X → List Y) (f : W → X) (h : Z → Y) (all rest : List W) (done : List Z) → rest ≡ all → done ≡ [] → GatheredSo part f h all rest done
gathered_none part f h all rest done same none = ap (λ ys. flat_map part (map f ys)) (sym same) ∙ ap (λ ds. map h ds ++ flat_map part (map f rest)) (sym none)

pub gathered_next : {X Y Z W : Type 0} (part : X → List Y) (f : W → X) (h : Z → Y) (all rest next : List W) (x : W) (done new : List Z) → rest ≡ x ∷ next → map h new ≡ map h done ++ part (f x) → GatheredSo part f h all rest done → GatheredSo part f h all next new
gathered_next part f h all rest next x done new left added so_far =
    so_far ∙ ap (λ ys. map h done ++ flat_map part (map f ys)) left ∙ sym (append_assoc (map h done) (part (f x)) (flat_map part (map f next))) ∙ ap (λ ys. ys ++ flat_map part (map f next)) (sym added)

pub gathered_all : {X Y Z W : Type 0} (part : X → List Y) (f : W → X) (h : Z → Y) (all rest : List W) (done : List Z) → length rest ≡ 0 → GatheredSo part f h all rest done → map h done ≡ flat_map part (map f all)
gathered_all part f h all rest done none so_far = sym (so_far ∙ ap (λ ys. map h done ++ flat_map part (map f ys)) (nil_from_length rest none) ∙ append-nil (map h done))

abbrev pub made_of : List Function → List Entry → List Command → Program
made_of ks es cs = record { functions = ks; entries = es; commands = cs }

pub same_parts : (ks ls : List Function) (es ds : List Entry) (cs bs : List Command) → ks ≡ ls → es ≡ ds → cs ≡ bs → made_of ks es cs ≡ made_of ls ds bs
same_parts ks ls es ds cs bs a b c = ap (λ x. made_of x es cs) a ∙ ap (λ x. made_of ls x cs) b ∙ ap (λ x. made_of ls ds x) c

pub program_equal : (ks ls : List Function) (es ds : List Entry) (cs bs : List Command) (r : Bool) → ks ≡ ls → es ≡ ds → IsTrue r ↔ (cs ≡ bs) → IsTrue r ↔ (made_of ks es cs ≡ made_of ls ds bs)
program_equal ks ls es ds cs bs r a b tells = (λ yes. same_parts ks ls es ds cs bs a b (tells.0 yes), λ e. tells.1 (ap (λ p. p.commands) e))
