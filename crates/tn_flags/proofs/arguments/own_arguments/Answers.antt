use Rattle.std.proofs.Common.{◌≡◌, ◌++◌, ◌∷◌, [], List, length, refl, ap, sym, ◌∙◌, map, append_assoc, append-nil, arith}
use Rattle.std.proofs.lemmas.List.{map-append}
use Rattle.def_term.specs.Tree.{Tree}
use Rattle.tn_term.specs.SharedTree.{shared_tree}
use Rattle.tn_term.specs.Views.{tree_of}
use Rattle.tn_flags.proofs.arguments.own_arguments.Goals as goal

-- one term more is an argument
one-more : {X Y : Type 0} (seen : X → Tree) (made : Y → Tree) (whole now next : List X) (x : X) (done new : List Y) (y : Y)
    → now ≡ x ∷ next → made y ≡ seen x → new ≡ done ++ y ∷ [] → map seen whole ≡ map made done ++ map seen now → map seen whole ≡ map made new ++ map seen next
one-more seen made whole now next x done new y step same pushed so_far =
    so_far
    ∙ ap (λ xs. map made done ++ map seen xs) step
    ∙ ap (λ t. map made done ++ t ∷ map seen next) (sym same)
    ∙ sym (append_assoc (map made done) (made y ∷ []) (map seen next))
    ∙ ap (λ ts. ts ++ map seen next) (sym (map-append made done (y ∷ [])) ∙ ap (map made) (sym pushed))

-- a list of no elements
none-left : {X : Type 0} (xs : List X) → 0 ≡ length xs → xs ≡ []
none-left [] size = refl
none-left (x ∷ xs) size = absurd (omega (arith, size))

pub loop-term-init : goal.loop-term-init
loop-term-init g c = ap (λ vs. map shared_tree vs ++ map tree_of c.into_iter-term-iterator.result.rest.items) (sym c.in_ok-args.ensures.items)

pub loop-term-preserved : goal.loop-term-preserved
loop-term-preserved g c =
    let s = c.loop-term in
    one-more tree_of shared_tree c.into_iter-term-iterator.result.rest.items s.term-iterator.rest.items c.next.new.self.rest.items c.in-Some.term s.args.items c.push.new.self.items c.in_ok-new.field-0
    c.in-Some.ensures.steps.0 c.in_ok-new.ensures c.in_ok-push.ensures.items s.invariant

pub returns : goal.returns
returns g c =
    let s = c.loop-term in
    let spent = none-left s.term-iterator.rest.items (sym c.in-None.ensures.steps.0 ∙ s.term-iterator.rest.ok.0) in
    sym (append-nil (map shared_tree s.args.items))
    ∙ ap (λ xs. map shared_tree s.args.items ++ map tree_of xs) (sym spent)
    ∙ sym s.invariant ∙ ap (map tree_of) c.into_iter-term-iterator.ensures.into_iter_gives.0
