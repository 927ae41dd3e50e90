-- What is kept of the messages of several sessions, by what is kept of each.
use Rattle.std.proofs.Common.{◌≡◌, Bool, true, false, List, [], ◌∷◌, map, refl, ap}
use Rattle.def_term.specs.Names.{Name}
use Rattle.def_term.specs.Tree.{Tree}
use Rattle.def_explore.specs.Rests.{kept_by_process, each_process, all_pids, kept_of}
use Rattle.tn_messages.specs.MessageViews.{question_of, kept_lists}

map_after : {X Y Z : Type 0} (f : X → Y) (g : Y → Z) (xs : List X) → map (λ x. g (f x)) xs ≡ map g (map f xs)
map_after f g [] = refl
map_after f g (x ∷ xs) = ap (λ ys. g (f x) ∷ ys) (map_after f g xs)

-- what the definitions keep is what is kept of the lists of messages
pub kept_of_lists : (b : Bool) (ss : List Name) (ms : Name → List Tree) → kept_of (question_of b) ss ms ≡ kept_lists b (map ms ss)
kept_of_lists true ss ms = ap kept_by_process (map_after ms (each_process all_pids) ss)
kept_of_lists false ss ms = refl

pub kept_two : (b : Bool) (ms ns : List Tree) (mss nss : List (List Tree)) → kept_lists b (ms ∷ []) ≡ kept_lists b (ns ∷ []) → kept_lists b mss ≡ kept_lists b nss → kept_lists b (ms ∷ mss) ≡ kept_lists b (ns ∷ nss)
kept_two true ms ns mss nss e f =
    let first : each_process all_pids ms ≡ each_process all_pids ns = cc in
    let rest : map (each_process all_pids) mss ≡ map (each_process all_pids) nss = cc in
    λ i. kept_by_process (first i ∷ rest i)
kept_two false ms ns mss nss e f = cc
