-- The frames of a process, the newest first; its links; and the processes of a run.
use Rattle.std.proofs.Common.{◌≡◌, ◌∙◌, ℕ, suc, ◌+◌, ◌-◌, ◌<◌, ◌≤◌, Bool, true, false, List, [], ◌∷◌, ◌++◌, length, take, drop, get_or, map, reverse, Option, refl, sym, ap, append_assoc, append-nil, arith}
use Rattle.std.proofs.lemmas.List.{drop_all, drop_more, take_more, length-take-le, length-map, length-reverse, map-append, reverse-append}
use Rattle.def_script.specs.Program.{Function}
use Rattle.def_term.specs.Tree.{Tree, pid}
use Rattle.def_node.specs.Node.{partner_pids}
use Rattle.def_node.specs.Process.{Frame, Process}
use Rattle.def_state.specs.Lines.{terms_line}
use Rattle.def_state.specs.ProcessTexts.{function_terms, frame_line, frames_text, oldest_function, process_text, processes_text}
use Rattle.tn_state.specs.Processes.{pid_where}

-- the oldest frame is the last
pub oldest_last : (ks : List Function) (fs : List Frame) (f : Frame) → oldest_function ks (fs ++ f ∷ []) ≡ function_terms ks f.function
oldest_last ks [] f = refl
oldest_last ks (g ∷ []) f = refl
oldest_last ks (g ∷ h ∷ fs) f = oldest_last ks (h ∷ fs) f

-- so it is the first of frames whose newest is the last
pub first_of_frames : {X : Type 0} (ks : List Function) (of : X → Frame) (xs : List X) (x : X) → 0 < length xs → x ≡ get_or xs 0 x → oldest_function ks (reverse (map of xs)) ≡ function_terms ks (of x).function
first_of_frames ks of [] x some is = absurd (omega (arith, some))
first_of_frames ks of (y ∷ ys) x some is =
    ap (oldest_function ks) (reverse-append (of y ∷ []) (map of ys)) ∙ oldest_last ks (reverse (map of ys)) (of y) ∙ ap (λ z. function_terms ks (of z).function) (sym is)

pub no_frames : {X : Type 0} (ks : List Function) (of : X → Frame) (xs : List X) → length xs ≡ 0 → oldest_function ks (reverse (map of xs)) ≡ []
no_frames ks of [] none = refl
no_frames ks of (y ∷ ys) none = absurd (omega (arith, none))

-- ---- the terms of a frame, pushed one after the other

pub frame_pushed : {X : Type 0} (seen : X → Tree) (none first two all : List X) (x : X) (fs : List Tree) (s : Tree) (vs : List Tree) → none ≡ [] → map seen first ≡ map seen none ++ fs → two ≡ first ++ x ∷ [] → seen x ≡ s
    → map seen all ≡ map seen two ++ vs → map seen all ≡ fs ++ s ∷ vs
frame_pushed seen none first two all x fs s vs empty began added is last =
    last
    ∙ ap (λ ts. ts ++ vs) (ap (map seen) added ∙ map-append seen first (x ∷ []) ∙ ap (λ ts. ts ++ seen x ∷ []) (began ∙ ap (λ ts. map seen ts ++ fs) empty))
    ∙ append_assoc fs (seen x ∷ []) vs
    ∙ ap (λ u. fs ++ u ∷ vs) is

-- ---- a loop from the newest frame down

module _ {X : Type 0} (ks : List Function) (of : X → Frame) (xs : List X) (d : ℕ) (x : X) where
  -- the frames at depths up to this one, the newest first
  front : 0 < d → d ≤ length xs → x ≡ get_or xs (d - 1) x → reverse (map of (take d xs)) ≡ of x ∷ reverse (map of (take (d - 1) xs))
  front some within is =
      let back : (d - 1) + 1 ≡ d = omega (arith, some) in
      let below : d - 1 < length xs = omega (arith, some, within) in
      ap (λ n. reverse (map of (take n xs))) (sym back)
      ∙ ap (λ ys. reverse (map of ys)) (take_more xs (d - 1) x below)
      ∙ ap reverse (map-append of (take (d - 1) xs) (get_or xs (d - 1) x ∷ []))
      ∙ reverse-append (map of (take (d - 1) xs)) (of (get_or xs (d - 1) x) ∷ [])
      ∙ ap (λ y. of y ∷ reverse (map of (take (d - 1) xs))) (sym is)

  size : 0 < d → d ≤ length xs → length (reverse (map of (take (d - 1) xs))) + 1 ≡ d
  size some within =
      let below : d - 1 ≤ length xs = omega (arith, some, within) in
      let n : length (reverse (map of (take (d - 1) xs))) ≡ d - 1 = length-reverse (map of (take (d - 1) xs)) ∙ length-map (take (d - 1) xs) of ∙ length-take-le (d - 1) xs below in
      omega (arith, some, n)

  pub one_frame : (a b z : List ℕ) → 0 < d → d ≤ length xs → x ≡ get_or xs (d - 1) x → a ++ frames_text ks (reverse (map of (take d xs))) ≡ z → b ≡ a ++ terms_line (frame_line ks (of x) d)
      → b ++ frames_text ks (reverse (map of (take (d - 1) xs))) ≡ z
  one_frame a b z some within is so_far text =
      let rest : List Frame = reverse (map of (take (d - 1) xs)) in
      let here : List ℕ = terms_line (frame_line ks (of x) d) in
      ap (λ y. y ++ frames_text ks rest) text
      ∙ append_assoc a here (frames_text ks rest)
      ∙ ap (λ n. a ++ (terms_line (frame_line ks (of x) n) ++ frames_text ks rest)) (sym (size some within))
      ∙ ap (λ fs. a ++ frames_text ks fs) (sym (front some within is))
      ∙ so_far

-- ---- the links

linked : (b : Bool) (n : ℕ) (bs : List Bool) → pid_where b n ++ map pid (partner_pids (suc n) bs) ≡ map pid (partner_pids n (b ∷ bs))
linked true n bs = refl
linked false n bs = refl

pub one_link : (links : List Bool) (place : ℕ) (none : Bool) (old new z : List Tree) → place < length links → old ++ map pid (partner_pids (100 + place) (drop place links)) ≡ z → new ≡ old ++ pid_where (get_or links place none) (100 + place)
    → new ++ map pid (partner_pids (100 + (place + 1)) (drop (place + 1) links)) ≡ z
one_link links place none old new z below so_far added =
    let left : List Bool = drop (place + 1) links in
    let here : Bool = get_or links place none in
    let rest : List Tree = map pid (partner_pids (suc (100 + place)) left) in
    let next : 100 + (place + 1) ≡ suc (100 + place) = omega arith in
    ap (λ n. new ++ map pid (partner_pids n left)) next
    ∙ ap (λ ts. ts ++ rest) added
    ∙ append_assoc old (pid_where here (100 + place)) rest
    ∙ ap (λ ts. old ++ ts) (linked here (100 + place) left)
    ∙ ap (λ bs. old ++ map pid (partner_pids (100 + place) bs)) (sym (drop_more links place none below))
    ∙ so_far

pub no_link : (links : List Bool) (place : ℕ) (old z : List Tree) → length links ≤ place → old ++ map pid (partner_pids (100 + place) (drop place links)) ≡ z → old ≡ z
no_link links place old z past so_far = sym (append-nil old) ∙ ap (λ bs. old ++ map pid (partner_pids (100 + place) bs)) (sym (drop_all place links past)) ∙ so_far

-- ---- a loop over processes

pub one_process : {X : Type 0} (ks : List Function) (of : X → Option Process) (slots : List X) (place : ℕ) (x : X) (a b z : List ℕ) → place < length slots → x ≡ get_or slots place x
    → a ++ processes_text ks (100 + place) (map of (drop place slots)) ≡ z → b ≡ a ++ process_text ks (100 + place) (of x) → b ++ processes_text ks (100 + (place + 1)) (map of (drop (place + 1) slots)) ≡ z
one_process ks of slots place x a b z below is so_far text =
    let left : List (Option Process) = map of (drop (place + 1) slots) in
    let rest : List ℕ = processes_text ks (suc (100 + place)) left in
    let here : List ℕ = process_text ks (100 + place) (of x) in
    let next : 100 + (place + 1) ≡ suc (100 + place) = omega arith in
    ap (λ n. b ++ processes_text ks n left) next
    ∙ ap (λ t. t ++ rest) text
    ∙ append_assoc a here rest
    ∙ ap (λ y. a ++ processes_text ks (100 + place) (of y ∷ left)) is
    ∙ ap (λ ys. a ++ processes_text ks (100 + place) (map of ys)) (sym (drop_more slots place x below))
    ∙ so_far
