-- A function of its head and its body.
use Rattle.std.proofs.Common.{◌≡◌, ◌≤◌, Bool, List, length, Option, Some, None, refl, ap, ◌∙◌, arith}
use Rattle.std.specs.Prelude.{IfSome}
use Rattle.std.specs.declared.vec.Vec.{Vec}
use Rattle.def_term.specs.Names.{Name}
use Rattle.def_script.specs.Program.{Step, Form, declares}
use Rattle.def_script.specs.Shapes.{both, all_three, all_four, function_from}

abbrev pub declared_by : Option Name → Option Name → Option Bool → Option (List Name) → Option (List Step) → Option Form
declared_by om of oe op os = both (λ make ss. declares (make ss)) (all_four function_from om of oe op) os

abbrev pub head_of : Option Name → Option Name → Option Bool → Option (Name × Name × Bool)
head_of om of oe = all_three (λ m f e. (m, f, e)) om of oe

abbrev pub both_of : Option (List Name) → Option (List Step) → Option (List Name × List Step)
both_of op os = both (λ ps ss. (ps, ss)) op os

pub declared : (om of : Option Name) (oe : Option Bool) (op : Option (List Name)) (os : Option (List Step)) (h : Name × Name × Bool) (b : List Name × List Step)
    → Some h ≡ head_of om of oe → Some b ≡ both_of op os → Some (declares (function_from h.0 h.1 h.2 b.0 b.1)) ≡ declared_by om of oe op os
declared None of oe op os h b e i = cc
declared (Some m) None oe op os h b e i = cc
declared (Some m) (Some f) None op os h b e i = cc
declared (Some m) (Some f) (Some x) None os h b e i = cc
declared (Some m) (Some f) (Some x) (Some ps) None h b e i = cc
declared (Some m) (Some f) (Some x) (Some ps) (Some ss) h b e i =
    let heads : h ≡ (m, f, x) = cc in
    let bodies : b ≡ (ps, ss) = cc in
    ap (λ k. Some (declares (function_from k.0 k.1 k.2 b.0 b.1))) heads ∙ ap (λ k. Some (declares (function_from m f x k.0 k.1))) bodies

pub not_declared : (om of : Option Name) (oe : Option Bool) (op : Option (List Name)) (os : Option (List Step)) → None ≡ both_of op os → None ≡ declared_by om of oe op os
not_declared None of oe op os i = refl
not_declared (Some m) None oe op os i = refl
not_declared (Some m) (Some f) None op os i = refl
not_declared (Some m) (Some f) (Some x) None os i = refl
not_declared (Some m) (Some f) (Some x) (Some ps) None i = refl
not_declared (Some m) (Some f) (Some x) (Some ps) (Some ss) i = cc

pub few_still : {A : Type 0} (o : Option (Vec Name A)) (xs : List Name) → IfSome o (λ v. v.items ≡ xs) → length xs ≤ 255 → IfSome o (λ v. length v.items ≤ 255)
few_still None xs h few = h
few_still (Some v) xs h few = omega (arith, ap length h)

pub headless : (om of : Option Name) (oe : Option Bool) (op : Option (List Name)) (os : Option (List Step)) → None ≡ head_of om of oe → None ≡ declared_by om of oe op os
headless None of oe op os e = refl
headless (Some m) None oe op os e = refl
headless (Some m) (Some f) None op os e = refl
headless (Some m) (Some f) (Some x) op os e = cc
