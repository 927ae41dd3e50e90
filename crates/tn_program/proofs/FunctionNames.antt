-- Functions that are named, by equal parts.
use Rattle.std.proofs.Common.{◌≡◌, ℕ, length, map, sym, ap, ◌∙◌, vec_len}
use Rattle.std.specs.declared.vec.Vec.{Vec}
use Rattle.std.proofs.lemmas.List.{length-map}
use Rattle.def_term.specs.Names.{Name, Mfa, mfa_from}
use Rattle.tn_term.specs.Views.{tree_of}
use Rattle.tn_term.specs.declared.term.Term.{Term}

pub args_count : {A : Type 0} (v : Vec (Term A) A) (n : ℕ) → n ≡ vec_len v → n ≡ length (map tree_of v.items)
args_count v n e = e ∙ v.ok.0 ∙ sym (length-map v.items tree_of)

pub same_named : {X : Type 0} (p : Mfa → X) (m k f h : Name) (a b : ℕ) → m ≡ k → f ≡ h → a ≡ b → p (mfa_from m f a) ≡ p (mfa_from k h b)
same_named p m k f h a b e d c = ap (λ x. p (mfa_from x f a)) e ∙ ap (λ x. p (mfa_from k x a)) d ∙ ap (λ x. p (mfa_from k h x)) c
