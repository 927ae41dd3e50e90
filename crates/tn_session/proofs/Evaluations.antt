-- What is evaluated, by flags and marks.
use Rattle.std.proofs.Common.{◌≡◌, ◌∙◌, ℕ, true, false, if◌then◌else◌, List, [], ◌∷◌, map, Option, None, Bor, sym, ap, ap₂}
use Rattle.def_term.specs.Tree.{pid}
use Rattle.def_term.specs.Names.{word}
use Rattle.def_spec.specs.Expressions.{Effect}
use Rattle.def_spec.specs.Flags.{Flag}
use Rattle.def_session.specs.State.{MarkKind, Session, flags_at, mark_of}
use Rattle.def_session.specs.Session.{where_set, where_marked, is_for_exceptions, is_marked_for_exceptions}
use Rattle.tn_term.specs.Views.{tree_of}
use Rattle.tn_term.specs.declared.term.Term.{Term}
use Rattle.tn_guard.specs.Views.{value_seen}
use Rattle.tn_guard.specs.declared.value.AtomConst.TheVariants as words
use Rattle.tn_guard.specs.declared.value.Value as value
use Rattle.tn_guard.proofs.Views.{value_seen_lent, value_seen_pid, value_seen_word}
use Rattle.tn_flags.specs.Views.{flags_of}
use Rattle.tn_flags.specs.declared.flags.Flags.{Flags}

-- a process without the flag
pub not_set : (s : Session) (p : ℕ) (x : Flag) (f : Flags) (r : Option (List Effect)) → flags_of f ≡ flags_at s p → flags_of f x ≡ false → None ≡ where_set s p x r
not_set s p x f r are e = ap (λ b. if b then r else None) (sym e ∙ ap (λ h. h x) are)

-- and one with it
pub is_set : (s : Session) (p : ℕ) (x : Flag) (f : Flags) (q r : Option (List Effect)) → flags_of f ≡ flags_at s p → flags_of f x ≡ true → q ≡ r → q ≡ where_set s p x r
is_set s p x f q r are e same = same ∙ ap (λ b. if b then r else None) (sym e ∙ ap (λ h. h x) are)

-- an exception, by the mark of the frame that it leaves
pub raise_case : (s : Session) (p depth : ℕ) (k : Option MarkKind) → k ≡ mark_of s p depth → where_marked s p (is_for_exceptions k) ≡ where_marked s p (is_marked_for_exceptions s p depth)
raise_case s p depth k is = ap (λ x. where_marked s p (is_for_exceptions x)) is

-- the lists that are matched
pub list_of_send : {A : Type 0} (to : ℕ) (t : Bor (Term A)) → map value_seen (value.Pid to ∷ value.Lent t ∷ []) ≡ pid to ∷ tree_of t.now ∷ []
list_of_send {A} to t = ap₂ (λ a b. a ∷ b ∷ []) (value_seen_pid A to) (value_seen_lent t)

pub list_of_receive : {A : Type 0} (sender : ℕ) (t : Bor (Term A)) → map value_seen (value.AtomConst words.Node ∷ value.Pid sender ∷ value.Lent t ∷ []) ≡ word "nonode@nohost" ∷ pid sender ∷ tree_of t.now ∷ []
list_of_receive {A} sender t = ap₂ (λ a b. a ∷ b) (value_seen_word A words.Node) (list_of_send sender t)
