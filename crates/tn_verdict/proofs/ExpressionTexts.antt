-- The texts of spelled expressions.
use Rattle.std.proofs.Common.{◌≡◌, ◌∙◌, ℕ, List, Result, OnOk, false, [], ◌∷◌, ◌++◌, if◌then◌else◌, codes, refl, sym, ap, append_assoc, append-nil}
use Rattle.def_term.specs.Tree.{Tree, tuple, list, Trees, more, none}
use Rattle.def_term.specs.Names.{Name, word}
use Rattle.def_term.specs.Text.{w, comma_list, each_after_comma, atom_text, is_written_bare}
use Rattle.def_spec.specs.Expressions as ex
use Rattle.def_explain.specs.Spellings.{reads_as_itself, constant_spelling, named_tuple, spelling}
use Rattle.tn_spec.specs.Views.{expr_seen}
use Rattle.tn_spec.specs.declared.expr.Expr.{Expr}
use Rattle.tn_verdict.proofs.Pieces.{read_as}

-- the text of what an expression is seen as is its text
pub spelled : {A T E : Type 0} (e : Expr A) (f : ex.Expr) (done : Result T E) (o x d : List ℕ) → expr_seen e ≡ f → x ≡ w (spelling f) → OnOk done (d ≡ o ++ x) → OnOk done (d ≡ o ++ w (spelling (expr_seen e)))
spelled e f done o x d is same h = read_as done o x (w (spelling (expr_seen e))) d (same ∙ ap (λ g. w (spelling g)) (sym is)) h

pub constant_text : (t : Tree) → reads_as_itself t ≡ false → codes "{const," ++ (w t ++ 125 ∷ []) ≡ w (constant_spelling t)
unfolding is_written_bare
constant_text t e =
    sym (ap (λ q. w (if q then t else tuple (more (word "const") (more t none)))) e
    ∙ ap (λ l. codes "{const," ++ (l ++ 125 ∷ [])) (append-nil (w t)))

pub tuple_text : (ts : Trees) → 123 ∷ 123 ∷ (comma_list ts ++ 125 ∷ 125 ∷ []) ≡ w (tuple (more (tuple ts) none))
tuple_text ts = ap (λ l. 123 ∷ 123 ∷ l) (sym (ap (λ l. l ++ 125 ∷ []) (append-nil (comma_list ts ++ 125 ∷ [])) ∙ append_assoc (comma_list ts) (125 ∷ []) (125 ∷ [])))

pub list_text : (ts : Trees) → 91 ∷ (comma_list ts ++ 93 ∷ []) ≡ w (list ts)
list_text ts = refl

pub named_text : (text : List ℕ) (s : Name) (ts : Trees) → text ≡ atom_text s → 123 ∷ (text ++ (each_after_comma ts ++ 125 ∷ [])) ≡ w (named_tuple s ts)
named_text text s ts e = ap (λ l. 123 ∷ (l ++ (each_after_comma ts ++ 125 ∷ []))) e ∙ ap (λ l. 123 ∷ l) (sym (append_assoc (atom_text s) (each_after_comma ts) (125 ∷ [])))

pub and_also_text : codes "'andalso'" ≡ atom_text (codes "andalso")
unfolding is_written_bare
and_also_text = refl

pub or_else_text : codes "'orelse'" ≡ atom_text (codes "orelse")
unfolding is_written_bare
or_else_text = refl

pub whole_list_text : codes "'$_'" ≡ w (word "$_")
unfolding is_written_bare
whole_list_text = refl

pub all_bound_text : codes "'$$'" ≡ w (word "$$")
unfolding is_written_bare
all_bound_text = refl
