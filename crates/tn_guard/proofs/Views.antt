-- What each kind of value is seen as, for the crates above.
use Rattle.std.proofs.Common.{◌≡◌, ℕ, ℤ, List, rules}
use Rattle.std.specs.Borrow.{Bor}
use Rattle.def_term.specs.Tree.{int, atom, pid, tuple, list}
use Rattle.tn_term.specs.Views.{tree_of, trees_of}
use Rattle.tn_term.specs.declared.term.Term.{Term}
use Rattle.tn_guard.specs.declared.value.AtomConst.{AtomConst}
use Rattle.tn_guard.specs.declared.value.Value as value
use Rattle.tn_guard.specs.declared.value.Value.{Value}
use Rattle.tn_guard.specs.Views.{atom_const_seen, value_seen, values_seen}

pub value_seen_lent : {A : Type 0} (t : Bor (Term A)) → value_seen (value.Lent t) ≡ tree_of t.now
value_seen_lent t = search (rules, value.the_lemmas)

pub value_seen_rest : {A : Type 0} (ts : Bor (List (Term A))) → value_seen (value.Rest ts) ≡ list (trees_of ts.now)
value_seen_rest ts = search (rules, value.the_lemmas)

pub value_seen_name : (A : Type 0) (s : Bor (List ℕ)) → value_seen {A = A} (value.Name s) ≡ atom s.now
value_seen_name A s = search (rules, value.the_lemmas)

pub value_seen_int : (A : Type 0) (n : ℤ) → value_seen {A = A} (value.Int n) ≡ int n
value_seen_int A n = search (rules, value.the_lemmas)

pub value_seen_pid : (A : Type 0) (n : ℕ) → value_seen {A = A} (value.Pid n) ≡ pid n
value_seen_pid A n = search (rules, value.the_lemmas)

pub value_seen_word : (A : Type 0) (w : AtomConst) → value_seen {A = A} (value.AtomConst w) ≡ atom_const_seen w
value_seen_word A w = search (rules, value.the_lemmas)

pub value_seen_tuple : {A : Type 0} (vs : Bor (List (Value A))) → value_seen (value.Tuple vs) ≡ tuple (values_seen vs.now)
value_seen_tuple vs = search (rules, value.the_lemmas)

pub value_seen_list : {A : Type 0} (vs : Bor (List (Value A))) → value_seen (value.List vs) ≡ list (values_seen vs.now)
value_seen_list vs = search (rules, value.the_lemmas)
