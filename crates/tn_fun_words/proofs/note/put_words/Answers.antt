use Rattle.std.proofs.Common.{codes}
use Rattle.tn_fun.specs.Trees.{token_name}
use Rattle.tn_verdict.proofs.Pieces.{after_ok, put_ok}
use Rattle.tn_fun_words.proofs.note.put_words.Goals as goal

pub returns-in_ok-put_name-in-WholeInList : goal.returns-in_ok-put_name-in-WholeInList
returns-in_ok-put_name-in-WholeInList g c =
    rw c.in-WholeInList.is
    (after_ok c.extend_from_slice.result c.args.out.now.items (token_name c.args.bytes.now c.in-WholeInList.token) _ c.put_name.new.out.items c.extend_from_slice.new.self.items c.in_ok-put_name-in-WholeInList.ensures
    (put_ok c.extend_from_slice.result c.put_name.new.out.items _ c.extend_from_slice.new.self.items c.extend_from_slice.ensures.items))

pub returns-in-BindingsCalled : goal.returns-in-BindingsCalled
returns-in-BindingsCalled g c =
    rw c.in-BindingsCalled.is (put_ok c.extend_from_slice-in-BindingsCalled.result c.args.out.now.items _ c.extend_from_slice-in-BindingsCalled.new.self.items c.extend_from_slice-in-BindingsCalled.ensures.items)

pub returns-in_ok-extend_from_slice-in-TestEndsNode : goal.returns-in_ok-extend_from_slice-in-TestEndsNode
returns-in_ok-extend_from_slice-in-TestEndsNode g c =
    rw c.in-TestEndsNode.is
    (after_ok c.put_name-in-TestEndsNode.result c.args.out.now.items (codes "erlang:match_spec_test/3 of OTP 27 can end the node at ") (token_name c.args.bytes.now c.in-TestEndsNode.token) c.extend_from_slice-in-TestEndsNode.new.self.items c.put_name-in-TestEndsNode.new.out.items
    c.in_ok-extend_from_slice-in-TestEndsNode.ensures.items c.put_name-in-TestEndsNode.ensures)
