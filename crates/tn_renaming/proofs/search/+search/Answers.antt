use Rattle.std.proofs.Common.{◌∙◌, [], ◌∷◌, map}
use Rattle.def_renaming.specs.Renaming.{with_prefix_pairs}
use Rattle.tn_renaming.specs.Pairs.{first_from, pair_seen, pairs_seen, lent_term_seen, lent_terms_seen}
use Rattle.tn_renaming.proofs.Searches.{found_here, given_by, no_more_lists, not_begun, passed_here, rest_goes_on, taken_back}
use Rattle.tn_renaming.proofs.search.+search.Goals as goal

pub extend_by_list-returns-then-not-found : goal.extend_by_list-returns-then-not-found
extend_by_list-returns-then-not-found g t c =
    let groups = map (lent_terms_seen {A = g.row.B.Denot} {B = g.row.A.Denot}) c.args.rest.now in
    let lists = map (lent_terms_seen {A = g.row.C.Denot} {B = g.row.A.Denot}) c.args.lists.now in
    let old = pairs_seen c.args.pairs.now in
    let given = with_prefix_pairs old (map (lent_term_seen {A = g.row.B.Denot}) c.args.group.now) (map (lent_term_seen {A = g.row.C.Denot}) c.args.list.now) in
    not_begun groups lists old (pairs_seen c.match_beginning.new.pairs) given c.in_ok-found.found c.if-not-found.true c.in_ok-found.ensures

pub extend_by_list-returns : goal.extend_by_list-returns
extend_by_list-returns g t c =
    let groups = map (lent_terms_seen {A = g.row.B.Denot} {B = g.row.A.Denot}) c.args.rest.now in
    let lists = map (lent_terms_seen {A = g.row.C.Denot} {B = g.row.A.Denot}) c.args.lists.now in
    let old = pairs_seen c.args.pairs.now in
    let given = with_prefix_pairs old (map (lent_term_seen {A = g.row.B.Denot}) c.args.group.now) (map (lent_term_seen {A = g.row.C.Denot}) c.args.list.now) in
    rest_goes_on c.extend_pairs.result groups lists old (pairs_seen c.match_beginning.new.pairs) (pairs_seen c.extend_pairs.new.pairs) given c.in_ok-found.found c.if-not-found.false c.in_ok-found.ensures c.extend_pairs.ensures

pub extend_pairs-returns-then-found : goal.extend_pairs-returns-then-found
extend_pairs-returns-then-found g t c =
    let l = c.loop-list in
    let view = lent_terms_seen {A = g.row.C.Denot} {B = g.row.A.Denot} in
    let rest = map (lent_terms_seen {A = g.row.B.Denot} {B = g.row.A.Denot}) c.in-Some.rest.now in
    let all = map (lent_terms_seen {A = g.row.B.Denot} {B = g.row.A.Denot}) c.args.groups.now in
    let lists = map view c.args.lists.now in
    let old = pairs_seen c.args.pairs.now in
    let new = pairs_seen c.extend_by_list.new.pairs in
    let group = lent_terms_seen {A = g.row.B.Denot} {B = g.row.A.Denot} c.in-Some.group.now in
    let leaves = given_by (lent_term_seen {A = g.row.B.Denot}) (lent_term_seen {A = g.row.C.Denot}) rest lists old (pairs_seen l.pairs) new c.as_slice.result.now c.in-Some.group.now.items c.as_slice-in-loop-list.result.now c.list-item.result.items
    c.in_ok-found.found l.invariant.pairs c.as_slice.ensures.value c.as_slice-in-loop-list.ensures.value c.in_ok-found.ensures in
    found_here view group rest lists old c.args.lists.now l.list-index c.list-item.result c.loop-list-test.true c.list-item.is new c.in_ok-found.found (first_from all lists (old ∷ [])) c.if-found.true leaves l.invariant.left

pub extend_pairs-loop-list-preserved : goal.extend_pairs-loop-list-preserved
extend_pairs-loop-list-preserved g t c =
    let l = c.loop-list in
    let view = lent_terms_seen {A = g.row.C.Denot} {B = g.row.A.Denot} in
    let rest = map (lent_terms_seen {A = g.row.B.Denot} {B = g.row.A.Denot}) c.in-Some.rest.now in
    let all = map (lent_terms_seen {A = g.row.B.Denot} {B = g.row.A.Denot}) c.args.groups.now in
    let lists = map view c.args.lists.now in
    let old = pairs_seen c.args.pairs.now in
    let new = pairs_seen c.extend_by_list.new.pairs in
    let group = lent_terms_seen {A = g.row.B.Denot} {B = g.row.A.Denot} c.in-Some.group.now in
    let leaves = given_by (lent_term_seen {A = g.row.B.Denot}) (lent_term_seen {A = g.row.C.Denot}) rest lists old (pairs_seen l.pairs) new c.as_slice.result.now c.in-Some.group.now.items c.as_slice-in-loop-list.result.now c.list-item.result.items
    c.in_ok-found.found l.invariant.pairs c.as_slice.ensures.value c.as_slice-in-loop-list.ensures.value c.in_ok-found.ensures in
    record {
      pairs = taken_back pair_seen c.args.pairs.now.items c.extend_by_list.new.pairs.items c.truncate.new.self.items c.len-before.result leaves.more (c.len-before.ensures ∙ c.args.pairs.now.ok.0) leaves.kept c.truncate.ensures.items;
      left = passed_here view group rest lists old c.args.lists.now l.list-index c.list-item.result c.loop-list-test.true c.list-item.is new c.in_ok-found.found (first_from all lists (old ∷ [])) c.if-found.false leaves l.invariant.left;
    }

pub extend_pairs-returns : goal.extend_pairs-returns
extend_pairs-returns g t c =
    let l = c.loop-list in
    let view = lent_terms_seen {A = g.row.C.Denot} {B = g.row.A.Denot} in
    let rest = map (lent_terms_seen {A = g.row.B.Denot} {B = g.row.A.Denot}) c.in-Some.rest.now in
    let all = map (lent_terms_seen {A = g.row.B.Denot} {B = g.row.A.Denot}) c.args.groups.now in
    let lists = map view c.args.lists.now in
    let old = pairs_seen c.args.pairs.now in
    let group = lent_terms_seen {A = g.row.B.Denot} {B = g.row.A.Denot} c.in-Some.group.now in
    no_more_lists view group rest lists old (pairs_seen l.pairs) c.args.lists.now l.list-index (first_from all lists (old ∷ [])) c.loop-list-test.false l.invariant.pairs l.invariant.left
