use Rattle.std.proofs.Common.{◌+◌, false, drop, map, arith}
use Rattle.def_renaming.specs.Renaming.{with_term_pairs, with_prefix_pairs}
use Rattle.tn_renaming.specs.Pairs.{pairs_seen, lent_term_seen}
use Rattle.tn_renaming.proofs.Matches.{leaf, goes_on, stops, begun_here, too_short}
use Rattle.tn_renaming.proofs.terms.match_beginning.Goals as goal

pub returns-then-here-there : goal.returns-then-here-there
returns-then-here-there g c =
    let old = pairs_seen c.args.pairs.now in
    let xs = c.args.there.now in
    let ys = c.args.here.now in
    let f = lent_term_seen {A = g.row.B.Denot} in
    let h = lent_term_seen {A = g.row.C.Denot} in
    leaf old (with_prefix_pairs old (map f xs) (map h ys)) false (too_short f h xs ys old (omega arith))

pub returns-then-not-found : goal.returns-then-not-found
returns-then-not-found g c =
    let l = c.loop-i in
    let xs = c.args.there.now in
    let ys = c.args.here.now in
    let x = c.index-there-i.result in
    let y = c.index-here-i.result in
    let old = pairs_seen c.args.pairs.now in
    let now = pairs_seen l.pairs in
    let f = lent_term_seen {A = g.row.B.Denot} in
    let h = lent_term_seen {A = g.row.C.Denot} in
    stops old (with_prefix_pairs old (map f xs) (map h ys)) now (pairs_seen c.match_term.new.pairs) (with_prefix_pairs now (map f (drop l.i xs)) (map h (drop l.i ys)))
    (λ qs. with_prefix_pairs qs (map f (drop (l.i + 1) xs)) (map h (drop (l.i + 1) ys))) (with_term_pairs now (f x) (h y)) c.in_ok-found.found
    c.if-not-found.true (begun_here f h xs ys l.i x y now (omega arith) (omega arith) c.index-there-i.is c.index-here-i.is) c.in_ok-found.ensures l.invariant.on

pub loop-i-preserved : goal.loop-i-preserved
loop-i-preserved g c =
    let l = c.loop-i in
    let xs = c.args.there.now in
    let ys = c.args.here.now in
    let x = c.index-there-i.result in
    let y = c.index-here-i.result in
    let old = pairs_seen c.args.pairs.now in
    let now = pairs_seen l.pairs in
    let f = lent_term_seen {A = g.row.B.Denot} in
    let h = lent_term_seen {A = g.row.C.Denot} in
    record {
      lengths = l.invariant.lengths;
      on = goes_on old (with_prefix_pairs old (map f xs) (map h ys)) now (pairs_seen c.match_term.new.pairs) (with_prefix_pairs now (map f (drop l.i xs)) (map h (drop l.i ys)))
          (λ qs. with_prefix_pairs qs (map f (drop (l.i + 1) xs)) (map h (drop (l.i + 1) ys))) (with_term_pairs now (f x) (h y)) c.in_ok-found.found
          c.if-not-found.false (begun_here f h xs ys l.i x y now (omega arith) (omega arith) c.index-there-i.is c.index-here-i.is) c.in_ok-found.ensures l.invariant.on;
    }
