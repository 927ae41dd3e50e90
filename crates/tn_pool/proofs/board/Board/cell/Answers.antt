use Rattle.std.proofs.Common.{◌≡◌, ◌∙◌, ◌<◌, suc, length, map, vec_len, sym, ap, subst, arith}
use Rattle.std.proofs.lemmas.Bool.{ltb-true}
use Rattle.tn_pool.specs.Boards.{HasPlace}
use Rattle.tn_pool.proofs.BoardPlaces.{if_some, placed}
use Rattle.tn_pool.proofs.board.Board.cell.Goals as goal

pub returns : goal.returns
returns g c =
    if_some c.get-2.result (λ found.
    let within : c.args.index < length c.deref-2.result.now = ltb-true _ _ (sym c.get-2.ensures.lookup.0 ∙ found) in
    let inside : c.in_ok-number.number < length c.deref.result.now = ltb-true _ _ (sym c.in_ok-get.ensures.lookup.0) in
    let numbered : c.args.session ≡ suc c.in_ok-number.number = omega (arith, c.in_ok-number.ensures) in
    let rows : map vec_len c.deref.result.now ≡ map vec_len c.self.inside.rows.items = ap (map vec_len) c.deref.ensures.value in
    let view : map vec_len c.self.inside.rows.items ≡ c.args.self.now = c.self.view_is in
    subst (λ board. HasPlace board c.args.session c.args.index) (rows ∙ view)
    (placed vec_len _ c.args.session c.in_ok-number.number c.args.index _ c.in_ok-get.field-0.now numbered inside c.in_ok-get.ensures.lookup.1 (omega (arith, within, c.deref-2.ensures.len))))
