-- `charge` and `release` at a call: what each is handed, and what a caller has of it. Assumes `Logic`.
use Rattle.std.proofs.Common.{◌≡◌, ℕ, ◌^◌, ◌<◌, Bool, List, [], ◌∷◌, refl, ap, w64}
use seplogic.Ra.Ura.{Ura}
use mir.Val.{Val, vunit, vbool, vint, vptr}
use base.Logic.{SProp, ent, ex, sep, guard, id⊢}
use base.Fml.{Lft, Share, ftrue, fsep, flft}
use prog.Memory.{Memory}
use prog.Routine.{Routine}
use types.Logic.{Logic, sem}
use contract.Monad.{Fun}
use types.Kit.{‵, raw, ◌⊛◌, some, given, later, ◌$◌, ◌∵◌, !, qed, move, keep, use1, split, join, pick, show, fjoin, feq_i, flt_i, feq_l, check, await, learn, updating, now as at_once, done}
use denote.RattleType.{RattleType}
use denote.Memory.{hidden_shr}
use denote.Builtin.{bool, unit}
use denote.Steps.{nothing, only}
use denote.Triple.Statement.{Contract}
use denote.Triple.Spec.{triple_of}
use Rattle.std.proofs.Common.{true}
use Rattle.std.specs.Prelude.{◌≤◌}
use Rattle.tn_memory.specs.contracts.history.Account as AC
use Rattle.tn_memory.specs.contracts.history.charge as CH
use Rattle.tn_memory.specs.contracts.history.release as RL

abbrev pub Book : RattleType
Book = AC.the_row

module _ {M : Type 1} {𝓤 : Ura M} (𝓛 : Logic 𝓤) (at_mem : Memory → SProp 𝓤) (run : Routine → Fun 𝓤) where
  abbrev pub Charge : Contract 𝓤
  Charge = triple_of 𝓛 CH.signature (CH.spec 𝓛 at_mem run)

  abbrev pub at_charge : Lft → Share → ℕ × ℕ → Book.Denot → ℕ → Charge.Ghost
  at_charge κ q c b n = (((κ, tt), (q, tt), tt, (record { ref_ptr = c; now = b }, (n, tt)), (vptr c.0 c.1 ∷ [], (vint w64 n ∷ [], tt))), tt)

  abbrev pub Release : Contract 𝓤
  Release = triple_of 𝓛 RL.signature (RL.spec 𝓛 at_mem run)

  abbrev pub at_release : Lft → Share → ℕ × ℕ → Book.Denot → ℕ → Release.Ghost
  at_release κ q c b n = (((κ, tt), (q, tt), tt, (record { ref_ptr = c; now = b }, (n, tt)), (vptr c.0 c.1 ∷ [], (vint w64 n ∷ [], tt))), tt)

module _ {M : Type 1} {𝓤 : Ura M} (𝓛 : Logic 𝓤) (at_mem : Memory → SProp 𝓤) (run : Routine → Fun 𝓤) (κ : Lft) (q : Share) (c : ℕ × ℕ) (b : Book.Denot) (n : ℕ) where
  open 𝓛 use {H, A}

  pub Charge-goes : n < 2 ^ 64 → ent 𝓤 (sep 𝓤 (sem 𝓛 (hidden_shr Book κ b c.0 c.1)) (A.lft κ q)) ((Charge 𝓛 at_mem run).pre (at_charge 𝓛 at_mem run κ q c b n))
  Charge-goes fn =
      qed 𝓛 (‵ (hidden_shr Book κ b c.0 c.1) ∷ ‵ (flft κ q) ∷ []) ∵ nothing ! $ flt_i ! n (2 ^ 64) fn $ feq_i ! (List Val) (vint w64 n ∷ []) (vint w64 n ∷ []) refl $ fjoin ! $ fjoin ! $
      move ! (1 ∷ []) $ feq_i ! (List Val) (vptr c.0 c.1 ∷ []) (vptr c.0 c.1 ∷ []) refl $ fjoin ! $ fjoin ! $
      nothing ! $ move ! (2 ∷ []) $ join ! $ join ! $ nothing ! $ move ! (1 ∷ []) $ done !

  pub Release-goes : n < 2 ^ 64 → ent 𝓤 (sep 𝓤 (sem 𝓛 (hidden_shr Book κ b c.0 c.1)) (A.lft κ q)) ((Release 𝓛 at_mem run).pre (at_release 𝓛 at_mem run κ q c b n))
  Release-goes fn =
      qed 𝓛 (‵ (hidden_shr Book κ b c.0 c.1) ∷ ‵ (flft κ q) ∷ []) ∵ nothing ! $ flt_i ! n (2 ^ 64) fn $ feq_i ! (List Val) (vint w64 n ∷ []) (vint w64 n ∷ []) refl $ fjoin ! $ fjoin ! $
      move ! (1 ∷ []) $ feq_i ! (List Val) (vptr c.0 c.1 ∷ []) (vptr c.0 c.1 ∷ []) refl $ fjoin ! $ fjoin ! $
      nothing ! $ move ! (2 ∷ []) $ join ! $ join ! $ nothing ! $ move ! (1 ∷ []) $ done !

  pub Charge-gives : (v : Val) → ent 𝓤 ((Charge 𝓛 at_mem run).post (at_charge 𝓛 at_mem run κ q c b n) v) (H.⇛ (ex 𝓤 (λ (y : Bool). guard 𝓤 (v ≡ vbool y) (guard 𝓤 (y ≡ true → n ≤ b.most) (A.lft κ q)))))
  Charge-gives v =
      qed 𝓛 (raw ((Charge 𝓛 at_mem run).post (at_charge 𝓛 at_mem run κ q c b n) v) ∷ []) ∵ updating ! $
      use1 𝓛 (later (some (λ (r : Bool). ((‵ (flft κ q) ⊛ ‵ ftrue) ⊛ ‵ (bool.own_val r (v ∷ []))) ⊛ some (λ (ws : Unit {0} × (Unit {0} × Unit {0})). ‵ (fsep ftrue (fsep ftrue ftrue)) ⊛ given (r ≡ true → n ≤ b.most) (‵ ftrue))))) (id⊢ 𝓤 _) $ await ! tt $ pick ! (λ r.
      split ! $ split ! $ move ! (1 ∷ []) $ feq_l ! (λ e. split ! $ move ! (2 ∷ []) $ pick ! (λ ws. split ! $ move ! (1 ∷ []) $ learn ! (λ within. at_once !
      $ show ! (λ (y : Bool). guard 𝓤 (v ≡ vbool y) (guard 𝓤 (y ≡ true → n ≤ b.most) (A.lft κ q))) r $ check ! (ap only e) $ check ! within $ keep ! (2 ∷ []) $ done !))))

  pub Release-gives : (v : Val) → ent 𝓤 ((Release 𝓛 at_mem run).post (at_release 𝓛 at_mem run κ q c b n) v) (H.⇛ (guard 𝓤 (v ≡ vunit) (A.lft κ q)))
  Release-gives v =
      qed 𝓛 (raw ((Release 𝓛 at_mem run).post (at_release 𝓛 at_mem run κ q c b n) v) ∷ []) ∵ updating ! $
      use1 𝓛 (later (some (λ (r : Unit {0}). ((‵ (flft κ q) ⊛ ‵ ftrue) ⊛ ‵ (unit.own_val r (v ∷ []))) ⊛ some (λ (ws : Unit {0} × (Unit {0} × Unit {0})). ‵ (fsep ftrue (fsep ftrue ftrue)) ⊛ ‵ ftrue)))) (id⊢ 𝓤 _) $ await ! tt $ pick ! (λ r.
      split ! $ split ! $ move ! (1 ∷ []) $ feq_l ! (λ e. split ! $ at_once ! $ check ! (ap only e) $ keep ! (0 ∷ []) $ done !))
