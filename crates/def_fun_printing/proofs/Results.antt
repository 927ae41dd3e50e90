-- What a result is, and what goes on with it.
use Rattle.std.proofs.Common.{◌≡◌, Bool, true, false, ◌||◌, Result, Ok, Err, refl}
use Rattle.def_spec.specs.Reading.{Reads, then_read}
use Rattle.def_fun.specs.FunTexts.{OrReason, NoFun, then_print, then_clause}

pub same_ok : {X E : Type 0} (x y : X) → ◌≡◌ {A = Result X E} (Ok x) (Ok y) → x ≡ y
same_ok x y h = cc

pub no_ok : {X E : Type 0} (e : E) (x : X) → ◌≡◌ {A = Result X E} (Err e) (Ok x) → ⊥
no_ok e x h = absurd (cc)

pub print_ok : {X Y : Type 0} (r : OrReason X) (f : X → OrReason Y) (y : Y) → then_print r f ≡ Ok y → (x : X) × (r ≡ Ok x) × (f x ≡ Ok y)
print_ok (Ok x) f y h = (x, refl, h)
print_ok (Err e) f y h = absurd (cc)

pub clause_ok : {X Y : Type 0} (r : Result X NoFun) (f : X → Result Y NoFun) (y : Y) → then_clause r f ≡ Ok y → (x : X) × (r ≡ Ok x) × (f x ≡ Ok y)
clause_ok (Ok x) f y h = (x, refl, h)
clause_ok (Err e) f y h = absurd (cc)

pub read_ok : {X Y : Type 0} (r : Reads X) (f : X → Reads Y) (y : Y) → then_read r f ≡ Ok y → (x : X) × (r ≡ Ok x) × (f x ≡ Ok y)
read_ok (Ok x) f y h = (x, refl, h)
read_ok (Err e) f y h = absurd (cc)

pub neither : (a b : Bool) → (a || b) ≡ false → (a ≡ false) × (b ≡ false)
neither true b h = absurd (let no : true ≡ false = h in cc)
neither false b h = (refl, h)
