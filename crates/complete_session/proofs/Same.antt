-- Two answers of sessions that are in one state.
use Rattle.std.proofs.Common.{◌≡◌, ◌∙◌, ℕ, Option, Some, None, IsSomeAnd, Result, Ok, Err, IfOk, sym, ap}
use Rattle.def_session.specs.State as definition
use Rattle.tn_session.specs.Sessions.{SessionValue, next_session}

-- what the definition gives in this state
abbrev pub Gives : {T : Type 0} → Option SessionValue → (SessionValue → definition.Session × T) → Option SessionValue × T → Type 0
Gives v f r = IsSomeAnd v (λ s. next_session s (f s) ≡ r)

one_given : {T : Type 0} (v : Option SessionValue) (f : SessionValue → definition.Session × T) (r q : Option SessionValue × T) → Gives v f r → Gives v f q → r ≡ q
one_given None f r q h i = absurd h
one_given (Some s) f r q h i = sym h ∙ i

pub same_given : {Y T E : Type 0} (see : Y → T) (v : Option SessionValue) (f : SessionValue → definition.Session × T) (one other : Option SessionValue) (r q : Result Y E)
    → IfOk r (λ y. Gives v f (one, see y)) → IfOk q (λ y. Gives v f (other, see y)) → IfOk r (λ t. IfOk q (λ u. (one ≡ other) × (see t ≡ see u)))
same_given {Y} {T} see v f one other (Ok t) (Ok u) h i =
    let e = one_given v f (one, see t) (other, see u) h i in (ap (λ (z : Option SessionValue × T). z.0) e, ap (λ (z : Option SessionValue × T). z.1) e)
same_given see v f one other (Ok t) (Err e) h i = tt
same_given see v f one other (Err e) q h i = tt

-- whatever number of processes is given
pub of_any : {Y T E : Type 0} (see : Y → T) (v : Option SessionValue) (f : ℕ → SessionValue → definition.Session × T) (one : Option SessionValue) (r : Result Y E)
    → IfOk r (λ y. IsSomeAnd v (λ s. (n : ℕ) → next_session s (f n s) ≡ (one, see y))) → IfOk r (λ y. Gives v (f 0) (one, see y))
of_any see None f one (Ok y) h = h
of_any see (Some s) f one (Ok y) h = h 0
of_any see v f one (Err e) h = h

-- each answer that there is says the same of the same
pub same_where_both : {X T E : Type 0} (see : X → T) (a b : T) → a ≡ b → (r q : Result X E)
    → IfOk r (λ x. see x ≡ a) → IfOk q (λ x. see x ≡ b) → IfOk r (λ x. IfOk q (λ y. see x ≡ see y))
same_where_both see a b e (Ok x) (Ok y) h i = h ∙ e ∙ sym i
same_where_both see a b e (Ok x) (Err f) h i = tt
same_where_both see a b e (Err f) q h i = tt
