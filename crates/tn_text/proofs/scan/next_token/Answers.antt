use Rattle.std.proofs.Common.{◌≡◌, ℕ, ◌≤◌, List, length, take, drop, Option, Some, None, IfSome, IfNone, sym, subst}
use Rattle.def_text.specs.Tokens.{HasNoToken}
use Rattle.def_text.specs.Scan.{token_at, IsFound}
use Rattle.def_text.proofs.TokenSound.{SoundAt, sound, found_at}
use Rattle.def_text.proofs.TokenComplete.{none_there}
use Rattle.tn_text.specs.declared.scan.Kind.{Kind}
use Rattle.tn_text.specs.Kinds.{kind_of, found_of}
use Rattle.tn_text.proofs.scan.next_token.Goals as goal

stands_there : (bytes : List ℕ) (o : Option (Kind × ℕ)) → SoundAt bytes (found_of o) → IfSome o (λ p. p.1 ≤ length bytes) → IfSome o (λ p. (p.1 ≤ length bytes) × IsFound (kind_of p.0) (take p.1 bytes) (drop p.1 bytes))
stands_there bytes None s fits = tt
stands_there bytes (Some p) s fits = (fits, found_at bytes (kind_of p.0) p.1 s)

none_of : (bytes : List ℕ) (o : Option (Kind × ℕ)) → found_of o ≡ token_at bytes → IfNone o (HasNoToken bytes)
none_of bytes None e = none_there bytes (sym e)
none_of bytes (Some p) e = tt

pub returns-clause-found : goal.returns-clause-found
returns-clause-found c = let bytes = c.args.bytes.now in stands_there bytes c.front_token.result (subst (SoundAt bytes) (sym c.front_token.ensures.value) (sound bytes)) c.front_token.ensures.fits

pub returns-clause-none : goal.returns-clause-none
returns-clause-none c = none_of c.args.bytes.now c.front_token.result c.front_token.ensures.value
