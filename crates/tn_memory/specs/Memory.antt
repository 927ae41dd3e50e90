-- What an allocator with a bound is made of (own): the allocator below it, and the bound.
use Rattle.std.specs.Prelude.{ℕ, ◌≤◌}
use mir.Syntax.{Ty}
use base.Fml.{Fml, fex}
use prog.Memory.{size, capped}
use denote.RawPtr.{Ptr}
use Rattle.tn_memory.specs.declared.within_memory.WithinMemory.{WithinMemory}

-- the allocator whose blocks it gives
abbrev pub memory_inner : {B : Type 0} → WithinMemory B → B
memory_inner heap = heap.inner

-- how many bytes may be in use
abbrev pub memory_most : {B : Type 0} → WithinMemory B → ℕ
memory_most heap = heap.account.most

-- a block for a value of this type has no more bytes than may be in use
abbrev pub IsWithinMost : {B : Type 0} → WithinMemory B → Ty → Type 0
IsWithinMost heap ty = capped (size ty) ≤ memory_most heap

-- the right to free a block is the inner allocator's, and the block has no more bytes than may be in use
abbrev pub within_token : {B : Type 0} → (B → Ty → Ptr → Fml) → WithinMemory B → Ty → Ptr → Fml
within_token holds heap ty ptr = fex (IsWithinMost heap ty) (λ _. holds heap.inner ty ptr)
