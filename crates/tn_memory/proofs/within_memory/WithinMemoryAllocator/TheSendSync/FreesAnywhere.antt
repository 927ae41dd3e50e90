use mir.Syntax.{Dict}
use denote.RattleType.{RattleType}
use denote.Param.Send.{Frees}
use Rattle.std.specs.declared.alloc.Allocator.{Ghosts}
use Rattle.tn_memory.specs.contracts.within_memory.WithinMemoryAllocator.TheImpl.{ghosts}

pub frees : (B : RattleType) (g : Ghosts B.Denot) (d e : Dict) → Frees g g.dealloc_token → Frees (ghosts B g d e) (ghosts B g d e).dealloc_token
frees B g d e f = record { frees = λ h τ p within. f.frees h.inner τ p }
