use Rattle.std.proofs.Common.{◌≡◌, replicate, vec_items}
use Rattle.router.proofs.memory.filled.Given as goal

abbrev pub invariant-loop-i : goal.invariant-loop-i
invariant-loop-i g l = vec_items l.memory ≡ replicate l._i l.value
