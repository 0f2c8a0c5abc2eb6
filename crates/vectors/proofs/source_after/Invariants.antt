use Rattle.std.proofs.Common.{◌≡◌}
use Rattle.vectors.proofs.source_after.Given as goal

abbrev pub invariant-loop-word : goal.invariant-loop-word
invariant-loop-word l = l.rng.counter ≡ l._word
