use Rattle.std.proofs.Common.{take}
use Rattle.keys.proofs.Names.{PackedSoFar}
use Rattle.keys.proofs.name.Name.new.Given as goal

abbrev pub invariant-loop-byte : goal.invariant-loop-byte
invariant-loop-byte l = PackedSoFar (take l.byte-index l.text) l.letters l.folded
