use Rattle.std.proofs.Common.{Ok}
use lib.Utf8.{encodes}
use Rattle.std.specs.Fmt.{WritesOnOk}
use Rattle.keys.proofs.name.write_letters.Given as goal

abbrev pub invariant-loop-byte : goal.invariant-loop-byte
invariant-loop-byte g l = WritesOnOk g.W.Write.write_str_gives l.initial.f (Ok tt) (encodes l.yielded) l.f
