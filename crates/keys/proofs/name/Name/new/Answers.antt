use Rattle.std.proofs.Common.{sym}
use Rattle.keys.proofs.Names.{Made, made_of}
use Rattle.keys.proofs.name.Name.new.Goals as goal
use Rattle.keys.proofs.name.Name.new.Goals.{After-loop-byte}

made : (c : After-loop-byte) → Made c.args.text.now (record { letters = c.loop-byte.letters; folded = c.loop-byte.folded })
made c = made_of c.args.text.now c.loop-byte.byte-index c.loop-byte.letters c.loop-byte.folded (sym c.if-not-is_name.ensures) c.loop-byte-test.false c.loop-byte.invariant

pub returns-clause-text : goal.returns-clause-text
returns-clause-text c = (made c).text_is

pub returns-clause-same : goal.returns-clause-same
returns-clause-same c = (made c).same
