use Rattle.rng.proofs.Shares.{one_pair_each}
use Rattle.rng.proofs.sample_floyd2.Goals as goal

pub returns-then-a-b-clause-pairs : goal.returns-then-a-b-clause-pairs
returns-then-a-b-clause-pairs g c = one_pair_each c.args.length

pub returns-else-a-b-clause-pairs : goal.returns-else-a-b-clause-pairs
returns-else-a-b-clause-pairs g c = one_pair_each c.args.length
