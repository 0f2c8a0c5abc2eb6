use Rattle.std.proofs.Common.{rules, ◌≡◌, ◌≤◌, length, fold, reverse, ◌∙◌, arith}
use Rattle.workers.proofs.Packs.{with_answer, packed_by_fold}
use Rattle.workers.proofs.patterned.pack.Goals as goal

pub returns : goal.returns
returns c =
    let e : c.fold.result ≡ fold with_answer 0 (reverse c.args.pattern.now) = search rules in
    let few : length c.args.pattern.now ≤ 32 = omega (arith, c.requires) in
    e ∙ packed_by_fold c.args.pattern.now few
