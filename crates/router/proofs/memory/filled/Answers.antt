use Rattle.std.proofs.Common.{[], ◌∷◌, ◌++◌, ap, ◌∙◌}
use lib.ListN.{replicate-append-replicate}
use Rattle.router.proofs.memory.filled.Goals as goal

pub loop-i-preserved : goal.loop-i-preserved
loop-i-preserved g c =
    c.in_ok-push.ensures.items
    ∙ ap (λ xs. xs ++ (c.args.value ∷ [])) c.loop-i.invariant
    ∙ replicate-append-replicate c.loop-i._i 1 c.args.value
