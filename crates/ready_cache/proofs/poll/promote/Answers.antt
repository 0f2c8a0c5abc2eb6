use Rattle.std.proofs.Common.{◌<◌, ◌||◌, ltb, [], ◌∷◌, length, get_or, take, set, is_some, sym, ap, ◌∙◌, arith}
use Rattle.std.proofs.Math.Seq.{take-set-lt}
use Rattle.std.proofs.lemmas.List.{length-take-le, take_more_set, get_or-take}
use Rattle.std.proofs.lemmas.Bool.{lt-ltb}
use Rattle.lists.proofs.Slices.{not_found}
use Rattle.cache_model.specs.Entries.{has_key}
use Rattle.ready_cache.proofs.Lists.{changed_at, renewed, promote_is}
use Rattle.ready_cache.proofs.poll.promote.Goals as goal

pub returns-in-Some-clause-list : goal.returns-in-Some-clause-list
returns-in-Some-clause-list g c =
    let keys = g.K.Key.sameness in
    let e = c.args.entry in
    let xs = c.args.items.now in
    let n = c.args.len in
    let i = c.in-Some.i in
    let d = c.index-items-i.result in
    let place = c.in-Some.ensures.answer in
    let within : i < n = omega (arith, c.in-Some.ensures.within, length-take-le n xs c.requires) in
    record {
      place = ap (λ o. is_some o || ltb (length (take n xs)) (length xs)) (sym place);
      list =
          ap (λ r. take n (set xs i (renewed keys e r))) c.index-items-i.is
          ∙ take-set-lt n xs i (renewed keys e (get_or xs i d)) within
          ∙ ap (λ r. set (take n xs) i (renewed keys e r)) (sym (get_or-take n xs i d within))
          ∙ changed_at (has_key keys e.key) (renewed keys e) (e ∷ []) (take n xs) i d place
          ∙ sym (promote_is keys e (take n xs));
      most = omega arith;
      within = c.requires;
    }

pub returns-clause-list : goal.returns-clause-list
returns-clause-list g c =
    let keys = g.K.Key.sameness in
    let e = c.args.entry in
    let xs = c.args.items.now in
    let n = c.args.len in
    let place = c.in_default.ensures.answer in
    let long = length-take-le n xs c.requires in
    record {
      place = ap (λ o. is_some o || ltb (length (take n xs)) (length xs)) (sym place) ∙ lt-ltb (length (take n xs)) (length xs) (omega (arith, long, c.if-len-items.false));
      list = take_more_set xs n e (omega arith) ∙ sym (promote_is keys e (take n xs) ∙ not_found (has_key keys e.key) (renewed keys e) (e ∷ []) (take n xs) (sym place));
      most = omega arith;
      within = omega arith;
    }
