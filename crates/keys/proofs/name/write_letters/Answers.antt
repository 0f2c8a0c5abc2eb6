use Rattle.std.proofs.Common.{◌≡◌, drop, sym, ap, subst, Ok, ◌∙◌}
use Rattle.std.proofs.lemmas.Iterator.Adapters.{YieldsList-from_skip}
use Rattle.std.proofs.lemmas.Iterator.Consumers.{YieldsList-from_shown, YieldsList-at, YieldsList-end}
use Rattle.std.proofs.lemmas.List.{map-id}
use Rattle.std.specs.Array.Iter.{array_into_iter_items, array_steps}
use Rattle.std.specs.Fmt.{WritesOnOk}
use Rattle.std.specs.Int.{w64, to_be_bytes}
use Rattle.std.specs.Int.Digits.{digits_of}
use lib.Utf8.{encodes}
use Rattle.keys.proofs.Names.{letter_more}
use Rattle.keys.proofs.name.write_letters.Goals as goal

pub loop-byte-preserved : goal.loop-byte-preserved
loop-byte-preserved g c = letter_more g.W.Write.write_str_gives c.args.f.now c.loop-byte.f c.write_char.new.self c.write_char.result c.loop-byte.yielded c.in-Some.byte c.from.result c.in_ok-write_char.was c.from.ensures c.loop-byte.invariant c.write_char.ensures.writes

pub returns : goal.returns
returns g c =
    let n = c.args.letters in
    let source = YieldsList-from_shown array_steps (λ x. x) array_into_iter_items (λ s t h. h.0) (λ s x t h. h) c.into_iter.result in
    let skips = YieldsList-from_skip c.leading_zero_bytes-zeros.result (YieldsList-at (cc) source) (cc) in
    let end = YieldsList-end skips c.loop-byte.yielded _ c.loop-byte.yielded_by _ _ c.in-None.is c.next.ensures.steps in
    let bytes : array_into_iter_items c.into_iter.result ≡ to_be_bytes w64 n = c.into_iter.ensures.into_iter_gives.0 ∙ c.to_be_bytes.ensures in
    let all : c.loop-byte.yielded ≡ digits_of 256 n = sym (map-id c.loop-byte.yielded) ∙ end.0 ∙ ap (drop c.leading_zero_bytes-zeros.result) bytes ∙ c.leading_zero_bytes-zeros.ensures in
    subst (λ bs. WritesOnOk g.W.Write.write_str_gives c.args.f.now (Ok tt) (encodes bs) c.loop-byte.f) all c.loop-byte.invariant
