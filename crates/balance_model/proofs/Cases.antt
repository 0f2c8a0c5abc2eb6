-- To prove a fact of what a feed answer leads to, prove it at each case.
use Rattle.discover.specs.declared.discovered.Discovered.{Discovered}
use Rattle.balance_model.specs.Balance.{by_discovered}
use Rattle.discover.specs.declared.discovered.Discovered.TheVariants as feed

pub discovered_case : {K S F B : Type 0} (P : B → Type 0) (v : Discovered K S F) (q : B) (f : F → B) (i : K → S → B) (r : K → B) → P q → ((x : F) → P (f x)) → ((k : K) (s : S) → P (i k s)) → ((k : K) → P (r k)) → P (by_discovered v q f i r)
discovered_case P feed.Pending q f i r a b c d = a
discovered_case P feed.End q f i r a b c d = a
discovered_case P (feed.Fault x) q f i r a b c d = b x
discovered_case P (feed.Insert k s) q f i r a b c d = c k s
discovered_case P (feed.Remove k) q f i r a b c d = d k
