use Rattle.cache_model.proofs.Laws.{always_lawful}
use Rattle.ready_cache.proofs.ready_cache.ReadyCache.new.Goals as goal

pub returns-clause-lawful : goal.returns-clause-lawful
returns-clause-lawful g c = always_lawful g.K.Key.sameness g.S.Endpoint.means _ _
