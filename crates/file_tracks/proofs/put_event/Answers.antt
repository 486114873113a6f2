-- `file_tracks::put_event` stores an event's delta and word, and counts it.
use mathlib.Core.Path.{refl}
use Rattle.file_tracks.proofs.Laws.{event_put}
use Rattle.file_tracks.proofs.put_event.Goals as goal

pub returns : goal.returns
returns c =
    record {
      counts = (refl, refl);
      held = λ bs at e ds ws es is held.
          event_put bs at e c.args.timed es c.args.g _ ds ws _ _ _ _ is held refl c.noted.ensures c.store.ensures
          c.store-2.ensures;
    }
