use Rattle.directory_state.proofs.AskedEvents.{event_is_asked}
use Rattle.directory_state.proofs.laws.the_state_tells_the_event.Goals as goal

pub returns : goal.returns
returns c = λ o h s c r change fold. event_is_asked o h s fold c r change
