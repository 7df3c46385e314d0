use Rattle.std.proofs.Common.{Some}
use Rattle.directory_state.specs.Events.{call_anywhere}
use Rattle.published_view.specs.Changes.{event_or_sweep}
use Rattle.published_view.proofs.writer.DirectoryWriter.hear.Given as goal

-- the event that the bytes ask for
abbrev pub ghosts-make-E-Happening : goal.ghosts-make-E-Happening
ghosts-make-E-Happening g a = record { event = event_or_sweep g.J.Naming.opening a.self.now.history a.heard.now.call.now.moment a.heard.now.call.now.asker a.heard.now.call.now.bytes.now }

-- the call that they come by
abbrev pub ghosts-make-Q-Asks : goal.ghosts-make-Q-Asks
ghosts-make-Q-Asks g a = record { call = Some (call_anywhere a.heard.now.call.now.moment a.heard.now.call.now.asker a.heard.now.call.now.bytes.now) }
