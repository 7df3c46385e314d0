-- The setup with which a run begins.
use Rattle.std.specs.Prelude.{false}
use Rattle.replay_program.specs.OpeningRules.{opening_rules}
use Rattle.directory_state.specs.State.{opening_state}
use Rattle.replay_program.specs.Worlds.{new_stream, opening_listen}
use Rattle.replay_program.specs.Sites.{first_site}
use Rattle.replay_program.specs.declared.agent.Agent.{Agent}
use Rattle.replay_program.specs.declared.session.Session.{Session}

-- nothing has happened, it is moment 0, and messages come from 10.0.0.1 to the first loop
abbrev pub opening_agent : Agent
opening_agent = record { directory = opening_state (record { rules = opening_rules; site = first_site }); listen = opening_listen; loop_index = 0; moment = 0; asker = 0x0A000001 }

-- and nothing came on the stream
abbrev pub opening_session : Session
opening_session = record { agent = opening_agent; stream = new_stream; late = false }
