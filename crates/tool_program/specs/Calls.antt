-- Whom a call asks, and for what, and what it answers.
use Rattle.std.specs.Prelude.{◌≡◌, ◌⊎◌, ℕ, ◌%◌, ◌==◌, List, [], ◌∷◌, ◌++◌, codes, Option, Some, None, Result, Ok, Err, IfOk, if◌then◌else◌}
use Rattle.std.specs.Option.{option_map}
use Rattle.std.specs.declared.io.Error.{Error}
use Rattle.std.specs.declared.io.ErrorKind.{ErrorKind}
use Rattle.std.specs.declared.io.ErrorKind.TheVariants.{InvalidData}
use Rattle.std.specs.declared.net.socket_addr.SocketAddr.{SocketAddr}
use Rattle.std.specs.declared.net.socket_addr.SocketAddr.TheVariants.{V4, V6}
use Rattle.std.specs.Net.Addr.{ipv4_bits}
use Rattle.std.specs.Net.Socket.{v4_ip, v4_port}
use Rattle.std.specs.Io.KnownBytes.{Appends}
use Rattle.addresses.specs.Addresses.{both_of, socket_of}
use Rattle.agent_clients.specs.Requests.{IsSpelled, IsUnbuilt}
use Rattle.agent_clients.specs.Wires.{Asks, Deed}
use Rattle.agent_clients.specs.declared.fault.ClientFault.{ClientFault}
use Rattle.agent_clients.specs.declared.items.Items.{Items}
use Rattle.agent_clients.specs.declared.items.Items.TheVariants.{Acknowledged}
use Rattle.slp_messages.specs.declared.message.Message.{Message}
use Rattle.slp_text.specs.Ascii.{line_feed}
use Rattle.tool_program.specs.Commands.{Asked, Keep, asked, command_in, message_of, tool_header}
use Rattle.tool_program.specs.Printing.{fault_status, fault_text, items_text}
use Rattle.tool_program.specs.declared.command.Command.{Command}

-- an address of IPv4 and its port
abbrev pub peer_of : SocketAddr → Option (ℕ × ℕ)
peer_of (V4 a) = Some (ipv4_bits (v4_ip a), v4_port a)
peer_of (V6 a) = None

-- an agent and a command as words name them: an address with its port, and what is asked there
abbrev pub call_of : SocketAddr × Command → Option ((ℕ × ℕ) × Asked)
call_of p = option_map (λ peer. (peer, asked p.1)) (peer_of p.0)

-- the agent's address first, and then the command
abbrev pub call_in : List (List ℕ) → Option ((ℕ × ℕ) × Asked)
call_in [] = None
call_in (peer ∷ words) = both_of (socket_of peer) (command_in words)

-- the number of a request that is sent so many seconds after 1970: 0 is none
abbrev pub xid_of : ℕ → ℕ
xid_of seconds = if seconds % 65536 == 0 then 1 else seconds % 65536

-- the line that says how the tool is called
abbrev pub usage_text : List ℕ
usage_text = codes "usage: slptool HOST:PORT COMMAND" ++ line_feed ∷ []

-- the status and the text where a call's words can't be read: one is no text, or memory ran out
abbrev pub unread : ErrorKind → ℕ × List ℕ
unread InvalidData = (64, usage_text)
unread _ = (4, codes "! memory" ++ line_feed ∷ [])

-- ---- what is answered

-- A message is asked, and comes to this: the bytes that spell it are asked by some deeds, or it can't be spelled.
abbrev pub IsAsked : Message → Result Items ClientFault → Type 0
IsAsked m told = ((e : ClientFault) × IsUnbuilt m e × (told ≡ Err e)) ⊎ ((bytes : List ℕ) × IsSpelled m bytes × ((ds : List Deed) × Asks bytes ds told))

-- What a call comes to: its message is asked with some number. A registration that is kept is acknowledged, or fails.
abbrev pub Answers : Asked → Result Items ClientFault → Type 0
Answers (Keep r) told = IfOk told (λ items. items ≡ Acknowledged)
Answers a told = (xid : ℕ) × IsAsked (message_of (tool_header xid) a) told

abbrev pub told_status : Result Items ClientFault → ℕ
told_status (Ok items) = 0
told_status (Err e) = fault_status e

abbrev pub told_text : Result Items ClientFault → List ℕ
told_text (Ok items) = items_text items
told_text (Err e) = fault_text e

-- the status of a call, unless its output failed
abbrev pub status_after : ℕ → Result (Unit {0}) Error → ℕ
status_after status (Ok x) = status
status_after status (Err e) = 1

-- what a call came to is printed, and its status answered, unless its output failed
abbrev pub IsReported : Result Items ClientFault → Option (List ℕ) → Option (List ℕ) → ℕ → Type 0
IsReported told before after status = (status ≡ 1) ⊎ ((status ≡ told_status told) × Appends before after (told_text told))
