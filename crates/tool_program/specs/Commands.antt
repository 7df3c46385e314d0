-- What the words of a call ask for, and the message that asks for it.
use Rattle.std.specs.Prelude.{◌≡◌, ℕ, Bool, false, true, List, [], ◌∷◌, codes, nat_le, Option, Some, None, IfSome, if◌then◌else◌}
use Rattle.std.specs.Option.{option_copied, option_map, option_and_then}
use Rattle.addresses.specs.Addresses.{number_of}
use Rattle.agent_clients.specs.Requests.{IsSpelled, authority_of}
use Rattle.slp_messages.specs.Views.{registration_in}
use Rattle.slp_messages.specs.declared.header.Header.{Header}
use Rattle.slp_messages.specs.declared.message.Message.{Message}
use Rattle.slp_messages.specs.declared.message.Message.TheVariants as message
use Rattle.slp_messages.specs.declared.message.Registration.{Registration}
use Rattle.slp_text.specs.Words.{bytes_eq}
use Rattle.tool_program.specs.declared.command.Command.{Command}
use Rattle.tool_program.specs.declared.command.Command.TheVariants as command

-- what is asked of a directory agent, by the bytes of its words
pub data Asked : Type 0 where
  Find : List ℕ → List ℕ → List ℕ → Asked
  Attributes : List ℕ → List ℕ → List ℕ → Asked
  Types : List ℕ → Option (List ℕ) → Asked
  Register : Registration → Asked
  Withdraw : List ℕ → List ℕ → List ℕ → Asked
  Keep : Registration → Asked

abbrev pub asked : Command → Asked
asked (command.Find kind scopes predicate) = Find kind.now scopes.now predicate.now
asked (command.Attributes subject scopes tags) = Attributes subject.now scopes.now tags.now
asked (command.Types scopes authority) = Types scopes.now (option_copied authority)
asked (command.Register r) = Register (registration_in r)
asked (command.Withdraw url scopes tags) = Withdraw url.now scopes.now tags.now
asked (command.Keep r) = Keep (registration_in r)

-- ---- words

-- a lifetime: a number of at most 65535 seconds
abbrev pub within_lifetime : ℕ → Option ℕ
within_lifetime n = if nat_le n 65535 then Some n else None

abbrev pub registration_with : List ℕ → List ℕ → List ℕ → List ℕ → ℕ → Registration
registration_with url kind scopes attributes lifetime = record { entry = record { lifetime = lifetime; url = url }; kind = kind; scopes = scopes; attributes = attributes }

abbrev pub registered : List ℕ → List ℕ → List ℕ → List ℕ → List ℕ → Option Registration
registered url kind scopes lifetime attributes = option_map (registration_with url kind scopes attributes) (option_and_then within_lifetime (number_of lifetime))

-- URL, type, scopes and lifetime, and attributes if there are any
abbrev pub registration_of : List (List ℕ) → Option Registration
registration_of (url ∷ kind ∷ scopes ∷ lifetime ∷ []) = registered url kind scopes lifetime []
registration_of (url ∷ kind ∷ scopes ∷ lifetime ∷ attributes ∷ []) = registered url kind scopes lifetime attributes
registration_of _ = None

-- two words or three, of which the last is empty where it is left out
abbrev pub three_of : List (List ℕ) → Option (List ℕ × List ℕ × List ℕ)
three_of (first ∷ second ∷ []) = Some (first, second, [])
three_of (first ∷ second ∷ third ∷ []) = Some (first, second, third)
three_of _ = None

-- scopes, and a naming authority if one is named
abbrev pub types_of : List (List ℕ) → Option Asked
types_of (scopes ∷ []) = Some (Types scopes None)
types_of (scopes ∷ authority ∷ []) = Some (Types scopes (Some authority))
types_of _ = None

-- a command of two words or three, by its name
abbrev pub command_of_three : List ℕ → List ℕ × List ℕ × List ℕ → Option Asked
command_of_three name t =
    if bytes_eq name (codes "find") then Some (Find t.0 t.1 t.2)
    else (if bytes_eq name (codes "attributes") then Some (Attributes t.0 t.1 t.2)
    else (if bytes_eq name (codes "withdraw") then Some (Withdraw t.0 t.1 t.2) else None))

-- a command by its name and the words after it
abbrev pub command_of : List ℕ → List (List ℕ) → Option Asked
command_of name words =
    if bytes_eq name (codes "register") then option_map Register (registration_of words)
    else (if bytes_eq name (codes "keep") then option_map Keep (registration_of words)
    else (if bytes_eq name (codes "types") then types_of words
    else option_and_then (command_of_three name) (three_of words)))

abbrev pub command_in : List (List ℕ) → Option Asked
command_in [] = None
command_in (name ∷ words) = command_of name words

-- ---- messages

-- the header of the tool's requests, which are in English and sent to one
abbrev pub tool_header : ℕ → Bool → Header
tool_header xid fresh = record { flags = record { overflow = false; fresh = fresh; multicast = false }; xid = xid; language = codes "en" }

-- The message of a command, by the header of one that is fresh or not: a registration is.
abbrev pub message_of : (Bool → Header) → Asked → Message
message_of header (Find kind scopes predicate) = message.ServiceRequest (header false) (record { responders = []; kind = kind; scopes = scopes; predicate = predicate })
message_of header (Attributes subject scopes tags) = message.AttributeRequest (header false) (record { responders = []; subject = subject; scopes = scopes; tags = tags })
message_of header (Types scopes authority) = message.TypeRequest (header false) (record { responders = []; authority = authority_of authority; scopes = scopes })
message_of header (Register r) = message.Registration (header true) r
message_of header (Withdraw url scopes tags) = message.Withdrawal (header false) (record { scopes = scopes; entry = record { lifetime = 0; url = url }; tags = tags })
message_of header (Keep r) = message.Registration (header true) r

-- the bytes that are told spell the message of a command; where the words are none, nothing is told
abbrev pub IsRequest : ℕ → Option Asked → Option (List ℕ) → Type 0
IsRequest xid None told = told ≡ None
IsRequest xid (Some a) told = IfSome told (IsSpelled (message_of (tool_header xid) a))
