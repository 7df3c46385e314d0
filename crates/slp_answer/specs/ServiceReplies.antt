-- The reply that lists services.
use Rattle.std.specs.Prelude.{Bool, false, List}
use Rattle.slp_headers.specs.Headers.{Heading}
use Rattle.slp_messages.specs.declared.message.Message.{Message}
use Rattle.slp_messages.specs.declared.message.Message.TheVariants as message
use Rattle.slp_messages.specs.declared.message.ServiceReply.TheVariants.{Found}
use Rattle.slp_messages.specs.declared.message.UrlEntry.{UrlEntry}

-- with these entries, and the flag that says that others are left out
abbrev pub service_reply : Heading → Bool → List UrlEntry → Message
service_reply h is_cut items = message.ServiceReply
    (record { flags = record { overflow = is_cut; fresh = false; multicast = false }; xid = h.xid; language = h.language })
    (Found items)
