-- What a call comes to, by the steps of the tool.
use Rattle.std.proofs.Common.{◌≡◌, ℕ, Bool, false, Result, refl, ap₂, subst, codes}
use Rattle.agent_clients.specs.Requests.{request_header}
use Rattle.agent_clients.specs.declared.fault.ClientFault.{ClientFault}
use Rattle.agent_clients.specs.declared.items.Items.{Items}
use Rattle.agent_clients.specs.declared.requests.RequestHeader.{RequestHeader}
use Rattle.slp_messages.specs.declared.header.Header.{Header}
use Rattle.slp_messages.specs.declared.views.RegistrationView.{RegistrationView}
use Rattle.tool_program.specs.Calls.{Answers, IsAsked}
use Rattle.tool_program.specs.Commands.{asked, message_of, tool_header}
use Rattle.tool_program.specs.declared.command.Command.{Command}
use Rattle.tool_program.specs.declared.command.Command.TheVariants.{Find, Attributes, Types, Register, Withdraw, Keep}

-- the tool's header is that of its requests
headed : (h : RequestHeader) (xid : ℕ) → h.xid ≡ xid → h.language.now ≡ codes "en" → (λ fresh. request_header fresh h) ≡ tool_header xid
headed h xid is english =
    ap₂ {C = Bool → Header} (λ x l fresh. record { flags = record { overflow = false; fresh = fresh; multicast = false }; xid = x; language = l }) is english

answers_with : (c : Command) (told : Result Items ClientFault) (xid : ℕ) → ((r : RegistrationView) → c ≡ Keep r → ⊥) → IsAsked (message_of (tool_header xid) (asked c)) told → Answers (asked c) told
answers_with (Find kind scopes predicate) told xid other is = (xid, is)
answers_with (Attributes subject scopes tags) told xid other is = (xid, is)
answers_with (Types scopes authority) told xid other is = (xid, is)
answers_with (Register r) told xid other is = (xid, is)
answers_with (Withdraw url scopes tags) told xid other is = (xid, is)
answers_with (Keep r) told xid other is = absurd (other r refl)

-- a command whose message is asked, and which keeps nothing
pub answers : (c : Command) (h : RequestHeader) (told : Result Items ClientFault) (xid : ℕ) → ((r : RegistrationView) → c ≡ Keep r → ⊥) → h.xid ≡ xid → h.language.now ≡ codes "en"
    → IsAsked (message_of (λ fresh. request_header fresh h) (asked c)) told → Answers (asked c) told
answers c h told xid other is english asks = answers_with c told xid other (subst (λ f. IsAsked (message_of f (asked c)) told) (headed h xid is english) asks)
