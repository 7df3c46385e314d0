use Rattle.std.proofs.Common.{◌≡◌, ℕ, ◌+◌, ◌≤◌, List, length, take, refl, sym, ap, subst, inl, arith}
use Rattle.std.proofs.lemmas.Result.{IfOk-weaker}
use Rattle.slp_headers.specs.Headers.{heading_in}
use Rattle.slp_messages.specs.Views.{message_in, header_in, registration_in}
use Rattle.slp_text.specs.Keys.{key_of}
use Rattle.slp_wire.proofs.Steps.{IsBytes}
use Rattle.agent_clients.specs.Keeping.{IsRead, parts_in}
use Rattle.agent_clients.specs.declared.leases.Parts.{Parts}
use Rattle.agent_clients.proofs.Registrations.{no_header, marks, is_function, is_tag, parts_are, has_header, withdrawal_fits}
use Rattle.agent_clients.proofs.leases.parts_of.Goals as goal

pub unreachable-requires : goal.unreachable-requires
unreachable-requires c = no_header c.args.bytes.now _ c.in_default.ensures c.requires.2

pub read_change-requires-clause-function : goal.read_change-requires-clause-function
read_change-requires-clause-function c = inl (is_function c.args.bytes.now (heading_in c.in-Some.header) c.requires.0 c.requires.1 c.in-Some.ensures c.requires.2)

pub copied_parts-requires : goal.copied_parts-requires
copied_parts-requires c =
    let fits : IsBytes c.args.bytes.now = λ i. omega (arith, c.type_inv.bytes i) in
    is_tag c.args.bytes.now (message_in c.in-Ok.change) (header_in c.in-Registration.kept) (registration_in c.in-Registration.registration) fits c.in-Ok.ensures (ap message_in c.in-Registration.is)

pub returns-clause-read : goal.returns-clause-read
returns-clause-read c h r read =
    let parts : Parts = parts_in c.in-Registration.kept c.in-Registration.registration c.in-Some.header.length in
    let marked = marks c.args.bytes.now (heading_in c.in-Some.header) c.in-Some.ensures in
    let are = parts_are c.args.bytes.now (message_in c.in-Ok.change) c.in-Registration.kept c.in-Registration.registration c.in-Some.header.length h r c.in-Ok.ensures (ap message_in c.in-Registration.is) read marked in
    IfOk-weaker c.copied_parts.result (λ (p : Parts). p ≡ parts) (λ (p : Parts). IsRead h r c.args.bytes.now p) (λ p is. subst (λ (x : Parts). IsRead h r c.args.bytes.now x) (sym is) are) c.copied_parts.ensures

pub returns-clause-key : goal.returns-clause-key
returns-clause-key c =
    let parts : Parts = parts_in c.in-Registration.kept c.in-Registration.registration c.in-Some.header.length in
    IfOk-weaker c.copied_parts.result (λ (p : Parts). p ≡ parts) (λ (p : Parts). p.key ≡ key_of p.language) (λ p is. subst (λ (x : Parts). x.key ≡ key_of x.language) (sym is) refl) c.copied_parts.ensures

pub returns-clause-header : goal.returns-clause-header
returns-clause-header c =
    let parts : Parts = parts_in c.in-Registration.kept c.in-Registration.registration c.in-Some.header.length in
    let fits : IsBytes c.args.bytes.now = λ i. omega (arith, c.type_inv.bytes i) in
    let marked = marks c.args.bytes.now (heading_in c.in-Some.header) c.in-Some.ensures in
    let long = subst (λ (x : List ℕ). 14 ≤ length x) (sym marked) (has_header c.args.bytes.now c.requires.0 c.requires.1 fits c.requires.2) in
    IfOk-weaker c.copied_parts.result (λ (p : Parts). p ≡ parts) (λ (p : Parts). 14 ≤ length (take p.length c.args.bytes.now)) (λ p is. subst (λ (x : Parts). 14 ≤ length (take x.length c.args.bytes.now)) (sym is) long) c.copied_parts.ensures

pub returns-clause-short : goal.returns-clause-short
returns-clause-short c short =
    let kept = c.in-Registration.kept in
    let registration = c.in-Registration.registration in
    let parts : Parts = parts_in kept registration c.in-Some.header.length in
    let fits : IsBytes c.args.bytes.now = λ i. omega (arith, c.type_inv.bytes i) in
    let size = withdrawal_fits c.args.bytes.now (message_in c.in-Ok.change) (header_in kept) (registration_in registration) fits c.in-Ok.ensures (ap message_in c.in-Registration.is) in
    let fit : length parts.language + (length parts.scopes + length parts.url) + 24 ≤ 65535 = omega (arith, size, short) in
    IfOk-weaker c.copied_parts.result (λ (p : Parts). p ≡ parts) (λ (p : Parts). length p.language + (length p.scopes + length p.url) + 24 ≤ 65535) (λ p is. subst (λ (x : Parts). length x.language + (length x.scopes + length x.url) + 24 ≤ 65535) (sym is) fit) c.copied_parts.ensures
