-- How long an advert is: it fits a datagram.
use Rattle.std.proofs.Common.{◌≡◌, ℕ, ◌≤◌, ◌<◌, ◌^◌, List, [], ◌∷◌, ◌++◌, length, codes, false, sym, ap₂, subst, arith}
use Rattle.std.proofs.lemmas.List.{length-append}
use Rattle.addresses.specs.Addresses.{address_text}
use Rattle.byteorder.specs.Endian.{big_bytes}
use Rattle.slp_headers.specs.Headers.{Heading}
use Rattle.slp_messages.specs.declared.header.Header.{Header}
use Rattle.slp_messages.specs.declared.message.DirectoryAdvert.TheVariants as directory_advert
use Rattle.slp_messages.specs.declared.message.DirectoryAgent.{DirectoryAgent}
use Rattle.slp_messages.specs.declared.message.Message.{Message}
use Rattle.slp_messages.specs.declared.message.Message.TheVariants as message
use Rattle.slp_scopes.specs.Scopes.{printed_scopes}
use Rattle.slp_wire.specs.Spelling.{body_of, plain_bytes}
use Rattle.directory_questions.specs.Answers.{advert_of}
use Rattle.directory_questions.specs.Cuts.{reply_header}
use Rattle.directory_judge.specs.Sites.{Site}
use Rattle.slp_replies.proofs.RefusalLines.{address_is_short}

pub advert_size : (site : Site) (own : ℕ) (h : Heading) → own < 2 ^ 32 → length h.language ≤ 64 → length (printed_scopes site.scopes) ≤ 1024 → length (plain_bytes (advert_of site own h)) ≤ 1400
advert_size site own h small tag short =
    let url = codes "service:directory-agent://" ++ address_text own in
    let scopes = printed_scopes site.scopes in
    let last : List ℕ = 0 ∷ 0 ∷ 0 ∷ 0 ∷ 0 ∷ [] in
    omega (
      arith,
      tag,
      short,
      address_is_short own small,
      length-append h.language (body_of (advert_of site own h)),
      length-append (codes "service:directory-agent://") (address_text own),
      length-append url (big_bytes 2 (length scopes) ++ scopes ++ last),
      length-append scopes last,
    )

-- the same of its parts
pub parts_size : (site : Site) (own : ℕ) (h : Heading) (header : Header) (agent : DirectoryAgent) → header ≡ reply_header h false → agent.boot ≡ site.boot → agent.url ≡ codes "service:directory-agent://" ++ address_text own
    → agent.scopes ≡ printed_scopes site.scopes → agent.attributes ≡ [] → agent.indices ≡ [] → length (plain_bytes (advert_of site own h)) ≤ 65535 → length (plain_bytes (message.DirectoryAdvert header (directory_advert.Present agent))) ≤ 65535
parts_size site own h header agent head boot url scopes attributes indices short =
    let same : message.DirectoryAdvert header (directory_advert.Present agent) ≡ advert_of site own h =
    ap₂ (λ (x : Header) (a : DirectoryAgent). message.DirectoryAdvert x (directory_advert.Present a)) head (λ k. record { boot = boot k; url = url k; scopes = scopes k; attributes = attributes k; indices = indices k }) in
    subst (λ (m : Message). length (plain_bytes m) ≤ 65535) (sym same) short
