use Rattle.std.proofs.Common.{◌≡◌, ◌≤◌, ◌++◌, [], codes, length, arith, rules}
use Rattle.slp_headers.specs.Headers.{heading_in}
use Rattle.slp_scopes.specs.Scopes.{printed_scopes}
use Rattle.addresses.specs.Addresses.{address_text}
use Rattle.slp_wire.specs.Spelling.{plain_bytes}
use Rattle.directory_questions.specs.Answers.{advert_of}
use Rattle.slp_replies.proofs.AdvertSizes.{advert_size, parts_size}
use Rattle.slp_replies.proofs.replies.Reply.advert_in.Goals as goal

pub returns-clause-short : goal.returns-clause-short
returns-clause-short c =
    let site = c.args.site.now in
    let head = heading_in c.args.self.now.heard.now.header in
    let own = c.args.own in
    let datagram : length (plain_bytes (advert_of site own head)) ≤ 1400 = advert_size site own head (omega arith) (omega arith) c.scopes.ensures.limits.short_scopes in
    let size : length (plain_bytes (advert_of site own head)) ≤ 65535 = omega (arith, datagram) in
    let url : c.wrap.result ≡ codes "service:directory-agent://" ++ address_text own = search rules in
    let scopes : c.wrap-2.result ≡ printed_scopes site.scopes = search rules in
    let attributes : c.wrap-3.result ≡ [] = search rules in
    let indices : c.wrap-4.result ≡ [] = search rules in
    parts_size site own head c.in_ok-header.header (record { boot = c.boot.result; url = c.wrap.result; scopes = c.wrap-2.result; attributes = c.wrap-3.result; indices = c.wrap-4.result })
    c.in_ok-header.ensures c.boot.ensures url scopes attributes indices size
