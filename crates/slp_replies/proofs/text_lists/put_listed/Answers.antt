use Rattle.std.proofs.Common.{◌≡◌, ℕ, ◌+◌, ◌-◌, ◌++◌, List, length, drop, ap, ap₂, ◌∙◌, arith}
use Rattle.std.specs.Prelude.{string_bytes}
use Rattle.std.proofs.lemmas.List.{length-append}
use Rattle.slp_headers.specs.Headers.{heading_in}
use Rattle.slp_replies.specs.TextLists.{form_end, form_function, head_bytes}
use Rattle.slp_replies.proofs.TextHeads.{listed-whole}
use Rattle.slp_replies.proofs.text_lists.put_listed.Goals as goal

pub overflow_sub-listed : goal.overflow_sub-listed
overflow_sub-listed g c =
    let start = string_bytes c.leave_room.new.text in
    let tag = c.args.listing.now.header.now.language.now in
    let short = c.args.listing.now.header.now.readable.short in
    let end = c.end-end.result.now in
    let room : length start ≡ 18 + length tag = c.in_ok-leave_room.ensures in
    let left = c.args.listing.now.limit - length end - length start in
    let fits : length start + left ≡ c.args.listing.now.limit - length end = omega (arith, room, short, c.requires.datagram, c.end-end.ensures.short) in
    let front = c.in_ok-is_cut.ensures.front left fits in
    omega (arith, c.len-start.ensures, c.len.ensures, length-append start front.list, ap (λ (l : List ℕ). length l) front.appended)

pub fill_in-requires-clause-room : goal.fill_in-requires-clause-room
fill_in-requires-clause-room g c =
    let start = string_bytes c.leave_room.new.text in
    let tag = c.args.listing.now.header.now.language.now in
    let short = c.args.listing.now.header.now.readable.short in
    let end = c.end-end.result.now in
    let room : length start ≡ 18 + length tag = c.in_ok-leave_room.ensures in
    let left = c.args.listing.now.limit - length end - length start in
    let fits : length start + left ≡ c.args.listing.now.limit - length end = omega (arith, room, short, c.requires.datagram, c.end-end.ensures.short) in
    let front = c.in_ok-is_cut.ensures.front left fits in
    let written = c.in_ok-extend_from_slice.ensures.items ∙ ap (λ l. l ++ end) (ap (λ v. v.items) c.into_bytes-written.ensures.value ∙ front.appended) in
    omega (arith, room, ap (λ (l : List ℕ). length l) written, length-append (start ++ front.list) end, length-append start front.list)

pub returns : goal.returns
returns g c =
    let head = heading_in c.args.listing.now.header.now in
    let form = c.args.listing.now.form in
    let start = string_bytes c.leave_room.new.text in
    let tag = c.args.listing.now.header.now.language.now in
    let short = c.args.listing.now.header.now.readable.short in
    let end = c.end-end.result.now in
    let room : length start ≡ 18 + length tag = c.in_ok-leave_room.ensures in
    let left = c.args.listing.now.limit - length end - length start in
    let fits : length start + left ≡ c.args.listing.now.limit - length end = omega (arith, room, short, c.requires.datagram, c.end-end.ensures.short) in
    let front = c.in_ok-is_cut.ensures.front left fits in
    let written : c.extend_from_slice.new.self.items ≡ start ++ front.list ++ form_end form =
    c.in_ok-extend_from_slice.ensures.items ∙ ap₂ (λ (a b : List ℕ). a ++ b) (ap (λ v. v.items) c.into_bytes-written.ensures.value ∙ front.appended) c.end-end.ensures.value in
    let listed : c.len.result - c.len-start.result ≡ length front.list =
    omega (arith, c.len-start.ensures, c.len.ensures, length-append start front.list, ap (λ (l : List ℕ). length l) front.appended) in
    let last = ap (λ (l : List ℕ). length l) c.end-end.ensures.value in
    record {
      room = left;
      list = front.list;
      is_cut = c.in_ok-is_cut.is_cut;
      whole = omega (arith, fits, room, short, last, c.requires.datagram, c.end-end.ensures.short);
      front = front.front;
      spelled = c.fill_in.ensures ∙ ap₂ (λ (l : List ℕ) (n : ℕ). head_bytes (form_function form) head c.in_ok-is_cut.is_cut (length l) n ++ drop (18 + length tag) l) written listed
          ∙ listed-whole head c.in_ok-is_cut.is_cut start front.list room form;
    }
