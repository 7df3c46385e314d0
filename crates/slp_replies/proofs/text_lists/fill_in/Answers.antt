use Rattle.std.proofs.Common.{◌≡◌, ◌++◌, [], length, drop, refl, ap, arith, rules}
use Rattle.std.proofs.lemmas.List.{length-append}
use Rattle.slp_replies.proofs.TextHeads.{filled}
use Rattle.slp_replies.proofs.text_lists.fill_in.Goals as goal

pub returns : goal.returns
returns c =
    let old = c.args.bytes.now.items in
    let fixed = c.reply_opening-fixed.result in
    let tag = c.as_bytes-tag.result.now in
    let code = c.to_be_bytes.result in
    let size = c.two_bytes.result in
    let fourteen : length fixed ≡ 14 = ap length c.reply_opening-fixed.ensures in
    let two : length code ≡ 2 = ap length c.to_be_bytes.ensures in
    let two-more : length size ≡ 2 = ap length c.two_bytes.ensures in
    let first = c.put_over.ensures.value [] old refl refl in
    let second = c.put_over-2.ensures.value fixed (drop (length fixed) old) first fourteen in
    let third = c.put_over-3.ensures.value (fixed ++ tag) (drop (length tag) (drop (length fixed) old)) second (let l = length-append fixed tag in omega (arith, l, fourteen)) in
    let fourth = c.put_over-4.ensures.value ((fixed ++ tag) ++ code) (drop (length code) (drop (length tag) (drop (length fixed) old))) third
    (let l = length-append fixed tag in let m = length-append (fixed ++ tag) code in omega (arith, l, m, fourteen, two)) in
    let count : c.len.result ≡ length old = search rules in
    let whole = filled old fixed tag code size c.put_over-4.new.bytes.items fourteen two two-more fourth in
    rw (c.reply_opening-fixed.ensures, c.to_be_bytes.ensures, c.two_bytes.ensures, c.function.ensures, c.as_bytes-tag.ensures.value, count) at whole
