use Rattle.std.proofs.Common.{◌≡◌, ◌+◌, take, drop, ap, ◌∙◌, arith}
use Rattle.std.specs.List.{position_or_len}
use Rattle.slp_text.specs.Lists.{is_comma}
use Rattle.slp_scopes.proofs.PlainScopes.{comma_within, front, word-boundary}
use Rattle.slp_scopes.proofs.scopes.cut_word.Goals as goal

pub range-requires-clause-end_boundary : goal.range-requires-clause-end_boundary
range-requires-clause-end_boundary c =
    let text = c.args.text.now in
    let at : c.comma_at-end.result ≡ position_or_len is_comma text = c.comma_at-end.ensures ∙ ap (position_or_len is_comma) c.as_bytes.ensures.value in
    word-boundary text c.comma_at-end.result c.requires (omega (arith, at, comma_within text))

pub returns : goal.returns
returns c =
    let text = c.args.text.now in
    let at : c.comma_at-end.result ≡ position_or_len is_comma text = c.comma_at-end.ensures ∙ ap (position_or_len is_comma) c.as_bytes.ensures.value in (
      omega (arith, at, comma_within text, c.if-end-text.false),
      c.range.ensures.value ∙ front c.comma_at-end.result text ∙ ap (λ n. take n text) at,
      c.range_from.ensures.value ∙ ap (λ n. drop (n + 1) text) at,
    )
