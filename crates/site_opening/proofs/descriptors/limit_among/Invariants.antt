use Rattle.std.proofs.Common.{◌≡◌, drop}
use Rattle.site_opening.specs.Descriptors.{first_limit, texts_of}
use Rattle.site_opening.proofs.descriptors.limit_among.Given as goal

-- none before says it
abbrev pub invariant-loop-place : goal.invariant-loop-place
invariant-loop-place l = first_limit (texts_of l.lines) ≡ first_limit (texts_of (drop l.place l.lines))
