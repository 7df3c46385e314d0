use Rattle.std.proofs.Common.{◌≡◌, ◌≤◌, take}
use Rattle.std.specs.Prelude.{count_by}
use Rattle.site_check.specs.Lines.{is_line_feed}
use Rattle.site_check.proofs.problem.line_feeds.Given as goal

abbrev pub invariant-loop-byte : goal.invariant-loop-byte
invariant-loop-byte l = record { few : l.feeds ≤ l.byte-index; value : l.feeds ≡ count_by is_line_feed (take l.byte-index l.bytes) }
