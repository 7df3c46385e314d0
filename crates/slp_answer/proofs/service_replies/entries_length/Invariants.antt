use Rattle.std.proofs.Common.{◌≡◌, ◌+◌, length, drop, map}
use Rattle.std.specs.List.{flat_map}
use Rattle.slp_fields.specs.Spelling.{entry_bytes}
use Rattle.directory_state.specs.Deadlines.{deadlines_in}
use Rattle.directory_state.specs.Searches.{item_at}
use Rattle.directory_state.specs.Fronts.{items_in}
use Rattle.slp_answer.proofs.service_replies.entries_length.Given as goal

-- what was counted, and what is still to come, are all
abbrev pub invariant-loop-url : goal.invariant-loop-url
invariant-loop-url l =
    l.total + length (flat_map (entry_bytes 0) (map (item_at l.found.moment) (deadlines_in (drop l.url-index l.url-items)))) ≡ length (flat_map (entry_bytes 0) (items_in l.found))
