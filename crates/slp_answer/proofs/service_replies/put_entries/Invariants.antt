use Rattle.std.proofs.Common.{◌≡◌, ◌≤◌, ◌+◌, ◌++◌, length, drop, map, vec_len, vec_capacity}
use Rattle.std.specs.List.{flat_map}
use Rattle.slp_fields.specs.Spelling.{entry_bytes}
use Rattle.directory_state.specs.Deadlines.{deadlines_in}
use Rattle.directory_state.specs.Searches.{item_at}
use Rattle.directory_state.specs.Fronts.{items_in}
use Rattle.slp_answer.proofs.service_replies.put_entries.Given as goal

abbrev pub invariant-loop-url : goal.invariant-loop-url
invariant-loop-url l = record {
  items : l.bytes.items ++ flat_map (entry_bytes 0) (map (item_at l.found.moment) (deadlines_in (drop l.url-index l.url-items))) ≡ l.fn.bytes.items ++ flat_map (entry_bytes 0) (items_in l.found);
  room : vec_len l.bytes + length (flat_map (entry_bytes 0) (map (item_at l.found.moment) (deadlines_in (drop l.url-index l.url-items)))) ≤ vec_capacity l.bytes;
}
